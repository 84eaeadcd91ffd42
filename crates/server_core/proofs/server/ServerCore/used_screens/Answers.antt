use Rattle.std.specs.Prelude.{◌||◌, ◌==◌, List}
use Rattle.std.specs.List.{list_any}
use Rattle.std.proofs.Common.{ap, ◌∙◌}
use Rattle.connection_table.specs.declared.connection.Connection.{Connection}
use Rattle.server_core.specs.Using.{is_using}
use Rattle.server_core.proofs.Admitted.{set-used}
use Rattle.server_core.proofs.server.ServerCore.used_screens.Goals as goal

pub returns : goal.returns
returns c = λ n b s h.
    c.add_used.ensures n
    ∙ ap (λ x. x || list_any (is_using n) c.as_slice.result.now) (c.insert.ensures n ∙ ap (λ x. x || (n == c.primary_screen.result.0)) (c.new-screens.ensures n))
    ∙ ap (λ (ks : List Connection). (n == c.primary_screen.result.0) || list_any (is_using n) ks) c.as_slice.ensures
    ∙ set-used b c.args.self.now s n c.primary_screen.result.0 (c.primary_screen.ensures.screen b s h) h
