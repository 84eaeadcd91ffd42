use Rattle.std.specs.Prelude.{◌≡◌, refl, is_some, Option, Some, None}
use Rattle.std.specs.Borrow.{Bor}
use Rattle.std.specs.Option.{option_copied}
use Rattle.std.proofs.Common.{ap, ◌∙◌}
use Rattle.connection_table.specs.declared.connection.Connection.{Connection}
use Rattle.server_core.proofs.ToldJoined.{other-joined}
use Rattle.server_core.proofs.server.ServerCore.has_joined.Goals as goal

lent : (o : Option (Bor Connection)) → is_some o ≡ is_some (option_copied o)
lent None = refl
lent (Some k) = refl

pub returns : goal.returns
returns c = λ b s h. other-joined b c.args.self.now s c.args.screen.0 c.primary_screen.result.0 c.is_some.result (c.primary_screen.ensures.screen b s h) c.if-screen-primary_screen.false (c.is_some.ensures ∙ (lent c.joined_as.result ∙ ap (λ o. is_some o) c.joined_as.ensures)) h
