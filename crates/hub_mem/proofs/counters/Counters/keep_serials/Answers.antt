use Rattle.std.proofs.Common.{rules, ◌≡◌, ◌∙◌, ap, sym, ℕ, List, not}
use Rattle.std.specs.Prelude.{filter, ◌==◌}
use Rattle.std.proofs.lemmas.Fn.{filter_same}
use Rattle.hub_acts.specs.declared.act.Act.{Act}
use Rattle.hub_acts.specs.declared.act.Act.TheVariants as act
use Rattle.hub_mem.specs.Tallies.{Tally, with_serials}
use Rattle.hub_mem.proofs.counters.Counters.keep_serials.Goals as goal

pub returns-in-Close-clause-ok : goal.returns-in-Close-clause-ok
returns-in-Close-clause-ok c =
    let s = c.self.inside in
    let serial : ℕ = c.in-Close.serial in
    let kept : c.retain.new.self.items ≡ filter (λ n. not (n == serial)) s.serials.items = filter_same _ _ _ (λ x b f' k. search rules) _ _ c.retain.ensures.filtered in
    ap (λ (serials : List ℕ). record { calls = s.calls; latest = s.latest; serials = serials; faults = s.faults; breaks = s.breaks }) kept
    ∙ ap (λ (t : Tally). with_serials (act.Close serial) t) c.self.view_is
    ∙ ap (λ (a : Act). with_serials a c.args.self.now) (sym c.in-Close.is)
