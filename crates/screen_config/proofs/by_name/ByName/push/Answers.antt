use Rattle.std.proofs.Common.{◌≡◌, ◌≤◌, ℕ, List, [], ◌∷◌, ◌++◌, length, ap, sym, subst, ◌∙◌}
use Rattle.std.specs.List.{position}
use Rattle.std.specs.Map.{values_of}
use Rattle.std.proofs.lemmas.List.{map-append}
use Rattle.share_base.specs.Names.{same_name}
use Rattle.share_base.proofs.NameBytes.{is_name_short}
use Rattle.screen_config.specs.Keyed.{small, AreKeyed}
use Rattle.screen_config.proofs.Keyed.{put_last, keyed_last}
use Rattle.screen_config.proofs.by_name.ByName.push.Goals as goal

pub invariant_of-self-2 : goal.invariant_of-self-2
invariant_of-self-2 g c =
    let key = c.in_ok-key.ensures ∙ ap small (c.as_slice.ensures.value ∙ c.name.ensures) in
    let fits =
    subst (λ (n : List ℕ). length n ≤ 255) c.name.ensures
    (is_name_short _ c.as_slice.ensures.named) in
    let none =
    ap (position (λ v. same_name (g.T.Named.name_of v) (g.T.Named.name_of c.args.value)))
    c.self.view_is
    ∙ c.requires in
    subst (AreKeyed g.T.Named.name_of)
    (sym
    (c.in_ok-insert.ensures.entries
    ∙ put_last g.T.Named.name_of c.self.inside.values.entries c.in_ok-key.key
    c.args.value key c.self.invariant none))
    (keyed_last g.T.Named.name_of c.self.inside.values.entries c.in_ok-key.key c.args.value key fits
    c.self.invariant)

pub returns-clause-ok : goal.returns-clause-ok
returns-clause-ok g c =
    let key = c.in_ok-key.ensures ∙ ap small (c.as_slice.ensures.value ∙ c.name.ensures) in
    let none =
    ap (position (λ v. same_name (g.T.Named.name_of v) (g.T.Named.name_of c.args.value)))
    c.self.view_is
    ∙ c.requires in
    ap values_of
    (c.in_ok-insert.ensures.entries
    ∙ put_last g.T.Named.name_of c.self.inside.values.entries c.in_ok-key.key c.args.value
    key c.self.invariant none)
    ∙ map-append (λ e. e.1) c.self.inside.values.entries ((c.in_ok-key.key, c.args.value) ∷ [])
    ∙ ap (λ vs. vs ++ c.args.value ∷ []) c.self.view_is
