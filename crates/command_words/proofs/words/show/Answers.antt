use Rattle.std.specs.Prelude.{◌≡◌, ℕ, List, ◌∷◌, [], codes}
use Rattle.std.proofs.Common.{ap, sym, ◌∙◌, arith}
use Rattle.std.proofs.lemmas.Slice.Eq.{bytes_eq-Decides}
use Rattle.command_words.proofs.Counted.{one}
use Rattle.command_words.proofs.words.show.Goals as goal

pub returns-then-eq : goal.returns-then-eq
returns-then-eq c =
    let is = one c.args.rest.now c.word-item.result (omega (arith, c.in-len1.len_at_least, c.in-len1.len_below)) c.word-item.is in
    let same : c.as_str.result.now ≡ codes "server" = (bytes_eq-Decides c.as_str.result.now (codes "server")).0 (sym c.eq.ensures ∙ c.if-eq.true) in
    (tt, ap (λ (xs : List (List ℕ)). codes "show" ∷ xs) (ap (λ (x : List ℕ). x ∷ []) (sym same ∙ c.as_str.ensures.value) ∙ sym is))

pub returns-then-eq-2 : goal.returns-then-eq-2
returns-then-eq-2 c =
    let is = one c.args.rest.now c.word-item.result (omega (arith, c.in-len1.len_at_least, c.in-len1.len_below)) c.word-item.is in
    let same : c.as_str-2.result.now ≡ codes "client" = (bytes_eq-Decides c.as_str-2.result.now (codes "client")).0 (sym c.eq-2.ensures ∙ c.if-eq-2.true) in
    (tt, ap (λ (xs : List (List ℕ)). codes "show" ∷ xs) (ap (λ (x : List ℕ). x ∷ []) (sym same ∙ c.as_str-2.ensures.value) ∙ sym is))
