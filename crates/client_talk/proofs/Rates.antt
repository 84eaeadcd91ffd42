-- Rates, option by option.
use Rattle.std.proofs.Common.{◌≡◌, ◌∙◌, ap, sym, ℕ, List, [], ◌∷◌}
use Rattle.std.specs.Prelude.{fold}
use Rattle.client_talk.specs.Options.{pairs, set_rate, rate_after}

pub rate-next : (rate next code value : ℕ) (words more : List ℕ) → words ≡ code ∷ value ∷ more → next ≡ set_rate rate (code, value) → rate_after next more ≡ rate_after rate words
rate-next rate next code value words more is next-is = ap (λ (r : ℕ). rate_after r more) next-is ∙ ap (rate_after rate) (sym is)

pub rate-none : (rate : ℕ) (words : List ℕ) → pairs words ≡ [] → rate_after rate words ≡ rate
rate-none rate words none = ap (fold set_rate rate) none
