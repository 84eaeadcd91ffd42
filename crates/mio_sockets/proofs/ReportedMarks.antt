-- One more event is reported: its mark comes after the others.
use Rattle.std.proofs.Common.{◌≡◌, ◌∙◌, sym, ap, ℕ, ◌+◌, ◌≤◌, ◌<◌, List, [], ◌∷◌, ◌++◌, length, map, append_assoc, append-nil, arith}
use Rattle.std.proofs.lemmas.List.{length-append, length-map}

pub report-more : {E M : Type 0} (mark : E → M) (e : E) (m : M) (ready ready' : List M) (rest rest' : List E) (all : List M)
    → rest ≡ e ∷ rest' → m ≡ mark e → ready' ≡ ready ++ m ∷ [] → ready ++ map mark rest ≡ all → ready' ++ map mark rest' ≡ all
report-more {E} {M} mark e m ready ready' rest rest' all step is pushed before =
    ap (λ (xs : List M). xs ++ map mark rest') (pushed ∙ ap (λ (x : M). ready ++ x ∷ []) is)
    ∙ append_assoc ready (mark e ∷ []) (map mark rest')
    ∙ ap (λ (es : List E). ready ++ map mark es) (sym step)
    ∙ before

pub report-room : {E M : Type 0} (mark : E → M) (e : E) (ready : List M) (rest rest' all : List E) (most : ℕ)
    → rest ≡ e ∷ rest' → ready ++ map mark rest ≡ map mark all → length all ≤ most → length ready < most
report-room {E} {M} mark e ready rest rest' all most step before few =
    let left : length rest ≡ length (e ∷ rest') = ap length step in
    let joined : length (ready ++ map mark rest) ≡ length (map mark all) = ap length before in
    let parts : length (ready ++ map mark rest) ≡ length ready + length (map mark rest) = length-append ready (map mark rest) in
    let rest_long : length (map mark rest) ≡ length rest = length-map rest mark in
    let all_long : length (map mark all) ≡ length all = length-map all mark in
    omega arith

nothing_left : {A : Type 0} (xs : List A) → length xs ≡ 0 → xs ≡ []
nothing_left [] none = λ i. []
nothing_left (x ∷ xs) none = absurd (omega arith)

pub report-end : {E M : Type 0} (mark : E → M) (ready : List M) (rest : List E) (all : List M)
    → length rest ≡ 0 → ready ++ map mark rest ≡ all → ready ≡ all
report-end {E} {M} mark ready rest all none before =
    sym (append-nil ready) ∙ ap (λ (es : List E). ready ++ map mark es) (sym (nothing_left rest none)) ∙ before
