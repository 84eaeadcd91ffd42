-- A stream is framed in one way.
use Rattle.std.proofs.Common.{◌≡◌, ℕ, ◌^◌, ◌<◌, ◌≤◌, List, [], ◌∷◌, ◌++◌, length, refl, sym, ap}
use Rattle.std.proofs.Common.{◌∙◌, append_assoc, arith}
use Rattle.std.specs.List.{AllByRecursion}
use Rattle.std.proofs.lemmas.List.Concat.{flat_map-cons}
use Rattle.wire_frames.specs.Framing.{frame, frames, IsPartial, Framed}
use Rattle.wire_frames.proofs.OneFrame.{one_frame, frame_is_whole}

abbrev pub Within : ℕ → List (List ℕ) → Type 0
Within limit bodies = AllByRecursion (λ body. length body ≤ limit) bodies

pub frames-cons : (body : List ℕ) (bodies : List (List ℕ)) (rest : List ℕ)
    → frames (body ∷ bodies) ++ rest ≡ frame body ++ (frames bodies ++ rest)
frames-cons body bodies rest =
    ap (λ (t : List ℕ). t ++ rest) (flat_map-cons frame body bodies)
    ∙ append_assoc (frame body) (frames bodies) rest

same_framing : (limit : ℕ) (a b : List (List ℕ)) (r t : List ℕ) → limit < 2 ^ 32 → Within limit a
    → Within limit b → IsPartial limit r → IsPartial limit t → frames a ++ r ≡ frames b ++ t
    → (a ≡ b) × (r ≡ t)
same_framing limit [] [] r t small wa wb pr pt same = (refl, same)
same_framing limit [] (y ∷ b) r t small wa wb pr pt same =
    absurd
    (frame_is_whole limit y (frames b ++ t) r (omega (arith, wb.0)) (same ∙ frames-cons y b t) pr)
same_framing limit (x ∷ a) [] r t small wa wb pr pt same =
    absurd
    (frame_is_whole limit x (frames a ++ r) t (omega (arith, wa.0)) (sym same ∙ frames-cons x a r)
    pt)
same_framing limit (x ∷ a) (y ∷ b) r t small wa wb pr pt same =
    let first =
    one_frame x y (frames a ++ r) (frames b ++ t) (omega (arith, wa.0)) (omega (arith, wb.0))
    (sym (frames-cons x a r) ∙ same ∙ frames-cons y b t) in
    let others = same_framing limit a b r t small wa.1 wb.1 pr pt first.1 in (
      ap (λ (body : List ℕ). body ∷ a) first.0
          ∙ ap (λ (bodies : List (List ℕ)). y ∷ bodies) others.0,
      others.1,
    )

pub one_framing : (limit : ℕ) (a b : List (List ℕ)) (r t stream : List ℕ) → limit < 2 ^ 32
    → Framed limit a r stream → Framed limit b t stream → (a ≡ b) × (r ≡ t)
one_framing limit a b r t stream small p q =
    same_framing limit a b r t small p.within q.within p.partial q.partial
    (sym p.stream_is ∙ q.stream_is)
