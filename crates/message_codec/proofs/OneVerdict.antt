-- A stream has one verdict.
use Rattle.std.proofs.Common.{◌≡◌, ℕ, ◌^◌, ◌<◌, ◌≤◌, Bool, true, false, List, [], ◌∷◌, ◌++◌, length}
use Rattle.std.proofs.Common.{Option, Some, None, refl, sym, ap, subst, ◌∙◌, append_assoc, arith}
use Rattle.std.proofs.Common.{inl, inr}
use Rattle.std.specs.Prelude.{◌⊎◌}
use Rattle.std.proofs.lemmas.List.{append-nil}
use Rattle.share_base.specs.declared.reason.Reason.{Reason}
use Rattle.share_base.specs.declared.reason.Reason.TheVariants as reason
use Rattle.wire_frames.specs.Framing.{frame, IsPartial, IsTooLong}
use Rattle.wire_frames.proofs.OneFrame.{one_frame, frame_is_whole, frame_fits}
use Rattle.message_codec.specs.declared.messages.Msg.{Msg}
use Rattle.message_codec.specs.Spelling.{body_of, Spells}
use Rattle.message_codec.specs.Refusals.{Refuses}
use Rattle.message_codec.specs.Reasons.{reason_of}
use Rattle.message_codec.specs.Streams.{frame_of, frames_of, Reader, IsGood, AllGood}
use Rattle.message_codec.specs.Verdicts.{IsRefused, IsMisplaced, IsBad, Rests, Verdict}
use Rattle.message_codec.proofs.Bodies.{one_message}
use Rattle.message_codec.proofs.FramesOf.{frames-cons}
use Rattle.message_codec.proofs.RefusalLaws.{refused_spells_none, one_refusal}

-- a body within a limit is short enough for its length to be spelled
pub is_small : (r : Reader) (before : List Msg) (body : List ℕ) → length body ≤ r.limit before
    → length body < 2 ^ 32
is_small r before body within = omega (arith, r.limited before)

-- ---- what stands at the front

-- a bad frame is too long, of a message that may not stand there, or refused
abbrev Kinds : Reader → List Msg → Reason → List ℕ → Type 0
Kinds r before why bytes =
    ((why ≡ reason.TooLong) × IsTooLong (r.limit before) bytes)
    ⊎ (((why ≡ reason.State) × IsMisplaced r before bytes) ⊎ IsRefused r before why bytes)

kinds_of : (r : Reader) (before : List Msg) (why : Reason) (bytes : List ℕ)
    → IsBad r before why bytes → Kinds r before why bytes
kinds_of r before reason.TooLong bytes h = inl (refl, h)
kinds_of r before reason.State bytes h = inr (inl (refl, h))
kinds_of r before reason.Cut bytes h = absurd h
kinds_of r before why bytes h = inr (inr h)

misplaced_is_not_refused : (r : Reader) (before : List Msg) (why : Reason) (bytes : List ℕ)
    → IsMisplaced r before bytes → IsRefused r before why bytes → ⊥
misplaced_is_not_refused r before why bytes h k =
    let f =
    one_frame k.body (body_of h.message) k.more h.more (is_small r before k.body k.within)
    (is_small r before (body_of h.message) h.within) (sym k.front ∙ h.front) in
    refused_spells_none r.from k.fault h.message k.body k.refused
    (subst (Spells r.from h.message) (sym f.0) h.spelled)

too_long_is_no_frame : (r : Reader) (before : List Msg) (body more bytes : List ℕ)
    → IsTooLong (r.limit before) bytes → bytes ≡ frame body ++ more → length body ≤ r.limit before
    → ⊥
too_long_is_no_frame r before body more bytes long front within =
    frame_fits (r.limit before) body more bytes (is_small r before body within) within front long

one_bad : (r : Reader) (before : List Msg) (p q : Reason) (bytes : List ℕ) → IsBad r before p bytes
    → IsBad r before q bytes → p ≡ q
one_bad r before p q bytes h k =
    elim (kinds_of r before p bytes h) [
      | inl a ↦ elim (kinds_of r before q bytes k) [
        | inl b ↦ a.0 ∙ sym b.0
        | inr b ↦ elim b [
          | inl m ↦
              absurd
              (too_long_is_no_frame r before (body_of m.1.message) m.1.more bytes a.1 m.1.front
              m.1.within)
          | inr s ↦ absurd (too_long_is_no_frame r before s.body s.more bytes a.1 s.front s.within)
        ]
      ]
      | inr a ↦ elim a [
        | inl m ↦ elim (kinds_of r before q bytes k) [
          | inl b ↦
              absurd
              (too_long_is_no_frame r before (body_of m.1.message) m.1.more bytes b.1 m.1.front
              m.1.within)
          | inr b ↦ elim b [
            | inl n ↦ m.0 ∙ sym n.0
            | inr s ↦ absurd (misplaced_is_not_refused r before q bytes m.1 s)
          ]
        ]
        | inr s ↦ elim (kinds_of r before q bytes k) [
          | inl b ↦ absurd (too_long_is_no_frame r before s.body s.more bytes b.1 s.front s.within)
          | inr b ↦ elim b [
            | inl m ↦ absurd (misplaced_is_not_refused r before p bytes m.1 s)
            | inr t ↦ same_refusal r before p q bytes s t
          ]
        ]
      ]
    ]
  where
    same_refusal : (r : Reader) (before : List Msg) (p q : Reason) (bytes : List ℕ)
        → IsRefused r before p bytes → IsRefused r before q bytes → p ≡ q
    same_refusal r before p q bytes s t =
        let f =
        one_frame s.body t.body s.more t.more (is_small r before s.body s.within)
        (is_small r before t.body t.within) (sym s.front ∙ t.front) in
        s.for_it
        ∙ ap reason_of
        (one_refusal r.from s.fault t.fault t.body
        (subst (Refuses s.fault r.from) f.0 s.refused) t.refused)
        ∙ sym t.for_it

partial_is_not_bad : (r : Reader) (before : List Msg) (why : Reason) (bytes : List ℕ)
    → IsPartial (r.limit before) bytes → IsBad r before why bytes → ⊥
partial_is_not_bad r before why bytes partial h =
    elim (kinds_of r before why bytes h) [
      | inl a ↦ elim partial [
        | inl short ↦ omega (arith, a.1.whole)
        | inr fewer ↦ omega (arith, fewer.0, a.1.above)
      ]
      | inr a ↦ elim a [
        | inl m ↦
            frame_is_whole (r.limit before) (body_of m.1.message) m.1.more bytes
            (is_small r before (body_of m.1.message) m.1.within) m.1.front partial
        | inr s ↦
            frame_is_whole (r.limit before) s.body s.more bytes (is_small r before s.body s.within)
            s.front partial
      ]
    ]

one_rest : (r : Reader) (before : List Msg) (p q : Option Reason) (bytes : List ℕ)
    → Rests r before p bytes → Rests r before q bytes → p ≡ q
one_rest r before None None bytes h k = refl
one_rest r before None (Some q) bytes h k = absurd (partial_is_not_bad r before q bytes h k)
one_rest r before (Some p) None bytes h k = absurd (partial_is_not_bad r before p bytes k h)
one_rest r before (Some p) (Some q) bytes h k =
    ap (λ (why : Reason). Some why) (one_bad r before p q bytes h k)

-- at a rest, no message that may stand there stands at the front
good_is_not_bad : (r : Reader) (before : List Msg) (m : Msg) (more bytes : List ℕ) (why : Reason)
    → IsGood r before m → bytes ≡ frame_of m ++ more → IsBad r before why bytes → ⊥
good_is_not_bad r before m more bytes why good front h =
    let small = is_small r before (body_of m) good.within in
    elim (kinds_of r before why bytes h) [
      | inl a ↦ too_long_is_no_frame r before (body_of m) more bytes a.1 front good.within
      | inr a ↦ elim a [
        | inl n ↦
            let f =
            one_frame (body_of n.1.message) (body_of m) n.1.more more
            (is_small r before (body_of n.1.message) n.1.within) small
            (sym n.1.front ∙ front) in
            let same : n.1.message ≡ m =
            one_message r.from n.1.message m (body_of m)
            (subst (Spells r.from n.1.message) f.0 n.1.spelled) good.spelled in
            true_not_false (r.takes before m) good.taken
            (ap (r.takes before) (sym same) ∙ n.1.not_taken)
        | inr s ↦
            let f =
            one_frame s.body (body_of m) s.more more (is_small r before s.body s.within) small
            (sym s.front ∙ front) in
            refused_spells_none r.from s.fault m s.body s.refused
            (subst (Spells r.from m) (sym f.0) good.spelled)
      ]
    ]
  where
    true_not_false : (b : Bool) → b ≡ true → b ≡ false → ⊥
    true_not_false b is_true is_false = let both = sym is_true ∙ is_false in cc

rest_stops : (r : Reader) (before : List Msg) (m : Msg) (more bytes : List ℕ) (p : Option Reason)
    → IsGood r before m → bytes ≡ frame_of m ++ more → Rests r before p bytes → ⊥
rest_stops r before m more bytes None good front h =
    frame_is_whole (r.limit before) (body_of m) more bytes
    (is_small r before (body_of m) good.within) front h
rest_stops r before m more bytes (Some why) good front h =
    good_is_not_bad r before m more bytes why good front h

-- one message that may stand there stands at the front
pub one_good : (r : Reader) (before : List Msg) (m n : Msg) (x y : List ℕ) → IsGood r before m
    → IsGood r before n → frame_of m ++ x ≡ frame_of n ++ y → (m ≡ n) × (x ≡ y)
one_good r before m n x y g h same =
    let f =
    one_frame (body_of m) (body_of n) x y (is_small r before (body_of m) g.within)
    (is_small r before (body_of n) h.within) same in
    (one_message r.from m n (body_of n) (subst (Spells r.from m) f.0 g.spelled) h.spelled, f.1)

-- ---- the whole stream

pub regroup : (before : List Msg) (m : Msg) (ms : List Msg)
    → before ++ m ∷ ms ≡ (before ++ m ∷ []) ++ ms
regroup before m ms = sym (append_assoc before (m ∷ []) ms)

-- messages that may stand there, and others that may stand after them
pub all_good-append : (r : Reader) (before a b : List Msg) → AllGood r before a
    → AllGood r (before ++ a) b → AllGood r before (a ++ b)
all_good-append r before [] b ga gb =
    subst (λ (ms : List Msg). AllGood r ms b) (append-nil before) gb
all_good-append r before (m ∷ ms) b ga gb = (
  ga.0,
  all_good-append r (before ++ m ∷ []) ms b ga.1
      (subst (λ (ks : List Msg). AllGood r ks b) (regroup before m ms) gb),
)

same_split : (r : Reader) (before a b : List Msg) (x y : List ℕ) (p q : Option Reason)
    → AllGood r before a → AllGood r before b → Rests r (before ++ a) p x
    → Rests r (before ++ b) q y → frames_of a ++ x ≡ frames_of b ++ y → (a ≡ b) × (x ≡ y)
same_split r before [] [] x y p q ga gb rx ry same = (refl, same)
same_split r before [] (n ∷ ns) x y p q ga gb rx ry same =
    absurd
    (rest_stops r before n (frames_of ns ++ y) x p gb.0 (same ∙ frames-cons n ns y)
    (subst (λ (ms : List Msg). Rests r ms p x) (append-nil before) rx))
same_split r before (m ∷ ms) [] x y p q ga gb rx ry same =
    absurd
    (rest_stops r before m (frames_of ms ++ x) y q ga.0 (sym same ∙ frames-cons m ms x)
    (subst (λ (ns : List Msg). Rests r ns q y) (append-nil before) ry))
same_split r before (m ∷ ms) (n ∷ ns) x y p q ga gb rx ry same =
    let f =
    one_good r before m n (frames_of ms ++ x) (frames_of ns ++ y) ga.0 gb.0
    (sym (frames-cons m ms x) ∙ same ∙ frames-cons n ns y) in
    let gb' : AllGood r (before ++ m ∷ []) ns =
    subst (λ (k : Msg). AllGood r (before ++ k ∷ []) ns) (sym f.0) gb.1 in
    let ry' : Rests r ((before ++ m ∷ []) ++ ns) q y =
    subst (λ (ks : List Msg). Rests r ks q y)
    (ap (λ (k : Msg). before ++ k ∷ ns) (sym f.0) ∙ regroup before m ns) ry in
    let rest =
    same_split r (before ++ m ∷ []) ms ns x y p q ga.1 gb'
    (subst (λ (ks : List Msg). Rests r ks p x) (regroup before m ms) rx) ry' f.1 in
    (ap (λ (k : Msg). k ∷ ms) f.0 ∙ ap (λ (ks : List Msg). n ∷ ks) rest.0, rest.1)

pub one_verdict : (r : Reader) (stream : List ℕ) (a b : Verdict r stream)
    → (a.messages ≡ b.messages) × (a.rest ≡ b.rest) × (a.place ≡ b.place) × (a.bad ≡ b.bad)
one_verdict r stream a b =
    let same =
    same_split r [] a.messages b.messages a.rest b.rest a.bad b.bad a.good b.good a.ends b.ends
    (sym a.stream_is ∙ b.stream_is) in
    let P : List Msg → List ℕ → Type 0 = λ ms bytes. Rests r ms a.bad bytes in
    let ends : Rests r b.messages a.bad b.rest =
    subst (P b.messages) same.1 (subst (λ (ms : List Msg). P ms a.rest) same.0 a.ends) in (
      same.0,
      same.1,
      a.place_is ∙ ap (λ (ms : List Msg). length (frames_of ms)) same.0 ∙ sym b.place_is,
      one_rest r b.messages a.bad b.bad b.rest ends b.ends,
    )
