-- Gaps, words and signs are read exactly where they are spelled.
use Rattle.std.proofs.Common.{◌≡◌, ℕ, suc, ◌+◌, ◌<◌, Bool, true, false, cond, not, ◌==◌, List, []}
use Rattle.std.proofs.Common.{◌∷◌, ◌++◌, length, take, drop, Result, Ok, Err, Option, Some, None}
use Rattle.std.proofs.Common.{refl, ap, sym, subst, ◌∙◌, inl, inr, arith, take_at, drop_at}
use Rattle.std.proofs.Common.{take-append-drop, append-nil}
use Rattle.std.specs.List.{prefix_len, list_all}
use Rattle.std.specs.Char.{is_ascii_alphanumeric}
use Rattle.std.proofs.lemmas.Bool.{and_parts, or_cases, eqb-true, eq-eqb, not-true, both_ways}
use Rattle.text_lines.specs.declared.bytes.WordKind.{WordKind}
use Rattle.text_lines.specs.declared.bytes.WordKind.TheVariants as kind
use Rattle.text_lines.specs.Bytes.{is_blank, is_tight, takes, front, behind, unblanked}
use Rattle.text_lines.specs.Reading.{◌>>=◌, Text, run_at, word_at, sign_at, end_at, or_left}
use Rattle.text_lines.specs.Reading.{is_empty}
use Rattle.text_lines.specs.Spelling.{IsRun, IsGap, IsWord}

-- what a chain of readers gave, it gave by what its first one gave
pub on_ok : {A B Q : Type 0} (r : Result A ℕ) (f : A → Result B ℕ) (y : B) → (r >>= f) ≡ Ok y
    → ((x : A) → r ≡ Ok x → f x ≡ Ok y → Q) → Q
on_ok (Ok x) f y e go = go x refl e
on_ok (Err d) f y e go = absurd cc

-- where it stopped, its first one stopped, or the others behind it
pub on_err : {A B Q : Type 0} (r : Result A ℕ) (f : A → Result B ℕ) (left : ℕ)
    → (r >>= f) ≡ Err left → (r ≡ Err left → Q) → ((x : A) → r ≡ Ok x → f x ≡ Err left → Q) → Q
on_err (Ok x) f left e stop go = go x refl e
on_err (Err d) f left e stop go = stop cc

pub same_answer : {A : Type 0} (r : Result A ℕ) (x y : A) → r ≡ Ok x → r ≡ Ok y → x ≡ y
same_answer (Ok z) x y h k = cc
same_answer (Err n) x y h k = absurd cc

pub one_answer : {A : Type 0} (r : Result A ℕ) (x : A) (left : ℕ) → r ≡ Ok x → r ≡ Err left → ⊥
one_answer (Ok z) x left h k = cc
one_answer (Err n) x left h k = cc

pub or_left_takes : {A : Type 0} (o : Option A) (left : ℕ) (x : A) → or_left o left ≡ Ok x
    → o ≡ Some x
or_left_takes None left x h = absurd cc
or_left_takes (Some y) left x h = cc

-- ---- gaps

-- the blanks at the front, and what begins with none
pub record Gap (xs rest : List ℕ) : Type 0 where
  pub gap : List ℕ
  pub blank : IsGap gap
  pub parts : xs ≡ gap ++ rest
  pub tight : is_tight rest ≡ true

gap_then : (t : Bool) (b : ℕ) (bs : List ℕ) → is_blank b ≡ t → Gap bs (unblanked bs)
    → Gap (b ∷ bs) (cond t (unblanked bs) (b ∷ bs))
gap_then true b bs e g =
    record {
      gap = b ∷ g.gap;
      blank = rw e g.blank;
      parts = ap (λ (t : List ℕ). b ∷ t) g.parts;
      tight = g.tight;
    }
gap_then false b bs e g = record { gap = []; blank = refl; parts = refl; tight = rw e refl }

pub gap_of : (xs : List ℕ) → Gap xs (unblanked xs)
gap_of [] = record { gap = []; blank = refl; parts = refl; tight = refl }
gap_of (b ∷ bs) = gap_then (is_blank b) b bs refl (gap_of bs)

pub gap_again : (gap rest : List ℕ) → IsGap gap → is_tight rest ≡ true
    → unblanked (gap ++ rest) ≡ rest
gap_again [] [] h t = refl
gap_again [] (b ∷ bs) h t = rw (not-true (is_blank b) t) refl
gap_again (b ∷ bs) rest h t =
    let e = and_parts (is_blank b) (list_all is_blank bs) h in
    rw (e.0) (gap_again bs rest e.1 t)

pub gap_alone : (gap : List ℕ) → IsGap gap → unblanked gap ≡ []
gap_alone gap h = ap unblanked (sym (append-nil gap)) ∙ gap_again gap [] h refl

pub gap_skipped : (gap rest : List ℕ) → IsGap gap → unblanked (gap ++ rest) ≡ unblanked rest
gap_skipped [] rest h = refl
gap_skipped (b ∷ bs) rest h =
    let e = and_parts (is_blank b) (list_all is_blank bs) h in
    rw (e.0) (gap_skipped bs rest e.1)

-- ---- signs

-- the sign, and blanks behind it
pub record Sign (c : ℕ) (xs rest : List ℕ) : Type 0 where
  pub tail : List ℕ
  pub parts : xs ≡ c ∷ tail
  pub gap : Gap tail rest

sign_then : (t : Bool) (b c : ℕ) (bs rest : List ℕ) → (b == c) ≡ t
    → cond t (Ok (unblanked bs)) (Err (length (b ∷ bs))) ≡ Ok rest → Sign c (b ∷ bs) rest
sign_then true b c bs rest e h =
    let same : unblanked bs ≡ rest = cc in
    record {
      tail = bs;
      parts = ap (λ n. n ∷ bs) (eqb-true b c e);
      gap = subst (λ (r : List ℕ). Gap bs r) same (gap_of bs);
    }
sign_then false b c bs rest e h = absurd cc

pub sign_takes : (c : ℕ) (xs rest : List ℕ) → sign_at c xs ≡ Ok rest → Sign c xs rest
unfolding sign_at
sign_takes c [] rest h = absurd cc
sign_takes c (b ∷ bs) rest h = sign_then (b == c) b c bs rest refl h

pub sign_again : (c : ℕ) (gap rest : List ℕ) → IsGap gap → is_tight rest ≡ true
    → sign_at c (c ∷ (gap ++ rest)) ≡ Ok rest
unfolding sign_at
sign_again c gap rest h t = rw (eq-eqb c c refl, gap_again gap rest h t) refl

pub sign_there : (c : ℕ) (rest : List ℕ) → sign_at c (c ∷ rest) ≡ Ok (unblanked rest)
unfolding sign_at
sign_there c rest = rw (eq-eqb c c refl) refl

-- another byte, or none
pub record NoSign (c : ℕ) (xs : List ℕ) (left : ℕ) : Type 0 where
  pub place : length xs ≡ left
  pub other : (b : ℕ) (rest : List ℕ) → xs ≡ b ∷ rest → (b == c) ≡ false

other_then : (t : Bool) (b c : ℕ) (bs : List ℕ) (left : ℕ) → (b == c) ≡ t
    → cond t (Ok (unblanked bs)) (Err (length (b ∷ bs))) ≡ Err left → NoSign c (b ∷ bs) left
other_then true b c bs left e h = absurd cc
other_then false b c bs left e h =
    record {
      place = cc;
      other = λ x rest k. let same : b ≡ x = cc in
          subst (λ n. (n == c) ≡ false) same e;
    }

pub sign_stops : (c : ℕ) (xs : List ℕ) (left : ℕ) → sign_at c xs ≡ Err left → NoSign c xs left
unfolding sign_at
sign_stops c [] left h = record { place = cc; other = λ b rest e. absurd cc }
sign_stops c (b ∷ bs) left h = other_then (b == c) b c bs left refl h

pub no_sign : (c b : ℕ) (rest : List ℕ) → (b == c) ≡ false
    → sign_at c (b ∷ rest) ≡ Err (length (b ∷ rest))
unfolding sign_at
no_sign c b rest h = rw h refl

-- ---- the end

pub end_takes : (xs : List ℕ) (u : Unit {0}) → end_at xs ≡ Ok u → xs ≡ []
end_takes [] u h = refl
end_takes (b ∷ bs) u h = absurd cc

pub end_stops : (xs : List ℕ) (left : ℕ) → end_at xs ≡ Err left → length xs ≡ left
end_stops [] left h = absurd cc
end_stops (b ∷ bs) left h = cc

-- ---- words

abbrev pub text_of : List ℕ → ℕ → Text
text_of word left = record { text = word; left = left }

-- nothing follows, or a byte of another kind
abbrev pub Breaks : (ℕ → Bool) → List ℕ → Type 0
Breaks p [] = Unit {0}
Breaks p (b ∷ bs) = p b ≡ false

-- words of that kind have no blank in them
abbrev pub has_no_blank : WordKind → Bool
has_no_blank kind.Argument = false
has_no_blank _ = true

pub blank_breaks : (k : WordKind) → has_no_blank k ≡ true → (b : ℕ) → is_blank b ≡ true
    → takes k b ≡ false
blank_breaks kind.Solid s b h = rw h refl
blank_breaks kind.Key s b h =
    elim (or_cases (b == 32) (b == 9) h) [
      | inl e ↦ ap is_ascii_alphanumeric (eqb-true b 32 e)
      | inr e ↦ ap is_ascii_alphanumeric (eqb-true b 9 e)
    ]
blank_breaks kind.Name s b h = rw h refl
blank_breaks kind.Side s b h = rw h refl
blank_breaks kind.Action s b h = rw h refl
blank_breaks kind.Choice s b h = rw h refl
blank_breaks kind.Chord s b h = rw h refl
blank_breaks kind.Argument s b h = absurd cc

pub breaks_gap : (p : ℕ → Bool) → ((b : ℕ) → is_blank b ≡ true → p b ≡ false) → (gap rest : List ℕ)
    → IsGap gap → Breaks p rest → Breaks p (gap ++ rest)
breaks_gap p no_blank [] rest h r = r
breaks_gap p no_blank (b ∷ bs) rest h r =
    no_blank b (and_parts (is_blank b) (list_all is_blank bs) h).0

pub gap_breaks : (k : WordKind) → has_no_blank k ≡ true → (gap rest : List ℕ) → IsGap gap
    → Breaks (takes k) rest → Breaks (takes k) (gap ++ rest)
gap_breaks k s = breaks_gap (takes k) (blank_breaks k s)

pub gap_ends : (k : WordKind) → has_no_blank k ≡ true → (gap : List ℕ) → IsGap gap
    → Breaks (takes k) gap
gap_ends k s gap h = subst (Breaks (takes k)) (append-nil gap) (gap_breaks k s gap [] h tt)

solid_by : (t : Bool) (k : WordKind) (b : ℕ) → has_no_blank k ≡ true → is_blank b ≡ t
    → takes k b ≡ true → not t ≡ true
solid_by true k b s e h = absurd (both_ways (takes k b) (blank_breaks k s b e) h)
solid_by false k b s e h = refl

-- a word begins with no blank
pub word_tight : (k : WordKind) → has_no_blank k ≡ true → (w rest : List ℕ) → IsWord (takes k) w
    → is_tight (w ++ rest) ≡ true
word_tight k s [] rest h = absurd (omega (arith, h.0))
word_tight k s (b ∷ bs) rest h =
    solid_by (is_blank b) k b s refl (and_parts (takes k b) (list_all (takes k) bs) h.1).0

pub run_len : (p : ℕ → Bool) (w rest : List ℕ) → IsRun p w → Breaks p rest
    → prefix_len p (w ++ rest) ≡ length w
run_len p [] [] h k = refl
run_len p [] (b ∷ bs) h k = rw k refl
run_len p (x ∷ xs) rest h k =
    let e = and_parts (p x) (list_all p xs) h in
    rw (e.0) (omega (arith, run_len p xs rest e.1 k))

pub front_again : (p : ℕ → Bool) (w rest : List ℕ) → IsRun p w → Breaks p rest
    → front p (w ++ rest) ≡ w
front_again p w rest h k = take_at w rest (prefix_len p (w ++ rest)) (sym (run_len p w rest h k))

pub behind_again : (p : ℕ → Bool) (w rest : List ℕ) → IsRun p w → Breaks p rest
    → behind p (w ++ rest) ≡ rest
behind_again p w rest h k = drop_at w rest (prefix_len p (w ++ rest)) (sym (run_len p w rest h k))

front_then : (t : Bool) (p : ℕ → Bool) (x : ℕ) (xs : List ℕ) → p x ≡ t → IsRun p (front p xs)
    → IsRun p (take (cond t (1 + prefix_len p xs) 0) (x ∷ xs))
front_then true p x xs e h =
    let s : 1 + prefix_len p xs ≡ suc (prefix_len p xs) = omega arith in rw s (rw e h)
front_then false p x xs e h = refl

pub front_run : (p : ℕ → Bool) (xs : List ℕ) → IsRun p (front p xs)
front_run p [] = refl
front_run p (x ∷ xs) = front_then (p x) p x xs refl (front_run p xs)

behind_then : (t : Bool) (p : ℕ → Bool) (x : ℕ) (xs : List ℕ) → p x ≡ t → Breaks p (behind p xs)
    → Breaks p (drop (cond t (1 + prefix_len p xs) 0) (x ∷ xs))
behind_then true p x xs e h =
    let s : 1 + prefix_len p xs ≡ suc (prefix_len p xs) = omega arith in rw s h
behind_then false p x xs e h = e

pub behind_breaks : (p : ℕ → Bool) (xs : List ℕ) → Breaks p (behind p xs)
behind_breaks p [] = tt
behind_breaks p (x ∷ xs) = behind_then (p x) p x xs refl (behind_breaks p xs)

-- the longest run, maybe empty, and blanks behind it
pub record Run (p : ℕ → Bool) (xs : List ℕ) (w : Text × List ℕ) : Type 0 where
  pub tail : List ℕ
  pub parts : xs ≡ w.0.text ++ tail
  pub run : IsRun p w.0.text
  pub breaks : Breaks p tail
  pub gap : Gap tail w.1
  pub place : w.0.left ≡ length xs

pub run_takes : (p : ℕ → Bool) (xs : List ℕ) → Run p xs (run_at p xs)
run_takes p xs = record {
  tail = behind p xs;
  parts = sym (take-append-drop (prefix_len p xs) xs);
  run = front_run p xs;
  breaks = behind_breaks p xs;
  gap = gap_of (behind p xs);
  place = refl;
}

-- the same, and not empty
pub record Word (p : ℕ → Bool) (xs : List ℕ) (w : Text × List ℕ) : Type 0 where
  pub some : 0 < length w.0.text
  pub run : Run p xs w

pub some_filled : (xs : List ℕ) → is_empty xs ≡ false → 0 < length xs
some_filled [] h = absurd cc
some_filled (x ∷ xs) h = omega arith

pub filled_some : (xs : List ℕ) → 0 < length xs → is_empty xs ≡ false
filled_some [] h = absurd (omega arith)
filled_some (x ∷ xs) h = refl

word_then : (t : Bool) (p : ℕ → Bool) (xs : List ℕ) (w : Text × List ℕ) → is_empty (front p xs) ≡ t
    → cond t (Err (length xs)) (Ok (run_at p xs)) ≡ Ok w → Word p xs w
word_then true p xs w e h = absurd cc
word_then false p xs w e h =
    let same : run_at p xs ≡ w = cc in
    subst (λ (v : Text × List ℕ). Word p xs v) same
    (record { some = some_filled (front p xs) e; run = run_takes p xs })

pub word_takes : (p : ℕ → Bool) (xs : List ℕ) (w : Text × List ℕ) → word_at p xs ≡ Ok w
    → Word p xs w
unfolding word_at
word_takes p xs w h = word_then (is_empty (front p xs)) p xs w refl h

pub word_again : (p : ℕ → Bool) (w tail : List ℕ) → IsWord p w → Breaks p tail
    → word_at p (w ++ tail) ≡ Ok (record { text = w; left = length (w ++ tail) }, unblanked tail)
unfolding word_at
word_again p w tail h k =
    rw (front_again p w tail h.1 k, behind_again p w tail h.1 k, filled_some w h.0) refl
