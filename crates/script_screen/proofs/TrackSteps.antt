-- What a trace's lines say, and one line more.
use Rattle.std.proofs.Common.{◌≡◌, ℕ, ◌+◌, ◌-◌, ◌<◌, ◌≤◌, Bool, true, false, cond, List, [], ◌∷◌}
use Rattle.std.proofs.Common.{◌++◌, length, get_or, max, zero, suc, length-append, refl, ap, sym}
use Rattle.std.proofs.Common.{◌∙◌, arith, ◌⊎◌, inl, inr}
use Rattle.std.specs.Prelude.{◌==◌, ◌&&◌, ◌||◌, not, nat_le, Option, Some, None, count_by}
use Rattle.std.specs.List.{list_any}
use Rattle.std.proofs.lemmas.Bool.{eqb-true}
use Rattle.std.proofs.lemmas.Bool.Decides.{nat_tests}
use Rattle.std.proofs.lemmas.List.{get_or_default}
use Rattle.std.proofs.lemmas.List.Folds.{list_any-append}
use Rattle.std.proofs.lemmas.List.Sums.{fold-append, sum_by-append}
use Rattle.script_screen.specs.declared.kinds.TextKind.{TextKind}
use Rattle.script_screen.specs.declared.kinds.TextKind.TheVariants as kind
use Rattle.script_screen.specs.declared.trace.TraceLine.{TraceLine}
use Rattle.script_screen.specs.declared.trace.TraceLine.TheVariants as line
use Rattle.script_screen.specs.declared.track.Track.{Track}
use Rattle.script_screen.specs.Traces.{moment_after, latest_moment, is_join, is_join_of, is_end_of}
use Rattle.script_screen.specs.Traces.{join_count, is_known, is_over, is_going}
use Rattle.script_screen.specs.Traces.{trace_fault}
use Rattle.script_screen.specs.Tracking.{IsTrackAfter}

or_false : (b : Bool) → (b || false) ≡ b
or_false true = refl
or_false false = refl

or_assoc : (a b c : Bool) → (a || (b || c)) ≡ ((a || b) || c)
or_assoc true b c = refl
or_assoc false b c = refl

any_more : (p : TraceLine → Bool) (lines : List TraceLine) (l : TraceLine)
    → list_any p (lines ++ l ∷ []) ≡ (list_any p lines || p l)
any_more p lines l =
    list_any-append p lines (l ∷ []) ∙ ap (λ (b : Bool). list_any p lines || b) (or_false (p l))

known_more : (lines : List TraceLine) (l : TraceLine) (c : ℕ)
    → is_known (lines ++ l ∷ []) c ≡ (is_known lines c || is_join_of c l)
known_more lines l c =
    ap (λ (b : Bool). (c == 1) || b) (any_more (is_join_of c) lines l)
    ∙ or_assoc (c == 1) (list_any (is_join_of c) lines) (is_join_of c l)

over_more : (lines : List TraceLine) (l : TraceLine) (c : ℕ)
    → is_over (lines ++ l ∷ []) c ≡ (is_over lines c || is_end_of c l)
over_more lines l c = any_more (is_end_of c) lines l

moment_more : (lines : List TraceLine) (l : TraceLine)
    → latest_moment (lines ++ l ∷ []) ≡ moment_after (latest_moment lines) l
moment_more lines l = fold-append moment_after 0 lines (l ∷ [])

joins_more : (lines : List TraceLine) (l : TraceLine)
    → join_count (lines ++ l ∷ []) ≡ join_count lines + count_by is_join (l ∷ [])
joins_more lines l = sum_by-append (λ x. cond (is_join x) 1 0) lines (l ∷ [])

-- what the parts are after one line more
pub record Goes (old new : Track) (lines : List TraceLine) (l : TraceLine) : Type 0 where
  pub moment : new.moment ≡ moment_after old.moment l
  pub joined : new.joined ≡ old.joined + count_by is_join (l ∷ [])
  pub size : length new.over.items ≡ max 1 new.joined
  pub known : (c : ℕ)
      → (is_known lines c || is_join_of c l) ≡ (nat_le 1 c && nat_le c (length new.over.items))
  pub over : (c : ℕ)
      → get_or new.over.items c false ≡ (is_over lines (c + 1) || is_end_of (c + 1) l)

pub goes : (old new : Track) (lines : List TraceLine) (l : TraceLine) → IsTrackAfter old lines
    → Goes old new lines l → IsTrackAfter new (lines ++ l ∷ [])
goes old new lines l h g = record {
  moment = g.moment ∙ ap (λ (n : ℕ). moment_after n l) h.moment ∙ sym (moment_more lines l);
  joined =
      g.joined ∙ ap (λ (n : ℕ). n + count_by is_join (l ∷ [])) h.joined ∙ sym (joins_more lines l);
  size = g.size;
  known = λ c. known_more lines l c ∙ g.known c;
  over = λ c. g.over c ∙ sym (over_more lines l (c + 1));
}

-- ---- a connection joins

joined_next : (b : Bool)
    → cond b (let o : Option TextKind = None in o) (Some kind.WrongNumber) ≡ None → b ≡ true
joined_next true h = refl
joined_next false h = absurd cc

join_is_next : (lines : List TraceLine) (c : ℕ) → trace_fault lines (line.Join c) ≡ None
    → (c == join_count lines + 1) ≡ true
join_is_next lines c h = joined_next (c == join_count lines + 1) h

known_by : (known : Bool) (c d n : ℕ) → known ≡ (nat_le 1 d && nat_le d n) → n ≡ max 1 (c - 1)
    → 0 < c → (known || (c == d)) ≡ (nat_le 1 d && nat_le d (max 1 c))
known_by known c d n h k s = rw h (grind (arith, nat_tests))

nothing_beyond : (flags : List Bool) (c : ℕ) → length flags ≤ c → get_or flags c false ≡ false
nothing_beyond [] c h = refl
nothing_beyond (f ∷ fs) zero h = absurd (omega arith)
nothing_beyond (f ∷ fs) (suc c) h = nothing_beyond fs c (omega arith)

-- a flag that is not set, at the end, changes nothing
unset_more : (flags : List Bool) (c : ℕ)
    → get_or (flags ++ false ∷ []) c false ≡ get_or flags c false
unset_more [] zero = refl
unset_more [] (suc c) = refl
unset_more (f ∷ fs) zero = refl
unset_more (f ∷ fs) (suc c) = unset_more fs c

join_goes : (old new : Track) (lines : List TraceLine) (c : ℕ) → IsTrackAfter old lines
    → c ≡ join_count lines + 1 → new.moment ≡ old.moment → new.joined ≡ c
    → length new.over.items ≡ c
    → ((d : ℕ) → get_or new.over.items d false ≡ get_or old.over.items d false)
    → IsTrackAfter new (lines ++ line.Join c ∷ [])
join_goes old new lines c h n m j s o = goes old new lines (line.Join c) h (record {
  moment = m;
  joined = omega (arith, j, n, h.joined);
  size = omega (arith, s, j, n);
  known =
      λ d.
      known_by (is_known lines d) c d (length old.over.items) (h.known d)
      (omega (arith, h.size, h.joined, n)) (omega (arith, n))
      ∙ ap (λ (k : ℕ). nat_le 1 d && nat_le d k) (omega (arith, s, n));
  over = λ d. o d ∙ h.over d ∙ sym (or_false (is_over lines (d + 1)));
})

-- a connection joins: the first has its flag already
pub joins : (old new : Track) (lines : List TraceLine) (c : ℕ) → IsTrackAfter old lines
    → trace_fault lines (line.Join c) ≡ None → new.moment ≡ old.moment → new.joined ≡ c
    → ((1 < c) × (new.over.items ≡ old.over.items ++ false ∷ []))
    ⊎ ((c ≤ 1) × (new.over.items ≡ old.over.items))
    → IsTrackAfter new (lines ++ line.Join c ∷ [])
joins old new lines c h f m j (inl o) =
    let n : c ≡ join_count lines + 1 = eqb-true c (join_count lines + 1) (join_is_next lines c f) in
    join_goes old new lines c h n m j
    (omega (
      arith,
      ap length o.1,
      length-append old.over.items (false ∷ []),
      h.size,
      h.joined,
      n,
      o.0,
    ))
    (λ d. ap (λ (xs : List Bool). get_or xs d false) o.1 ∙ unset_more old.over.items d)
joins old new lines c h f m j (inr o) =
    let n : c ≡ join_count lines + 1 = eqb-true c (join_count lines + 1) (join_is_next lines c f) in
    join_goes old new lines c h n m j (omega (arith, ap length o.1, h.size, h.joined, n, o.0))
    (λ d. ap (λ (xs : List Bool). get_or xs d false) o.1)

known_within : (c n : ℕ) → true ≡ (nat_le 1 c && nat_le c n) → (0 < c) × (c ≤ n)
known_within c n h = (grind (arith, nat_tests), grind (arith, nat_tests))

-- what is known, and not over
pub going_by : (track : Track) (lines : List TraceLine) (c : ℕ) (b : Bool)
    → IsTrackAfter track lines → is_known lines c ≡ true
    → true ≡ (nat_le 1 c && nat_le c (length track.over.items))
    → b ≡ get_or track.over.items (c - 1) b → not b ≡ is_going lines c
going_by track lines c b h k s e =
    let within = known_within c (length track.over.items) s in
    let some : 0 < c = within.0 in
    let few : c ≤ length track.over.items = within.1 in
    let same : c - 1 + 1 ≡ c = omega arith in
    let flag : b ≡ get_or track.over.items (c - 1) false =
    e ∙ get_or_default track.over.items (c - 1) b false (omega arith) in
    let over : is_over lines c ≡ b =
    ap (is_over lines) (sym same) ∙ sym (h.over (c - 1)) ∙ sym flag in
    rw (k, over) refl
