-- The act that is due and that the trace answers is one act.
use Rattle.std.specs.Prelude.{◌≡◌, refl, ℕ, ◌<◌, ◌⊎◌, ◌+◌, List, [], ◌∷◌, length, take, Contains, Option, Some, None}
use Rattle.std.proofs.Common.{ap, sym, subst, ◌∙◌, arith, inl, inr}
use Rattle.hub_acts.specs.declared.act.Act.{Act}
use Rattle.hub_acts.specs.declared.act.Act.TheVariants as act
use Rattle.hub_mem.specs.Answers.{Played, trace_wait, trace_now, trace_accept, trace_read, trace_write, trace_close}
use Rattle.hub_mem.specs.Playing.{given_by, AreGiven, with_act}
use Rattle.machine.specs.States.{State}
use Rattle.machine.specs.Screens.{taken_by}
use Rattle.machine.specs.Readings.{closing}
use Rattle.attentive_acts.specs.Borders.{borders}
use Rattle.attentive_acts.specs.Places.{Place, Waits, Asks, Accepts, Reads, Writes, Closes, Leaves}
use Rattle.attentive_acts.specs.Judging.{Judge, AllowsAt, Follows, IsPiece, timeout, most_moved, most_offered, untaken, judge_after, judged}
use Rattle.single_output.specs.OneOutput.{QueuesNoFullChunk}

close_of : Option ℕ → Act
close_of (Some c) = trace_close c
close_of None = act.Now 0

-- where nothing is due, any act will do
due_at : Played → Place → Judge → Act
due_at p Waits j = trace_wait p (timeout j.flags j.state)
due_at p Asks j = trace_now p
due_at p (Accepts left) j = trace_accept p
due_at p (Reads (c ∷ rest)) j = trace_read p c most_moved
due_at p (Writes (c ∷ rest)) j = trace_write p c (take (most_offered j.state c) (untaken j.state c))
due_at p Closes j = close_of (closing j.state)
due_at p (Leaves (c ∷ rest)) j = trace_close c
due_at p place j = act.Now 0

none_contained : (n : ℕ) → Contains (let xs : List ℕ = [] in xs) n → ⊥
none_contained n h = let x : ⊥ = grind (arith, h.1) in x

-- without borders a piece is as long as may be
whole_piece : (s : State) (c : ℕ) (bytes : List ℕ) → borders s.routed c ≡ [] → IsPiece s c bytes → bytes ≡ take (most_offered s c) (untaken s c)
whole_piece s c bytes none piece = at piece.long
  where
    at : (length bytes ≡ most_offered s c) ⊎ ((length bytes < most_offered s c) × Contains (borders s.routed c) (taken_by s c + length bytes)) → bytes ≡ take (most_offered s c) (untaken s c)
    at (inl e) = subst (λ (n : ℕ). bytes ≡ take n (untaken s c)) e piece.front
    at (inr h) = absurd (none_contained _ (subst (λ (xs : List ℕ). Contains xs (taken_by s c + length bytes)) none h.1))

is_due : (p : Played) (place : Place) (j : Judge) (a : Act) → ((c : ℕ) → borders j.state.routed c ≡ []) → AllowsAt place j a → a ≡ given_by p a → a ≡ due_at p place j
unfolding due_at close_of
is_due p Waits j (act.Wait ms answer marks) n h g = subst (λ (m : ℕ). act.Wait ms answer marks ≡ trace_wait p m) h g
is_due p Waits j a n h g = absurd h
is_due p Asks j (act.Now moment) n h g = g
is_due p Asks j a n h g = absurd h
is_due p (Accepts left) j (act.Accept answer) n h g = g
is_due p (Accepts left) j a n h g = absurd h
is_due p (Reads (c ∷ rest)) j (act.Read d room answer bytes) n h g =
    subst (λ (m : ℕ). act.Read d room answer bytes ≡ trace_read p c m) h.1
    (subst (λ (m : ℕ). act.Read d room answer bytes ≡ trace_read p m room) h.0 g)
is_due p (Reads (c ∷ rest)) j a n h g = absurd h
is_due p (Reads []) j a n h g = absurd h
is_due p (Writes (c ∷ rest)) j (act.Write d bytes answer) n h g =
    subst (λ (xs : List ℕ). act.Write d bytes answer ≡ trace_write p c xs) (whole_piece j.state c bytes (n c) h.1)
    (subst (λ (m : ℕ). act.Write d bytes answer ≡ trace_write p m bytes) h.0 g)
is_due p (Writes (c ∷ rest)) j a n h g = absurd h
is_due p (Writes []) j a n h g = absurd h
is_due p Closes j (act.Close d) n h g = sym (ap close_of h)
is_due p Closes j a n h g = absurd h
is_due p (Leaves (c ∷ rest)) j (act.Close d) n h g = ap trace_close h
is_due p (Leaves (c ∷ rest)) j a n h g = absurd h
is_due p (Leaves []) j a n h g = absurd h

none_follows : (j : Judge) (a : Act) → j.place ≡ Leaves [] → AllowsAt j.place j a → ⊥
none_follows j a e h = at (subst (λ (place : Place). AllowsAt place j a) e h)
  where
    at : AllowsAt (Leaves []) j a → ⊥
    at x = absurd x

-- two lists of such acts that go on until nothing is due are the same
pub same-acts : (p : Played) (j : Judge) (one other : List Act) → Follows j one → AreGiven p one → Follows j other → AreGiven p other
    → QueuesNoFullChunk j one → (judged j one).place ≡ Leaves [] → (judged j other).place ≡ Leaves [] → one ≡ other
same-acts p j [] [] f g f' g' n e e' = refl
same-acts p j [] (b ∷ other) f g f' g' n e e' = absurd (none_follows j b e f'.0)
same-acts p j (a ∷ one) [] f g f' g' n e e' = absurd (none_follows j a e' f.0)
same-acts p j (a ∷ one) (b ∷ other) f g f' g' n e e' =
    let none : (c : ℕ) → borders j.state.routed c ≡ [] = λ c. n [] (a ∷ one) c refl in
    let same : b ≡ a = is_due p j.place j b none f'.0 g'.0 ∙ sym (is_due p j.place j a none f.0 g.0) in
    let later : one ≡ other = same-acts (with_act a p) (judge_after j a) one other f.1 g.1
    (subst (λ (x : Act). Follows (judge_after j x) other) same f'.1)
    (subst (λ (x : Act). AreGiven (with_act x p) other) same g'.1)
    (λ before after c s. n (a ∷ before) after c (ap (λ (xs : List Act). a ∷ xs) s)) e
    (subst (λ (x : Act). (judged (judge_after j x) other).place ≡ Leaves []) same e') in
    ap (λ (xs : List Act). a ∷ xs) later ∙ ap (λ (x : Act). x ∷ other) (sym same)
