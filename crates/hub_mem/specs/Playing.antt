-- Calls one after another on a hub or a link in memory: the trace gives the answer of each.
use Rattle.std.specs.Prelude.{◌≡◌, ℕ, List, [], ◌∷◌, ◌++◌}
use Rattle.std.proofs.Common.{refl, ap, subst, sym, ◌∙◌, append_assoc}
use Rattle.std.proofs.lemmas.List.{append-nil}
use Rattle.script_screen.specs.declared.trace.TraceLine.{TraceLine}
use Rattle.hub_acts.specs.declared.act.Act.{Act}
use Rattle.hub_acts.specs.declared.act.Act.TheVariants as act
use Rattle.hub_mem.specs.Answers.{Played, trace_listen, trace_wait, trace_now, trace_accept, trace_read, trace_write, trace_close}

abbrev pub with_act : Act → Played → Played
with_act a p = record p { acts = p.acts ++ a ∷ [] }

-- each of these acts, made after those before it, is the one that is given
abbrev pub AreGivenBy : (Played → Act → Act) → Played → List Act → Type 0
AreGivenBy given_act p [] = Unit {0}
AreGivenBy given_act p (a ∷ acts) =
    (a ≡ given_act p a) × AreGivenBy given_act (with_act a p) acts

-- calls whose acts were given led from the one to the other
pub record PlaysBy (given_act : Played → Act → Act) (old new : Played) : Type 0 where
  pub lines : new.lines ≡ old.lines
  pub failing : new.failing ≡ old.failing
  pub made : List Act
  pub acts : new.acts ≡ old.acts ++ made
  pub given : AreGivenBy given_act old made

pub no-calls-play : (given_act : Played → Act → Act) (p : Played) → PlaysBy given_act p p
no-calls-play given_act p =
    record { lines = refl; failing = refl; made = []; acts = sym (append-nil p.acts); given = tt }

abbrev played : List TraceLine → List ℕ → List Act → Played
played lines failing acts = record { lines = lines; failing = failing; acts = acts }

same_given : (given_act : Played → Act → Act) (p q : Played) (acts made : List Act)
    → q.lines ≡ p.lines → q.failing ≡ p.failing → q.acts ≡ acts → AreGivenBy given_act q made
    → AreGivenBy given_act (played p.lines p.failing acts) made
same_given given_act p q acts made lines failing same g =
    subst (λ (xs : List Act). AreGivenBy given_act (played p.lines p.failing xs) made) same
    (subst (λ (ns : List ℕ). AreGivenBy given_act (played p.lines ns q.acts) made) failing
    (subst (λ (ls : List TraceLine). AreGivenBy given_act (played ls q.failing q.acts) made) lines
    g))

more_given : (given_act : Played → Act → Act) (p : Played) (first second : List Act)
    → AreGivenBy given_act p first
    → AreGivenBy given_act (record p { acts = p.acts ++ first }) second
    → AreGivenBy given_act p (first ++ second)
more_given given_act p [] second g h =
    subst (λ (xs : List Act). AreGivenBy given_act (record p { acts = xs }) second)
    (append-nil p.acts) h
more_given given_act p (a ∷ first) second g h = (
  g.0,
  more_given given_act (with_act a p) first second g.1
      (subst (λ (xs : List Act). AreGivenBy given_act (record p { acts = xs }) second)
      (sym (append_assoc p.acts (a ∷ []) first)) h),
)

pub more-calls-play : (given_act : Played → Act → Act) (p q r : Played)
    → PlaysBy given_act p q → PlaysBy given_act q r → PlaysBy given_act p r
more-calls-play given_act p q r h k = record {
  lines = k.lines ∙ h.lines;
  failing = k.failing ∙ h.failing;
  made = h.made ++ k.made;
  acts = k.acts ∙ ap (λ (xs : List Act). xs ++ k.made) h.acts ∙ append_assoc p.acts h.made k.made;
  given = more_given given_act p h.made k.made h.given
      (same_given given_act p q (p.acts ++ h.made) k.made h.lines h.failing h.acts k.given);
}

-- ---- a hub

-- the act that this act's call makes, by the trace; one of a link is none of a hub
abbrev pub given_by : Played → Act → Act
given_by p (act.Listen port answer) = trace_listen p port
given_by p (act.Wait ms answer marks) = trace_wait p ms
given_by p (act.Now moment) = trace_now p
given_by p (act.Accept answer) = trace_accept p
given_by p (act.Read serial room answer bytes) = trace_read p serial room
given_by p (act.Write serial bytes answer) = trace_write p serial bytes
given_by p (act.Close serial) = trace_close serial
given_by p a = a

-- each of these acts, made after those before it, is the one that the trace gives
abbrev pub AreGiven : Played → List Act → Type 0
AreGiven p acts = AreGivenBy given_by p acts

-- calls led from the one to the other
abbrev pub PlaysOn : Played → Played → Type 0
PlaysOn old new = PlaysBy given_by old new

pub plays_stay : (p : Played) → PlaysOn p p
plays_stay p = no-calls-play given_by p

pub plays_go_on : (p q r : Played) → PlaysOn p q → PlaysOn q r → PlaysOn p r
plays_go_on p q r h k = more-calls-play given_by p q r h k
