-- An invariant: a connection that is there has taken as much as before.
use Rattle.std.specs.Prelude.{◌≡◌, refl, ℕ, ◌+◌, Bool, true, false, cond, not, ◌==◌, List, [], ◌∷◌, ◌++◌, Some, None}
use Rattle.std.proofs.Common.{arith, ap, sym, subst, ◌∙◌}
use Rattle.std.proofs.lemmas.Bool.Decides.{nat_tests}
use Rattle.machine.specs.Connections.{Connection, has_serial, with_serial, changed, changed_at, removed}
use Rattle.machine.specs.Combining.{when}
use Rattle.machine.specs.Partings.{parted}
use Rattle.machine.specs.Steps.{takes, drops}
use Rattle.machine.proofs.KeepSteps.{takes-tame}
use Rattle.machine.proofs.Live.{IsTame, KeepsTaken, parted-tame, drops-tame}
use Rattle.machine.proofs.Finding.{none_some, some_is}
use Rattle.machine.proofs.Invariant.{View, IsInvariant}
use Rattle.machine.proofs.AnyButton.{any, any_origin, of-connections}

-- where a connection has that serial, it took that many bytes
abbrev pub HasTaken : ℕ → ℕ → List Connection → Type 0
HasTaken n count cs = (c : Connection) → with_serial n cs ≡ Some c → c.taken ≡ count

abbrev pub TakenStays : ℕ → ℕ → View → Type 0
TakenStays n count v = HasTaken n count v.connections

-- ---- what changes a connection

same_serial : (n serial : ℕ) (f : Connection → Connection) → IsTame f → (d : Connection) → has_serial n (changed_at serial f d) ≡ has_serial n d
same_serial n serial f tame d = by (has_serial serial d)
  where
    by : (b : Bool) → has_serial n (when b f d) ≡ has_serial n d
    by true = ap (λ (m : ℕ). m == n) (tame d).0
    by false = refl

same_taken : (serial : ℕ) (f : Connection → Connection) → KeepsTaken f → (d : Connection) → (changed_at serial f d).taken ≡ d.taken
same_taken serial f same d = by (has_serial serial d)
  where
    by : (b : Bool) → (when b f d).taken ≡ d.taken
    by true = same d
    by false = refl

changed_stays : (n count serial : ℕ) (f : Connection → Connection) → IsTame f → KeepsTaken f → (cs : List Connection) → HasTaken n count cs → HasTaken n count (changed serial f cs)
changed_stays n count serial f tame same [] h c e = none_some c e
changed_stays n count serial f tame same (d ∷ cs) h c e = by (has_serial n d) (same_serial n serial f tame d) h (changed_stays n count serial f tame same cs) e
  where
    by : (b : Bool) → has_serial n (changed_at serial f d) ≡ b → ((k : Connection) → cond b (Some d) (with_serial n cs) ≡ Some k → k.taken ≡ count) → (HasTaken n count cs → HasTaken n count (changed serial f cs))
        → cond (has_serial n (changed_at serial f d)) (Some (changed_at serial f d)) (with_serial n (changed serial f cs)) ≡ Some c → c.taken ≡ count
    by true k here later e =
        let is : Some (changed_at serial f d) ≡ Some c = ap (λ (t : Bool). cond t (Some (changed_at serial f d)) (with_serial n (changed serial f cs))) (sym k) ∙ e in
        ap (λ (x : Connection). x.taken) (sym (some_is (changed_at serial f d) c is)) ∙ same_taken serial f same d ∙ here d refl
    by false k here later e = later here c (ap (λ (t : Bool). cond t (Some (changed_at serial f d)) (with_serial n (changed serial f cs))) (sym k) ∙ e)

pub none-left : (n : ℕ) (cs : List Connection) → with_serial n (removed n cs) ≡ None
none-left n [] = refl
none-left n (d ∷ cs) = by (has_serial n d) refl (none-left n cs)
  where
    by : (b : Bool) → has_serial n d ≡ b → with_serial n (removed n cs) ≡ None → with_serial n (cond (not b) (d ∷ removed n cs) (removed n cs)) ≡ None
    by true k rest = rest
    by false k rest = ap (λ (t : Bool). cond t (Some d) (with_serial n (removed n cs))) k ∙ rest

same_number : (m n k : ℕ) → (m == n) ≡ true → (m == k) ≡ true → n ≡ k
same_number m n k a b = grind (arith, nat_tests, a, b)

removed_stays : (n count serial : ℕ) (cs : List Connection) → HasTaken n count cs → HasTaken n count (removed serial cs)
removed_stays n count serial [] h c e = h c e
removed_stays n count serial (d ∷ cs) h c e = by (has_serial serial d) (has_serial n d) refl refl h (removed_stays n count serial cs) e
  where
    by : (b t : Bool) → has_serial serial d ≡ b → has_serial n d ≡ t → ((k : Connection) → cond t (Some d) (with_serial n cs) ≡ Some k → k.taken ≡ count) → (HasTaken n count cs → HasTaken n count (removed serial cs))
        → with_serial n (cond (not b) (d ∷ removed serial cs) (removed serial cs)) ≡ Some c → c.taken ≡ count
    by false true one k here later e = here c (ap (λ (t : Bool). cond t (Some d) (with_serial n (removed serial cs))) (sym k) ∙ e)
    by false false one k here later e = later here c (ap (λ (t : Bool). cond t (Some d) (with_serial n (removed serial cs))) (sym k) ∙ e)
    by true false one k here later e = later here c e
    by true true one k here later e =
        let is : serial ≡ n = same_number d.serial serial n one k in
        none_some c (sym (none-left n cs) ∙ subst (λ (m : ℕ). with_serial n (removed m cs) ≡ Some c) is e)

pub invariant : (n count : ℕ) → IsInvariant any any_origin (TakenStays n count)
invariant n count = of-connections (HasTaken n count)
    (λ serial f tame same none cs h. changed_stays n count serial f tame same cs h)
    (λ cause serial now cs on h. changed_stays n count serial (parted cause now) (parted-tame cause now) (λ c. refl) cs h)
    (λ serial s off h. changed_stays n count serial drops drops-tame (λ c. refl) s.connections h)

-- ---- what is taken

-- a connection that took more has taken so much more, and every other one as much as before
took_stays : (n count serial more : ℕ) (cs : List Connection) → HasTaken n count cs → HasTaken n (count + cond (serial == n) more 0) (changed serial (takes more) cs)
took_stays n count serial more [] h c e = none_some c e
took_stays n count serial more (d ∷ cs) h c e = by (has_serial n d) (same_serial n serial (takes more) (takes-tame more) d) h (took_stays n count serial more cs) e
  where
    at : (b : Bool) → has_serial serial d ≡ b → has_serial n d ≡ true → (when b (takes more) d).taken ≡ d.taken + cond (serial == n) more 0
    at true one two = let is : (serial == n) ≡ true = (let e : serial ≡ n = same_number d.serial serial n one two in grind (arith, nat_tests, e)) in ap (λ (t : Bool). d.taken + cond t more 0) (sym is)
    at false one two = let is : (serial == n) ≡ false = grind (arith, nat_tests, one, two) in omega (arith, ap (λ (t : Bool). cond t more 0) is)

    by : (b : Bool) → has_serial n (changed_at serial (takes more) d) ≡ b → ((k : Connection) → cond b (Some d) (with_serial n cs) ≡ Some k → k.taken ≡ count) → (HasTaken n count cs → HasTaken n (count + cond (serial == n) more 0) (changed serial (takes more) cs))
        → cond (has_serial n (changed_at serial (takes more) d)) (Some (changed_at serial (takes more) d)) (with_serial n (changed serial (takes more) cs)) ≡ Some c → c.taken ≡ count + cond (serial == n) more 0
    by true k here later e =
        let is : Some (changed_at serial (takes more) d) ≡ Some c = ap (λ (t : Bool). cond t (Some (changed_at serial (takes more) d)) (with_serial n (changed serial (takes more) cs))) (sym k) ∙ e in
        ap (λ (x : Connection). x.taken) (sym (some_is (changed_at serial (takes more) d) c is)) ∙ at (has_serial serial d) refl (sym (same_serial n serial (takes more) (takes-tame more) d) ∙ k) ∙ ap (λ (m : ℕ). m + cond (serial == n) more 0) (here d refl)
    by false k here later e = later here c (ap (λ (t : Bool). cond t (Some (changed_at serial (takes more) d)) (with_serial n (changed serial (takes more) cs))) (sym k) ∙ e)

pub took-stays : (n count serial more : ℕ) (cs : List Connection) → HasTaken n count cs → HasTaken n (count + cond (serial == n) more 0) (changed serial (takes more) cs)
took-stays n count serial more cs h = took_stays n count serial more cs h

pub removed-stays : (n count serial : ℕ) (cs : List Connection) → HasTaken n count cs → HasTaken n count (removed serial cs)
removed-stays n count serial cs h = removed_stays n count serial cs h

-- ---- a new connection

appended_stays : (n count : ℕ) (d : Connection) (cs : List Connection) → (has_serial n d ≡ true → d.taken ≡ count) → HasTaken n count cs → HasTaken n count (cs ++ d ∷ [])
appended_stays n count d [] new h c e = by (has_serial n d) refl e
  where
    by : (b : Bool) → has_serial n d ≡ b → cond b (Some d) None ≡ Some c → c.taken ≡ count
    by true k e = ap (λ (x : Connection). x.taken) (sym (some_is d c e)) ∙ new k
    by false k e = none_some c e
appended_stays n count d (k ∷ cs) new h c e = by (has_serial n k) h (appended_stays n count d cs new) e
  where
    by : (b : Bool) → ((x : Connection) → cond b (Some k) (with_serial n cs) ≡ Some x → x.taken ≡ count) → (HasTaken n count cs → HasTaken n count (cs ++ d ∷ [])) → cond b (Some k) (with_serial n (cs ++ d ∷ [])) ≡ Some c → c.taken ≡ count
    by true here later e = here c e
    by false here later e = later here c e

pub appended-stays : (n count : ℕ) (d : Connection) (cs : List Connection) → (has_serial n d ≡ true → d.taken ≡ count) → HasTaken n count cs → HasTaken n count (cs ++ d ∷ [])
appended-stays n count d cs new h = appended_stays n count d cs new h
