-- What is watched, as flags: what changes there, and what an act sets by itself.
use Rattle.std.specs.Prelude.{◌≡◌, refl, ℕ, ◌+◌, ◌<◌, ◌≤◌, fold, length, take, get_or, Bool, true, false, not, ◌&&◌, ◌||◌, ◌==◌, nat_lt, cond, List, [], ◌∷◌, ◌++◌, map, filter}
use Rattle.std.specs.List.{list_any}
use Rattle.std.proofs.Common.{arith, ap, sym, subst, ◌∙◌}
use Rattle.std.proofs.lemmas.Bool.Decides.{nat_tests}
use Rattle.std.proofs.lemmas.List.{map-append}
use Rattle.std.proofs.lemmas.List.Sums.{fold_more}
use Rattle.hub_acts.specs.declared.marks.Mark.{Mark}
use Rattle.hub_acts.specs.declared.marks.Mark.TheVariants as mark
use Rattle.machine.specs.States.{State}
use Rattle.machine.specs.Queues.{total}
use Rattle.attentive_acts.specs.Flags.{Flag, Flags, flag_at, change_flag, with_mark, flag_grown, has_flag, read_drained, write_drained}
use Rattle.engine_loop.specs.declared.watch.Stream.{Stream}
use Rattle.engine_loop.specs.declared.watch.Change.{Change}
use Rattle.engine_loop.specs.declared.watch.Change.TheVariants.{Marked, ReadsDrained, WritesDrained}
use Rattle.engine_loop.specs.declared.watch.Watch.{Watch}
use Rattle.engine_loop.specs.Watches.{flag_of, flags_of, serial_of, serials_in, changed, changed_one, changed_all, opened, without, reads_as, writes_as, AreSeen, Sets, Opens}

-- ---- lists

map_swap : {A B : Type 0} (f : A → B) (g : A → A) (h : B → B) → ((x : A) → f (g x) ≡ h (f x)) → (xs : List A) → map f (map g xs) ≡ map h (map f xs)
map_swap f g h same [] = refl
map_swap f g h same (x ∷ xs) = ap (λ y. y ∷ map f (map g xs)) (same x) ∙ ap (λ ys. h (f x) ∷ ys) (map_swap f g h same xs)

map_same : {A B : Type 0} (f : A → B) (g : A → A) → ((x : A) → f (g x) ≡ f x) → (xs : List A) → map f (map g xs) ≡ map f xs
map_same f g same [] = refl
map_same f g same (x ∷ xs) = ap (λ y. y ∷ map f (map g xs)) (same x) ∙ ap (λ ys. f x ∷ ys) (map_same f g same xs)

filter_over : {A B : Type 0} (f : A → B) (q : B → Bool) (xs : List A) → map f (filter (λ x. q (f x)) xs) ≡ filter q (map f xs)
filter_over f q [] = refl
filter_over f q (x ∷ xs) = by (q (f x)) (filter_over f q xs)
  where
    by : (b : Bool) → map f (filter (λ y. q (f y)) xs) ≡ filter q (map f xs) → map f (cond b (x ∷ filter (λ y. q (f y)) xs) (filter (λ y. q (f y)) xs)) ≡ cond b (f x ∷ filter q (map f xs)) (filter q (map f xs))
    by true rest = ap (λ ys. f x ∷ ys) rest
    by false rest = rest

pub any-over : {A B : Type 0} (f : A → B) (q : B → Bool) (p : A → Bool) → ((x : A) → p x ≡ q (f x)) → (xs : List A) → list_any p xs ≡ list_any q (map f xs)
any-over f q p same [] = refl
any-over f q p same (x ∷ xs) = ap (λ b. b || list_any p xs) (same x) ∙ ap (λ b. q (f x) || b) (any-over f q p same xs)

-- ---- one connection

or_swap : (a b c : Bool) → ((a || b) || c) ≡ ((a || c) || b)
or_swap true b c = refl
or_swap false true true = refl
or_swap false true false = refl
or_swap false false true = refl
or_swap false false false = refl

mark_flag : (totals : ℕ → ℕ) (serial : ℕ) (r w : Bool) (t : Stream) → flag_of totals (changed_one serial (Marked r w) t) ≡ flag_at serial (λ f. record f { reads = f.reads || r; writes = f.writes || w }) (flag_of totals t)
mark_flag totals serial r w t = by (t.serial == serial)
  where
    by : (b : Bool) → flag_of totals (cond b (changed (Marked r w) t) t) ≡ cond b (record { serial = t.serial; reads = t.reads || r; writes = (t.writes || nat_lt t.seen (totals t.serial)) || w }) (flag_of totals t)
    by true = ap (λ (b : Bool). let f : Flag = record { serial = t.serial; reads = t.reads || r; writes = b } in f) (or_swap t.writes w (nat_lt t.seen (totals t.serial)))
    by false = refl

read_flag : (totals : ℕ → ℕ) (serial : ℕ) (t : Stream) → flag_of totals (changed_one serial ReadsDrained t) ≡ flag_at serial read_drained (flag_of totals t)
read_flag totals serial t = by (t.serial == serial)
  where
    by : (b : Bool) → flag_of totals (cond b (changed ReadsDrained t) t) ≡ cond b (read_drained (flag_of totals t)) (flag_of totals t)
    by true = refl
    by false = refl

none_more : (n : ℕ) → nat_lt n n ≡ false
none_more n = grind (arith, nat_tests)

write_flag : (totals : ℕ → ℕ) (serial seen : ℕ) → seen ≡ totals serial → (t : Stream) → flag_of totals (changed_one serial (WritesDrained seen) t) ≡ flag_at serial write_drained (flag_of totals t)
write_flag totals serial seen e t = by (t.serial == serial) refl
  where
    by : (b : Bool) → (t.serial == serial) ≡ b → flag_of totals (cond b (changed (WritesDrained seen) t) t) ≡ cond b (write_drained (flag_of totals t)) (flag_of totals t)
    by true k =
        let is : t.serial ≡ serial = grind (arith, nat_tests, k) in
        let same : seen ≡ totals t.serial = e ∙ ap totals (sym is) in
        ap (λ (b : Bool). let f : Flag = record { serial = t.serial; reads = t.reads; writes = b } in f) (ap (λ (n : ℕ). nat_lt seen n) (sym same) ∙ none_more seen)
    by false k = refl

change_serial : (serial : ℕ) (change : Change) (t : Stream) → serial_of (changed_one serial change t) ≡ serial_of t
change_serial serial change t = by (t.serial == serial) change
  where
    by : (b : Bool) (c : Change) → serial_of (cond b (changed c t) t) ≡ serial_of t
    by true (Marked r w) = refl
    by true ReadsDrained = refl
    by true (WritesDrained seen) = refl
    by false c = refl

-- ---- all of them

with_streams : Bool → List Flag → Flags
with_streams b fs = record { listens = b; streams = fs }

-- what changes one connection
abbrev pub IsChanged : Watch → Watch → ℕ → Change → Type 0
IsChanged old new serial change = (new.streams.items ≡ changed_all serial change old.streams.items) × (new.listens ≡ old.listens)

sets_one : (old new : Watch) (serial : ℕ) (change : Change) (h : Flag → Flag) (totals : ℕ → ℕ) → ((t : Stream) → flag_of totals (changed_one serial change t) ≡ flag_at serial h (flag_of totals t)) → IsChanged old new serial change → flags_of totals new ≡ change_flag serial h (flags_of totals old)
unfolding with_streams
sets_one old new serial change h totals same is =
    ap (λ (b : Bool). with_streams b (map (flag_of totals) new.streams.items)) is.1
    ∙ ap (λ (ts : List Stream). with_streams old.listens (map (flag_of totals) ts)) is.0
    ∙ ap (with_streams old.listens) (map_swap (flag_of totals) (changed_one serial change) (flag_at serial h) same old.streams.items)

pub changed-serials : (old new : Watch) (serial : ℕ) (change : Change) → IsChanged old new serial change → serials_in new ≡ serials_in old
changed-serials old new serial change is = ap (map serial_of) is.0 ∙ map_same serial_of (changed_one serial change) (change_serial serial change) old.streams.items

pub sets-write : (old new : Watch) (serial seen : ℕ) (totals : ℕ → ℕ) → seen ≡ totals serial → IsChanged old new serial (WritesDrained seen) → flags_of totals new ≡ change_flag serial write_drained (flags_of totals old)
sets-write old new serial seen totals e is = sets_one old new serial (WritesDrained seen) write_drained totals (write_flag totals serial seen e) is

-- ---- one more, one less

pub opens-flags : (old new : Watch) (serial : ℕ) (totals : ℕ → ℕ) → Opens old new serial → totals serial ≡ 0 → flags_of totals new ≡ record { listens = old.listens; streams = (flags_of totals old).streams ++ (record { serial = serial; reads = true; writes = false }) ∷ [] }
unfolding with_streams
opens-flags old new serial totals is none =
    ap (λ (b : Bool). with_streams b (map (flag_of totals) new.streams.items)) is.listens
    ∙ ap (λ (ts : List Stream). with_streams old.listens (map (flag_of totals) ts)) is.streams
    ∙ ap (with_streams old.listens) (map-append (flag_of totals) old.streams.items (opened serial ∷ []))
    ∙ ap (λ (b : Bool). let f : Flag = record { serial = serial; reads = true; writes = b } in with_streams old.listens (map (flag_of totals) old.streams.items ++ f ∷ [])) (ap (nat_lt 0) none ∙ none_more 0)

pub opens-serials : (old new : Watch) (serial : ℕ) → Opens old new serial → serials_in new ≡ serials_in old ++ serial ∷ []
opens-serials old new serial is = ap (map serial_of) is.streams ∙ map-append serial_of old.streams.items (opened serial ∷ [])

pub closes-flags : (old new : Watch) (serial : ℕ) (totals : ℕ → ℕ) → new.streams.items ≡ without serial old.streams.items → new.listens ≡ old.listens → flags_of totals new ≡ record { listens = old.listens; streams = filter (λ (f : Flag). not (f.serial == serial)) (flags_of totals old).streams }
unfolding with_streams
closes-flags old new serial totals is l =
    ap (λ (b : Bool). with_streams b (map (flag_of totals) new.streams.items)) l
    ∙ ap (λ (ts : List Stream). with_streams old.listens (map (flag_of totals) ts)) is
    ∙ ap (with_streams old.listens) (filter_over (flag_of totals) (λ (f : Flag). not (f.serial == serial)) old.streams.items)

pub closes-serials : (old new : Watch) (serial : ℕ) → new.streams.items ≡ without serial old.streams.items → serials_in new ≡ filter (λ n. not (n == serial)) (serials_in old)
closes-serials old new serial is = ap (map serial_of) is ∙ filter_over serial_of (λ n. not (n == serial)) old.streams.items

-- ---- what an act sets by itself: a queue that grew is as good as a mark

grown_or : (w : Bool) (seen old new : ℕ) → seen ≤ old → old ≤ new → ((w || nat_lt seen old) || nat_lt old new) ≡ (w || nat_lt seen new)
grown_or true seen old new few le = refl
grown_or false seen old new few le = grind (arith, nat_tests, few, le)

grown_flag : (s next : State) → ((c : ℕ) → total s.routed c ≤ total next.routed c) → (t : Stream) → t.seen ≤ total s.routed t.serial → flag_grown s next (flag_of (total s.routed) t) ≡ flag_of (total next.routed) t
grown_flag s next more t few = ap (λ (b : Bool). let f : Flag = record { serial = t.serial; reads = t.reads; writes = b } in f) (grown_or t.writes t.seen (total s.routed t.serial) (total next.routed t.serial) few (more t.serial))

grown_flags : (s next : State) → ((c : ℕ) → total s.routed c ≤ total next.routed c) → (ts : List Stream) → AreSeen (total s.routed) ts → map (flag_grown s next) (map (flag_of (total s.routed)) ts) ≡ map (flag_of (total next.routed)) ts
grown_flags s next more [] few = refl
grown_flags s next more (t ∷ ts) few = ap (λ f. f ∷ map (flag_grown s next) (map (flag_of (total s.routed)) ts)) (grown_flag s next more t few.0) ∙ ap (λ fs. flag_of (total next.routed) t ∷ fs) (grown_flags s next more ts few.1)

pub flags-grown : (s next : State) (fs : Flags) (w : Watch) → ((c : ℕ) → total s.routed c ≤ total next.routed c) → AreSeen (total s.routed) w.streams.items → fs ≡ flags_of (total s.routed) w → record fs { streams = map (flag_grown s next) fs.streams } ≡ flags_of (total next.routed) w
unfolding with_streams
flags-grown s next fs w more few e =
    ap (λ (g : Flags). with_streams g.listens (map (flag_grown s next) g.streams)) e
    ∙ ap (with_streams w.listens) (grown_flags s next more w.streams.items few)

-- ---- what is undrained

pub reads-flag : (w : Watch) (serial : ℕ) (totals : ℕ → ℕ) → list_any (reads_as serial) w.streams.items ≡ has_flag (λ f. f.reads) serial (flags_of totals w)
reads-flag w serial totals = any-over (flag_of totals) (λ f. (f.serial == serial) && f.reads) (reads_as serial) (λ t. refl) w.streams.items

writes_same : (serial total : ℕ) (totals : ℕ → ℕ) → total ≡ totals serial → (t : Stream) → writes_as serial total t ≡ ((t.serial == serial) && (t.writes || nat_lt t.seen (totals t.serial)))
writes_same serial total totals e t = by (t.serial == serial) refl
  where
    by : (b : Bool) → (t.serial == serial) ≡ b → (b && (t.writes || nat_lt t.seen total)) ≡ (b && (t.writes || nat_lt t.seen (totals t.serial)))
    by true k = let is : t.serial ≡ serial = grind (arith, nat_tests, k) in ap (λ (n : ℕ). t.writes || nat_lt t.seen n) (e ∙ ap totals (sym is))
    by false k = refl

pub writes-flag : (w : Watch) (serial total : ℕ) (totals : ℕ → ℕ) → total ≡ totals serial → list_any (writes_as serial total) w.streams.items ≡ has_flag (λ f. f.writes) serial (flags_of totals w)
writes-flag w serial total totals e = any-over (flag_of totals) (λ f. (f.serial == serial) && f.writes) (writes_as serial total) (writes_same serial total totals e) w.streams.items

-- ---- what was seen

pub seen-grows : (old new : ℕ → ℕ) → ((c : ℕ) → old c ≤ new c) → (ts : List Stream) → AreSeen old ts → AreSeen new ts
seen-grows old new more [] few = tt
seen-grows old new more (t ∷ ts) few = (let a = few.0 in let b = more t.serial in omega (arith, a, b), seen-grows old new more ts few.1)

-- where what becomes known of it was queued by then
abbrev pub IsSeen : (ℕ → ℕ) → ℕ → Change → Type 0
IsSeen totals serial (WritesDrained seen) = seen ≡ totals serial
IsSeen totals serial change = Unit {0}

change_seen : (totals : ℕ → ℕ) (serial : ℕ) (change : Change) (t : Stream) → IsSeen totals serial change → t.seen ≤ totals t.serial → (changed_one serial change t).seen ≤ totals (changed_one serial change t).serial
change_seen totals serial change t is few = by (t.serial == serial) refl change is
  where
    by : (b : Bool) → (t.serial == serial) ≡ b → (c : Change) → IsSeen totals serial c → (cond b (changed c t) t).seen ≤ totals (cond b (changed c t) t).serial
    by false e c k = few
    by true e (Marked r w) k = few
    by true e ReadsDrained k = few
    by true e (WritesDrained seen) k = let is : t.serial ≡ serial = grind (arith, nat_tests, e) in let same : seen ≡ totals t.serial = k ∙ ap totals (sym is) in omega (arith, same)

changed_seen : (totals : ℕ → ℕ) (serial : ℕ) (change : Change) → IsSeen totals serial change → (ts : List Stream) → AreSeen totals ts → AreSeen totals (changed_all serial change ts)
changed_seen totals serial change is [] few = tt
changed_seen totals serial change is (t ∷ ts) few = (change_seen totals serial change t is few.0, changed_seen totals serial change is ts few.1)

pub changed-seen : (old new : Watch) (serial : ℕ) (change : Change) (totals : ℕ → ℕ) → IsSeen totals serial change → IsChanged old new serial change → AreSeen totals old.streams.items → AreSeen totals new.streams.items
changed-seen old new serial change totals is changes few = subst (AreSeen totals) (sym changes.0) (changed_seen totals serial change is old.streams.items few)

opened_seen : (totals : ℕ → ℕ) (serial : ℕ) (ts : List Stream) → AreSeen totals ts → AreSeen totals (ts ++ opened serial ∷ [])
opened_seen totals serial [] few = (omega arith, tt)
opened_seen totals serial (t ∷ ts) few = (few.0, opened_seen totals serial ts few.1)

pub opens-seen : (old new : Watch) (serial : ℕ) (totals : ℕ → ℕ) → Opens old new serial → AreSeen totals old.streams.items → AreSeen totals new.streams.items
opens-seen old new serial totals is few = subst (AreSeen totals) (sym is.streams) (opened_seen totals serial old.streams.items few)

without_seen : (totals : ℕ → ℕ) (serial : ℕ) (ts : List Stream) → AreSeen totals ts → AreSeen totals (without serial ts)
without_seen totals serial [] few = tt
without_seen totals serial (t ∷ ts) few = by (not (t.serial == serial)) (without_seen totals serial ts few.1)
  where
    by : (b : Bool) → AreSeen totals (without serial ts) → AreSeen totals (cond b (t ∷ without serial ts) (without serial ts))
    by true rest = (few.0, rest)
    by false rest = rest

pub closes-seen : (old new : Watch) (serial : ℕ) (totals : ℕ → ℕ) → new.streams.items ≡ without serial old.streams.items → AreSeen totals old.streams.items → AreSeen totals new.streams.items
closes-seen old new serial totals is few = subst (AreSeen totals) (sym is) (without_seen totals serial old.streams.items few)

-- ---- marks and reads

pub sets-mark : (old new : Watch) (serial : ℕ) (r w : Bool) → IsChanged old new serial (Marked r w) → Sets old new (λ fs. with_mark fs (mark.Stream serial r w))
sets-mark old new serial r w is = record {
  flags = λ totals. sets_one old new serial (Marked r w) (λ f. record f { reads = f.reads || r; writes = f.writes || w }) totals (mark_flag totals serial r w) is;
  serials = changed-serials old new serial (Marked r w) is;
  seen = λ totals. changed-seen old new serial (Marked r w) totals tt is;
}

pub sets-read : (old new : Watch) (serial : ℕ) → IsChanged old new serial ReadsDrained → Sets old new (change_flag serial read_drained)
sets-read old new serial is = record {
  flags = λ totals. sets_one old new serial ReadsDrained read_drained totals (read_flag totals serial) is;
  serials = changed-serials old new serial ReadsDrained is;
  seen = λ totals. changed-seen old new serial ReadsDrained totals tt is;
}

-- one more mark
pub sets-more : (old mid new : Watch) (marks : List Mark) (i : ℕ) (m d : Mark) → i < length marks → m ≡ get_or marks i d → Sets old mid (λ fs. fold with_mark fs (take i marks)) → Sets mid new (λ fs. with_mark fs m) → Sets old new (λ fs. fold with_mark fs (take (i + 1) marks))
sets-more old mid new marks i m d lt e a b = record {
  flags = λ totals. b.flags totals ∙ ap (λ (fs : Flags). with_mark fs m) (a.flags totals) ∙ ap (with_mark (fold with_mark (flags_of totals old) (take i marks))) e ∙ sym (fold_more with_mark (flags_of totals old) marks i d lt);
  serials = b.serials ∙ a.serials;
  seen = λ totals few. b.seen totals (a.seen totals few);
}
