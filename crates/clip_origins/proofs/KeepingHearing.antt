-- What messages of clients keep, and happenings.
use Rattle.std.specs.Prelude.{◌≡◌, refl, ℕ, ◌&&◌, Bool, true, false, not, nat_le, List, [], ◌∷◌, length, Option, Some, None}
use Rattle.std.specs.Option.{option_map}
use Rattle.std.proofs.Common.{ap, sym, ◌∙◌}
use Rattle.share_base.specs.declared.shape.Shape.{Shape}
use Rattle.message_codec.specs.Inboxes.{Inbox}
use Rattle.message_codec.specs.declared.messages.Msg.{Msg}
use Rattle.message_codec.specs.declared.messages.Msg.TheVariants as msg
use Rattle.screen_config.specs.Configurations.{screen_of}
use Rattle.screen_config.specs.Globals.{wire_options_of}
use Rattle.hello_states.specs.declared.part_cause.PartCause.{PartCause}
use Rattle.hello_states.specs.declared.part_cause.PartCause.TheVariants as cause
use Rattle.hello_states.specs.Phases.{Phase, Greeting, Asked, Joined, Parting, AskedScreen, JoinedScreen, is_parting, after_hearing_in}
use Rattle.hello_states.specs.Handshake.{HelloAnswer, Refused, Admitted, hello_answer, after_hello, shape_of_info, asked_after_info, joined_after_info}
use Rattle.clip_chunks.specs.Parts.{Part, part, part_of}
use Rattle.clip_chunks.specs.OpenRuns.{whole_at}
use Rattle.clip_chunks.specs.Rules as rules
use Rattle.machine.specs.Targets.{Client, Own, same_target}
use Rattle.machine.specs.Connections.{Connection, with_serial, advanced, is_live}
use Rattle.machine.specs.States.{State, Join}
use Rattle.machine.specs.Combining.{when, choose, unchanged}
use Rattle.machine.specs.Screens.{phase_of, lives, change}
use Rattle.machine.specs.Screens as screens
use Rattle.machine.specs.Routing.{route, logs}
use Rattle.machine.specs.Clipboards.{clip, clips_joined, clip_limit, whole, is_sharing}
use Rattle.machine.specs.Hello.{rate, is_used, answer}
use Rattle.machine.specs.Information.{name_of, join, clamp_cursor, reshape, hear_first_info, hear_later_info}
use Rattle.machine.specs.Hearing.{with_part, parts_from, hear_part, hear_greeting, hear_asked, hear_joined, was_heard, hear_in, hear}
use Rattle.machine.specs.Partings.{part as part_for}
use Rattle.machine.specs.Slow.{part_slow}
use Rattle.machine.specs.Acceptance.{most_open, opened, greet, accept}
use Rattle.machine.specs.Steps.{judge, drops, breaks, takes}
use Rattle.machine.proofs.Rules.{when-keeps, when-keeps-if, choose-keeps, for_some-keeps}
use Rattle.machine.proofs.Finding.{some_is}
use Rattle.clip_origins.proofs.Found.{SameSerial}
use Rattle.clip_origins.proofs.Keeping.{is_early, IsQuiet, Clipped, On, IsKept, Knows, route_each-keeps, grab-keeps, whole-keeps}
use Rattle.clip_origins.proofs.KeepingPartings.{part-keeps, part_slow-keeps}

-- ---- phases

pub found-phase : (n : ℕ) (s : State) (p : Phase) → phase_of s n ≡ Some p → (c : Connection) → with_serial n s.connections ≡ Some c → c.phase ≡ p
found-phase n s p e c k = some_is c.phase p (sym (ap (λ (o : Option Connection). option_map (λ (x : Connection). x.phase) o) k) ∙ e)

pub advanced-serial : (p : Phase) → SameSerial (advanced p)
advanced-serial p c = by (is_live c)
  where
    by : (b : Bool) → (when b (λ (d : Connection). record d { phase = p }) c).serial ≡ c.serial
    by true = refl
    by false = refl

-- it comes into a phase, where it was early if that is
advanced-quiet : (p : Phase) (c : Connection) → (is_early p ≡ true → is_early c.phase ≡ true) → IsQuiet c (advanced p c)
advanced-quiet p c early = by (is_live c) refl
  where
    by : (b : Bool) → is_live c ≡ b → IsQuiet c (when b (λ (d : Connection). record d { phase = p }) c)
    by true e = record { received = refl; parts = refl; live = λ k. e; early = early }
    by false e = record { received = refl; parts = refl; live = λ k. k; early = λ k. k }

heard-early : (now : ℕ) (p : Phase) → is_early (after_hearing_in p now) ≡ true → is_early p ≡ true
heard-early now (Greeting a) e = refl
heard-early now (Asked a) e = refl
heard-early now (Joined j) e = e
heard-early now (Parting a b) e = e

heard-live : (now : ℕ) (p : Phase) → is_parting (after_hearing_in p now) ≡ is_parting p
heard-live now (Greeting a) = refl
heard-live now (Asked a) = refl
heard-live now (Joined j) = refl
heard-live now (Parting a b) = refl

pub heard-quiet : (now : ℕ) (c : Connection) → IsQuiet c (was_heard now c)
heard-quiet now c = record { received = refl; parts = refl; live = λ e. live-as c.phase e; early = heard-early now c.phase }
  where
    live-as : (p : Phase) → not (is_parting (after_hearing_in p now)) ≡ true → not (is_parting p) ≡ true
    live-as p e = ap not (sym (heard-live now p)) ∙ e

-- ---- the answer to the greeting

hello-keeps : {P : Clipped} (i : IsKept P) (a : HelloAnswer) (accepted serial : ℕ) (s : State) → ((c : Connection) → with_serial serial s.connections ≡ Some c → is_early c.phase ≡ true) → On P s → On P (answer a accepted serial s)
hello-keeps i (Refused cause) accepted serial s early h = part-keeps i cause serial s h
hello-keeps i (Admitted screen) accepted serial s early h =
    let p : Phase = after_hello (Admitted screen) accepted (rate s) s.at in
    i.changed serial (advanced p) s.clips s.connections (advanced-serial p) (λ c e. advanced-quiet p c (λ k. early c e)) h

-- ---- a screen's information

join-keeps : {P : Clipped} (i : IsKept P) (asked : AskedScreen) (shape : Shape) (serial : ℕ) (s : State) → On P s → On P (join asked shape serial s)
join-keeps {P} i asked shape serial s h =
    let p : Phase = asked_after_info (Some shape) s.at asked in
    let before : State = clips_joined asked.screen s in
    let there : State = change serial (advanced p) before in
    route_each-keeps P Own (Client serial) (msg.InfoAck ∷ msg.ResetOptions ∷ msg.SetOptions (wire_options_of s.config asked.screen) ∷ []) (logs (Join serial (name_of s asked.screen) ∷ []) there)
    (i.changed serial (advanced p) before.clips s.connections (advanced-serial p) (λ c e. advanced-quiet p c (λ k. absurd (let x : ⊥ = cc in x))) (i.joined asked.screen s.clips s.connections h))

reshape-keeps : {P : Clipped} (i : IsKept P) (joined : JoinedScreen) (shape : Shape) (serial : ℕ) (s : State) → On P s → On P (reshape joined shape serial s)
reshape-keeps {P} i joined shape serial s h =
    let p : Phase = joined_after_info (Some shape) s.at joined in
    let there : State = change serial (advanced p) s in
    when-keeps (On P) (same_target s.active (Client serial)) (clamp_cursor shape) (λ t g. g) (route Own (Client serial) msg.InfoAck there)
    (i.changed serial (advanced p) s.clips s.connections (advanced-serial p) (λ c e. advanced-quiet p c (λ k. absurd (let x : ⊥ = cc in x))) h)

first_info-keeps : {P : Clipped} (i : IsKept P) (asked : AskedScreen) (o : Option Shape) (serial : ℕ) (s : State) → On P s → On P (hear_first_info asked o serial s)
first_info-keeps i asked None serial s h = part-keeps i cause.Size serial s h
first_info-keeps i asked (Some shape) serial s h = join-keeps i asked shape serial s h

later_info-keeps : {P : Clipped} (i : IsKept P) (joined : JoinedScreen) (o : Option Shape) (serial : ℕ) (s : State) → On P s → On P (hear_later_info joined o serial s)
later_info-keeps i joined None serial s h = part-keeps i cause.Size serial s h
later_info-keeps i joined (Some shape) serial s h = reshape-keeps i joined shape serial s h

-- ---- parts of clipboards

-- what a whole that a part ends makes known
abbrev pub Brings : Clipped → Part → ℕ → State → Type 0
Brings P p serial s =
    let there : State = change serial (with_part p) s in
    (bytes : List ℕ) → whole_at (clip_limit s) p (parts_from s serial) ≡ Some bytes → (is_sharing s && rules.whole_counts (screens.screen_of there (Client serial)) p.seq s.sequence (clip s p.clip)) ≡ true
    → Knows P p.clip (screens.screen_of there (Client serial)) p.seq bytes

pub hear_part-keeps : {P : Clipped} (i : IsKept P) (p : Part) (serial : ℕ) (s : State) → Brings P p serial s → On P (change serial (with_part p) s) → On P (hear_part p serial s)
hear_part-keeps {P} i p serial s brings h =
    let there : State = change serial (with_part p) s in
    for_some-keeps (On P) (whole_at (clip_limit s) p (parts_from s serial)) (λ bytes. whole p.clip serial p.seq bytes) unchanged there (λ bytes e. whole-keeps i p.clip serial p.seq bytes there (brings bytes e) h) h

-- ---- messages

-- what a part of a joined connection does
abbrev pub HearsPart : Clipped → ℕ → Msg → State → Type 0
HearsPart P serial m s = (p : Part) (j : JoinedScreen) → part_of m ≡ Some p → phase_of s serial ≡ Some (Joined j) → On P (change serial (was_heard s.at) s) → On P (hear_part p serial (change serial (was_heard s.at) s))

greeting-keeps : {P : Clipped} (i : IsKept P) (accepted : ℕ) (m : Msg) (serial : ℕ) (s : State) → ((c : Connection) → with_serial serial s.connections ≡ Some c → is_early c.phase ≡ true) → On P s → On P (hear_greeting accepted m serial s)
greeting-keeps i accepted (msg.HelloBack major minor name) serial s early h = hello-keeps i (hello_answer major minor (screen_of s.config name) (is_used s)) accepted serial s early h
greeting-keeps i accepted m serial s early h = h

asked-keeps : {P : Clipped} (i : IsKept P) (asked : AskedScreen) (m : Msg) (serial : ℕ) (s : State) → On P s → On P (hear_asked asked m serial s)
asked-keeps i asked (msg.Info x y w h warp mx my) serial s g = first_info-keeps i asked (shape_of_info x y w h) serial s g
asked-keeps i asked m serial s g = g

joined-keeps : {P : Clipped} (i : IsKept P) (joined : JoinedScreen) (m : Msg) (serial : ℕ) (s : State) → ((p : Part) → part_of m ≡ Some p → On P s → On P (hear_part p serial s)) → On P s → On P (hear_joined joined m serial s)
joined-keeps i joined (msg.Info x y w h warp mx my) serial s k g = later_info-keeps i joined (shape_of_info x y w h) serial s g
joined-keeps i joined (msg.Grab clip seq) serial s k g = grab-keeps i clip serial seq s g
joined-keeps i joined (msg.ClipPart clip seq mark bytes) serial s k g = k (part mark clip seq bytes) refl g
joined-keeps i joined m serial s k g = g

hear_in-keeps : {P : Clipped} (i : IsKept P) (o : Option Phase) (m : Msg) (serial : ℕ) (s : State) → phase_of s serial ≡ o → HearsPart P serial m s → On P s → On P (hear_in o m serial s)
hear_in-keeps i None m serial s e k h = h
hear_in-keeps i (Some (Greeting accepted)) m serial s e k h = greeting-keeps i accepted m serial s (λ c f. ap is_early (found-phase serial s (Greeting accepted) e c f)) h
hear_in-keeps i (Some (Asked asked)) m serial s e k h = asked-keeps i asked m serial s h
hear_in-keeps i (Some (Joined joined)) m serial s e k h = joined-keeps i joined m serial (change serial (was_heard s.at) s) (λ p is. k p joined is e) (i.changed serial (was_heard s.at) s.clips s.connections (λ c. refl) (λ c f. heard-quiet s.at c) h)
hear_in-keeps i (Some (Parting cause moment)) m serial s e k h = h

pub hear-keeps : {P : Clipped} (i : IsKept P) (serial : ℕ) (m : Msg) (s : State) → HearsPart P serial m s → On P s → On P (hear serial m s)
hear-keeps i serial m s k h = part_slow-keeps i (hear_in (phase_of s serial) m serial s) (hear_in-keeps i (phase_of s serial) m serial s refl k h)

-- ---- other happenings

pub accept-keeps : {P : Clipped} (i : IsKept P) (serial : ℕ) (s : State) → On P (opened serial s) → On P (accept serial s)
accept-keeps {P} i serial s h = choose-keeps (On P) (nat_le most_open (length s.connections)) (part_for cause.Full serial) (greet serial) (opened serial s) (λ e. part-keeps i cause.Full serial (opened serial s) h) (λ e. h)

pub judge-keeps : {P : Clipped} (i : IsKept P) (serial : ℕ) (box : Inbox) (s : State) → On P s → On P (judge serial box s)
judge-keeps {P} i serial box s h = for_some-keeps (On P) box.bad (λ why. when (lives s serial) (λ t. part_slow (part_for (cause.Bad box.place why) serial t))) unchanged s (λ why e. when-keeps-if (On P) (lives s serial) (λ t. part_slow (part_for (cause.Bad box.place why) serial t)) s (λ f. part_slow-keeps i (part_for (cause.Bad box.place why) serial s) (part-keeps i (cause.Bad box.place why) serial s h)) h) h

same-quiet : (c d : Connection) → d.received ≡ c.received → d.parts ≡ c.parts → d.phase ≡ c.phase → IsQuiet c d
same-quiet c d r p f = record { received = r; parts = p; live = λ e. sym (ap (λ (x : Phase). not (is_parting x)) f) ∙ e; early = λ e. sym (ap is_early f) ∙ e }

pub breaks-keeps : {P : Clipped} (i : IsKept P) (why : PartCause) (serial : ℕ) (s : State) → On P s → On P (breaks why serial s)
breaks-keeps {P} i why serial s h = part_slow-keeps i (choose (lives s serial) (part_for why serial) (change serial drops) s) (choose-keeps (On P) (lives s serial) (part_for why serial) (change serial drops) s (λ e. part-keeps i why serial s h) (λ e. i.changed serial drops s.clips s.connections (λ c. refl) (λ c f. same-quiet c (drops c) refl refl refl) h))

pub takes-keeps : {P : Clipped} (i : IsKept P) (serial count : ℕ) (s : State) → On P s → On P (change serial (takes count) s)
takes-keeps i serial count s h = i.changed serial (takes count) s.clips s.connections (λ c. refl) (λ c f. same-quiet c (takes count c) refl refl refl) h
