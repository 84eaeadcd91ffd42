-- Messages of clients keep every invariant.
use Rattle.std.specs.Prelude.{◌≡◌, refl, ℕ, Bool, true, false, not, ◌∷◌, [], Option, Some, None}
use Rattle.std.proofs.Common.{sym, ap, ◌∙◌, inr}
use Rattle.share_base.specs.declared.shape.Shape.{Shape}
use Rattle.message_codec.specs.declared.messages.Msg.{Msg}
use Rattle.message_codec.specs.declared.messages.Msg.TheVariants as msg
use Rattle.screen_config.specs.Configurations.{screen_of}
use Rattle.screen_config.specs.Globals.{wire_options_of}
use Rattle.hello_states.specs.declared.part_cause.PartCause.TheVariants as cause
use Rattle.hello_states.specs.Phases.{Phase, Greeting, Asked, Joined, Parting, AskedScreen, JoinedScreen, is_parting, after_hearing_in}
use Rattle.hello_states.specs.Handshake.{HelloAnswer, Refused, Admitted, hello_answer, after_hello, shape_of_info, asked_after_info, joined_after_info}
use Rattle.clip_chunks.specs.Parts.{Part, part}
use Rattle.clip_chunks.specs.OpenRuns.{whole_at}
use Rattle.machine.specs.Targets.{Client, Own, Origin, same_target}
use Rattle.machine.specs.Connections.{Connection, is_live, advanced}
use Rattle.machine.specs.States.{State, Join}
use Rattle.machine.specs.Combining.{when, unchanged}
use Rattle.machine.specs.Screens.{phase_of, change}
use Rattle.machine.specs.Routing.{route, logs}
use Rattle.machine.specs.Clipboards.{clips_joined, clip_limit, whole}
use Rattle.machine.specs.Hello.{rate, is_used, answer}
use Rattle.machine.specs.Information.{name_of, join, clamp_cursor, reshape, hear_first_info, hear_later_info}
use Rattle.machine.specs.Hearing.{with_part, parts_from, hear_part, hear_greeting, hear_asked, hear_joined, was_heard, hear_in, hear}
use Rattle.machine.proofs.Rules.{when-keeps, for_some-keeps}
use Rattle.machine.proofs.Live.{IsLive, IsTame, KeepsTaken, PartsNone, IsSteady, steady-tame, steady-live, phase-live}
use Rattle.machine.proofs.Invariant.{View, On, IsInvariant}
use Rattle.machine.proofs.KeepClipboards.{route_each-keeps, grab-keeps, whole-keeps}
use Rattle.machine.proofs.KeepPartings.{part-keeps, part_slow-keeps}

-- ---- phases

-- who lives goes into another phase, and who is parting stays so
pub advanced-tame : (phase : Phase) → IsTame (advanced phase)
advanced-tame phase c = by (is_live c) refl
  where
    by : (b : Bool) → is_live c ≡ b → ((when b (λ (d : Connection). record d { phase = phase }) c).serial ≡ c.serial) × (is_live (when b (λ (d : Connection). record d { phase = phase }) c) ≡ true → is_live c ≡ true)
    by true e = (refl, λ h. e)
    by false e = (refl, λ h. h)

pub advanced-taken : (phase : Phase) → KeepsTaken (advanced phase)
advanced-taken phase c = by (is_live c)
  where
    by : (b : Bool) → (when b (λ (d : Connection). record d { phase = phase }) c).taken ≡ c.taken
    by true = refl
    by false = refl

-- into one that lives
pub advanced-steady : (phase : Phase) → is_parting phase ≡ false → IsSteady (advanced phase)
advanced-steady phase p c = by (is_live c) refl
  where
    by : (b : Bool) → is_live c ≡ b → ((when b (λ (d : Connection). record d { phase = phase }) c).serial ≡ c.serial) × (is_live (when b (λ (d : Connection). record d { phase = phase }) c) ≡ is_live c)
    by true e = (refl, ap not p ∙ sym e)
    by false e = (refl, refl)

advanced-parts : (phase : Phase) → is_parting phase ≡ false → PartsNone (advanced phase)
advanced-parts phase p c = (dropped (is_live c), λ on. (advanced-steady phase p c).1 ∙ on, still (is_live c))
  where
    dropped : (b : Bool) → (when b (λ (d : Connection). record d { phase = phase }) c).is_dropped ≡ c.is_dropped
    dropped true = refl
    dropped false = refl

    still : (b : Bool) → b ≡ false → (when b (λ (d : Connection). record d { phase = phase }) c).phase ≡ c.phase
    still true e = absurd cc
    still false e = refl

heard_parting : (now : ℕ) (phase : Phase) → is_parting (after_hearing_in phase now) ≡ is_parting phase
heard_parting now (Greeting a) = refl
heard_parting now (Asked a) = refl
heard_parting now (Joined a) = refl
heard_parting now (Parting a b) = refl

pub heard-steady : (now : ℕ) → IsSteady (was_heard now)
heard-steady now c = (refl, ap not (heard_parting now c.phase))

heard_phase : (now : ℕ) (phase : Phase) → not (is_parting phase) ≡ false → after_hearing_in phase now ≡ phase
heard_phase now (Greeting a) off = cc
heard_phase now (Asked a) off = cc
heard_phase now (Joined a) off = cc
heard_phase now (Parting a b) off = refl

heard-parts : (now : ℕ) → PartsNone (was_heard now)
heard-parts now c = (refl, λ on. (heard-steady now c).1 ∙ on, heard_phase now c.phase)

pub with_part-steady : (p : Part) → IsSteady (with_part p)
with_part-steady p c = (refl, refl)

-- ---- the answer to the greeting

hello-keeps : {key : ℕ → Bool} {allowed : Origin → Bool} {P : View → Type 0} (i : IsInvariant key allowed P) (a : HelloAnswer) (accepted serial : ℕ) (s : State) → IsLive s.connections (Client serial) → On P s → On P (answer a accepted serial s)
hello-keeps i (Refused cause) accepted serial s on h = part-keeps i cause serial s on h
hello-keeps i (Admitted screen) accepted serial s on h =
    let phase : Phase = after_hello (Admitted screen) accepted (rate s) s.at in
    i.changed serial (advanced phase) (advanced-tame phase) (advanced-taken phase) (advanced-parts phase refl) (route Own (Client serial) msg.QueryInfo s) (i.plain Own i.own (Client serial) msg.QueryInfo refl s (inr on) h)

-- ---- a screen's information

join-keeps : {key : ℕ → Bool} {allowed : Origin → Bool} {P : View → Type 0} (i : IsInvariant key allowed P) (asked : AskedScreen) (shape : Shape) (serial : ℕ) (s : State) → IsLive s.connections (Client serial) → On P s → On P (join asked shape serial s)
join-keeps i asked shape serial s on h =
    let phase : Phase = asked_after_info (Some shape) s.at asked in
    let before : State = clips_joined asked.screen s in
    let there : State = logs (Join serial (name_of s asked.screen) ∷ []) (change serial (advanced phase) before) in
    route_each-keeps i Own i.own (Client serial) (msg.InfoAck ∷ msg.ResetOptions ∷ msg.SetOptions (wire_options_of s.config asked.screen) ∷ []) refl there (inr (steady-live serial (advanced phase) (advanced-steady phase refl) s.connections (Client serial) on)) (i.logged (Join serial (name_of s asked.screen) ∷ []) (change serial (advanced phase) before) (i.changed serial (advanced phase) (advanced-tame phase) (advanced-taken phase) (advanced-parts phase refl) before h))

reshape-keeps : {key : ℕ → Bool} {allowed : Origin → Bool} {P : View → Type 0} (i : IsInvariant key allowed P) (joined : JoinedScreen) (shape : Shape) (serial : ℕ) (s : State) → IsLive s.connections (Client serial) → On P s → On P (reshape joined shape serial s)
reshape-keeps {P = P} i joined shape serial s on h =
    let phase : Phase = joined_after_info (Some shape) s.at joined in
    let there : State = change serial (advanced phase) s in
    let after : On P (route Own (Client serial) msg.InfoAck there) = i.plain Own i.own (Client serial) msg.InfoAck refl there (inr (steady-live serial (advanced phase) (advanced-steady phase refl) s.connections (Client serial) on)) (i.changed serial (advanced phase) (advanced-tame phase) (advanced-taken phase) (advanced-parts phase refl) s h) in
    when-keeps (On P) (same_target s.active (Client serial)) (clamp_cursor shape) (λ t k. k) (route Own (Client serial) msg.InfoAck there) after

first_info-keeps : {key : ℕ → Bool} {allowed : Origin → Bool} {P : View → Type 0} (i : IsInvariant key allowed P) (asked : AskedScreen) (o : Option Shape) (serial : ℕ) (s : State) → IsLive s.connections (Client serial) → On P s → On P (hear_first_info asked o serial s)
first_info-keeps i asked None serial s on h = part-keeps i cause.Size serial s on h
first_info-keeps i asked (Some shape) serial s on h = join-keeps i asked shape serial s on h

later_info-keeps : {key : ℕ → Bool} {allowed : Origin → Bool} {P : View → Type 0} (i : IsInvariant key allowed P) (joined : JoinedScreen) (o : Option Shape) (serial : ℕ) (s : State) → IsLive s.connections (Client serial) → On P s → On P (hear_later_info joined o serial s)
later_info-keeps i joined None serial s on h = part-keeps i cause.Size serial s on h
later_info-keeps i joined (Some shape) serial s on h = reshape-keeps i joined shape serial s on h

-- ---- parts of clipboards

hear_part-keeps : {key : ℕ → Bool} {allowed : Origin → Bool} {P : View → Type 0} (i : IsInvariant key allowed P) (p : Part) (serial : ℕ) (s : State) → On P s → On P (hear_part p serial s)
hear_part-keeps {P = P} i p serial s h =
    let there : State = change serial (with_part p) s in
    let after : On P there = i.changed serial (with_part p) (steady-tame (with_part p) (with_part-steady p)) (λ c. refl) (λ c. (refl, λ on. on, λ off. refl)) s h in
    for_some-keeps (On P) (whole_at (clip_limit s) p (parts_from s serial)) (λ bytes. whole p.clip serial p.seq bytes) unchanged there (λ bytes e. whole-keeps i p.clip serial p.seq bytes there after) after

-- ---- messages

greeting-keeps : {key : ℕ → Bool} {allowed : Origin → Bool} {P : View → Type 0} (i : IsInvariant key allowed P) (accepted : ℕ) (m : Msg) (serial : ℕ) (s : State) → IsLive s.connections (Client serial) → On P s → On P (hear_greeting accepted m serial s)
greeting-keeps i accepted (msg.HelloBack major minor name) serial s on h = hello-keeps i (hello_answer major minor (screen_of s.config name) (is_used s)) accepted serial s on h
greeting-keeps i accepted m serial s on h = h

asked-keeps : {key : ℕ → Bool} {allowed : Origin → Bool} {P : View → Type 0} (i : IsInvariant key allowed P) (asked : AskedScreen) (m : Msg) (serial : ℕ) (s : State) → IsLive s.connections (Client serial) → On P s → On P (hear_asked asked m serial s)
asked-keeps i asked (msg.Info x y w h warp mx my) serial s on k = first_info-keeps i asked (shape_of_info x y w h) serial s on k
asked-keeps i asked m serial s on k = k

joined-keeps : {key : ℕ → Bool} {allowed : Origin → Bool} {P : View → Type 0} (i : IsInvariant key allowed P) (joined : JoinedScreen) (m : Msg) (serial : ℕ) (s : State) → IsLive s.connections (Client serial) → On P s → On P (hear_joined joined m serial s)
joined-keeps i joined (msg.Info x y w h warp mx my) serial s on k = later_info-keeps i joined (shape_of_info x y w h) serial s on k
joined-keeps i joined (msg.Grab clip seq) serial s on k = grab-keeps i clip serial seq s k
joined-keeps i joined (msg.ClipPart clip seq mark bytes) serial s on k = hear_part-keeps i (part mark clip seq bytes) serial s k
joined-keeps i joined m serial s on k = k

pub hear-keeps : {key : ℕ → Bool} {allowed : Origin → Bool} {P : View → Type 0} (i : IsInvariant key allowed P) (serial : ℕ) (m : Msg) (s : State) → On P s → On P (hear serial m s)
hear-keeps {P = P} i serial m s h = part_slow-keeps i (hear_in (phase_of s serial) m serial s) (by (phase_of s serial) refl)
  where
    by : (o : Option Phase) → phase_of s serial ≡ o → On P (hear_in o m serial s)
    by None e = h
    by (Some (Greeting accepted)) e = greeting-keeps i accepted m serial s (phase-live serial s (Greeting accepted) e refl) h
    by (Some (Asked asked)) e = asked-keeps i asked m serial s (phase-live serial s (Asked asked) e refl) h
    by (Some (Joined joined)) e =
        let heard = was_heard s.at in
        joined-keeps i joined m serial (change serial heard s) (steady-live serial heard (heard-steady s.at) s.connections (Client serial) (phase-live serial s (Joined joined) e refl)) (i.changed serial heard (steady-tame heard (heard-steady s.at)) (λ c. refl) (heard-parts s.at) s h)
    by (Some (Parting cause moment)) e = h
