-- Properties of the clipboards and the connections that the rules of the machine keep. The bytes of a clipboard become
-- known by a copy or by a whole alone, and each of these has a premise for that.
use Rattle.std.specs.Prelude.{◌≡◌, ℕ, Bool, true, false, ◌&&◌, List, [], ◌∷◌, map, Some}
use Rattle.share_base.specs.declared.clip_id.ClipId.{ClipId}
use Rattle.share_base.specs.declared.clip_id.ClipId.TheVariants.{Clipboard, Selection}
use Rattle.message_codec.specs.declared.messages.Msg.{Msg}
use Rattle.message_codec.specs.declared.messages.Msg.TheVariants as msg
use Rattle.hello_states.specs.Phases.{Phase, Greeting, Asked}
use Rattle.clip_chunks.specs.Parts.{message_of}
use Rattle.clip_chunks.specs.Sending.{parts_of}
use Rattle.clip_chunks.specs.Clips.{Clips, clip_of, with_clip}
use Rattle.clip_chunks.specs.Rules as rules
use Rattle.machine.specs.Targets.{Target, Primary, Client, Own, Origin}
use Rattle.machine.specs.Connections.{Connection, with_serial, changed, is_live}
use Rattle.machine.specs.States.{State}
use Rattle.machine.specs.Combining.{unchanged}
use Rattle.machine.specs.Screens.{screen_of, joined_screens, joined_clients}
use Rattle.machine.specs.Routing.{route, route_all, route_each}
use Rattle.machine.specs.Clipboards.{clip, set_clip, is_sharing, clip_limit, give, refresh, refresh_both, become_known, publish, copy, all_but, take_over, grab, whole}
use Rattle.machine.proofs.Rules.{when-keeps-if, for_some-keeps}
use Rattle.clip_origins.proofs.Found.{SameSerial}

-- a phase before a screen is joined
abbrev pub is_early : Phase → Bool
is_early (Greeting accepted) = true
is_early (Asked asked) = true
is_early _ = false

-- it keeps its bytes and its parts; it lived where it lives, and was early where it is
pub record IsQuiet (was now : Connection) : Type 0 where
  pub received : now.received ≡ was.received
  pub parts : now.parts ≡ was.parts
  pub live : is_live now ≡ true → is_live was ≡ true
  pub early : is_early now.phase ≡ true → is_early was.phase ≡ true

abbrev pub Clipped : Type 1
Clipped = Clips → List Connection → Type 0

abbrev pub On : Clipped → State → Type 0
On P s = P s.clips s.connections

-- clipboards that are forgotten, and changes of screens and connections, keep it
pub record IsKept (P : Clipped) : Type 0 where
  pub entered : (id : ClipId) (screen : ℕ) (c : Clips) (cs : List Connection) → P c cs → P (with_clip id (rules.entered screen (clip_of id c)) c) cs
  pub unknown : (id : ClipId) (owner seq : ℕ) (c : Clips) (cs : List Connection) → P c cs → P (with_clip id (rules.unknown owner seq) c) cs
  pub joined : (screen : ℕ) (c : Clips) (cs : List Connection) → P c cs → P (record { clipboard = rules.joined screen c.clipboard; selection = rules.joined screen c.selection }) cs
  pub left : (primary screen : ℕ) (c : Clips) (cs : List Connection) → P c cs → P (record { clipboard = rules.left primary screen c.clipboard; selection = rules.left primary screen c.selection }) cs
  pub changed : (serial : ℕ) (f : Connection → Connection) (c : Clips) (cs : List Connection) → SameSerial f → ((k : Connection) → with_serial serial cs ≡ Some k → IsQuiet k (f k)) → P c cs → P c (changed serial f cs)

-- bytes that become known keep it
abbrev pub Knows : Clipped → ClipId → ℕ → ℕ → List ℕ → Type 0
Knows P id owner seq bytes = (screens : List ℕ) (c : Clips) (cs : List Connection) → P c cs → P (with_clip id (rules.known owner seq bytes screens) c) cs

-- ---- telling

pub route_all-keeps : (P : Clipped) (o : Origin) (ts : List Target) (m : Msg) (s : State) → On P s → On P (route_all o ts m s)
route_all-keeps P o [] m s h = h
route_all-keeps P o (t ∷ ts) m s h = route_all-keeps P o ts m (route o t m s) h

pub route_each-keeps : (P : Clipped) (o : Origin) (t : Target) (ms : List Msg) (s : State) → On P s → On P (route_each o t ms s)
route_each-keeps P o t [] s h = h
route_each-keeps P o t (m ∷ ms) s h = route_each-keeps P o t ms (route o t m s) h

give-keeps : (P : Clipped) (id : ClipId) (bytes : List ℕ) (t : Target) (s : State) → On P s → On P (give id bytes t s)
give-keeps P id bytes Primary s h = h
give-keeps P id bytes (Client n) s h = route_each-keeps P Own (Client n) (map message_of (parts_of id 0 bytes)) s h

refresh-keeps : {P : Clipped} (i : IsKept P) (id : ClipId) (s : State) → On P s → On P (refresh id s)
refresh-keeps {P} i id s h =
    for_some-keeps (On P) (rules.given (screen_of s s.active) (clip s id)) (λ bytes t. give id bytes t.active (set_clip id (rules.entered (screen_of t t.active) (clip t id)) t)) unchanged s
    (λ bytes e. give-keeps P id bytes s.active (set_clip id (rules.entered (screen_of s s.active) (clip s id)) s) (i.entered id (screen_of s s.active) s.clips s.connections h)) h

pub refresh_both-keeps : {P : Clipped} (i : IsKept P) (s : State) → On P s → On P (refresh_both s)
refresh_both-keeps i s h = refresh-keeps i Selection (refresh Clipboard s) (refresh-keeps i Clipboard s h)

-- ---- what becomes known

become_known-keeps : {P : Clipped} (i : IsKept P) (id : ClipId) (owner seq : ℕ) (bytes : List ℕ) (s : State) → Knows P id owner seq bytes → On P s → On P (become_known id owner seq bytes s)
become_known-keeps i id owner seq bytes s k h = refresh-keeps i id (set_clip id (rules.known owner seq bytes (joined_screens s)) s) (k (joined_screens s) s.clips s.connections h)

pub copy-keeps : {P : Clipped} (i : IsKept P) (id : ClipId) (bytes : List ℕ) (s : State) → ((is_sharing s && rules.copy_counts (clip_limit s) bytes) ≡ true → Knows P id s.primary s.sequence bytes) → On P s → On P (copy id bytes s)
copy-keeps {P} i id bytes s k h = when-keeps-if (On P) (is_sharing s && rules.copy_counts (clip_limit s) bytes) (publish id bytes) s (λ e.
    become_known-keeps i id s.primary s.sequence bytes (route_all Own (joined_clients s) (msg.Grab id 0) s) (k e) (route_all-keeps P Own (joined_clients s) (msg.Grab id 0) s h)) h

pub grab-keeps : {P : Clipped} (i : IsKept P) (id : ClipId) (serial seq : ℕ) (s : State) → On P s → On P (grab id serial seq s)
grab-keeps {P} i id serial seq s h = when-keeps-if (On P) (is_sharing s && rules.grab_counts seq s.sequence (clip s id)) (take_over id serial seq) s (λ e.
    route_all-keeps P Own (all_but serial s) (msg.Grab id 0) (set_clip id (rules.unknown (screen_of s (Client serial)) seq) s) (i.unknown id (screen_of s (Client serial)) seq s.clips s.connections h)) h

pub whole-keeps : {P : Clipped} (i : IsKept P) (id : ClipId) (serial seq : ℕ) (bytes : List ℕ) (s : State) → ((is_sharing s && rules.whole_counts (screen_of s (Client serial)) seq s.sequence (clip s id)) ≡ true → Knows P id (screen_of s (Client serial)) seq bytes) → On P s → On P (whole id serial seq bytes s)
whole-keeps {P} i id serial seq bytes s k h =
    let counts : Bool = rules.whole_counts (screen_of s (Client serial)) seq s.sequence (clip s id) in
    when-keeps-if (On P) (is_sharing s && counts) (become_known id (screen_of s (Client serial)) seq bytes) s (λ e.
    become_known-keeps i id (screen_of s (Client serial)) seq bytes s (k e) h) h
