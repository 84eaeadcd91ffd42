-- States in which all that may be told can be written.
use Rattle.std.specs.Prelude.{◌≡◌, refl, ℕ, ◌≤◌, ◌==◌, ℤ, pos, negsuc, ◌+ℤ◌, ◌≤ℤ◌, int_le, Bool, true, false, cond, ◌&&◌, nat_le, FitsSigned, List, [], ◌∷◌, ◌++◌, length, Option, Some, None, unwrap_or, if◌then◌else◌}
use Rattle.std.specs.Int.{w16}
use Rattle.std.specs.List.{find, AllByRecursion}
use Rattle.std.specs.Option.{option_map, option_and_then}
use Rattle.std.proofs.Common.{arith, ap, sym, subst, ◌∙◌, leb-true}
use Rattle.std.proofs.lemmas.Bool.{and_parts}
use Rattle.std.proofs.lemmas.Int.{ints}
use Rattle.share_base.specs.declared.clip_id.ClipId.{ClipId}
use Rattle.share_base.specs.declared.clip_id.ClipId.TheVariants.{Clipboard, Selection}
use Rattle.share_base.specs.declared.shape.Shape.{Shape}
use Rattle.share_base.specs.Shapes.{IsScreenShape}
use Rattle.message_codec.specs.declared.messages.Msg.{Msg}
use Rattle.message_codec.specs.declared.messages.Msg.TheVariants as msg
use Rattle.message_codec.specs.Fields.{Fits}
use Rattle.message_codec.specs.Table.{fields}
use Rattle.message_codec.specs.Streams.{AreBytes, Reader, AllGood}
use Rattle.message_codec.specs.Verdicts.{Verdict}
use Rattle.message_codec.proofs.Readers.{all-IsBytes}
use Rattle.message_codec.proofs.HasVerdict.{each_has_a_verdict}
use Rattle.message_codec.proofs.InboxVerdicts.{inbox-verdict}
use Rattle.message_reader.specs.Roles.{server}
use Rattle.message_reader.proofs.Stepping.{bytes-append}
use Rattle.hello_states.specs.Phases.{Phase, Greeting, Asked, Joined, Parting, joined_shape, AskedScreen, JoinedScreen, after_hearing_in, after_beat_in}
use Rattle.hello_states.specs.Handshake.{is_span, shape_of_info, Admitted, after_hello, asked_after_info, joined_after_info}
use Rattle.clip_chunks.specs.Clips.{Clip, Clips, clip_of, with_clip, is_dirty}
use Rattle.clip_chunks.specs.Parts.{Part}
use Rattle.clip_chunks.specs.Rules as rules
use Rattle.screen_config.specs.Configurations.{Configuration}
use Rattle.screen_config.specs.Sound.{IsSound}
use Rattle.machine.specs.Scripts.{Line}
use Rattle.machine.specs.Targets.{Target, Primary, Client, Entry}
use Rattle.machine.specs.Connections.{Connection, has_serial, is_live, advanced, changed}
use Rattle.machine.specs.States.{State}
use Rattle.machine.specs.Combining.{when}
use Rattle.machine.specs.Screens.{connection, shape_of}
use Rattle.machine.specs.Hearing.{parts_from, was_heard}
use Rattle.machine.specs.Timers.{sent_beat}
use Rattle.machine.specs.Steps.{inbox_of, received_by}
use Rattle.modifier_map.specs.Presses as presses
use Rattle.both_ends.specs.Numbers.{IsOfTypes}
use Rattle.both_ends.specs.Writing.{HasByteText, IsWritable}
use Rattle.both_ends.proofs.ByteBodies.{frames-texts}
use Rattle.both_ends.proofs.SmallNumbers.{IsSmallPress}

-- ---- connections

abbrev pub IsBytePart : Part → Type 0
IsBytePart p = AreBytes p.bytes

-- its shape, where it is joined, is a screen's, and what it received are bytes, as the parts of clipboards
pub record IsSmallConnection (c : Connection) : Type 0 where
  pub shape : (shape : Shape) → joined_shape c.phase ≡ Some shape → IsScreenShape shape
  pub bytes : AreBytes c.received
  pub parts : AllByRecursion IsBytePart c.parts

abbrev pub KeepsSmall : (Connection → Connection) → Type 0
KeepsSmall f = (c : Connection) → IsSmallConnection c → IsSmallConnection (f c)

pub all-changed : (serial : ℕ) (f : Connection → Connection) → KeepsSmall f → (cs : List Connection) → AllByRecursion IsSmallConnection cs → AllByRecursion IsSmallConnection (changed serial f cs)
all-changed serial f keeps [] h = tt
all-changed serial f keeps (c ∷ cs) h = (at (has_serial serial c), all-changed serial f keeps cs h.1)
  where
    at : (b : Bool) → IsSmallConnection (when b f c)
    at true = keeps c h.0
    at false = h.0

found_small : (test : Connection → Bool) (cs : List Connection) (c : Connection) → AllByRecursion IsSmallConnection cs → find test cs ≡ Some c → IsSmallConnection c
found_small test [] c h e = grind (arith, e)
found_small test (d ∷ cs) c h e = by (test d) e (found_small test cs c h.1)
  where
    by : (b : Bool) → cond b (Some d) (find test cs) ≡ Some c → (find test cs ≡ Some c → IsSmallConnection c) → IsSmallConnection c
    by true e later = subst IsSmallConnection (ap (λ (o : Option Connection). unwrap_or o d) e) h.0
    by false e later = later e

-- ---- phases

heard_shape : (now : ℕ) (phase : Phase) → joined_shape (after_hearing_in phase now) ≡ joined_shape phase
heard_shape now (Greeting a) = refl
heard_shape now (Asked a) = refl
heard_shape now (Joined a) = refl
heard_shape now (Parting a b) = refl

beat_shape : (now : ℕ) (phase : Phase) → joined_shape (after_beat_in phase now) ≡ joined_shape phase
beat_shape now (Greeting a) = refl
beat_shape now (Asked a) = refl
beat_shape now (Joined a) = refl
beat_shape now (Parting a b) = refl

pub heard-small : (now : ℕ) → KeepsSmall (was_heard now)
heard-small now c h = record { shape = λ shape e. h.shape shape (sym (heard_shape now c.phase) ∙ e); bytes = h.bytes; parts = h.parts }

pub beat-small : (now : ℕ) → KeepsSmall (sent_beat now)
beat-small now c h = record { shape = λ shape e. h.shape shape (sym (beat_shape now c.phase) ∙ e); bytes = h.bytes; parts = h.parts }

pub advanced-small : (phase : Phase) → ((shape : Shape) → joined_shape phase ≡ Some shape → IsScreenShape shape) → KeepsSmall (advanced phase)
advanced-small phase is c h = by (is_live c)
  where
    by : (b : Bool) → IsSmallConnection (when b (λ (d : Connection). record d { phase = phase }) c)
    by true = record { shape = is; bytes = h.bytes; parts = h.parts }
    by false = h

the_shape : (shape other : Shape) → Some shape ≡ Some other → IsScreenShape shape → IsScreenShape other
the_shape shape other e is = subst IsScreenShape (ap (λ (o : Option Shape). unwrap_or o shape) e) is

no_shape : (other : Shape) → None ≡ Some other → IsScreenShape other
no_shape other e = grind (arith, e)

pub asks-small : (screen accepted rate now : ℕ) → KeepsSmall (advanced (after_hello (Admitted screen) accepted rate now))
asks-small screen accepted rate now = advanced-small (after_hello (Admitted screen) accepted rate now) no_shape

pub joins-small : (shape : Shape) (now : ℕ) (asked : AskedScreen) → IsScreenShape shape → KeepsSmall (advanced (asked_after_info (Some shape) now asked))
joins-small shape now asked is = advanced-small (asked_after_info (Some shape) now asked) (λ other e. the_shape shape other e is)

pub reshapes-small : (shape : Shape) (now : ℕ) (joined : JoinedScreen) → IsScreenShape shape → KeepsSmall (advanced (joined_after_info (Some shape) now joined))
reshapes-small shape now joined is = advanced-small (joined_after_info (Some shape) now joined) (λ other e. the_shape shape other e is)

-- ---- a screen's information

span_parts : (x : ℤ) (w : ℕ) → is_span x w ≡ true → (1 ≤ w) × (w ≤ 32767) × ((x +ℤ pos w) ≤ℤ pos 32768)
span_parts x w h =
    let sides = and_parts (nat_le 1 w && nat_le w 32767) (int_le (x +ℤ pos w) (pos 32768)) h in
    let lengths = and_parts (nat_le 1 w) (nat_le w 32767) sides.0 in
    (leb-true 1 w lengths.0, leb-true w 32767 lengths.1, grind (arith, ints, sides.1))

low_side : (x : ℤ) → FitsSigned w16 x → negsuc 32767 ≤ℤ x
low_side x h = omega (arith, ints)

shape_small : (x y : ℤ) (w h : ℕ) → FitsSigned w16 x → FitsSigned w16 y → is_span x w ≡ true → is_span y h ≡ true → IsScreenShape (record { x = x; y = y; w = pos w; h = pos h })
shape_small x y w h fx fy sx sy =
    let a = span_parts x w sx in
    let b = span_parts y h sy in
    let aw : 1 ≤ w = a.0 in
    let aw2 : w ≤ 32767 = a.1 in
    let bh : 1 ≤ h = b.0 in
    let bh2 : h ≤ 32767 = b.1 in
    record {
      wide = omega (arith, ints);
      width = omega (arith, ints);
      high = omega (arith, ints);
      height = omega (arith, ints);
      first_column = low_side x fx;
      first_row = low_side y fy;
      columns = a.2;
      rows = b.2;
    }

abbrev pub IsHeard : Msg → Type 0
IsHeard m = AllByRecursion Fits (fields m) × AllByRecursion HasByteText (fields m)

pub informed-small : (x y : ℤ) (w h warp : ℕ) (mx my : ℤ) (shape : Shape) → IsHeard (msg.Info x y w h warp mx my) → shape_of_info x y w h ≡ Some shape → IsScreenShape shape
informed-small x y w h warp mx my shape fits e = by (is_span x w && is_span y h) refl e
  where
    by : (b : Bool) → (is_span x w && is_span y h) ≡ b → (if b then Some (record { x = x; y = y; w = pos w; h = pos h }) else None) ≡ Some shape → IsScreenShape shape
    by true t e = let parts = and_parts (is_span x w) (is_span y h) t in the_shape (record { x = x; y = y; w = pos w; h = pos h }) shape e (shape_small x y w h fits.0.0 fits.0.1.0 parts.0 parts.1)
    by false t e = no_shape shape e

-- ---- clipboards

-- bytes, and no longer than any limit of clipboards
pub record IsShort (bytes : List ℕ) : Type 0 where
  pub short : length bytes ≤ 4194304
  pub are : AreBytes bytes

abbrev pub IsSmallClip : Clip → Type 0
IsSmallClip c = (bytes : List ℕ) → c.bytes ≡ Some bytes → IsShort bytes

pub known-small : (owner seq : ℕ) (bytes screens : List ℕ) → IsShort bytes → IsSmallClip (rules.known owner seq bytes screens)
known-small owner seq bytes screens h other e = subst IsShort (ap (λ (o : Option (List ℕ)). unwrap_or o bytes) e) h

pub unknown-small : (owner seq : ℕ) → IsSmallClip (rules.unknown owner seq)
unknown-small owner seq other e = grind (arith, e)

pub joined-small : (screen : ℕ) (c : Clip) → IsSmallClip c → IsSmallClip (rules.joined screen c)
joined-small screen c h = by c.bytes
  where
    by : (o : Option (List ℕ)) → IsSmallClip (rules.dirtied screen o c)
    by None = h
    by (Some bytes) = h

pub left-small : (primary screen : ℕ) (c : Clip) → IsSmallClip c → IsSmallClip (rules.left primary screen c)
left-small primary screen c h = by (c.owner == screen)
  where
    by : (b : Bool) → IsSmallClip (if b then record c { owner = primary } else c)
    by true = h
    by false = h

pub given-small : (screen : ℕ) (c : Clip) (bytes : List ℕ) → rules.given screen c ≡ Some bytes → IsSmallClip c → IsShort bytes
given-small screen c bytes e h = by (is_dirty screen c) e
  where
    by : (b : Bool) → (if b then c.bytes else None) ≡ Some bytes → IsShort bytes
    by true e = h bytes e
    by false e = grind (arith, e)

pub record AreSmallClips (clips : Clips) : Type 0 where
  pub clipboard : IsSmallClip clips.clipboard
  pub selection : IsSmallClip clips.selection

pub clip_of-small : (id : ClipId) (clips : Clips) → AreSmallClips clips → IsSmallClip (clip_of id clips)
clip_of-small Clipboard clips h = h.clipboard
clip_of-small Selection clips h = h.selection

pub with_clip-small : (id : ClipId) (c : Clip) (clips : Clips) → IsSmallClip c → AreSmallClips clips → AreSmallClips (with_clip id c clips)
with_clip-small Clipboard c clips k h = record { clipboard = k; selection = h.selection }
with_clip-small Selection c clips k h = record { clipboard = h.clipboard; selection = k }

-- ---- a state

abbrev pub IsWritableEntry : Entry → Type 0
IsWritableEntry e = IsWritable e.message

pub record AreSmall (config : Configuration) (lines : List Line) (pressed : List presses.Call) (primary : Shape) (cs : List Connection) (clips : Clips) (routed : List Entry) : Type 0 where
  pub sound : IsSound config
  pub script : AllByRecursion IsOfTypes lines
  pub presses_of : AllByRecursion IsSmallPress pressed
  pub shape : IsScreenShape primary
  pub each : AllByRecursion IsSmallConnection cs
  pub both_clips : AreSmallClips clips
  pub told : AllByRecursion IsWritableEntry routed

abbrev pub IsSmall : State → Type 0
IsSmall s = AreSmall s.config s.lines s.presses s.primary_shape s.connections s.clips s.routed

pub shapes-small : (s : State) (t : Target) → IsSmall s → IsScreenShape (shape_of s t)
shapes-small s Primary h = h.shape
shapes-small s (Client n) h = by (connection s n) refl
  where
    joined : (c : Connection) → IsSmallConnection c → (o : Option Shape) → joined_shape c.phase ≡ o → IsScreenShape (unwrap_or o s.primary_shape)
    joined c k None e = h.shape
    joined c k (Some shape) e = k.shape shape e

    by : (o : Option Connection) → connection s n ≡ o → IsScreenShape (unwrap_or (option_and_then (λ (c : Connection). joined_shape c.phase) o) s.primary_shape)
    by None e = h.shape
    by (Some c) e = joined c (found_small (has_serial n) s.connections c h.each e) (joined_shape c.phase) refl

pub received-bytes : (s : State) (serial : ℕ) → IsSmall s → AreBytes (received_by s serial)
received-bytes s serial h = by (connection s serial) refl
  where
    by : (o : Option Connection) → connection s serial ≡ o → AreBytes (unwrap_or (option_map (λ (c : Connection). c.received) o) [])
    by None e = tt
    by (Some c) e = (found_small (has_serial serial) s.connections c h.each e).bytes

pub parts-bytes : (s : State) (serial : ℕ) → IsSmall s → AllByRecursion IsBytePart (parts_from s serial)
parts-bytes s serial h = by (connection s serial) refl
  where
    by : (o : Option Connection) → connection s serial ≡ o → AllByRecursion IsBytePart (unwrap_or (option_map (λ (c : Connection). c.parts) o) [])
    by None e = tt
    by (Some c) e = (found_small (has_serial serial) s.connections c h.each e).parts

-- ---- what comes

good_heard : (reader : Reader) (before ms : List Msg) → AllGood reader before ms → AllByRecursion (λ m. AllByRecursion HasByteText (fields m)) ms → AllByRecursion IsHeard ms
good_heard reader before [] h t = tt
good_heard reader before (m ∷ ms) h t = ((h.0.spelled.fits, t.0), good_heard reader (before ++ m ∷ []) ms h.1 t.1)

pub inbox-heard : (bytes : List ℕ) → AreBytes bytes → AllByRecursion IsHeard (inbox_of bytes).messages
inbox-heard bytes small =
    let v : Verdict server bytes = each_has_a_verdict server bytes (all-IsBytes bytes small) in
    subst (AllByRecursion IsHeard) (sym (inbox-verdict server bytes small v).messages_are) (good_heard server [] v.messages v.good (frames-texts v.messages v.rest (subst AreBytes v.stream_is small)))

pub came-heard : (serial : ℕ) (piece : List ℕ) (s : State) → AreBytes piece → IsSmall s → AllByRecursion IsHeard (inbox_of (received_by s serial ++ piece)).messages
came-heard serial piece s small h = inbox-heard (received_by s serial ++ piece) (bytes-append (received_by s serial) piece (received-bytes s serial h) small)
