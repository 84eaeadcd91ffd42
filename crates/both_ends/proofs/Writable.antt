-- All that is told can be written.
use Rattle.std.specs.Prelude.{◌≡◌, ℕ, ◌≤◌, ◌<◌, Bool, true, false, cond, nat_le, pos, List, [], ◌∷◌, length, Some, unwrap_or}
use Rattle.std.specs.List.{AllByRecursion}
use Rattle.std.proofs.Common.{arith, sym, subst, leb-true}
use Rattle.std.proofs.lemmas.Int.{ints}
use Rattle.share_base.specs.declared.clip_id.ClipId.{ClipId}
use Rattle.share_base.specs.Shapes.{IsScreenShape}
use Rattle.screen_links.specs.declared.link.Landing.{Landing}
use Rattle.edge_cross.specs.declared.edge.Edge.{Edge}
use Rattle.message_codec.specs.declared.messages.Msg.TheVariants as msg
use Rattle.message_codec.specs.Streams.{AreBytes}
use Rattle.message_reader.proofs.Stepping.{bytes-append}
use Rattle.hotkey_rules.specs.declared.action.Action.{Action}
use Rattle.hotkey_rules.specs.declared.action.Action.TheVariants as action
use Rattle.hotkey_rules.specs.Rules.{press_of, release_of}
use Rattle.screen_config.specs.Globals.{wire_options_of}
use Rattle.hello_states.specs.declared.part_cause.PartCause.TheVariants as cause
use Rattle.clip_chunks.specs.Parts.{Part}
use Rattle.clip_chunks.specs.OpenRuns.{whole_at}
use Rattle.clip_chunks.specs.Rules as rules
use Rattle.clip_chunks.specs.Wholes.{EndsWhole}
use Rattle.clip_chunks.proofs.EndedRuns.{ends_whole}
use Rattle.machine.specs.Scripts.{Line, KeyDown, KeyUp, ButtonDown, ButtonUp, Copy}
use Rattle.machine.specs.Targets.{Target, Client, Own, Entry, same_target}
use Rattle.machine.specs.Connections.{fresh}
use Rattle.machine.specs.States.{State}
use Rattle.machine.specs.Queues.{entries_for, messages_in, messages_for}
use Rattle.machine.specs.Screens.{is_screen_joined}
use Rattle.machine.specs.Modifiers.{mask, id_at, toggles}
use Rattle.machine.specs.Clipboards.{clip_limit}
use Rattle.machine.specs.Hearing.{parts_from}
use Rattle.machine.specs.Edges.{landing, place_on}
use Rattle.machine.specs.Routing.{entry}
use Rattle.machine.specs.Switching.{next_sequence}
use Rattle.machine.specs.Partings.{part}
use Rattle.machine.specs.Events.{holding}
use Rattle.machine.specs.Acceptance.{most_open, opened, greet, accept}
use Rattle.machine.specs.Happenings.{Happening, Joined, Got, Ended, Failed, Took, Moment, Closed}
use Rattle.machine.specs.Steps.{step, run}
use Rattle.machine.proofs.Rules.{choose-keeps}
use Rattle.reached_states.specs.Reaching.{start_of}
use Rattle.both_ends.specs.Greetings.{greeting}
use Rattle.both_ends.specs.Numbers.{IsOfTypes, BringsBytes, AllIsWritable}
use Rattle.both_ends.specs.Writing.{IsWritable}
use Rattle.both_ends.proofs.Telling.{Kinds, Says, IsTelling}
use Rattle.both_ends.proofs.TellingPartings.{part-tells}
use Rattle.both_ends.proofs.TellingSteps.{step-tells}
use Rattle.both_ends.proofs.SmallNumbers.{IsPixel, toggles-small, mask-small, id-small, middle-pixel, clamped-pixel, entry-pixel, sequence-small}
use Rattle.both_ends.proofs.SmallMessages as messages
use Rattle.both_ends.proofs.SmallOptions.{IsSmallAction, press-small, release-small, wire-small, sharing-small, landing-on_side}
use Rattle.both_ends.proofs.InRange as range
use Rattle.both_ends.proofs.WholeBytes.{ended-bytes}
use Rattle.both_ends.proofs.InRange.{IsBytePart, IsSmallConnection, KeepsSmall, IsHeard, IsShort, IsSmallClip, IsWritableEntry, IsSmall}
use Rattle.both_ends.proofs.AllOfLists.{all-join, all-filter}

abbrev pub kinds : Kinds
kinds = record {
  message = IsWritable;
  state = IsSmall;
  line = IsOfTypes;
  point = IsPixel;
  shape = IsScreenShape;
  place = λ n. n < 1000000;
  clip = IsSmallClip;
  bytes = IsShort;
  change = KeepsSmall;
  heard = IsHeard;
  piece = AreBytes;
  part = IsBytePart;
}

says : (a : Action) → IsSmallAction a → Says kinds a
says (action.KeyStroke id mods button) h = (messages.key_down-writable id.0 mods.0 button.0 h.0 h.1 h.2, messages.key_up-writable id.0 mods.0 button.0 h.0 h.1 h.2)
says (action.KeyPress id mods button) h = messages.key_down-writable id.0 mods.0 button.0 h.0 h.1 h.2
says (action.KeyRelease id mods button) h = messages.key_up-writable id.0 mods.0 button.0 h.0 h.1 h.2
says (action.MouseClick mods b) h = (messages.button_down-writable b.0 h, messages.button_up-writable b.0 h)
says (action.MousePress mods b) h = messages.button_down-writable b.0 h
says (action.MouseRelease mods b) h = messages.button_up-writable b.0 h
says (action.Lock mode) h = tt
says (action.SwitchTo screen) h = tt
says (action.SwitchToward side) h = tt

says-all : (list : List Action) → AllByRecursion IsSmallAction list → AllByRecursion (Says kinds) list
says-all [] h = tt
says-all (a ∷ list) h = (says a h.0, says-all list h.1)

options-told : (s : State) (screen : ℕ) → IsSmall s → IsWritable (msg.SetOptions (wire_options_of s.config screen))
options-told s screen h = let w = wire-small s.config screen h.sound in messages.options-writable (wire_options_of s.config screen) w.small w.few

landing-place : (s : State) (e : Edge) (l : Landing) → landing s e ≡ Some l → IsSmall s → l.t < 1000000
landing-place s e l is h = landing-on_side s.config.links (is_screen_joined s) e.side (place_on s e) l h.sound.links.ranges is

holds-small : (l : Line) (s : State) → IsOfTypes l → IsSmall s → IsSmall (holding l s)
holds-small (KeyDown id button) s k h = record { sound = h.sound; script = h.script; presses_of = (k.0, h.presses_of); shape = h.shape; each = h.each; both_clips = h.both_clips; told = h.told }
holds-small (KeyUp button) s k h = record { sound = h.sound; script = h.script; presses_of = (tt, h.presses_of); shape = h.shape; each = h.each; both_clips = h.both_clips; told = h.told }
holds-small (ButtonDown b) s k h = h
holds-small (ButtonUp b) s k h = h
holds-small l s k h = h

limit-small : (s : State) → IsSmall s → clip_limit s ≤ 4194304
limit-small s h = omega (arith, sharing-small s.config h.sound)

copied-short : (s : State) (id : ClipId) (bytes : List ℕ) → IsOfTypes (Copy id bytes) → rules.copy_counts (clip_limit s) bytes ≡ true → IsSmall s → IsShort bytes
copied-short s id bytes l e h = let within : length bytes ≤ clip_limit s = leb-true (length bytes) (clip_limit s) e in let limit = limit-small s h in record { short = omega arith; are = l }

whole-short : (serial : ℕ) (s : State) (p : Part) (bytes : List ℕ) → IsBytePart p → whole_at (clip_limit s) p (parts_from s serial) ≡ Some bytes → IsSmall s → IsShort bytes
whole-short serial s p bytes k e h =
    let ended : EndsWhole (clip_limit s) bytes p (parts_from s serial) = ends_whole (clip_limit s) bytes p (parts_from s serial) e in
    let within : length bytes ≤ clip_limit s = ended.whole.within in
    let limit = limit-small s h in
    record { short = omega arith; are = ended-bytes (clip_limit s) bytes p (parts_from s serial) ended (k, range.parts-bytes s serial h) }

telling : IsTelling kinds
telling = record {
  told = λ o t m p s h. record { sound = h.sound; script = h.script; presses_of = h.presses_of; shape = h.shape; each = h.each; both_clips = h.both_clips; told = all-join IsWritableEntry s.routed (entry o t m s ∷ []) h.told (p, tt) };
  bare = messages.bare-writable;
  version = messages.version-writable;
  grabs = messages.grab-writable;
  saver = messages.saver-writable;
  options = options-told;
  copied = λ id bytes b. messages.parts-writable id bytes b.are b.short;
  enters = λ p n s at h. messages.enter-writable p.x p.y (next_sequence n) (toggles s) at.0 at.1 (sequence-small n) (toggles-small s);
  moves_to = λ p at. messages.move_to-writable p.x p.y at.0 at.1;
  moves_by = λ dx dy l. messages.move_by-writable dx dy l.0 l.1;
  turns = λ dx dy l. messages.wheel-writable dx dy l.0 l.1;
  key_down = λ id button s l h. messages.key_down-writable id (mask s) button l.0 (mask-small s) l.1;
  key_repeat = λ count button s l h. messages.key_repeat-writable (id_at s button) (mask s) count button (id-small s.presses button h.presses_of) (mask-small s) l.0 l.1;
  key_up = λ button s l h. messages.key_up-writable (id_at s button) (mask s) button (id-small s.presses button h.presses_of) (mask-small s) l;
  button_down = messages.button_down-writable;
  button_up = messages.button_up-writable;
  pressed = λ s rule h. says-all (unwrap_or (press_of s.config.hotkeys rule) []) (press-small (length s.config.screens) s.config.hotkeys rule h.sound.hotkeys);
  released = λ s rule h. says-all (unwrap_or (release_of s.config.hotkeys rule) []) (release-small (length s.config.screens) s.config.hotkeys rule h.sound.hotkeys);
  shapes = range.shapes-small;
  informed = range.informed-small;
  places = landing-place;
  middles = middle-pixel;
  entries = λ side shape n is at. entry-pixel side shape n is at;
  clamps = clamped-pixel;
  cursor = λ p s at h. h;
  at_screen = λ to p s at h. h;
  gate = λ calls s h. h;
  clip_of = λ s id h. range.clip_of-small id s.clips h.both_clips;
  sets_clip = λ id c s k h. record { sound = h.sound; script = h.script; presses_of = h.presses_of; shape = h.shape; each = h.each; both_clips = range.with_clip-small id c s.clips k h.both_clips; told = h.told };
  each_clip = λ f s k h. record { sound = h.sound; script = h.script; presses_of = h.presses_of; shape = h.shape; each = h.each; both_clips = record { clipboard = k s.clips.clipboard h.both_clips.clipboard; selection = k s.clips.selection h.both_clips.selection }; told = h.told };
  known = range.known-small;
  unknown = range.unknown-small;
  entered = λ screen c k. k;
  joined = range.joined-small;
  left = range.left-small;
  given = range.given-small;
  copies = copied-short;
  wholes = whole-short;
  part_of = λ id seq m bytes c. c.1.1.1.1.0;
  changed = λ serial f s k h. record { sound = h.sound; script = h.script; presses_of = h.presses_of; shape = h.shape; each = range.all-changed serial f k s.connections h.each; both_clips = h.both_clips; told = h.told };
  is_heard = range.heard-small;
  beaten = range.beat-small;
  has_part = λ p k c h. record { shape = h.shape; bytes = h.bytes; parts = (k, h.parts) };
  parts = λ why now c h. record { shape = λ shape e. grind (arith, e); bytes = h.bytes; parts = h.parts };
  discards = λ c h. record { shape = h.shape; bytes = h.bytes; parts = h.parts };
  took = λ count c h. record { shape = h.shape; bytes = h.bytes; parts = h.parts };
  asks = range.asks-small;
  joins = range.joins-small;
  reshapes = range.reshapes-small;
  receives = λ piece small c h. record { shape = h.shape; bytes = bytes-append c.received piece h.bytes small; parts = h.parts };
  came = range.came-heard;
  closed = λ serial s h. record { sound = h.sound; script = h.script; presses_of = h.presses_of; shape = h.shape; each = all-filter IsSmallConnection _ s.connections h.each; both_clips = h.both_clips; told = h.told };
  logged = λ lines s h. h;
  locks = λ on s h. h;
  quits = λ s h. h;
  sleeps = λ until s h. h;
  clocked = λ t s h. h;
  holds = holds-small;
  lines = λ s h. h.script;
  ahead = λ ls s k h. record { sound = h.sound; script = k; presses_of = h.presses_of; shape = h.shape; each = h.each; both_clips = h.both_clips; told = h.told };
}

-- ---- each happening

opened-small : (serial : ℕ) (s : State) → IsSmall s → IsSmall (opened serial s)
opened-small serial s h = record { sound = h.sound; script = h.script; presses_of = h.presses_of; shape = h.shape; each = all-join IsSmallConnection s.connections (fresh serial s.at ∷ []) h.each (record { shape = λ shape e. grind (arith, e); bytes = tt; parts = tt }, tt); both_clips = h.both_clips; told = h.told }

accept-small : (serial : ℕ) (s : State) → IsSmall s → IsSmall (accept serial s)
accept-small serial s h =
    let there : IsSmall (opened serial s) = opened-small serial s h in
    choose-keeps IsSmall (nat_le most_open (length s.connections)) (part cause.Full serial) (greet serial) (opened serial s) (λ e. part-tells telling cause.Full serial (opened serial s) there) (λ e. telling.told Own (Client serial) greeting messages.hello-writable (opened serial s) there)

step-small : (s : State) (h : Happening) → BringsBytes h → IsSmall s → IsSmall (step s h)
step-small s (Joined serial) b k = accept-small serial s k
step-small s (Got serial piece) b k = step-tells telling s (Got serial piece) b k
step-small s (Ended serial) b k = step-tells telling s (Ended serial) tt k
step-small s (Failed serial) b k = step-tells telling s (Failed serial) tt k
step-small s (Took serial count) b k = step-tells telling s (Took serial count) tt k
step-small s (Moment t) b k = step-tells telling s (Moment t) tt k
step-small s (Closed serial) b k = step-tells telling s (Closed serial) tt k

run-small : (s : State) (hs : List Happening) → AllByRecursion BringsBytes hs → IsSmall s → IsSmall (run hs s)
run-small s [] b k = k
run-small s (h ∷ hs) b k = run-small (step s h) hs b.1 (step-small s h b.0 k)

first-shape : (w h : ℕ) → 1 ≤ w → w ≤ 32767 → 1 ≤ h → h ≤ 32767 → IsScreenShape (record { x = pos 0; y = pos 0; w = pos w; h = pos h })
first-shape w h a b c d = record {
  wide = omega (arith, ints);
  width = omega (arith, ints);
  high = omega (arith, ints);
  height = omega (arith, ints);
  first_column = omega (arith, ints);
  first_row = omega (arith, ints);
  columns = omega (arith, ints);
  rows = omega (arith, ints);
}

-- ---- the law

written : (t : Target) (entries : List Entry) → AllByRecursion IsWritableEntry entries → AllByRecursion IsWritable (messages_for t entries)
written t [] h = tt
written t (e ∷ entries) h = by (same_target e.target t) (written t entries h.1)
  where
    by : (b : Bool) → AllByRecursion IsWritable (messages_for t entries) → AllByRecursion IsWritable (messages_in (cond b (e ∷ entries_for t entries) (entries_for t entries)))
    by true rest = (h.0, rest)
    by false rest = rest

pub all-writable : AllIsWritable
all-writable o hs latest s by sound types bytes t =
    let first : IsSmall (start_of o) = record {
      sound = sound;
      script = types.lines;
      presses_of = tt;
      shape = first-shape o.script.width o.script.height types.some_columns types.few_columns types.some_rows types.few_rows;
      each = tt;
      both_clips = record { clipboard = range.unknown-small o.script.primary 0; selection = range.unknown-small o.script.primary 0 };
      told = tt;
    } in
    written t s.routed (subst IsSmall (sym by.state) (run-small (start_of o) hs bytes first)).told
