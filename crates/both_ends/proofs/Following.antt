-- What no acceptance tells may follow a greeting.
use Rattle.std.specs.Prelude.{◌≡◌, refl, ℕ, Bool, true, List, [], ◌∷◌, ◌++◌, map}
use Rattle.std.specs.List.{list_all, AllByRecursion}
use Rattle.std.proofs.Common.{arith, ap, sym, ◌∙◌, append_assoc}
use Rattle.std.proofs.lemmas.List.{append-nil}
use Rattle.share_base.specs.declared.clip_id.ClipId.{ClipId}
use Rattle.message_codec.specs.declared.messages.Msg.{Msg}
use Rattle.message_codec.specs.declared.messages.Msg.TheVariants as msg
use Rattle.message_codec.specs.declared.clip_mark.ClipMark.TheVariants as mark
use Rattle.hotkey_rules.specs.declared.action.Action.{Action}
use Rattle.hotkey_rules.specs.declared.action.Action.TheVariants as action
use Rattle.clip_chunks.specs.Parts.{part, message_of}
use Rattle.clip_chunks.specs.Sending.{chunks_of}
use Rattle.machine.specs.Scripts.{Line, KeyDown, KeyUp, ButtonDown, ButtonUp}
use Rattle.machine.specs.Targets.{Entry}
use Rattle.machine.specs.States.{State}
use Rattle.machine.specs.Routing.{entry}
use Rattle.machine.specs.Events.{holding}
use Rattle.machine.specs.Steps.{step}
use Rattle.machine.specs.Happenings.{Happening}
use Rattle.machine.proofs.AtKeyButtons.{all-more}
use Rattle.both_ends.specs.Greetings.{may_follow}
use Rattle.both_ends.proofs.Telling.{Kinds, Says, is_bare, IsTelling}
use Rattle.both_ends.proofs.TellingSteps.{Brings, step-tells}

abbrev pub follows : Entry → Bool
follows e = may_follow e.message

-- entries that may follow a greeting came after those
abbrev pub Adds : List Entry → List Entry → Type 0
Adds base routed = (more : List Entry) × (routed ≡ base ++ more) × (list_all follows more ≡ true)

adds-more : (base routed : List Entry) (e : Entry) → follows e ≡ true → Adds base routed → Adds base (routed ++ e ∷ [])
adds-more base routed e f a = (a.0 ++ e ∷ [], ap (λ (es : List Entry). es ++ e ∷ []) a.1 ∙ append_assoc base a.0 (e ∷ []), all-more follows a.0 e f a.2)

pub adds-none : (base : List Entry) → Adds base base
adds-none base = ([], sym (append-nil base), refl)

abbrev Any : {A : Type 0} → A → Type 0
Any x = Unit {0}

abbrev pub kinds : List Entry → Kinds
kinds base = record {
  message = λ m. may_follow m ≡ true;
  state = λ s. Adds base s.routed;
  line = Any;
  point = Any;
  shape = Any;
  place = Any;
  clip = Any;
  bytes = Any;
  change = Any;
  heard = Any;
  piece = Any;
  part = Any;
}

all-any : {A : Type 0} (xs : List A) → AllByRecursion Any xs
all-any [] = tt
all-any (x ∷ xs) = (tt, all-any xs)

bare-follows : (m : Msg) → is_bare m ≡ true → may_follow m ≡ true
bare-follows msg.QueryInfo h = refl
bare-follows msg.InfoAck h = refl
bare-follows msg.ResetOptions h = refl
bare-follows msg.Bye h = refl
bare-follows msg.Leave h = refl
bare-follows msg.Busy h = refl
bare-follows msg.Unknown h = refl
bare-follows msg.Malformed h = refl
bare-follows msg.Alive h = refl
bare-follows m h = grind (arith, h)

says-all : (base : List Entry) (list : List Action) → AllByRecursion (Says (kinds base)) list
says-all base [] = tt
says-all base (action.KeyStroke id mods button ∷ list) = ((refl, refl), says-all base list)
says-all base (action.KeyPress id mods button ∷ list) = (refl, says-all base list)
says-all base (action.KeyRelease id mods button ∷ list) = (refl, says-all base list)
says-all base (action.MouseClick mods b ∷ list) = ((refl, refl), says-all base list)
says-all base (action.MousePress mods b ∷ list) = (refl, says-all base list)
says-all base (action.MouseRelease mods b ∷ list) = (refl, says-all base list)
says-all base (action.Lock mode ∷ list) = (tt, says-all base list)
says-all base (action.SwitchTo screen ∷ list) = (tt, says-all base list)
says-all base (action.SwitchToward side ∷ list) = (tt, says-all base list)

chunks-follow : (id : ClipId) (cs : List (List ℕ)) → AllByRecursion (λ m. may_follow m ≡ true) (map message_of (map (part mark.Chunk id 0) cs ++ part mark.End id 0 [] ∷ []))
chunks-follow id [] = (refl, tt)
chunks-follow id (c ∷ cs) = (refl, chunks-follow id cs)

holds-on : (base : List Entry) (l : Line) (s : State) → Any l → Adds base s.routed → Adds base (holding l s).routed
holds-on base (KeyDown id button) s k h = h
holds-on base (KeyUp button) s k h = h
holds-on base (ButtonDown b) s k h = h
holds-on base (ButtonUp b) s k h = h
holds-on base l s k h = h

pub telling : (base : List Entry) → IsTelling (kinds base)
telling base = record {
  told = λ o t m p s h. adds-more base s.routed (entry o t m s) p h;
  bare = bare-follows;
  version = refl;
  grabs = λ id. refl;
  saver = λ on. refl;
  options = λ s screen h. refl;
  copied = λ id bytes b. (refl, chunks-follow id (chunks_of bytes));
  enters = λ p n s at h. refl;
  moves_to = λ p at. refl;
  moves_by = λ dx dy l. refl;
  turns = λ dx dy l. refl;
  key_down = λ id button s l h. refl;
  key_repeat = λ count button s l h. refl;
  key_up = λ button s l h. refl;
  button_down = λ b l. refl;
  button_up = λ b l. refl;
  pressed = λ s rule h. says-all base _;
  released = λ s rule h. says-all base _;
  shapes = λ s t h. tt;
  informed = λ x y w h warp mx my shape c e. tt;
  places = λ s e l f h. tt;
  middles = λ shape h. tt;
  entries = λ side shape n h at. tt;
  clamps = λ shape p h. tt;
  cursor = λ p s at h. h;
  at_screen = λ to p s at h. h;
  gate = λ calls s h. h;
  clip_of = λ s id h. tt;
  sets_clip = λ id c s k h. h;
  each_clip = λ f s k h. h;
  known = λ owner seq bytes screens b. tt;
  unknown = λ owner seq. tt;
  entered = λ screen c k. tt;
  joined = λ screen c k. tt;
  left = λ primary screen c k. tt;
  given = λ screen c bytes e k. tt;
  copies = λ s id bytes l e h. tt;
  wholes = λ serial s p bytes k e h. tt;
  part_of = λ id seq m bytes c. tt;
  changed = λ serial f s k h. h;
  is_heard = λ now. tt;
  beaten = λ now. tt;
  has_part = λ p k. tt;
  parts = λ cause now. tt;
  discards = tt;
  took = λ count. tt;
  asks = λ screen accepted rate now. tt;
  joins = λ shape now asked k. tt;
  reshapes = λ shape now joined k. tt;
  receives = λ piece p. tt;
  came = λ serial piece s p h. all-any _;
  closed = λ serial s h. h;
  logged = λ lines s h. h;
  locks = λ on s h. h;
  quits = λ s h. h;
  sleeps = λ until s h. h;
  clocked = λ t s h. h;
  holds = holds-on base;
  lines = λ s h. all-any s.lines;
  ahead = λ ls s k h. h;
}

-- a happening that is no acceptance
pub step-adds : (s : State) (h : Happening) → Brings (kinds s.routed) h → Adds s.routed (step s h).routed
step-adds s h b = step-tells (telling s.routed) s h b (adds-none s.routed)
