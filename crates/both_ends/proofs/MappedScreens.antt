-- The keys and buttons of a client's lines are those of a screen that gets all messages that the client heard.
use Rattle.std.specs.Prelude.{◌≡◌, refl, ℕ, Bool, true, false, List, [], ◌∷◌, ◌++◌, map, fold, Option, Some, None, if◌then◌else◌}
use Rattle.std.proofs.Common.{ap, sym, subst, ◌∙◌}
use Rattle.std.proofs.lemmas.List.{append-nil}
use Rattle.std.proofs.lemmas.List.Elements.{filter-append}
use Rattle.std.proofs.lemmas.List.Concat.{flat_map-append}
use Rattle.std.proofs.lemmas.List.Sums.{fold-append}
use Rattle.message_codec.specs.declared.messages.Msg.{Msg}
use Rattle.message_codec.specs.declared.messages.Msg.TheVariants as msg
use Rattle.clip_chunks.specs.Parts.{Part, part}
use Rattle.clip_chunks.specs.OpenRuns.{whole_of, whole_at}
use Rattle.modifier_map.specs.Map.{identity, changed}
use Rattle.modifier_map.specs.declared.map.ModMap.{ModMap}
use Rattle.held_inputs.specs.declared.line.Line.{Line}
use Rattle.held_inputs.specs.declared.line.Line.TheVariants as line
use Rattle.held_inputs.specs.Screen.{Screen, Call, Applies, applied, after, screen, screen_from}
use Rattle.script_screen.specs.declared.client_script.ClientLine.{ClientLine}
use Rattle.client_talk.specs.Options.{pairs}
use Rattle.client_talk.specs.Talks.{Talk}
use Rattle.client_talk.specs.Answers.{is_for_screen}
use Rattle.client_core.specs.declared.clipboards.TheConstants.{CLIP_LIMIT}
use Rattle.client_core.specs.Clipboards.{whole_line, part_lines}
use Rattle.client_core.specs.Hearing.{Display, option_lines, set_all, heard, fresh, heard_all, display}
use Rattle.client_core.specs.Clients.{Client, shown_of}
use Rattle.client_core.specs.Happenings.{Happening, injecting, joining, lines, run}
use Rattle.client_core.proofs.Listening.{IsKept, run-keeps}
use Rattle.both_ends.specs.Inputs.{is_input, inputs, sets_option, calls_of, calls, mapped_screen}
use Rattle.both_ends.proofs.InputLines.{same-applied}

-- ---- a display, and a screen that gets calls

pub record IsLike (d : Display) (s : Screen) : Type 0 where
  pub mods : d.screen.mods ≡ s.mods
  pub lines : inputs d.screen.lines ≡ inputs s.lines

abbrev Like : Display → Screen → Type 0
Like d s = IsLike d s

-- lines of no keys and no buttons
no-inputs : (lines more : List Line) → inputs more ≡ [] → inputs (lines ++ more) ≡ inputs lines
no-inputs lines more none = filter-append is_input lines more ∙ ap (λ (t : List Line). inputs lines ++ t) none ∙ append-nil (inputs lines)

-- the same lines more
both-more : (a b more others : List Line) → inputs a ≡ inputs b → more ≡ others → inputs (a ++ more) ≡ inputs (b ++ others)
both-more a b more others same is =
    filter-append is_input a more ∙ ap (λ (t : List Line). t ++ inputs more) same ∙ ap (λ (t : List Line). inputs b ++ inputs t) is ∙ sym (filter-append is_input b others)

options-none : (options : List (ℕ × ℕ)) → inputs (map (λ (option : ℕ × ℕ). line.SetOption option.0 option.1) options) ≡ []
options-none [] = refl
options-none (o ∷ os) = options-none os

whole-none : (p : Part) (o : Option (List ℕ)) → inputs (map whole_line (whole_of p o)) ≡ []
whole-none p None = refl
whole-none p (Some bytes) = refl

-- a screen whose options are set one by one
options-set : (s : Screen) (options : List (ℕ × ℕ)) → ((screen_from s (map sets_option options)).mods ≡ fold (λ (m : ModMap) (option : ℕ × ℕ). changed m option.0 option.1) s.mods options) × (inputs (screen_from s (map sets_option options)).lines ≡ inputs s.lines)
options-set s [] = (refl, refl)
options-set s (o ∷ os) =
    let next : Screen = after s (sets_option o) in
    let rest = options-set next os in
    (rest.0, rest.1 ∙ no-inputs s.lines [] refl)

applies-like : (d : Display) (s : Screen) (m : Msg) → Like d s → Like (record d { screen = after d.screen (Applies m) }) (after s (Applies m))
applies-like d s m h = record { mods = h.mods; lines = both-more d.screen.lines s.lines (applied d.screen m) (applied s m) h.lines (same-applied d.screen s m h.mods h.lines) }

heard-like : (d : Display) (s : Screen) (m : Msg) → Like d s → Like (heard d m) (screen_from s (calls_of m))
heard-like d s msg.ResetOptions h = record { mods = refl; lines = no-inputs d.screen.lines (line.ResetOptions ∷ []) refl ∙ h.lines ∙ sym (no-inputs s.lines [] refl) }
heard-like d s (msg.SetOptions words) h =
    let set = options-set s (pairs words) in
    record {
      mods = ap (λ (m : ModMap). set_all m words) h.mods ∙ sym set.0;
      lines = no-inputs d.screen.lines (option_lines words) (options-none (pairs words)) ∙ h.lines ∙ sym set.1;
    }
heard-like d s (msg.Grab clip seq) h = record { mods = h.mods; lines = no-inputs d.screen.lines (line.Grab clip ∷ []) refl ∙ h.lines ∙ sym (no-inputs s.lines [] refl) }
heard-like d s (msg.ClipPart clip seq mark bytes) h =
    let p : Part = part mark clip seq bytes in
    record { mods = h.mods; lines = no-inputs d.screen.lines (part_lines p d.parts) (whole-none p (whole_at CLIP_LIMIT p d.parts)) ∙ h.lines ∙ sym (no-inputs s.lines [] refl) }
heard-like d s m h = applies-like d s m h

-- a message that the screen of the client doesn't get
unheard-like : (t : Talk) (d : Display) (s : Screen) (m : Msg) → is_for_screen t m ≡ false → Like d s → Like d (screen_from s (calls_of m))
unheard-like t d s (msg.Hello major minor) is h = record { mods = h.mods; lines = h.lines ∙ sym (no-inputs s.lines [] refl) }
unheard-like t d s msg.QueryInfo is h = record { mods = h.mods; lines = h.lines ∙ sym (no-inputs s.lines [] refl) }
unheard-like t d s msg.Alive is h = record { mods = h.mods; lines = h.lines ∙ sym (no-inputs s.lines [] refl) }
unheard-like t d s (msg.MoveTo x y) is h = record { mods = h.mods; lines = h.lines ∙ sym (no-inputs s.lines (line.MoveTo x y ∷ []) refl) }
unheard-like t d s m is h = absurd cc

shown-like : (t : Option Talk) (d : Display) (s : Screen) (m : Msg) → Like d s → Like (heard_all d (shown_of t m)) (screen_from s (calls_of m))
shown-like None d s m h = heard-like d s m h
shown-like (Some t) d s m h = by (is_for_screen t m) refl
  where
    by : (b : Bool) → is_for_screen t m ≡ b → Like (heard_all d (if b then m ∷ [] else [])) (screen_from s (calls_of m))
    by true is = heard-like d s m h
    by false is = unheard-like t d s m is h

-- ---- a client

from-append : (s : Screen) (cs more : List Call) → screen_from s (cs ++ more) ≡ screen_from (screen_from s cs) more
from-append s [] more = refl
from-append s (c ∷ cs) more = from-append (after s c) cs more

mapped-more : (messages : List Msg) (m : Msg) → mapped_screen (messages ++ m ∷ []) ≡ screen_from (mapped_screen messages) (calls_of m)
mapped-more messages m =
    ap (screen identity) (flat_map-append calls_of messages (m ∷ []) ∙ ap (λ (t : List Call). calls messages ++ t) (append-nil (calls_of m)))
    ∙ from-append (record { lines = []; mods = identity }) (calls messages) (calls_of m)

abbrev IsMapped : List Msg → List Msg → Type 0
IsMapped shown heard = Like (display shown) (mapped_screen heard)

listens-mapped : IsKept IsMapped
listens-mapped c m h =
    let is : display (c.shown ++ shown_of c.talk m) ≡ heard_all (display c.shown) (shown_of c.talk m) = fold-append heard fresh c.shown (shown_of c.talk m) in
    subst (λ (d : Display). Like d (mapped_screen (c.heard ++ m ∷ []))) (sym is)
    (subst (Like (heard_all (display c.shown) (shown_of c.talk m))) (sym (mapped-more c.heard m)) (shown-like c.talk (display c.shown) (mapped_screen c.heard) m h))

abbrev pub HasKeys : Client → Type 0
HasKeys c = inputs (lines c) ≡ inputs (mapped_screen c.heard).lines

pub joining-keys : (name : List ℕ) (w h : ℕ) (script : List ClientLine) (now : ℕ) (happenings : List Happening) → HasKeys (run (joining name w h script now) happenings)
joining-keys name w h script now happenings = (run-keeps IsMapped listens-mapped (joining name w h script now) happenings (record { mods = refl; lines = refl })).lines

pub injecting-keys : (happenings : List Happening) → HasKeys (run injecting happenings)
injecting-keys happenings = (run-keeps IsMapped listens-mapped injecting happenings (record { mods = refl; lines = refl })).lines
