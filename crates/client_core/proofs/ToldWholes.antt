-- The lines that tell the bytes of clipboards are one for each whole.
use Rattle.std.proofs.Common.{◌≡◌, ◌∙◌, ap, sym, refl, ℕ, Bool, true, false, cond, List, [], ◌∷◌, ◌++◌, map, Option, Some, None}
use Rattle.std.specs.Prelude.{reverse, fold, if◌then◌else◌, ◌==◌}
use Rattle.std.specs.List.{filter, filter_map}
use Rattle.std.proofs.lemmas.List.{append-nil, map-append, reverse-append}
use Rattle.std.proofs.lemmas.List.Elements.{filter-append, filter_map-append}
use Rattle.std.proofs.lemmas.List.Sums.{fold-append}
use Rattle.message_codec.specs.declared.messages.Msg.{Msg}
use Rattle.message_codec.specs.declared.messages.Msg.TheVariants as msg
use Rattle.script_screen.specs.declared.client_script.ClientLine.{ClientLine}
use Rattle.clip_chunks.specs.Parts.{Part, part, part_of, parts_among}
use Rattle.clip_chunks.specs.OpenRuns.{Whole, whole_of, whole_at, wholes}
use Rattle.held_inputs.specs.declared.keys.HeldKey.{HeldKey}
use Rattle.held_inputs.specs.declared.line.Line.{Line}
use Rattle.held_inputs.specs.declared.line.Line.TheVariants as line
use Rattle.held_inputs.specs.Down.{down, is_button_down, up_of, held_keys, held_buttons, releases}
use Rattle.held_inputs.specs.Screen.{Screen, first_press, press, repeat, lift, applied, meant_id, meant_mask}
use Rattle.client_talk.specs.Options.{pairs}
use Rattle.client_talk.specs.Talks.{Talk}
use Rattle.client_talk.specs.Answers.{is_for_screen}
use Rattle.client_core.specs.declared.clipboards.TheConstants.{CLIP_LIMIT}
use Rattle.client_core.specs.Clipboards.{whole_line, tells_bytes}
use Rattle.client_core.specs.Hearing.{Display, option_lines, heard, fresh, heard_all, display}
use Rattle.client_core.specs.Clients.{Client, shown_of}
use Rattle.client_core.specs.Happenings.{Happening, injecting, joining, run, TellsWholes}
use Rattle.client_core.proofs.Listening.{On, IsKept, run-keeps}

-- ---- lines of the injector tell no bytes

releases-none : (lines : List Line) → filter tells_bytes (releases lines) ≡ []
unfolding releases
releases-none lines =
    filter-append tells_bytes (map up_of (held_keys lines)) (map line.ButtonUp (held_buttons lines))
    ∙ ap (λ (t : List Line). t ++ filter tells_bytes (map line.ButtonUp (held_buttons lines))) (keys (held_keys lines)) ∙ buttons (held_buttons lines)
  where
    keys : (ks : List HeldKey) → filter tells_bytes (map up_of ks) ≡ []
    keys [] = refl
    keys (k ∷ ks) = keys ks

    buttons : (bs : List ℕ) → filter tells_bytes (map line.ButtonUp bs) ≡ []
    buttons [] = refl
    buttons (b ∷ bs) = buttons bs

first-none : (room : Bool) (id : Option ℕ) (button mask : ℕ) → filter tells_bytes (first_press room id button mask) ≡ []
first-none true (Some id) button mask = refl
first-none true None button mask = refl
first-none false id button mask = refl

press-none : (lines : List Line) (was id : Option ℕ) (button mask : ℕ) → filter tells_bytes (press lines was id button mask) ≡ []
press-none lines (Some first) id button mask = refl
press-none lines None id button mask = first-none _ id button mask

repeat-none : (was : Option ℕ) (count button mask : ℕ) → filter tells_bytes (repeat was count button mask) ≡ []
repeat-none (Some first) count button mask = refl
repeat-none None count button mask = refl

lift-none : (was : Option ℕ) (button : ℕ) → filter tells_bytes (lift was button) ≡ []
lift-none (Some first) button = refl
lift-none None button = refl

push-none : (is : Bool) (b : ℕ) → filter tells_bytes (cond is [] (line.ButtonDown b ∷ [])) ≡ []
push-none true b = refl
push-none false b = refl

let_go-none : (is : Bool) (b : ℕ) → filter tells_bytes (cond is (line.ButtonUp b ∷ []) []) ≡ []
let_go-none true b = refl
let_go-none false b = refl

saver-none : (off : Bool) → filter tells_bytes (cond off line.SaverOff line.SaverOn ∷ []) ≡ []
saver-none true = refl
saver-none false = refl

applied-none : (s : Screen) (m : Msg) → filter tells_bytes (applied s m) ≡ []
applied-none s (msg.Enter x y seq mask) = refl
applied-none s msg.Leave =
    filter-append tells_bytes (releases s.lines) (line.Leave ∷ []) ∙ ap (λ (t : List Line). t ++ filter tells_bytes (line.Leave ∷ [])) (releases-none s.lines)
applied-none s (msg.KeyDown id mask button) = press-none s.lines (down s.lines button) (meant_id s.mods id) button (meant_mask s.mods mask)
applied-none s (msg.KeyRepeat id mask count button) = repeat-none (down s.lines button) count button (meant_mask s.mods mask)
applied-none s (msg.KeyUp id mask button) = lift-none (down s.lines button) button
applied-none s (msg.ButtonDown b) = push-none (is_button_down s.lines b) b
applied-none s (msg.ButtonUp b) = let_go-none (is_button_down s.lines b) b
applied-none s (msg.MoveTo x y) = refl
applied-none s (msg.MoveBy dx dy) = refl
applied-none s (msg.Wheel dx dy) = refl
applied-none s (msg.Saver on) = saver-none (on == 0)
applied-none s m = refl

-- ---- a display tells the wholes of its parts

abbrev Tells : Display → Type 0
Tells d = filter tells_bytes d.screen.lines ≡ map whole_line (wholes CLIP_LIMIT d.parts)

-- lines that tell no bytes
quiet : (lines more : List Line) (told : List Line) → filter tells_bytes more ≡ [] → filter tells_bytes lines ≡ told → filter tells_bytes (lines ++ more) ≡ told
quiet lines more told none is =
    filter-append tells_bytes lines more ∙ ap (λ (t : List Line). filter tells_bytes lines ++ t) none ∙ append-nil (filter tells_bytes lines) ∙ is

options-none : (options : List (ℕ × ℕ)) → filter tells_bytes (map (λ (option : ℕ × ℕ). line.SetOption option.0 option.1) options) ≡ []
options-none [] = refl
options-none (o ∷ os) = options-none os

part-told : (p : Part) (whole : Option (List ℕ)) → filter tells_bytes (map whole_line (whole_of p whole)) ≡ map whole_line (whole_of p whole)
part-told p None = refl
part-told p (Some bytes) = refl

tells-heard : (d : Display) → Tells d → (m : Msg) → Tells (heard d m)
tells-heard d t msg.ResetOptions = quiet d.screen.lines (line.ResetOptions ∷ []) _ refl t
tells-heard d t (msg.SetOptions words) = quiet d.screen.lines (option_lines words) _ (options-none (pairs words)) t
tells-heard d t (msg.Grab clip seq) = quiet d.screen.lines (line.Grab clip ∷ []) _ refl t
tells-heard d t (msg.ClipPart clip seq mark bytes) =
    let p : Part = part mark clip seq bytes in
    let more : List Whole = whole_of p (whole_at CLIP_LIMIT p d.parts) in
    filter-append tells_bytes d.screen.lines (map whole_line more)
    ∙ ap (λ (u : List Line). u ++ filter tells_bytes (map whole_line more)) t
    ∙ ap (λ (u : List Line). map whole_line (wholes CLIP_LIMIT d.parts) ++ u) (part-told p (whole_at CLIP_LIMIT p d.parts))
    ∙ sym (map-append whole_line (wholes CLIP_LIMIT d.parts) more)
tells-heard d t m = quiet d.screen.lines (applied d.screen m) _ (applied-none d.screen m) t

tells-display : (messages : List Msg) → Tells (display messages)
tells-display messages = from fresh refl messages
  where
    from : (d : Display) → Tells d → (ms : List Msg) → Tells (fold heard d ms)
    from d t [] = t
    from d t (m ∷ ms) = from (heard d m) (tells-heard d t m) ms

-- ---- its parts are those of all messages

abbrev with_part : Option Part → List Part → List Part
with_part None parts = parts
with_part (Some p) parts = p ∷ parts

parts-heard : (d : Display) (m : Msg) → (heard d m).parts ≡ with_part (part_of m) d.parts
parts-heard d msg.ResetOptions = refl
parts-heard d (msg.SetOptions words) = refl
parts-heard d (msg.Grab clip seq) = refl
parts-heard d (msg.ClipPart clip seq mark bytes) = refl
parts-heard d m = refl

-- no part stands in a message that the screen does not get
not_shown : (t : Talk) (m : Msg) → is_for_screen t m ≡ false → part_of m ≡ None
not_shown t (msg.ClipPart clip seq mark bytes) is = absurd cc
not_shown t m is = refl

parts-shown : (t : Option Talk) (d : Display) (m : Msg) → (heard_all d (shown_of t m)).parts ≡ with_part (part_of m) d.parts
parts-shown None d m = parts-heard d m
parts-shown (Some t) d m = by (is_for_screen t m) refl
  where
    by : (b : Bool) → is_for_screen t m ≡ b → (heard_all d (if b then m ∷ [] else [])).parts ≡ with_part (part_of m) d.parts
    by true is = parts-heard d m
    by false is = ap (λ (o : Option Part). with_part o d.parts) (sym (not_shown t m is))

-- with those of one message more
more_parts : (messages : List Msg) (m : Msg) → reverse (parts_among (messages ++ m ∷ [])) ≡ with_part (part_of m) (reverse (parts_among messages))
more_parts messages m = ap reverse (filter_map-append part_of messages (m ∷ [])) ∙ by (part_of m) (filter_map part_of (m ∷ [])) refl
  where
    by : (o : Option Part) (more : List Part) → more ≡ filter_map (λ (x : Option Part). x) (o ∷ []) → reverse (parts_among messages ++ more) ≡ with_part o (reverse (parts_among messages))
    by None more is = ap (λ (t : List Part). reverse (parts_among messages ++ t)) is ∙ ap reverse (append-nil (parts_among messages))
    by (Some p) more is = ap (λ (t : List Part). reverse (parts_among messages ++ t)) is ∙ reverse-append (parts_among messages) (p ∷ [])

abbrev SameParts : List Msg → List Msg → Type 0
SameParts shown heard = (display shown).parts ≡ reverse (parts_among heard)

same-parts : IsKept SameParts
same-parts c m same =
    ap (λ (d : Display). d.parts) (fold-append heard fresh c.shown (shown_of c.talk m))
    ∙ parts-shown c.talk (display c.shown) m
    ∙ ap (with_part (part_of m)) same
    ∙ sym (more_parts c.heard m)

-- ---- all happenings

told : (c : Client) (happenings : List Happening) → On SameParts c → TellsWholes (run c happenings)
told c happenings same = tells-display (run c happenings).shown ∙ ap (λ (ps : List Part). map whole_line (wholes CLIP_LIMIT ps)) (run-keeps SameParts same-parts c happenings same)

pub told-injecting : (happenings : List Happening) → TellsWholes (run injecting happenings)
told-injecting happenings = told injecting happenings refl

pub told-joining : (name : List ℕ) (w h : ℕ) (script : List ClientLine) (now : ℕ) (happenings : List Happening) → TellsWholes (run (joining name w h script now) happenings)
told-joining name w h script now happenings = told (joining name w h script now) happenings refl
