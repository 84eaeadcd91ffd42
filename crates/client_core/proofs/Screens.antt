-- A printer's screen after one more message, and after its end.
use Rattle.std.proofs.Common.{◌≡◌, ◌∙◌, ap, sym, subst, refl, ℕ, List, [], ◌∷◌, ◌++◌, map, append_assoc}
use Rattle.std.specs.List.{flat_map, fold, AllByRecursion}
use Rattle.std.specs.Prelude.{Option, Some, None, Result, Ok, Err, OnOk}
use Rattle.std.proofs.lemmas.List.{append-nil}
use Rattle.std.proofs.lemmas.List.Concat.{flat_map-append}
use Rattle.std.proofs.lemmas.List.Sums.{fold_push}
use Rattle.message_codec.specs.declared.messages.Msg.{Msg}
use Rattle.message_codec.specs.declared.messages.Msg.TheVariants as msg
use Rattle.share_base.specs.declared.clip_id.ClipId.{ClipId}
use Rattle.message_codec.specs.declared.clip_mark.ClipMark.{ClipMark}
use Rattle.clip_chunks.specs.Parts.{Part, part}
use Rattle.clip_chunks.specs.OpenRuns.{whole_of, whole_at}
use Rattle.modifier_map.specs.Map.{identity}
use Rattle.held_inputs.specs.declared.line.Line.{Line}
use Rattle.held_inputs.specs.declared.line.Line.TheVariants as line
use Rattle.held_inputs.specs.declared.injector.Injector.{Injector}
use Rattle.held_inputs.specs.Line.{line_of}
use Rattle.held_inputs.specs.Down.{releases, IsPlain}
use Rattle.held_inputs.specs.Screen.{Screen, Applies, ResetsOptions, ReleasesAll, after, lines_of, with_lines}
use Rattle.held_inputs.specs.Stands.{Stands, Prints}
use Rattle.held_inputs.proofs.Good.{Good, good-step}
use Rattle.held_inputs.proofs.Plain.{stands-with_lines, good-plain}
use Rattle.held_inputs.proofs.Clearing.{cleared, good-releases}
use Rattle.held_inputs.proofs.Histories.{good-call, good-nil, balanced-from}
use Rattle.held_inputs.proofs.Standing.{stands-plain}
use Rattle.client_core.specs.declared.printer.Printer.{Printer}
use Rattle.client_talk.specs.Options.{pairs}
use Rattle.client_core.specs.declared.clipboards.Clipboards.{Clipboards}
use Rattle.client_core.specs.declared.clipboards.TheConstants.{CLIP_LIMIT}
use Rattle.client_core.specs.Clipboards.{whole_line, AreFor, Brings}
use Rattle.client_core.specs.Hearing.{Display, with_screen, with_part, option_lines, set_all, heard, fresh, display, client, SetsAll}
use Rattle.client_core.specs.Showing.{Shows, Turns, ShowsOn, Clears, LetsGo, Releases, SamePrinted}
use Rattle.client_core.specs.Kept.{Released}

-- ---- what is printed

-- lines were added to the printer's, and as many to the screen's
more_printed : (front old new more : List ℕ) (lines added : List Line) → front ++ old ≡ flat_map line_of lines → new ≡ old ++ more → more ≡ flat_map line_of added → front ++ new ≡ flat_map line_of (lines ++ added)
more_printed front old new more lines added was new-is more-is =
    ap (λ (t : List ℕ). front ++ t) new-is
    ∙ sym (append_assoc front old more)
    ∙ ap (λ (t : List ℕ). t ++ more) was
    ∙ ap (λ (t : List ℕ). flat_map line_of lines ++ t) more-is
    ∙ sym (flat_map-append line_of lines added)

one_line : (l : Line) → line_of l ≡ flat_map line_of (l ∷ [])
one_line l = sym (append-nil (line_of l))

pub shows-first : (p : Printer) → Stands p.injector fresh.screen → AreFor p.clips [] → p.lines.items ≡ [] → Shows p fresh []
shows-first p stands clips none = record { stands = stands; clips = clips; printed = none }

-- a screen with another map and other lines is displayed, of which the clipboards are the same
same_clips : (old new : Printer) (parts : List Part) → new.clips ≡ old.clips → AreFor old.clips parts → AreFor new.clips parts
same_clips old new parts same h = subst (λ (k : Clipboards). AreFor k parts) (sym same) h

-- ---- one message

pub shows-reset : (old new : Printer) → ((s : Screen) → Stands old.injector s → Stands new.injector (after s ResetsOptions)) → new.clips ≡ old.clips → new.lines.items ≡ old.lines.items ++ line_of line.ResetOptions → Turns (λ d. heard d msg.ResetOptions) old new
shows-reset old new resets same lines d front h =
    let s : Screen = d.screen in record {
      stands = stands-plain new.injector (record { lines = s.lines; mods = identity }) line.ResetOptions (λ b. refl) (λ b. refl)
          (subst (λ (t : List Line). Stands new.injector (record { lines = t; mods = identity })) (append-nil s.lines) (resets s h.stands));
      clips = same_clips old new d.parts same h.clips;
      printed = more_printed front old.lines.items new.lines.items (line_of line.ResetOptions) s.lines (line.ResetOptions ∷ []) h.printed lines (one_line line.ResetOptions);
    }

-- lines that name nothing that is down
shows-plain : (old new : Printer) (more : List Line) → AllByRecursion IsPlain more → new.injector ≡ old.injector → new.lines.items ≡ old.lines.items ++ flat_map line_of more → (d : Display) (parts : List Part) (front : List ℕ) → AreFor new.clips parts → Shows old d front
    → Shows new (record { screen = with_lines d.screen more; parts = parts }) front
shows-plain old new more plain same lines d parts front clips h = record {
  stands = subst (λ (i : Injector). Stands i (with_lines d.screen more)) (sym same) (stands-with_lines old.injector d.screen more plain h.stands);
  clips = clips;
  printed = more_printed front old.lines.items new.lines.items (flat_map line_of more) d.screen.lines more h.printed lines refl;
}

shows-grab : (old new : Printer) (clip : ClipId) (seq : ℕ) → new.injector ≡ old.injector → new.clips ≡ old.clips → new.lines.items ≡ old.lines.items ++ line_of (line.Grab clip) → Turns (λ d. heard d (msg.Grab clip seq)) old new
shows-grab old new clip seq same clips lines d front h =
    shows-plain old new (line.Grab clip ∷ []) (tt, tt) same (lines ∙ ap (λ (t : List ℕ). old.lines.items ++ t) (one_line (line.Grab clip))) d d.parts front (same_clips old new d.parts clips h.clips) h

-- a part, which may end a whole
shows-part : (old new : Printer) (p : Part) (whole : Option (List ℕ)) → new.injector ≡ old.injector → Brings old.clips new.clips p whole → new.lines.items ≡ old.lines.items ++ flat_map line_of (map whole_line (whole_of p whole)) → Turns (with_part p) old new
shows-part old new p whole same brings lines d front h =
    subst (λ (o : Option (List ℕ)). Shows new (record { screen = with_lines d.screen (map whole_line (whole_of p o)); parts = p ∷ d.parts }) front) (brings.gives d.parts h.clips)
    (shows-plain old new (map whole_line (whole_of p whole)) (plain whole) same lines d (p ∷ d.parts) front (brings.stands d.parts h.clips) h)
  where
    plain : (o : Option (List ℕ)) → AllByRecursion IsPlain (map whole_line (whole_of p o))
    plain None = tt
    plain (Some bytes) = (tt, tt)

pub shows-part-none : (old new : Printer) (p : Part) (whole : Option (List ℕ)) → whole ≡ None → new.injector ≡ old.injector → Brings old.clips new.clips p whole → new.lines.items ≡ old.lines.items → Turns (with_part p) old new
shows-part-none old new p whole none same brings lines =
    shows-part old new p whole same brings (lines ∙ sym (append-nil old.lines.items) ∙ ap (λ (o : Option (List ℕ)). old.lines.items ++ flat_map line_of (map whole_line (whole_of p o))) (sym none))

pub shows-part-some : (old new : Printer) (p : Part) (whole : Option (List ℕ)) (bytes : List ℕ) → whole ≡ Some bytes → new.injector ≡ old.injector → Brings old.clips new.clips p whole → new.lines.items ≡ old.lines.items ++ line_of (line.Clip p.clip bytes) → Turns (with_part p) old new
shows-part-some old new p whole bytes some same brings lines =
    shows-part old new p whole same brings
    (lines ∙ ap (λ (t : List ℕ). old.lines.items ++ t) (one_line (line.Clip p.clip bytes)) ∙ ap (λ (o : Option (List ℕ)). old.lines.items ++ flat_map line_of (map whole_line (whole_of p o))) (sym some))

plain-options : (options : List (ℕ × ℕ)) → AllByRecursion IsPlain (map (λ (option : ℕ × ℕ). line.SetOption option.0 option.1) options)
plain-options [] = tt
plain-options (o ∷ os) = (tt, plain-options os)

pub shows-options : (old new : Printer) (words : List ℕ) → SetsAll old.injector new.injector words → new.clips ≡ old.clips → new.lines.items ≡ old.lines.items ++ flat_map line_of (option_lines words) → Turns (λ d. heard d (msg.SetOptions words)) old new
shows-options old new words sets same lines d front h =
    let s : Screen = d.screen in record {
      stands = stands-with_lines new.injector (record { lines = s.lines; mods = set_all s.mods words }) (option_lines words) (plain-options (pairs words)) (sets s h.stands);
      clips = same_clips old new d.parts same h.clips;
      printed = more_printed front old.lines.items new.lines.items (flat_map line_of (option_lines words)) s.lines (option_lines words) h.printed lines refl;
    }

pub shows-applied : (old new : Printer) (m : Msg) → new.clips ≡ old.clips → Prints old.injector new.injector (Applies m) old.lines.items new.lines.items → Turns (λ d. with_screen (after d.screen (Applies m)) d) old new
shows-applied old new m same prints d front h =
    let s : Screen = d.screen in
    let added : List ℕ = flat_map line_of (lines_of s (Applies m)) in record {
      stands = prints.stands s h.stands;
      clips = same_clips old new d.parts same h.clips;
      printed = more_printed front old.lines.items new.lines.items added s.lines (lines_of s (Applies m)) h.printed (prints.gives s h.stands) refl;
    }

pub shows-same : (old new : Printer) → new.injector ≡ old.injector → new.clips ≡ old.clips → new.lines.items ≡ old.lines.items → ShowsOn old new
shows-same old new same clips lines d front h = record {
  stands = subst (λ (i : Injector). Stands i d.screen) (sym same) h.stands;
  clips = same_clips old new d.parts clips h.clips;
  printed = ap (λ (t : List ℕ). front ++ t) lines ∙ h.printed;
}

-- a printer that has only more room
pub shows-roomy : (old new : Printer) → SamePrinted old new → ShowsOn old new
shows-roomy old new s = shows-same old new s.injector s.clips s.lines

pub turns-roomy : (next : Display → Display) (old mid new : Printer) → SamePrinted old mid → Turns next mid new → Turns next old new
turns-roomy next old mid new s turns d front h = turns d front (shows-roomy old mid s d front h)

pub shows-cleared : (old new : Printer) → new.injector ≡ old.injector → new.clips ≡ old.clips → new.lines.items ≡ [] → Clears old new
shows-cleared old new same clips none d front h = record {
  stands = subst (λ (i : Injector). Stands i d.screen) (sym same) h.stands;
  clips = same_clips old new d.parts clips h.clips;
  printed = ap (λ (t : List ℕ). (front ++ old.lines.items) ++ t) none ∙ append-nil (front ++ old.lines.items) ∙ h.printed;
}

pub shows-released : (old : Printer) (new : Injector) (bytes : List ℕ) → Prints old.injector new ReleasesAll [] bytes → LetsGo old bytes
shows-released old new bytes prints d front h =
    ap (λ (t : List ℕ). t ++ bytes) h.printed
    ∙ ap (λ (t : List ℕ). flat_map line_of d.screen.lines ++ t) (prints.gives d.screen h.stands)
    ∙ sym (flat_map-append line_of d.screen.lines (releases d.screen.lines))

-- ---- all messages

-- the display after one message more
pub display-more : (messages : List Msg) (m : Msg) → display (messages ++ m ∷ []) ≡ heard (display messages) m
display-more messages m = fold_push heard fresh messages m

good-heard : (d : Display) → Good d.screen.lines → (m : Msg) → Good (heard d m).screen.lines
good-heard d h msg.ResetOptions = good-step d.screen.lines line.ResetOptions h tt
good-heard d h (msg.SetOptions words) = good-plain d.screen.lines (option_lines words) (plain-options (pairs words)) h
good-heard d h (msg.Grab clip seq) = good-step d.screen.lines (line.Grab clip) h tt
good-heard d h (msg.ClipPart clip seq mark bytes) = part_good (whole_at CLIP_LIMIT (part mark clip seq bytes) d.parts)
  where
    part_good : (o : Option (List ℕ)) → Good (d.screen.lines ++ map whole_line (whole_of (part mark clip seq bytes) o))
    part_good None = subst Good (sym (append-nil d.screen.lines)) h
    part_good (Some all) = good-step d.screen.lines (line.Clip clip all) h tt
good-heard d h m = good-call d.screen h (Applies m)

good-client : (messages : List Msg) → Good (client messages).lines
good-client messages = all fresh good-nil messages
  where
    all : (d : Display) → Good d.screen.lines → (ms : List Msg) → Good (fold heard d ms).screen.lines
    all d h [] = h
    all d h (m ∷ ms) = all (heard d m) (good-heard d h m) ms

pub released : (messages : List Msg) (bytes : List ℕ) → Releases (client messages) bytes → Released messages bytes
released messages bytes printed =
    let lines : List Line = (client messages).lines in
    let good : Good (lines ++ releases lines) = good-releases lines (good-client messages) in record {
      printed = printed;
      balanced = balanced-from (lines ++ releases lines) good (cleared lines);
      leaves = good.leaves;
    }

-- ---- a message that is heard

-- messages of options and of clipboards, whose lines are not the injector's
abbrev pub IsOwn : Msg → Type 0
IsOwn msg.ResetOptions = Unit {0}
IsOwn (msg.SetOptions words) = Unit {0}
IsOwn (msg.Grab clip seq) = Unit {0}
IsOwn (msg.ClipPart clip seq mark bytes) = Unit {0}
IsOwn _ = ⊥

-- any other message is applied
heard-other : (d : Display) (m : Msg) → (IsOwn m → ⊥) → with_screen (after d.screen (Applies m)) d ≡ heard d m
heard-other d msg.ResetOptions other = absurd (other tt)
heard-other d (msg.SetOptions words) other = absurd (other tt)
heard-other d (msg.Grab clip seq) other = absurd (other tt)
heard-other d (msg.ClipPart clip seq mark bytes) other = absurd (other tt)
heard-other d m other = refl

pub is-other : (m : Msg) → (m ≡ msg.ResetOptions → ⊥) → ((words : List ℕ) → m ≡ msg.SetOptions words → ⊥) → ((clip : ClipId) (seq : ℕ) → m ≡ msg.Grab clip seq → ⊥) → ((clip : ClipId) (seq : ℕ) (mark : ClipMark) (bytes : List ℕ) → m ≡ msg.ClipPart clip seq mark bytes → ⊥) → IsOwn m → ⊥
is-other msg.ResetOptions reset options grab part own = reset refl
is-other (msg.SetOptions words) reset options grab part own = options words refl
is-other (msg.Grab clip seq) reset options grab part own = grab clip seq refl
is-other (msg.ClipPart clip seq mark bytes) reset options grab part own = part clip seq mark bytes refl
is-other m reset options grab part own = own

pub heard-applied : {A E : Type 0} (r : Result A E) (old new : Printer) (m : Msg) → (IsOwn m → ⊥) → OnOk r (Turns (λ d. with_screen (after d.screen (Applies m)) d) old new) → OnOk r (Turns (λ d. heard d m) old new)
heard-applied (Ok x) old new m other applied = λ d front h. subst (λ (e : Display). Shows new e front) (heard-other d m other) (applied d front h)
heard-applied (Err e) old new m other applied = tt

pub heard-grab : {A E : Type 0} (r : Result A E) (old new : Printer) (m : Msg) (clip : ClipId) (seq : ℕ) → m ≡ msg.Grab clip seq → new.injector ≡ old.injector → new.clips ≡ old.clips → OnOk r (new.lines.items ≡ old.lines.items ++ line_of (line.Grab clip)) → OnOk r (Turns (λ d. heard d m) old new)
heard-grab (Ok x) old new m clip seq is same clips lines = λ d front h. subst (λ (k : Msg). Shows new (heard d k) front) (sym is) (shows-grab old new clip seq same clips lines d front h)
heard-grab (Err e) old new m clip seq is same clips lines = tt
