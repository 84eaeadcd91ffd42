-- A primary after one message more.
use Rattle.std.specs.Prelude.{◌≡◌, refl, ℕ, Result, Ok, Err, OnOk, List, [], ◌∷◌, ◌++◌, map}
use Rattle.std.specs.List.{flat_map}
use Rattle.std.proofs.Common.{ap, sym, ◌∙◌, subst}
use Rattle.std.proofs.lemmas.List.{append-nil, map-append}
use Rattle.share_base.specs.declared.clip_id.ClipId.{ClipId}
use Rattle.message_codec.specs.declared.messages.Msg.{Msg}
use Rattle.message_codec.specs.declared.messages.Msg.TheVariants as msg
use Rattle.modifier_map.specs.Map.{identity}
use Rattle.held_inputs.specs.declared.injector.Injector.{Injector}
use Rattle.held_inputs.specs.declared.line.Line.TheVariants as line
use Rattle.held_inputs.specs.Line.{line_of}
use Rattle.held_inputs.specs.Screen.{Screen, Applies, applied, after, screen}
use Rattle.held_inputs.specs.Stands.{Stands, Prints}
use Rattle.held_inputs.proofs.Histories.{screen-grows}
use Rattle.machine.specs.States.{Local}
use Rattle.machine.specs.Routing.{screen_after, local_lines}
use Rattle.machine.specs.Logs.{log_line}
use Rattle.server_log.specs.declared.primary.Primary.{Primary}
use Rattle.server_log.specs.LocalText.{local_text}
use Rattle.server_log.specs.Telling.{Tells}
use Rattle.server_log.proofs.LocalTexts.{all-lines}

-- its screen after them
one-more : (messages : List Msg) (m : Msg) → screen_after (messages ++ m ∷ []) ≡ after (screen_after messages) (Applies m)
one-more messages m = ap (screen identity) (map-append Applies messages (m ∷ [])) ∙ screen-grows identity (map Applies messages) (Applies m)

stands-more : (i : Injector) (messages : List Msg) (m : Msg) → Stands i (after (screen_after messages) (Applies m)) → Stands i (screen_after (messages ++ m ∷ []))
stands-more i messages m h = subst (λ s. Stands i s) (sym (one-more messages m)) h

-- every message but a grab
plain-lines : (messages : List Msg) (m : Msg) → ((clip : ClipId) (seq : ℕ) → m ≡ msg.Grab clip seq → ⊥) → local_lines messages m ≡ applied (screen_after messages) m
plain-lines messages (msg.Grab clip seq) h = absurd (h clip seq refl)
plain-lines messages m h = refl

pub tells-applied : (old new : Primary) (m : Msg) (before log start printed : List ℕ) → ((clip : ClipId) (seq : ℕ) → m ≡ msg.Grab clip seq → ⊥) → Prints old.injector new.injector (Applies m) start printed → start ≡ [] → log ≡ before ++ local_text printed → Tells old new m before log
tells-applied old new m before log start printed other prints empty logged = record {
  stands = λ messages h. stands-more new.injector messages m (prints.stands (screen_after messages) h);
  logged = λ messages h.
      let s : Screen = screen_after messages in
      logged ∙ ap (λ xs. before ++ xs) (ap local_text (prints.gives s h ∙ ap (λ xs. xs ++ flat_map line_of (applied s m)) empty) ∙ (all-lines (applied s m) (prints.fits s h) ∙ ap (λ ls. flat_map log_line (map Local ls)) (sym (plain-lines messages m other))));
}

-- a grab
unmoved : (i : Injector) (s : Screen) (clip : ClipId) (seq : ℕ) → Stands i s → Stands i (after s (Applies (msg.Grab clip seq)))
unmoved i s clip seq h = subst (λ ls. Stands i (record { lines = ls; mods = s.mods })) (sym (append-nil s.lines)) h

grabs : (p : Primary) (clip : ClipId) (seq : ℕ) (before log : List ℕ) → log ≡ before ++ log_line (Local (line.Grab clip)) → Tells p p (msg.Grab clip seq) before log
grabs p clip seq before log logged = record {
  stands = λ messages h. stands-more p.injector messages (msg.Grab clip seq) (unmoved p.injector (screen_after messages) clip seq h);
  logged = λ messages h. logged ∙ ap (λ xs. before ++ xs) (sym (append-nil (log_line (Local (line.Grab clip)))));
}

pub tells-grab : {A E : Type 0} (r : Result A E) (p : Primary) (m : Msg) (clip : ClipId) (seq : ℕ) (before log : List ℕ) → m ≡ msg.Grab clip seq → OnOk r (log ≡ before ++ log_line (Local (line.Grab clip))) → OnOk r (Tells p p m before log)
tells-grab (Ok x) p m clip seq before log is logged = subst (λ n. Tells p p n before log) (sym is) (grabs p clip seq before log logged)
tells-grab (Err e) p m clip seq before log is logged = tt
