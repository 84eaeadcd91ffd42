-- What clipboards do keeps every invariant.
use Rattle.std.specs.Prelude.{◌≡◌, refl, ℕ, Bool, true, not, ◌&&◌, List, [], ◌∷◌, ◌++◌, map}
use Rattle.std.specs.List.{list_all}
use Rattle.std.proofs.Common.{inl, inr}
use Rattle.std.proofs.lemmas.Bool.{and_parts}
use Rattle.share_base.specs.declared.clip_id.ClipId.{ClipId}
use Rattle.share_base.specs.declared.clip_id.ClipId.TheVariants.{Clipboard, Selection}
use Rattle.message_codec.specs.declared.messages.Msg.{Msg}
use Rattle.message_codec.specs.declared.messages.Msg.TheVariants as msg
use Rattle.message_codec.specs.declared.clip_mark.ClipMark.TheVariants as mark
use Rattle.clip_chunks.specs.Parts.{part, message_of}
use Rattle.clip_chunks.specs.Sending.{parts_of, chunks_of}
use Rattle.clip_chunks.specs.Rules as rules
use Rattle.held_inputs.specs.declared.line.Line.TheVariants as line
use Rattle.machine.specs.Targets.{Target, Primary, Client, Own, Origin, same_target}
use Rattle.machine.specs.States.{State, Local}
use Rattle.machine.specs.Combining.{unchanged}
use Rattle.machine.specs.Screens.{screen_of, joined_screens, joined_clients}
use Rattle.machine.specs.Routing.{route, route_all, route_each}
use Rattle.machine.specs.Clipboards.{clip, set_clip, is_sharing, clip_limit, give, refresh, refresh_both, become_known, publish, copy, all_but, take_over, grab, whole}
use Rattle.machine.proofs.Rules.{when-keeps, for_some-keeps}
use Rattle.machine.proofs.MessageKinds.{is_plain}
use Rattle.machine.proofs.Live.{IsKnown, AllKnown, joined-known, fewer-known}
use Rattle.machine.proofs.Invariant.{View, On, IsInvariant}

pub route_all-keeps : {key : ℕ → Bool} {allowed : Origin → Bool} {P : View → Type 0} (i : IsInvariant key allowed P) (o : Origin) → allowed o ≡ true → (ts : List Target) (m : Msg) → is_plain m ≡ true → (s : State) → AllKnown s ts → On P s → On P (route_all o ts m s)
route_all-keeps i o a [] m p s k h = h
route_all-keeps i o a (t ∷ ts) m p s k h = route_all-keeps i o a ts m p (route o t m s) k.1 (i.plain o a t m p s k.0 h)

pub route_each-keeps : {key : ℕ → Bool} {allowed : Origin → Bool} {P : View → Type 0} (i : IsInvariant key allowed P) (o : Origin) → allowed o ≡ true → (t : Target) (ms : List Msg) → list_all is_plain ms ≡ true → (s : State) → IsKnown s t → On P s → On P (route_each o t ms s)
route_each-keeps i o a t [] p s k h = h
route_each-keeps i o a t (m ∷ ms) p s k h = let b = and_parts (is_plain m) (list_all is_plain ms) p in route_each-keeps i o a t ms b.1 (route o t m s) k (i.plain o a t m b.0 s k h)

end_plain : (id : ClipId) (cs : List (List ℕ)) → list_all is_plain (map message_of (map (part mark.Chunk id 0) cs ++ part mark.End id 0 [] ∷ [])) ≡ true
end_plain id [] = refl
end_plain id (c ∷ cs) = end_plain id cs

give-keeps : {key : ℕ → Bool} {allowed : Origin → Bool} {P : View → Type 0} (i : IsInvariant key allowed P) (id : ClipId) (bytes : List ℕ) (t : Target) (s : State) → IsKnown s t → On P s → On P (give id bytes t s)
give-keeps i id bytes Primary s k h = i.logged (Local (line.Clip id bytes) ∷ []) s h
give-keeps i id bytes (Client n) s k h = route_each-keeps i Own i.own (Client n) (map message_of (parts_of id 0 bytes)) (end_plain id (chunks_of bytes)) s k h

refresh-keeps : {key : ℕ → Bool} {allowed : Origin → Bool} {P : View → Type 0} (i : IsInvariant key allowed P) (id : ClipId) (s : State) → On P s → On P (refresh id s)
refresh-keeps {P = P} i id s h = for_some-keeps (On P) (rules.given (screen_of s s.active) (clip s id)) (λ bytes t. give id bytes t.active (set_clip id (rules.entered (screen_of t t.active) (clip t id)) t)) unchanged s (λ bytes e. give-keeps i id bytes s.active (set_clip id (rules.entered (screen_of s s.active) (clip s id)) s) (inl refl) h) h

pub refresh_both-keeps : {key : ℕ → Bool} {allowed : Origin → Bool} {P : View → Type 0} (i : IsInvariant key allowed P) (s : State) → On P s → On P (refresh_both s)
refresh_both-keeps i s h = refresh-keeps i Selection (refresh Clipboard s) (refresh-keeps i Clipboard s h)

become_known-keeps : {key : ℕ → Bool} {allowed : Origin → Bool} {P : View → Type 0} (i : IsInvariant key allowed P) (id : ClipId) (owner seq : ℕ) (bytes : List ℕ) (s : State) → On P s → On P (become_known id owner seq bytes s)
become_known-keeps i id owner seq bytes s h = refresh-keeps i id (set_clip id (rules.known owner seq bytes (joined_screens s)) s) h

pub copy-keeps : {key : ℕ → Bool} {allowed : Origin → Bool} {P : View → Type 0} (i : IsInvariant key allowed P) (id : ClipId) (bytes : List ℕ) (s : State) → On P s → On P (copy id bytes s)
copy-keeps {P = P} i id bytes s h = when-keeps (On P) (is_sharing s && rules.copy_counts (clip_limit s) bytes) (publish id bytes) (λ t k. become_known-keeps i id t.primary t.sequence bytes (route_all Own (joined_clients t) (msg.Grab id 0) t) (route_all-keeps i Own i.own (joined_clients t) (msg.Grab id 0) refl t (joined-known t) k)) s h

take_over-keeps : {key : ℕ → Bool} {allowed : Origin → Bool} {P : View → Type 0} (i : IsInvariant key allowed P) (id : ClipId) (serial seq : ℕ) (s : State) → On P s → On P (take_over id serial seq s)
take_over-keeps i id serial seq s h =
    route_all-keeps i Own i.own (all_but serial s) (msg.Grab id 0) refl (set_clip id (rules.unknown (screen_of s (Client serial)) seq) s) (inr tt, fewer-known s (λ t. not (same_target t (Client serial))) (joined_clients s) (joined-known s)) h

pub grab-keeps : {key : ℕ → Bool} {allowed : Origin → Bool} {P : View → Type 0} (i : IsInvariant key allowed P) (id : ClipId) (serial seq : ℕ) (s : State) → On P s → On P (grab id serial seq s)
grab-keeps {P = P} i id serial seq s h = when-keeps (On P) (is_sharing s && rules.grab_counts seq s.sequence (clip s id)) (take_over id serial seq) (take_over-keeps i id serial seq) s h

pub whole-keeps : {key : ℕ → Bool} {allowed : Origin → Bool} {P : View → Type 0} (i : IsInvariant key allowed P) (id : ClipId) (serial seq : ℕ) (bytes : List ℕ) (s : State) → On P s → On P (whole id serial seq bytes s)
whole-keeps {P = P} i id serial seq bytes s h = when-keeps (On P) (is_sharing s && rules.whole_counts (screen_of s (Client serial)) seq s.sequence (clip s id)) (become_known id (screen_of s (Client serial)) seq bytes) (become_known-keeps i id (screen_of s (Client serial)) seq bytes) s h
