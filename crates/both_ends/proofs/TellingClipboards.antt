-- What clipboards do, told by the steps that rules are made of.
use Rattle.std.specs.Prelude.{ℕ, ◌&&◌, List, [], ◌∷◌, map}
use Rattle.std.specs.List.{AllByRecursion}
use Rattle.std.proofs.lemmas.Bool.{and_parts}
use Rattle.share_base.specs.declared.clip_id.ClipId.{ClipId}
use Rattle.share_base.specs.declared.clip_id.ClipId.TheVariants.{Clipboard, Selection}
use Rattle.message_codec.specs.declared.messages.Msg.{Msg}
use Rattle.message_codec.specs.declared.messages.Msg.TheVariants as msg
use Rattle.clip_chunks.specs.Parts.{message_of}
use Rattle.clip_chunks.specs.Sending.{parts_of}
use Rattle.clip_chunks.specs.Clips.{Clip}
use Rattle.clip_chunks.specs.Rules as rules
use Rattle.held_inputs.specs.declared.line.Line.TheVariants as printed
use Rattle.machine.specs.Scripts.{Copy}
use Rattle.machine.specs.Targets.{Target, Primary, Client, Own, Origin}
use Rattle.machine.specs.States.{State, Local}
use Rattle.machine.specs.Combining.{unchanged}
use Rattle.machine.specs.Screens.{screen_of, joined_screens, joined_clients}
use Rattle.machine.specs.Routing.{route, route_all, route_each}
use Rattle.machine.specs.Clipboards.{clip, set_clip, is_sharing, clip_limit, give, refresh, refresh_both, become_known, publish, copy, all_but, take_over, grab, whole}
use Rattle.machine.proofs.Rules.{when-keeps-if, for_some-keeps}
use Rattle.both_ends.proofs.Telling.{Kinds, IsTelling}

pub route_all-tells : {k : Kinds} (i : IsTelling k) (o : Origin) (ts : List Target) (m : Msg) → k.message m → (s : State) → k.state s → k.state (route_all o ts m s)
route_all-tells i o [] m p s h = h
route_all-tells i o (t ∷ ts) m p s h = route_all-tells i o ts m p (route o t m s) (i.told o t m p s h)

pub route_each-tells : {k : Kinds} (i : IsTelling k) (o : Origin) (t : Target) (ms : List Msg) → AllByRecursion k.message ms → (s : State) → k.state s → k.state (route_each o t ms s)
route_each-tells i o t [] p s h = h
route_each-tells i o t (m ∷ ms) p s h = route_each-tells i o t ms p.1 (route o t m s) (i.told o t m p.0 s h)

give-tells : {k : Kinds} (i : IsTelling k) (id : ClipId) (bytes : List ℕ) (t : Target) (s : State) → k.bytes bytes → k.state s → k.state (give id bytes t s)
give-tells i id bytes Primary s b h = i.logged (Local (printed.Clip id bytes) ∷ []) s h
give-tells i id bytes (Client n) s b h = route_each-tells i Own (Client n) (map message_of (parts_of id 0 bytes)) (i.copied id bytes b) s h

refresh-tells : {k : Kinds} (i : IsTelling k) (id : ClipId) (s : State) → k.state s → k.state (refresh id s)
refresh-tells {k} i id s h =
    let c : Clip = rules.entered (screen_of s s.active) (clip s id) in
    for_some-keeps k.state (rules.given (screen_of s s.active) (clip s id)) (λ bytes t. give id bytes t.active (set_clip id (rules.entered (screen_of t t.active) (clip t id)) t)) unchanged s
    (λ bytes e. give-tells i id bytes s.active (set_clip id c s) (i.given (screen_of s s.active) (clip s id) bytes e (i.clip_of s id h)) (i.sets_clip id c s (i.entered (screen_of s s.active) (clip s id) (i.clip_of s id h)) h)) h

pub refresh_both-tells : {k : Kinds} (i : IsTelling k) (s : State) → k.state s → k.state (refresh_both s)
refresh_both-tells i s h = refresh-tells i Selection (refresh Clipboard s) (refresh-tells i Clipboard s h)

become_known-tells : {k : Kinds} (i : IsTelling k) (id : ClipId) (owner seq : ℕ) (bytes : List ℕ) (s : State) → k.bytes bytes → k.state s → k.state (become_known id owner seq bytes s)
become_known-tells i id owner seq bytes s b h = refresh-tells i id (set_clip id (rules.known owner seq bytes (joined_screens s)) s) (i.sets_clip id (rules.known owner seq bytes (joined_screens s)) s (i.known owner seq bytes (joined_screens s) b) h)

pub copy-tells : {k : Kinds} (i : IsTelling k) (id : ClipId) (bytes : List ℕ) (s : State) → k.line (Copy id bytes) → k.state s → k.state (copy id bytes s)
copy-tells {k} i id bytes s l h = when-keeps-if k.state (is_sharing s && rules.copy_counts (clip_limit s) bytes) (publish id bytes) s (λ e.
    let b : k.bytes bytes = i.copies s id bytes l (and_parts (is_sharing s) (rules.copy_counts (clip_limit s) bytes) e).1 h in
    become_known-tells i id s.primary s.sequence bytes (route_all Own (joined_clients s) (msg.Grab id 0) s) b (route_all-tells i Own (joined_clients s) (msg.Grab id 0) (i.grabs id) s h)) h

take_over-tells : {k : Kinds} (i : IsTelling k) (id : ClipId) (serial seq : ℕ) (s : State) → k.state s → k.state (take_over id serial seq s)
take_over-tells i id serial seq s h =
    let c : Clip = rules.unknown (screen_of s (Client serial)) seq in
    route_all-tells i Own (all_but serial s) (msg.Grab id 0) (i.grabs id) (set_clip id c s) (i.sets_clip id c s (i.unknown (screen_of s (Client serial)) seq) h)

pub grab-tells : {k : Kinds} (i : IsTelling k) (id : ClipId) (serial seq : ℕ) (s : State) → k.state s → k.state (grab id serial seq s)
grab-tells {k} i id serial seq s h = when-keeps-if k.state (is_sharing s && rules.grab_counts seq s.sequence (clip s id)) (take_over id serial seq) s (λ e. take_over-tells i id serial seq s h) h

pub whole-tells : {k : Kinds} (i : IsTelling k) (id : ClipId) (serial seq : ℕ) (bytes : List ℕ) (s : State) → k.bytes bytes → k.state s → k.state (whole id serial seq bytes s)
whole-tells {k} i id serial seq bytes s b h = when-keeps-if k.state (is_sharing s && rules.whole_counts (screen_of s (Client serial)) seq s.sequence (clip s id)) (become_known id (screen_of s (Client serial)) seq bytes) s (λ e. become_known-tells i id (screen_of s (Client serial)) seq bytes s b h) h
