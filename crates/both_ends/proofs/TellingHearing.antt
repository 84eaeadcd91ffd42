-- What messages of clients do, told by the steps that rules are made of.
use Rattle.std.specs.Prelude.{◌≡◌, refl, ℕ, ◌∷◌, [], Option, Some, None}
use Rattle.share_base.specs.declared.shape.Shape.{Shape}
use Rattle.message_codec.specs.declared.messages.Msg.{Msg}
use Rattle.message_codec.specs.declared.messages.Msg.TheVariants as msg
use Rattle.screen_config.specs.Configurations.{screen_of}
use Rattle.screen_config.specs.Globals.{wire_options_of}
use Rattle.hello_states.specs.declared.part_cause.PartCause.TheVariants as cause
use Rattle.hello_states.specs.Phases.{Phase, Greeting, Asked, Joined, Parting, AskedScreen, JoinedScreen}
use Rattle.hello_states.specs.Handshake.{HelloAnswer, Refused, Admitted, hello_answer, after_hello, shape_of_info, asked_after_info, joined_after_info}
use Rattle.clip_chunks.specs.Parts.{Part, part}
use Rattle.clip_chunks.specs.OpenRuns.{whole_at}
use Rattle.clip_chunks.specs.Rules as rules
use Rattle.machine.specs.Targets.{Client, Own, same_target}
use Rattle.machine.specs.Connections.{advanced}
use Rattle.machine.specs.States.{State, Join}
use Rattle.machine.specs.Combining.{unchanged}
use Rattle.machine.specs.Screens.{phase_of, change, clamped}
use Rattle.machine.specs.Routing.{route, logs}
use Rattle.machine.specs.Clipboards.{clips_joined, clip_limit, whole}
use Rattle.machine.specs.Hello.{rate, is_used, answer}
use Rattle.machine.specs.Information.{name_of, join, clamp_cursor, reshape, hear_first_info, hear_later_info}
use Rattle.machine.specs.Hearing.{with_part, parts_from, hear_part, hear_greeting, hear_asked, hear_joined, was_heard, hear_in, hear}
use Rattle.machine.proofs.Rules.{when-keeps, for_some-keeps}
use Rattle.both_ends.proofs.Telling.{Kinds, IsTelling}
use Rattle.both_ends.proofs.TellingClipboards.{route_each-tells, grab-tells, whole-tells}
use Rattle.both_ends.proofs.TellingPartings.{part-tells, part_slow-tells}

-- ---- the answer to the greeting

hello-tells : {k : Kinds} (i : IsTelling k) (a : HelloAnswer) (accepted serial : ℕ) (s : State) → k.state s → k.state (answer a accepted serial s)
hello-tells i (Refused cause) accepted serial s h = part-tells i cause serial s h
hello-tells i (Admitted screen) accepted serial s h = i.changed serial (advanced (after_hello (Admitted screen) accepted (rate s) s.at)) (route Own (Client serial) msg.QueryInfo s) (i.asks screen accepted (rate s) s.at) (i.told Own (Client serial) msg.QueryInfo (i.bare msg.QueryInfo refl) s h)

-- ---- a screen's information

join-tells : {k : Kinds} (i : IsTelling k) (asked : AskedScreen) (shape : Shape) (serial : ℕ) (s : State) → k.shape shape → k.state s → k.state (join asked shape serial s)
join-tells i asked shape serial s sh h =
    let before : State = clips_joined asked.screen s in
    let there : State = change serial (advanced (asked_after_info (Some shape) s.at asked)) before in
    route_each-tells i Own (Client serial) (msg.InfoAck ∷ msg.ResetOptions ∷ msg.SetOptions (wire_options_of s.config asked.screen) ∷ []) (i.bare msg.InfoAck refl, (i.bare msg.ResetOptions refl, (i.options s asked.screen h, tt)))
    (logs (Join serial (name_of s asked.screen) ∷ []) there)
    (i.logged (Join serial (name_of s asked.screen) ∷ []) there (i.changed serial (advanced (asked_after_info (Some shape) s.at asked)) before (i.joins shape s.at asked sh) (i.each_clip (rules.joined asked.screen) s (λ c. i.joined asked.screen c) h)))

reshape-tells : {k : Kinds} (i : IsTelling k) (joined : JoinedScreen) (shape : Shape) (serial : ℕ) (s : State) → k.shape shape → k.state s → k.state (reshape joined shape serial s)
reshape-tells {k} i joined shape serial s sh h =
    let there : State = change serial (advanced (joined_after_info (Some shape) s.at joined)) s in
    when-keeps k.state (same_target s.active (Client serial)) (clamp_cursor shape) (λ t g. i.cursor (clamped shape t.cursor) t (i.clamps shape t.cursor sh) g) (route Own (Client serial) msg.InfoAck there)
    (i.told Own (Client serial) msg.InfoAck (i.bare msg.InfoAck refl) there (i.changed serial (advanced (joined_after_info (Some shape) s.at joined)) s (i.reshapes shape s.at joined sh) h))

first_info-tells : {k : Kinds} (i : IsTelling k) (asked : AskedScreen) (o : Option Shape) (serial : ℕ) (s : State) → ((shape : Shape) → o ≡ Some shape → k.shape shape) → k.state s → k.state (hear_first_info asked o serial s)
first_info-tells i asked None serial s sh h = part-tells i cause.Size serial s h
first_info-tells i asked (Some shape) serial s sh h = join-tells i asked shape serial s (sh shape refl) h

later_info-tells : {k : Kinds} (i : IsTelling k) (joined : JoinedScreen) (o : Option Shape) (serial : ℕ) (s : State) → ((shape : Shape) → o ≡ Some shape → k.shape shape) → k.state s → k.state (hear_later_info joined o serial s)
later_info-tells i joined None serial s sh h = part-tells i cause.Size serial s h
later_info-tells i joined (Some shape) serial s sh h = reshape-tells i joined shape serial s (sh shape refl) h

-- ---- parts of clipboards

hear_part-tells : {k : Kinds} (i : IsTelling k) (p : Part) (serial : ℕ) (s : State) → k.part p → k.state s → k.state (hear_part p serial s)
hear_part-tells {k} i p serial s kp h =
    let there : State = change serial (with_part p) s in
    let after : k.state there = i.changed serial (with_part p) s (i.has_part p kp) h in
    for_some-keeps k.state (whole_at (clip_limit s) p (parts_from s serial)) (λ bytes. whole p.clip serial p.seq bytes) unchanged there (λ bytes e. whole-tells i p.clip serial p.seq bytes there (i.wholes serial s p bytes kp e h) after) after

-- ---- messages

greeting-tells : {k : Kinds} (i : IsTelling k) (accepted : ℕ) (m : Msg) (serial : ℕ) (s : State) → k.state s → k.state (hear_greeting accepted m serial s)
greeting-tells i accepted (msg.HelloBack major minor name) serial s h = hello-tells i (hello_answer major minor (screen_of s.config name) (is_used s)) accepted serial s h
greeting-tells i accepted m serial s h = h

asked-tells : {k : Kinds} (i : IsTelling k) (asked : AskedScreen) (m : Msg) (serial : ℕ) (s : State) → k.heard m → k.state s → k.state (hear_asked asked m serial s)
asked-tells i asked (msg.Info x y w h warp mx my) serial s c g = first_info-tells i asked (shape_of_info x y w h) serial s (λ shape e. i.informed x y w h warp mx my shape c e) g
asked-tells i asked m serial s c g = g

joined-tells : {k : Kinds} (i : IsTelling k) (joined : JoinedScreen) (m : Msg) (serial : ℕ) (s : State) → k.heard m → k.state s → k.state (hear_joined joined m serial s)
joined-tells i joined (msg.Info x y w h warp mx my) serial s c g = later_info-tells i joined (shape_of_info x y w h) serial s (λ shape e. i.informed x y w h warp mx my shape c e) g
joined-tells i joined (msg.Grab clip seq) serial s c g = grab-tells i clip serial seq s g
joined-tells i joined (msg.ClipPart clip seq mark bytes) serial s c g = hear_part-tells i (part mark clip seq bytes) serial s (i.part_of clip seq mark bytes c) g
joined-tells i joined m serial s c g = g

hear_in-tells : {k : Kinds} (i : IsTelling k) (o : Option Phase) (m : Msg) (serial : ℕ) (s : State) → k.heard m → k.state s → k.state (hear_in o m serial s)
hear_in-tells i None m serial s c h = h
hear_in-tells i (Some (Greeting accepted)) m serial s c h = greeting-tells i accepted m serial s h
hear_in-tells i (Some (Asked asked)) m serial s c h = asked-tells i asked m serial s c h
hear_in-tells i (Some (Joined joined)) m serial s c h = joined-tells i joined m serial (change serial (was_heard s.at) s) c (i.changed serial (was_heard s.at) s (i.is_heard s.at) h)
hear_in-tells i (Some (Parting cause moment)) m serial s c h = h

pub hear-tells : {k : Kinds} (i : IsTelling k) (serial : ℕ) (m : Msg) (s : State) → k.heard m → k.state s → k.state (hear serial m s)
hear-tells i serial m s c h = part_slow-tells i (hear_in (phase_of s serial) m serial s) (hear_in-tells i (phase_of s serial) m serial s c h)
