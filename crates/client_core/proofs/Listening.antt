-- What is so of the messages that a client's screen got and of those that it heard, and stays so when it listens to one more, stays so whatever happens.
use Rattle.std.specs.Prelude.{ℕ, List, [], ◌∷◌, length, drop, Option, Some, None}
use Rattle.message_codec.specs.declared.messages.Msg.{Msg}
use Rattle.message_codec.specs.Inboxes.{Inbox}
use Rattle.message_reader.specs.declared.reader.BadFrame.{BadFrame}
use Rattle.client_talk.specs.Talks.{Talk}
use Rattle.client_core.specs.declared.client_end.ClientEnd.{ClientEnd}
use Rattle.client_core.specs.declared.stop.Stop.{Stop}
use Rattle.client_core.specs.Ends.{stop_in}
use Rattle.client_core.specs.Clients.{Client, while_going, listens, takes, hear, hear_all, fed, inbox_with, bad_in, fails, reads}
use Rattle.client_core.specs.Happenings.{Happening, Got, Moment, Took, Ended, tells, step, run}

abbrev pub On : (List Msg → List Msg → Type 0) → Client → Type 0
On P c = P c.shown c.heard

abbrev pub IsKept : (List Msg → List Msg → Type 0) → Type 0
IsKept P = (c : Client) (m : Msg) → On P c → On P (listens m c)

hear-keeps : (P : List Msg → List Msg → Type 0) → IsKept P → (done : Option ClientEnd) (by : Option Stop) (c : Client) (m : Msg) → On P c → On P (while_going done (takes by m) c)
hear-keeps P kept (Some e) by c m h = h
hear-keeps P kept None (Some s) c m h = h
hear-keeps P kept None None c m h = kept c m h

all-keep : (P : List Msg → List Msg → Type 0) → IsKept P → (c : Client) (ms : List Msg) → On P c → On P (hear_all c ms)
all-keep P kept c [] h = h
all-keep P kept c (m ∷ ms) h = all-keep P kept (hear c m) ms (hear-keeps P kept c.done (stop_in c.talk m) c m h)

fails-keeps : (P : List Msg → List Msg → Type 0) (done : Option ClientEnd) (bad : Option BadFrame) (c : Client) → On P c → On P (while_going done (fails bad) c)
fails-keeps P (Some e) bad c h = h
fails-keeps P None None c h = h
fails-keeps P None (Some b) c h = h

got-keeps : (P : List Msg → List Msg → Type 0) → IsKept P → (done : Option ClientEnd) (piece : List ℕ) (c : Client) → On P c → On P (while_going done (λ d. reads (inbox_with piece d) (fed piece d)) c)
got-keeps P kept (Some e) piece c h = h
got-keeps P kept None piece c h =
    let box : Inbox = inbox_with piece c in
    let d : Client = hear_all (fed piece c) (drop (length c.heard) box.messages) in
    fails-keeps P d.done (bad_in box) d (all-keep P kept (fed piece c) (drop (length c.heard) box.messages) h)

passes-keeps : (P : List Msg → List Msg → Type 0) (done : Option ClientEnd) (talk : Option Talk) (moment : ℕ) (c : Client) → On P c → On P (while_going done (tells talk moment) c)
passes-keeps P (Some e) talk moment c h = h
passes-keeps P None None moment c h = h
passes-keeps P None (Some t) moment c h = h

step-keeps : (P : List Msg → List Msg → Type 0) → IsKept P → (c : Client) (happening : Happening) → On P c → On P (step c happening)
step-keeps P kept c (Got piece) h = got-keeps P kept c.done piece c h
step-keeps P kept c (Moment moment) h = passes-keeps P c.done c.talk moment c h
step-keeps P kept c (Took count) h = h
step-keeps P kept c (Ended why) h = h

pub run-keeps : (P : List Msg → List Msg → Type 0) → IsKept P → (c : Client) (happenings : List Happening) → On P c → On P (run c happenings)
run-keeps P kept c [] h = h
run-keeps P kept c (x ∷ xs) h = run-keeps P kept (step c x) xs (step-keeps P kept c x h)
