-- What a client keeps when its stream goes on and its clock does.
use Rattle.std.specs.Prelude.{◌≡◌, refl, ℕ, List, [], ◌∷◌, length, drop, Option, Some, None}
use Rattle.message_codec.specs.declared.messages.Msg.{Msg}
use Rattle.message_codec.specs.Inboxes.{Inbox}
use Rattle.message_reader.specs.declared.reader.BadFrame.{BadFrame}
use Rattle.client_talk.specs.Talks.{Talk, told}
use Rattle.client_core.specs.declared.client_end.ClientEnd.{ClientEnd}
use Rattle.client_core.specs.declared.client_end.ClientEnd.TheVariants as end
use Rattle.client_core.specs.declared.client_end.LostCause.TheVariants as lost
use Rattle.client_core.specs.declared.stop.Stop.{Stop}
use Rattle.client_core.specs.declared.stop.Stop.TheVariants as stop
use Rattle.client_core.specs.Ends.{stop_in, end_for}
use Rattle.client_core.specs.Clients.{Client, while_going, listens, takes, hear, hear_all, fed, inbox_with, bad_in, fails, reads, got}
use Rattle.client_core.specs.Happenings.{waited, end_of_wait, tells, passes}

-- an end that its stream or its clock brings
abbrev pub IsOwn : Option ClientEnd → Type 0
IsOwn None = Unit {0}
IsOwn (Some end.Bye) = Unit {0}
IsOwn (Some (end.Refused which)) = Unit {0}
IsOwn (Some (end.BadPeer place reason)) = Unit {0}
IsOwn (Some (end.Lost lost.Dead)) = Unit {0}
IsOwn (Some (end.Lost lost.Slow)) = Unit {0}
IsOwn (Some e) = ⊥

-- what the steps keep that a piece and a moment are made of
pub record Keeps (P : Client → Type 0) : Type 0 where
  pub hears_one : (m : Msg) (c : Client) → P c → P (listens m c)
  pub ends : (e : ClientEnd) (c : Client) → IsOwn (Some e) → P c → P (record c { done = Some e })
  pub clock : (t : Talk) (c : Client) → c.talk ≡ Some t → (moment : ℕ) → P c → P (record c { talk = Some (waited (told moment t)); done = end_of_wait (told moment t) })

stop_own : (s : Stop) → IsOwn (Some (end_for s))
stop_own stop.Bye = tt
stop_own (stop.Refused which) = tt

module _ (P : Client → Type 0) (k : Keeps P) where
  hear_keeps : (done : Option ClientEnd) (by : Option Stop) (m : Msg) (c : Client) → P c → P (while_going done (takes by m) c)
  hear_keeps (Some e) by m c h = h
  hear_keeps None (Some s) m c h = k.ends (end_for s) c (stop_own s) h
  hear_keeps None None m c h = k.hears_one m c h

  pub hear-all-keeps : (ms : List Msg) (c : Client) → P c → P (hear_all c ms)
  hear-all-keeps [] c h = h
  hear-all-keeps (m ∷ ms) c h = hear-all-keeps ms (hear c m) (hear_keeps c.done (stop_in c.talk m) m c h)

  bad_keeps : (done : Option ClientEnd) (bad : Option BadFrame) (c : Client) → P c → P (while_going done (fails bad) c)
  bad_keeps (Some e) bad c h = h
  bad_keeps None None c h = h
  bad_keeps None (Some b) c h = k.ends (end.BadPeer b.place b.reason) c tt h

  reads_keeps : (box : Inbox) (c : Client) → P c → P (reads box c)
  reads_keeps box c h =
      let d : Client = hear_all c (drop (length c.heard) box.messages) in
      bad_keeps d.done (bad_in box) d (hear-all-keeps (drop (length c.heard) box.messages) c h)

  pub got-keeps : (piece : List ℕ) (c : Client) → P c → P (fed piece c) → P (got piece c)
  got-keeps piece c h more = by c.done
    where
      by : (done : Option ClientEnd) → P (while_going done (λ d. reads (inbox_with piece d) (fed piece d)) c)
      by (Some e) = h
      by None = reads_keeps (inbox_with piece c) (fed piece c) more

  pub passes-keeps : (moment : ℕ) (c : Client) → P c → P (passes moment c)
  passes-keeps moment c h = by c.done c.talk refl
    where
      by : (done : Option ClientEnd) (talk : Option Talk) → c.talk ≡ talk → P (while_going done (tells talk moment) c)
      by (Some e) talk is = h
      by None None is = h
      by None (Some t) is = k.clock t c is moment h
