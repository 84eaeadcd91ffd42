-- How far a client came where memory ran out as it took an act: an act is taken whole, or in part.
use Rattle.std.specs.Prelude.{◌≡◌, ℕ, ◌⊎◌, List, [], ◌∷◌, ◌++◌, length, drop, Some, None}
use Rattle.message_codec.specs.declared.messages.Msg.{Msg}
use Rattle.message_reader.specs.Endings.{IsFront}
use Rattle.hub_acts.specs.declared.act.Act.{Act}
use Rattle.hub_acts.specs.declared.act.Act.TheVariants as act
use Rattle.hub_acts.specs.declared.answers.ReadAnswer.TheVariants as read
use Rattle.client_talk.specs.Talks.{Talk, told}
use Rattle.client_talk.specs.Scripts.{run_script}
use Rattle.client_core.specs.declared.client_end.ClientEnd.TheVariants as end
use Rattle.client_core.specs.Clients.{Client, hear_all, fed, inbox_with}
use Rattle.client_core.specs.Kept.{out_of_memory}
use Rattle.attentive_links.specs.Judging.{judged, first_judge}

-- of the messages that a piece adds it heard some, of which none ended it
pub record HeardSome (c : Client) (piece : List ℕ) (d : Client) : Type 0 where
  pub messages : List Msg
  pub first : IsFront messages (drop (length c.heard) (inbox_with piece c).messages)
  pub goes : (hear_all (fed piece c) messages).done ≡ None
  pub is : d ≡ out_of_memory (hear_all (fed piece c) messages)

-- of the script's lines that may run at a moment some ran
pub record RanSome (c : Client) (moment : ℕ) (d : Client) : Type 0 where
  pub before : Talk
  pub talk : Talk
  pub joins : c.talk ≡ Some before
  pub runs : run_script talk ≡ run_script (told moment before)
  pub is : d ≡ record c { talk = Some talk; done = Some end.OutOfMemory }

-- from the client before the act to the one that it is then
abbrev pub TakesInPart : Client → Act → Client → Type 0
TakesInPart c (act.LinkRead room (read.Got n) bytes) d = HeardSome c bytes d
TakesInPart c (act.LinkNow moment) d = RanSome c moment d
TakesInPart c a d = ⊥

abbrev pub client_of : Client → List Act → Client
client_of first acts = (judged (first_judge first) acts).client

-- it took the last act in part
pub record StopsShort (first : Client) (acts : List Act) (d : Client) : Type 0 where
  pub before : List Act
  pub last : Act
  pub split : acts ≡ before ++ last ∷ []
  pub takes : TakesInPart (client_of first before) last d

-- all acts were taken whole, or the last one in part
abbrev pub ComesTo : Client → List Act → Client → Type 0
ComesTo first acts d = (d ≡ client_of first acts) ⊎ StopsShort first acts d
