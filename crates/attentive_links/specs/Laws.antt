-- Laws over attentive acts on a link.
use Rattle.std.specs.Prelude.{◌≡◌, ℕ, List, [], ◌∷◌, ◌++◌, take, None}
use Rattle.std.specs.List.{flat_map}
use Rattle.share_base.specs.Fronts.{IsFront}
use Rattle.hub_acts.specs.declared.act.Act.{Act}
use Rattle.hub_acts.specs.declared.act.Act.TheVariants as act
use Rattle.hub_acts.specs.declared.answers.WriteAnswer.TheVariants as written
use Rattle.client_core.specs.Clients.{Client}
use Rattle.client_core.specs.Happenings.{sent, run}
use Rattle.attentive_links.specs.Telling.{happenings}
use Rattle.attentive_links.specs.Judging.{Follows, first_judge}
use Rattle.attentive_links.specs.InPart.{client_of}

abbrev pub AreAttentive : Client → List Act → Type 0
AreAttentive first acts = Follows (first_judge first) acts

-- ---- the client

-- acts lead the client where their happenings do
abbrev pub LeadByHappenings : Type 0
LeadByHappenings =
    (first : Client) (acts : List Act) → client_of first acts ≡ run first (happenings acts)

-- no act is made once the client has an end
abbrev pub NoneAfterItsEnd : Type 0
NoneAfterItsEnd =
    (first : Client) (before after : List Act) (a : Act) → first.done ≡ None
    → AreAttentive first (before ++ a ∷ after) → (client_of first before).done ≡ None

-- ---- prefixes

-- the bytes that the writes took, one after another
abbrev pub taken_in : Act → List ℕ
taken_in (act.LinkWrite bytes (written.Took n)) = take n bytes
taken_in a = []

abbrev pub taken_bytes : List Act → List ℕ
taken_bytes acts = flat_map taken_in acts

-- what the link has taken is a front of what the client has sent
abbrev pub TakenInOrder : Type 0
TakenInOrder =
    (first : Client) (acts : List Act) → first.taken ≡ []
    → AreAttentive first acts → IsFront (taken_bytes acts) (sent (client_of first acts))
