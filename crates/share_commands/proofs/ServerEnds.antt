-- What the counts of faults say of a command's status where its server ended.
use Rattle.std.proofs.Common.{◌≡◌, ℕ, List, Option, refl, sym, subst, arith}
use Rattle.screen_config.specs.Configurations.{Configuration}
use Rattle.share_base.specs.Writing.{SinkState}
use Rattle.engine_loop.specs.declared.serve_end.ServeEnd.{ServeEnd}
use Rattle.engine_loop.specs.declared.serve_end.ServeEnd.TheVariants as ends
use Rattle.engine_loop.specs.Serving.{HubCounts}
use Rattle.hub_serving.specs.Serving.{OutputCounts}
use Rattle.share_commands.specs.declared.status.Status.{Status}
use Rattle.share_commands.specs.declared.status.Status.TheVariants as status
use Rattle.share_commands.specs.Causes.{FileCauses, HubFaults}
use Rattle.share_commands.specs.Checking.{NoConfig}
use Rattle.share_commands.specs.Texts.{NoScript}
use Rattle.share_commands.specs.Replaying.{status_of_run}

-- ---- the hub was not called

pub unheard_config : (end : Status) (told : Option (List ℕ)) (faults : ℕ) → NoConfig end told
    → HubFaults end faults faults
unheard_config status.HubFault told faults none = absurd none
unheard_config status.WriteFault told faults none = absurd none
unheard_config status.OutOfMemory told faults none = omega arith
unheard_config end told faults none = refl

pub unheard_script : (config : Configuration) (end : Status) (told : Option (List ℕ)) (faults : ℕ)
    → NoScript config end told → HubFaults end faults faults
unheard_script config status.HubFault told faults none = absurd none
unheard_script config status.WriteFault told faults none = absurd none
unheard_script config status.OutOfMemory told faults none = omega arith
unheard_script config end told faults none = refl

-- ---- the server ended

heard : (ended : ServeEnd) (old new : ℕ) → HubCounts ended old new
    → HubFaults (status_of_run ended) old new
heard ends.Quit old new counts = counts
heard ends.Over old new counts = counts
heard ends.TurnsSpent old new counts = counts
heard ends.HubFault old new counts = counts
heard ends.WriteFault old new counts = counts
heard ends.OutOfMemory old new counts = counts

pub hub_of_end : (ended : ServeEnd) (end : Status) (old new : ℕ) → end ≡ status_of_run ended
    → HubCounts ended old new → HubFaults end old new
hub_of_end ended end old new is counts =
    subst (λ (s : Status). HubFaults s old new) (sym is) (heard ended old new counts)

counted : (ended : ServeEnd) (files files' : ℕ) (out out' : SinkState) → files' ≡ files
    → OutputCounts ended out.faults out'.faults
    → FileCauses (status_of_run ended) files files' out out'
counted ends.Quit files files' out out' same counts = (same, counts)
counted ends.Over files files' out out' same counts = (same, counts)
counted ends.TurnsSpent files files' out out' same counts = (same, counts)
counted ends.HubFault files files' out out' same counts = (same, counts)
counted ends.WriteFault files files' out out' same counts = (same, counts)
counted ends.OutOfMemory files files' out out' same counts = (same, counts)

pub causes_of_end : (ended : ServeEnd) (end : Status) (files files' : ℕ) (out out' : SinkState)
    → end ≡ status_of_run ended → files' ≡ files → OutputCounts ended out.faults out'.faults
    → FileCauses end files files' out out'
causes_of_end ended end files files' out out' is same counts =
    subst (λ (s : Status). FileCauses s files files' out out') (sym is)
    (counted ended files files' out out' same counts)
