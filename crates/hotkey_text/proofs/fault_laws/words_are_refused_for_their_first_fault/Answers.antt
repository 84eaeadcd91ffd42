use Rattle.hotkey_text.proofs.FirstFaults.{first_of_trigger, first_of_action}
use Rattle.hotkey_text.proofs.fault_laws.words_are_refused_for_their_first_fault.Goals as goal

pub returns : goal.returns
returns c = record { trigger = first_of_trigger; action = first_of_action }
