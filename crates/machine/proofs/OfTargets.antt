-- The messages for a target after one entry more.
use Rattle.std.specs.Prelude.{◌≡◌, refl, Bool, true, false, List, [], ◌∷◌, ◌++◌}
use Rattle.std.proofs.Common.{sym, subst}
use Rattle.std.proofs.lemmas.List.{map-append}
use Rattle.message_codec.specs.declared.messages.Msg.{Msg}
use Rattle.machine.specs.Targets.{Target, Entry, same_target}
use Rattle.machine.specs.Queues.{entries_for, messages_in, messages_for}
use Rattle.machine.proofs.Targets.{added_if, entries-more}

-- where what holds of the messages goes on holding
pub messages-more : (P : List Msg → Type 0) (t : Target) (routed : List Entry) (e : Entry) → (same_target e.target t ≡ false → P (messages_for t routed)) → (same_target e.target t ≡ true → P (messages_for t routed ++ e.message ∷ [])) → P (messages_for t (routed ++ e ∷ []))
messages-more P t routed e old new = subst (λ es. P (messages_in es)) (sym (entries-more t routed e)) (by (same_target e.target t) refl)
  where
    by : (b : Bool) → same_target e.target t ≡ b → P (messages_in (added_if b (entries_for t routed) e))
    by true h = subst P (sym (map-append (λ (x : Entry). x.message) (entries_for t routed) (e ∷ []))) (new h)
    by false h = old h
