-- How a command ends where its input ends.
use Rattle.std.proofs.Common.{◌≡◌, ℕ, List, [], ◌∷◌, Option, Some, None, refl, sym, ap, subst, ◌∙◌}
use Rattle.share_base.specs.declared.reason.Reason.TheVariants as reason
use Rattle.message_codec.specs.declared.messages.Msg.{Msg}
use Rattle.message_codec.specs.Streams.{Reader, plain}
use Rattle.message_codec.specs.Verdicts.{Verdict}
use Rattle.message_reader.specs.Representation.{pending_at}
use Rattle.message_reader.specs.Steps.{partial_at}
use Rattle.share_commands.specs.declared.status.Status.{Status}
use Rattle.share_commands.specs.declared.status.Status.TheVariants as status
use Rattle.share_commands.specs.Ways.{Way}
use Rattle.share_commands.specs.Endings.{printed_of, between, decided, end_at}
use Rattle.share_commands.specs.Cores.{EndsHere}

-- by the frame that is there in part, if there is one
abbrev pub end_for : Way → Option ℕ → Status
end_for w None = between w
end_for w (Some place) = status.BadFrames place reason.Cut

end_for-partial : (w : Way) (place : ℕ) (rest : List ℕ) → end_for w (pending_at None place rest) ≡ end_at w place rest
end_for-partial w place [] = refl
end_for-partial w place (byte ∷ bytes) = refl

-- so it is by a reader's verdict
abbrev Follows : Way → List ℕ → List Msg → Option ℕ → Status → Reader → Type 0
Follows w stream messages found end r = (v : Verdict r stream) → decided w v ≡ None → messages ≡ printed_of w v → found ≡ partial_at v → EndsHere w end stream messages

pub ends_so : (w : Way) (reader : Reader) (stream : List ℕ) (messages : List Msg) (found : Option ℕ) (end : Status) → reader ≡ plain w.sender → (v : Verdict reader stream) → decided w v ≡ None → messages ≡ printed_of w v → found ≡ partial_at v → end ≡ end_for w found → EndsHere w end stream messages
ends_so w reader stream messages found end same v undecided printed partial is = subst (Follows w stream messages found end) (sym same) plainly v undecided printed partial
  where
    plainly : Follows w stream messages found end (plain w.sender)
    plainly u none all at = record { verdict = u; undecided = none; printed = all; end_is = is ∙ ap (end_for w) at ∙ end_for-partial w u.place u.rest }
