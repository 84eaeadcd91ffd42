-- A bad frame stays one, whatever bytes follow it.
use Rattle.std.proofs.Common.{◌≡◌, ℕ, ◌≤◌, List, ◌++◌, length, ap, ◌∙◌, append_assoc, arith}
use Rattle.std.specs.Int.{w32, from_be_bytes}
use Rattle.std.proofs.lemmas.List.{length-append, take-append-le}
use Rattle.share_base.specs.declared.reason.Reason.{Reason}
use Rattle.share_base.specs.declared.reason.Reason.TheVariants as reason
use Rattle.wire_frames.specs.Framing.{frame, length_field, IsTooLong}
use Rattle.message_codec.specs.declared.messages.Msg.{Msg}
use Rattle.message_codec.specs.Streams.{frame_of, Reader}
use Rattle.message_codec.specs.Verdicts.{IsRefused, IsBad}

too_long-more : (limit : ℕ) (bytes more : List ℕ) → IsTooLong limit bytes
    → IsTooLong limit (bytes ++ more)
too_long-more limit bytes more h =
    let whole : 4 ≤ length bytes = h.whole in
    let same : length_field (bytes ++ more) ≡ length_field bytes =
    ap (from_be_bytes w32) (take-append-le 4 bytes more whole) in
    record {
      whole = omega (arith, h.whole, length-append bytes more);
      above = omega (arith, h.above, same);
    }

refused-more : (reader : Reader) (before : List Msg) (why : Reason) (bytes more : List ℕ)
    → IsRefused reader before why bytes → IsRefused reader before why (bytes ++ more)
refused-more reader before why bytes more h = record {
  body = h.body;
  more = h.more ++ more;
  front = ap (λ (t : List ℕ). t ++ more) h.front ∙ append_assoc (frame h.body) h.more more;
  within = h.within;
  fault = h.fault;
  refused = h.refused;
  for_it = h.for_it;
}

pub bad-more : (reader : Reader) (before : List Msg) (why : Reason) (bytes more : List ℕ)
    → IsBad reader before why bytes → IsBad reader before why (bytes ++ more)
bad-more reader before reason.TooLong bytes more h =
    too_long-more (reader.limit before) bytes more h
bad-more reader before reason.State bytes more h = record {
  message = h.message;
  more = h.more ++ more;
  front = ap (λ (t : List ℕ). t ++ more) h.front ∙ append_assoc (frame_of h.message) h.more more;
  within = h.within;
  spelled = h.spelled;
  not_taken = h.not_taken;
}
bad-more reader before reason.Cut bytes more h = h
bad-more reader before why bytes more h = refused-more reader before why bytes more h
