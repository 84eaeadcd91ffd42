-- The same bytes have one end.
use Rattle.std.proofs.Common.{◌≡◌, ◌<◌, ◌≤◌, ◌⊎◌, List, ℕ, length, Option, Some, None, sym, ap, subst, ◌∙◌, arith, inl, inr}
use Rattle.std.specs.Option.{option_map, option_or}
use Rattle.std.proofs.lemmas.Option.{same_Some}
use Rattle.share_base.specs.declared.reason.Reason.{Reason}
use Rattle.share_base.specs.Reading.{SourceState}
use Rattle.message_codec.specs.declared.messages.Msg.{Msg}
use Rattle.message_codec.specs.Streams.{frames_of, plain}
use Rattle.message_codec.specs.Verdicts.{Verdict}
use Rattle.message_codec.proofs.OneVerdict.{one_verdict}
use Rattle.message_reader.specs.Endings.{before_end, ending, Stopped, Failed}
use Rattle.share_commands.specs.declared.commands.TheConstants.{INPUT_LIMIT}
use Rattle.share_commands.specs.declared.status.Status.{Status}
use Rattle.share_commands.specs.declared.status.Status.TheVariants as status
use Rattle.share_commands.specs.Ways.{Way}
use Rattle.share_commands.specs.Endings.{status_by, printed_of, decided, end_at, end_of_input}
use Rattle.share_commands.specs.Commands.{counted, VerdictOn, EndsAt, IsDecided, by_bytes, at_the_end, too_long, read_fault, write_fault, no_memory}

-- ---- one verdict

abbrev decided_by : Way → List Msg → ℕ → Option Reason → Option Status
decided_by w messages place bad = option_map status_by (option_or (option_map (Stopped (length (frames_of (before_end w.ends messages)))) (ending w.ends messages)) (option_map Failed (option_map (λ (why : Reason). record { place = place; reason = why }) bad)))

pub same_decided : (w : Way) (stream : List ℕ) (v u : Verdict (plain w.sender) stream) → decided w v ≡ decided w u
same_decided w stream v u =
    let same = one_verdict (plain w.sender) stream v u in
    ap (λ (ms : List Msg). decided_by w ms v.place v.bad) same.0 ∙ ap (λ (n : ℕ). decided_by w u.messages n v.bad) same.2 ∙ ap (λ (b : Option Reason). decided_by w u.messages u.place b) same.3

pub same_printed : (w : Way) (stream : List ℕ) (v u : Verdict (plain w.sender) stream) → printed_of w v ≡ printed_of w u
same_printed w stream v u = ap (λ (ms : List Msg). before_end w.ends ms) (one_verdict (plain w.sender) stream v u).0

same_end_of_input : (w : Way) (stream : List ℕ) (v u : Verdict (plain w.sender) stream) → end_of_input w v ≡ end_of_input w u
same_end_of_input w stream v u =
    let same = one_verdict (plain w.sender) stream v u in
    ap (λ (n : ℕ). end_at w n v.rest) same.2 ∙ ap (end_at w u.place) same.1

-- ---- the ends that are no faults

abbrev Undecided : (w : Way) (end : Status) (read : List ℕ) → VerdictOn w read → Type 0
Undecided w end read v = (end ≡ end_of_input w v) × (length read ≤ INPUT_LIMIT) ⊎ (end ≡ status.InputTooLong) × (INPUT_LIMIT < length read)

abbrev Ended : (w : Way) (end : Status) (read : List ℕ) → VerdictOn w read → Type 0
Ended w end read v = (decided w v ≡ Some end) ⊎ ((decided w v ≡ None) × Undecided w end read v)

ended : (w : Way) (end : Status) (read : List ℕ) (v : VerdictOn w read) (input : SourceState) → IsDecided end → EndsAt w end read v input → Ended w end read v
ended w end read v input d (by_bytes is) = inl is
ended w end read v input d (at_the_end none is at) = inr (none, inl (is, at.within))
ended w end read v input d (too_long none is long) = inr (none, inr (is, long))
ended w end read v input d (read_fault none is) = absurd (subst IsDecided is d)
ended w end read v input d (write_fault is) = absurd (subst IsDecided is d)
ended w end read v input d (no_memory is) = absurd (subst IsDecided is d)

same_undecided : (w : Way) (x y : Status) (read : List ℕ) (v u : VerdictOn w read) → Undecided w x read v → Undecided w y read u → x ≡ y
same_undecided w x y read v u (inl a) (inl b) = a.0 ∙ same_end_of_input w (counted read) v u ∙ sym b.0
same_undecided w x y read v u (inl a) (inr b) = absurd (omega (arith, a.1, b.1))
same_undecided w x y read v u (inr a) (inl b) = absurd (omega (arith, a.1, b.1))
same_undecided w x y read v u (inr a) (inr b) = a.0 ∙ sym b.0

some_none : {A : Type 0} (o p : Option A) (x : A) → o ≡ p → o ≡ Some x → p ≡ None → ⊥
some_none o p x same some none = cc

same_end : (w : Way) (x y : Status) (read : List ℕ) (v u : VerdictOn w read) → Ended w x read v → Ended w y read u → x ≡ y
same_end w x y read v u (inl a) (inl b) = same_Some x y (sym a ∙ same_decided w (counted read) v u ∙ b)
same_end w x y read v u (inl a) (inr b) = absurd (some_none (decided w v) (decided w u) x (same_decided w (counted read) v u) a b.0)
same_end w x y read v u (inr a) (inl b) = absurd (some_none (decided w u) (decided w v) y (same_decided w (counted read) u v) b a.0)
same_end w x y read v u (inr a) (inr b) = same_undecided w x y read v u a.1 b.1

pub one_end : (w : Way) (read : List ℕ) (v u : VerdictOn w read) (input other : SourceState) (x y : Status) → EndsAt w x read v input → EndsAt w y read u other → IsDecided x → IsDecided y → (printed_of w v ≡ printed_of w u) × (x ≡ y)
one_end w read v u input other x y a b dx dy = (same_printed w (counted read) v u, same_end w x y read v u (ended w x read v input dx a) (ended w y read u other dy b))
