-- The line of each event: its words, the line that they make, and what it leaves down.
use Rattle.std.proofs.Common.{◌≡◌, ℕ, zero, suc, ◌+◌, ◌<◌, ◌≤◌, Bool, true, false, List, [], ◌∷◌}
use Rattle.std.proofs.Common.{◌++◌}
use Rattle.std.proofs.Common.{length, refl, sym, ◌∙◌, nat_lt, arith}
use Rattle.std.specs.Prelude.{ℤ, pos, negsuc, ◌-ℤ◌, ◌≤ℤ◌, codes}
use Rattle.std.specs.Fmt.{decimal, signed_decimal}
use Rattle.std.specs.List.{range_with_len}
use Rattle.std.proofs.lemmas.Int.{ints}
use Rattle.std.proofs.lemmas.List.FromFn.{length-range_with_len}
use Rattle.std.proofs.lemmas.Nat.{mod_below}
use Rattle.share_base.specs.Hex.{hex}
use Rattle.script_screen.specs.declared.script.ScriptLine.{ScriptLine}
use Rattle.script_screen.specs.Scripts.{key_after, button_after, key_is_down, button_is_down}
use Rattle.config_text.proofs.Runs.{ended}
use Rattle.generated_texts.specs.Draws.{drawn_after}
use Rattle.generated_texts.specs.Events.{event_of, draws_before, events}
use Rattle.generated_texts.specs.Lines.{is_of_key, is_of_button, is_key_down, is_button_down}
use Rattle.generated_texts.specs.Lines.{key_line, line_after}
use Rattle.made_accepted.specs.Spoken.{line_of}
use Rattle.made_accepted.proofs.PlainWords.{IsWhole, AreWhole, whole_literal, joined}
use Rattle.made_accepted.proofs.SpelledWords.{IsWithin, decimal_whole, signed_whole, hex_whole}
use Rattle.made_accepted.proofs.SpelledWords.{count_bytes}
use Rattle.made_accepted.proofs.Turns.{none_more, counted_more, key_turned, button_turned}
use Rattle.made_accepted.proofs.Turns.{key_stays}
use Rattle.made_accepted.proofs.Turns.{button_stays}
use Rattle.made_accepted.proofs.LineLengths.{motion_short, key_short, button_short, copy_short}
use Rattle.made_accepted.proofs.TakenLines.{Makes, motion_taken, wheel_taken, key_rest, key_taken}
use Rattle.made_accepted.proofs.TakenLines.{up_or_down, button_taken, copy_taken}

-- ---- draws

pub drawn_below : (seed draws limit : ℕ) → 0 < limit → drawn_after seed draws limit < limit
unfolding drawn_after
drawn_below seed draws limit h = mod_below _ limit h

abbrev pub second : ℕ → ℕ → ℕ → ℕ
second seed i = drawn_after seed (draws_before seed i + 1)

abbrev pub third : ℕ → ℕ → ℕ → ℕ
third seed i = drawn_after seed (draws_before seed i + 2)

-- the line of the event that a kind makes there
abbrev pub line_by : ℕ → ℕ → ℕ → ScriptLine
line_by seed i kind =
    line_of kind (second seed i) (third seed i) (is_key_down (events seed i))
    (is_button_down (events seed i))

-- these lines leave down what the first so many events do
pub record LeavesDown (above : List ScriptLine) (seed i : ℕ) : Type 0 where
  pub keys : (b : ℕ) → key_is_down above b ≡ is_key_down (events seed i) b
  pub buttons : (b : ℕ) → button_is_down above b ≡ is_button_down (events seed i) b

-- the event that the kind makes there has such words, which make its line
pub record IsSpoken (seed i kind : ℕ) : Type 0 where
  pub word : List ℕ
  pub words : List (List ℕ)
  pub text : line_after (events seed i) (event_of kind (second seed i) (third seed i))
      ≡ ended (joined (word ∷ words))
  pub whole : AreWhole (word ∷ words)
  pub short : length (joined (word ∷ words)) < 200
  pub makes : (above : List ScriptLine) → LeavesDown above seed i
      → Makes above (word ∷ words) (line_by seed i kind)
  pub keys : (b : ℕ) → key_after b (is_key_down (events seed i) b) (line_by seed i kind)
      ≡ is_key_down (events seed i ++ event_of kind (second seed i) (third seed i) ∷ []) b
  pub buttons : (b : ℕ) → button_after b (is_button_down (events seed i) b) (line_by seed i kind)
      ≡ is_button_down (events seed i ++ event_of kind (second seed i) (third seed i) ∷ []) b

-- ---- motions

within : (z : ℤ) → negsuc 32766 ≤ℤ z → z ≤ℤ pos 32767 → IsWithin 32767 z
within (pos n) low high = omega (arith, ints)
within (negsuc n) low high = omega (arith, ints)

distance : (n half : ℕ) → n ≤ 800 → half ≤ 400 → IsWithin 32767 (pos n -ℤ pos half)
distance n half h k = within (pos n -ℤ pos half) (omega (arith, ints)) (omega (arith, ints))

motion_spoken : (seed i kind : ℕ) → nat_lt kind 4 ≡ true → IsSpoken seed i kind
unfolding line_after
motion_spoken seed i kind e =
    let dx = pos (second seed i 801) -ℤ pos 400 in
    let dy = pos (third seed i 401) -ℤ pos 200 in
    let far = drawn_below seed (draws_before seed i + 1) 801 (omega arith) in
    let low = drawn_below seed (draws_before seed i + 2) 401 (omega arith) in
    let dx_within = distance (second seed i 801) 400 (omega arith) (omega arith) in
    let dy_within = distance (third seed i 401) 200 (omega arith) (omega arith) in
    record {
      word = codes "motion";
      words = signed_decimal dx ∷ signed_decimal dy ∷ [];
      text = rw e refl;
      whole = (
        whole_literal (codes "motion") refl,
        (signed_whole dx dx_within, (signed_whole dy dy_within, tt)),
      );
      short = motion_short dx dy dx_within dy_within;
      makes = λ above d. rw e (motion_taken above dx dy dx_within dy_within);
      keys = λ b. rw e (none_more _ ∙ sym (counted_more (is_of_key b) (events seed i) _));
      buttons = λ b. rw e (none_more _ ∙ sym (counted_more (is_of_button b) (events seed i) _));
    }

-- ---- the wheel

wheel_spoken : (seed i : ℕ) → IsSpoken seed i 4
unfolding line_after
wheel_spoken seed i = record {
  word = codes "wheel";
  words = codes "0" ∷ codes "120" ∷ [];
  text = refl;
  whole = (
    whole_literal (codes "wheel") refl,
    (whole_literal (codes "0") refl, (whole_literal (codes "120") refl, tt)),
  );
  short = omega arith;
  makes = λ above d. wheel_taken above;
  keys = λ b. none_more _ ∙ sym (counted_more (is_of_key b) (events seed i) _);
  buttons = λ b. none_more _ ∙ sym (counted_more (is_of_button b) (events seed i) _);
}

-- ---- keys and mouse buttons

key_text : (t : Bool) (b : ℕ) → key_line t b ≡ ended (joined (codes "key" ∷ key_rest t b))
key_text true b = refl
key_text false b = refl

key_whole : (t : Bool) (b : ℕ) → b ≤ 40 → AreWhole (codes "key" ∷ key_rest t b)
key_whole true b h = (
  whole_literal (codes "key") refl,
  (whole_literal (codes "up") refl, (decimal_whole b (omega arith), tt)),
)
key_whole false b h = (
  whole_literal (codes "key") refl,
  (
    whole_literal (codes "down") refl,
    (decimal_whole (96 + b) (omega arith), (decimal_whole b (omega arith), tt)),
  ),
)

key_spoken : (seed i : ℕ) → IsSpoken seed i 5
unfolding line_after
key_spoken seed i =
    let drawn = drawn_below seed (draws_before seed i + 1) 40 (omega arith) in
    let b = 1 + second seed i 40 in
    let t = is_key_down (events seed i) b in
    record {
      word = codes "key";
      words = key_rest t b;
      text = key_text t b;
      whole = key_whole t b (omega arith);
      short = key_short t b (omega arith);
      makes = λ above d. key_taken above t b (omega arith) (omega arith) (d.keys b);
      keys = λ k.
          key_turned (is_key_down (events seed i)) k b _ refl
          ∙ sym (counted_more (is_of_key k) (events seed i) _);
      buttons = λ k.
          button_stays t k b _ ∙ none_more _
          ∙ sym (counted_more (is_of_button k) (events seed i) _);
    }

direction : (t : Bool) → IsWhole (up_or_down t)
direction true = whole_literal (codes "up") refl
direction false = whole_literal (codes "down") refl

button_spoken : (seed i : ℕ) → IsSpoken seed i 6
unfolding line_after
button_spoken seed i =
    let drawn = drawn_below seed (draws_before seed i + 1) 3 (omega arith) in
    let b = 1 + second seed i 3 in
    let t = is_button_down (events seed i) b in
    record {
      word = codes "button";
      words = up_or_down t ∷ decimal b ∷ [];
      text = refl;
      whole = (
        whole_literal (codes "button") refl,
        (direction t, (decimal_whole b (omega arith), tt)),
      );
      short = button_short t b (omega arith);
      makes = λ above d. button_taken above t b (omega arith) (omega arith) (d.buttons b);
      keys = λ k.
          key_stays t k b _ ∙ none_more _ ∙ sym (counted_more (is_of_key k) (events seed i) _);
      buttons = λ k.
          button_turned (is_button_down (events seed i)) k b _ refl
          ∙ sym (counted_more (is_of_button k) (events seed i) _);
    }

-- ---- clipboards

copy_spoken : (seed i : ℕ) → IsSpoken seed i 7
unfolding line_after
copy_spoken seed i =
    let drawn = drawn_below seed (draws_before seed i + 1) 65 (omega arith) in
    let count = second seed i 65 in
    let bytes = range_with_len 0 count in
    let are_bytes = count_bytes 0 count (omega arith) in
    record {
      word = codes "copy";
      words = codes "0" ∷ hex bytes ∷ [];
      text = refl;
      whole = (
        whole_literal (codes "copy") refl,
        (whole_literal (codes "0") refl, (hex_whole bytes are_bytes, tt)),
      );
      short = copy_short count (omega arith);
      makes = λ above d. copy_taken above bytes are_bytes
          (omega (arith, length-range_with_len 0 count));
      keys = λ b. none_more _ ∙ sym (counted_more (is_of_key b) (events seed i) _);
      buttons = λ b. none_more _ ∙ sym (counted_more (is_of_button b) (events seed i) _);
    }

-- ---- every kind

by_kind : (seed i kind : ℕ) → kind < 8 → IsSpoken seed i kind
by_kind seed i zero h = motion_spoken seed i 0 refl
by_kind seed i (suc zero) h = motion_spoken seed i 1 refl
by_kind seed i (suc (suc zero)) h = motion_spoken seed i 2 refl
by_kind seed i (suc (suc (suc zero))) h = motion_spoken seed i 3 refl
by_kind seed i (suc (suc (suc (suc zero)))) h = wheel_spoken seed i
by_kind seed i (suc (suc (suc (suc (suc zero))))) h = key_spoken seed i
by_kind seed i (suc (suc (suc (suc (suc (suc zero)))))) h = button_spoken seed i
by_kind seed i (suc (suc (suc (suc (suc (suc (suc zero))))))) h = copy_spoken seed i
by_kind seed i (suc (suc (suc (suc (suc (suc (suc (suc n)))))))) h = absurd (omega arith)

-- the event at an index
pub spoken : (seed i : ℕ) → IsSpoken seed i (drawn_after seed (draws_before seed i) 8)
spoken seed i =
    by_kind seed i (drawn_after seed (draws_before seed i) 8)
    (drawn_below seed (draws_before seed i) 8 (omega arith))
