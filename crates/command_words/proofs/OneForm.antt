-- Words spell one command at most.
use Rattle.std.proofs.Common.{◌≡◌, ℕ, List, [], ◌∷◌, refl, sym, ap, ◌∙◌, arith}
use Rattle.message_codec.specs.declared.messages.End.{End}
use Rattle.message_codec.specs.declared.messages.End.TheVariants as ends
use Rattle.command_words.specs.Forms.{Form, Inject, Show, Check, Replay, Serve, Join, Generate, end_word, words_of}
use Rattle.command_words.specs.Forms.{Spells}
use Rattle.command_words.proofs.WordNumbers.{same_digits}

abbrev first_code : List ℕ → ℕ
first_code [] = 0
first_code (code ∷ codes) = code

same_end : (a b : End) → end_word a ≡ end_word b → a ≡ b
same_end ends.Server ends.Server e = refl
same_end ends.Client ends.Client e = refl
same_end a b e = absurd (omega (arith, ap first_code e))

abbrev second : List (List ℕ) → List ℕ
second (first ∷ word ∷ rest) = word
second other = []

same_form : (form other : Form) (spelled : List (List ℕ)) → Spells form spelled
    → Spells other spelled → words_of form ≡ words_of other → form ≡ other
same_form Inject Inject spelled h k e = refl
same_form (Show a) (Show b) spelled h k e = ap Show (same_end a b (ap second e))
same_form (Check a) (Check b) spelled h k e = cc
same_form (Replay a b c) (Replay a' b' c') spelled h k e = cc
same_form (Serve a b c d) (Serve a' b' c' d') spelled h k e =
    let port : c ≡ c' = same_digits 65535 c c' (omega arith) h.0.0.1 k.0.0.1 cc in
    let turns : d ≡ d' = same_digits 4294967295 d d' (omega arith) h.0.1.1 k.0.1.1 cc in
    cc
same_form (Join a b c d f g i) (Join a' b' c' d' f' g' i') spelled h k e =
    let port : c ≡ c' = same_digits 65535 c c' (omega arith) h.0.1.1 k.0.1.1 cc in
    let w : d ≡ d' = same_digits 32767 d d' (omega arith) h.0.2.1 k.0.2.1 cc in
    let h' : f ≡ f' = same_digits 32767 f f' (omega arith) h.0.3.1 k.0.3.1 cc in
    let turns : i ≡ i' = same_digits 4294967295 i i' (omega arith) h.0.4.1 k.0.4.1 cc in
    cc
same_form (Generate a) (Generate a') spelled h k e =
    ap Generate (same_digits 18446744073709551615 a a' (omega arith) h.0.1 k.0.1 cc)
same_form form other spelled h k e = absurd cc

pub one_form : (form other : Form) (spelled : List (List ℕ)) → Spells form spelled
    → Spells other spelled → form ≡ other
one_form form other spelled h k = same_form form other spelled h k (h.1 ∙ sym k.1)
