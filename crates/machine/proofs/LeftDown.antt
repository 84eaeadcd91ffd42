-- What messages leave down, by the last one that names an input or leaves.
use Rattle.std.specs.Prelude.{◌≡◌, refl, ℕ, ℤ, Bool, true, false, ◌||◌, cond, List, [], ◌∷◌, ◌++◌, Option, Some}
use Rattle.std.proofs.Common.{arith, sym, ap, ◌∙◌}
use Rattle.held_inputs.specs.Down.{last_where}
use Rattle.held_inputs.proofs.Looking.{last-snoc}
use Rattle.message_codec.specs.declared.messages.Msg.{Msg}
use Rattle.message_codec.specs.declared.messages.Msg.TheVariants as msg
use Rattle.machine.specs.Holding.{Input, Key, Mouse, names, is_entering, is_leaving, is_down, since, left_down}
use Rattle.machine.proofs.MessageKinds.{is_plain, is_input}

pick : (t : Bool) (m : Msg) (old : Option Msg) → is_down (cond t (Some m) old) ≡ cond t (is_down (Some m)) (is_down old)
pick true m old = refl
pick false m old = refl

pub left-more : (ms : List Msg) (m : Msg) (i : Input) → left_down (ms ++ m ∷ []) i ≡ cond (names i m || is_leaving m) (is_down (Some m)) (left_down ms i)
left-more ms m i = ap is_down (last-snoc (λ m. names i m || is_leaving m) ms m) ∙ pick (names i m || is_leaving m) m (last_where (λ m. names i m || is_leaving m) ms)

pub since-more : (ms : List Msg) (m : Msg) (i : Input) → since (ms ++ m ∷ []) i ≡ cond (names i m || is_entering m) (is_down (Some m)) (since ms i)
since-more ms m i = ap is_down (last-snoc (λ m. names i m || is_entering m) ms m) ∙ pick (names i m || is_entering m) m (last_where (λ m. names i m || is_entering m) ms)

-- ---- by kinds of messages

no_truth : {A : Type 0} → false ≡ true → A
no_truth h = grind (arith, h)

plain_left : (m : Msg) (i : Input) (b : Bool) → is_plain m ≡ true → cond (names i m || is_leaving m) (is_down (Some m)) b ≡ b
plain_left (msg.KeyDown id mask button) i b h = no_truth h
plain_left (msg.KeyUp id mask button) i b h = no_truth h
plain_left (msg.ButtonDown n) i b h = no_truth h
plain_left (msg.ButtonUp n) i b h = no_truth h
plain_left (msg.Enter x y seq mask) i b h = no_truth h
plain_left msg.Leave i b h = no_truth h
plain_left m (Key n) b h = refl
plain_left m (Mouse n) b h = refl

plain_since : (m : Msg) (i : Input) (b : Bool) → is_plain m ≡ true → cond (names i m || is_entering m) (is_down (Some m)) b ≡ b
plain_since (msg.KeyDown id mask button) i b h = no_truth h
plain_since (msg.KeyUp id mask button) i b h = no_truth h
plain_since (msg.ButtonDown n) i b h = no_truth h
plain_since (msg.ButtonUp n) i b h = no_truth h
plain_since (msg.Enter x y seq mask) i b h = no_truth h
plain_since msg.Leave i b h = no_truth h
plain_since m (Key n) b h = refl
plain_since m (Mouse n) b h = refl

input_both : (m : Msg) (i : Input) (l s : Bool) → is_input m ≡ true → l ≡ s → cond (names i m || is_leaving m) (is_down (Some m)) l ≡ cond (names i m || is_entering m) (is_down (Some m)) s
input_both (msg.KeyDown id mask button) i l s h e = ap (λ x. cond (names i (msg.KeyDown id mask button) || false) true x) e
input_both (msg.KeyUp id mask button) i l s h e = ap (λ x. cond (names i (msg.KeyUp id mask button) || false) false x) e
input_both (msg.ButtonDown n) i l s h e = ap (λ x. cond (names i (msg.ButtonDown n) || false) true x) e
input_both (msg.ButtonUp n) i l s h e = ap (λ x. cond (names i (msg.ButtonUp n) || false) false x) e
input_both m i l s h e = no_truth h

-- ---- messages of an inactive or of the active screen

abbrev pub IsQuiet : List Msg → Type 0
IsQuiet ms = (i : Input) → left_down ms i ≡ false

abbrev pub IsSince : List Msg → Type 0
IsSince ms = (i : Input) → left_down ms i ≡ since ms i

pub quiet-none : IsQuiet []
unfolding last_where
quiet-none i = refl

pub quiet-plain : (ms : List Msg) (m : Msg) → is_plain m ≡ true → IsQuiet ms → IsQuiet (ms ++ m ∷ [])
quiet-plain ms m p q i = left-more ms m i ∙ (plain_left m i (left_down ms i) p ∙ q i)

pub quiet-leave : (ms : List Msg) → IsQuiet (ms ++ msg.Leave ∷ [])
quiet-leave ms (Key n) = left-more ms msg.Leave (Key n)
quiet-leave ms (Mouse n) = left-more ms msg.Leave (Mouse n)

pub since-none : IsSince []
unfolding last_where
since-none i = refl

pub since-plain : (ms : List Msg) (m : Msg) → is_plain m ≡ true → IsSince ms → IsSince (ms ++ m ∷ [])
since-plain ms m p q i = left-more ms m i ∙ (plain_left m i (left_down ms i) p ∙ (q i ∙ sym (since-more ms m i ∙ plain_since m i (since ms i) p)))

pub since-input : (ms : List Msg) (m : Msg) → is_input m ≡ true → IsSince ms → IsSince (ms ++ m ∷ [])
since-input ms m p q i = left-more ms m i ∙ (input_both m i (left_down ms i) (since ms i) p (q i) ∙ sym (since-more ms m i))

-- an entering begins anew where nothing is down
pub since-enter : (ms : List Msg) (x y : ℤ) (seq mask : ℕ) → IsQuiet ms → IsSince (ms ++ msg.Enter x y seq mask ∷ [])
since-enter ms x y seq mask q (Key n) = left-more ms (msg.Enter x y seq mask) (Key n) ∙ (q (Key n) ∙ sym (since-more ms (msg.Enter x y seq mask) (Key n)))
since-enter ms x y seq mask q (Mouse n) = left-more ms (msg.Enter x y seq mask) (Mouse n) ∙ (q (Mouse n) ∙ sym (since-more ms (msg.Enter x y seq mask) (Mouse n)))
