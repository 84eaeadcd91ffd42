-- Words name one command, so also one choice of its arguments.
use Rattle.std.proofs.Common.{◌≡◌, ℕ, List, subst}
use Rattle.std.specs.Prelude.{String, map, string_bytes}
use Rattle.std.specs.Global.{Global}
use Rattle.command_words.specs.Forms.{Form, Check, Replay, Serve, Join, Generate, Names}
use Rattle.command_words.proofs.OneForm.{one_form}

pub same_names : (words : List (String Global)) (form other : Form) → Names form words
    → Names other words → form ≡ other
same_names words form other h k = one_form form other (map string_bytes words) h k

pub same_check : (words : List (String Global)) (c c' : List ℕ) → Names (Check c) words
    → Names (Check c') words → c ≡ c'
same_check words c c' h k = let e = same_names words (Check c) (Check c') h k in cc

pub same_generate : (words : List (String Global)) (n m : ℕ) → Names (Generate n) words
    → Names (Generate m) words → n ≡ m
same_generate words n m h k = let e = same_names words (Generate n) (Generate m) h k in cc

-- ---- what holds of the arguments that were read holds of all that the words name

abbrev of_replay : (List ℕ → List ℕ → List ℕ → Type 0) → Form → Type 0
of_replay Holds (Replay c s t) = Holds c s t
of_replay Holds form = Unit {0}

abbrev of_serve : (List ℕ → List ℕ → ℕ → ℕ → Type 0) → Form → Type 0
of_serve Holds (Serve c s p t) = Holds c s p t
of_serve Holds form = Unit {0}

abbrev of_join : (List ℕ → List ℕ → ℕ → ℕ → ℕ → List ℕ → ℕ → Type 0) → Form → Type 0
of_join Holds (Join a b p w h s t) = Holds a b p w h s t
of_join Holds form = Unit {0}

pub at_replay : (words : List (String Global)) (Holds : List ℕ → List ℕ → List ℕ → Type 0)
    (c s t : List ℕ) → Names (Replay c s t) words → Holds c s t
    → (c' s' t' : List ℕ) → Names (Replay c' s' t') words → Holds c' s' t'
at_replay words Holds c s t h holds c' s' t' k =
    subst (of_replay Holds) (same_names words (Replay c s t) (Replay c' s' t') h k) holds

pub at_serve : (words : List (String Global)) (Holds : List ℕ → List ℕ → ℕ → ℕ → Type 0)
    (c s : List ℕ) (p t : ℕ) → Names (Serve c s p t) words → Holds c s p t
    → (c' s' : List ℕ) (p' t' : ℕ) → Names (Serve c' s' p' t') words → Holds c' s' p' t'
at_serve words Holds c s p t h holds c' s' p' t' k =
    subst (of_serve Holds) (same_names words (Serve c s p t) (Serve c' s' p' t') h k) holds

pub at_join : (words : List (String Global))
    (Holds : List ℕ → List ℕ → ℕ → ℕ → ℕ → List ℕ → ℕ → Type 0)
    (a b : List ℕ) (p w h : ℕ) (s : List ℕ) (t : ℕ) → Names (Join a b p w h s t) words
    → Holds a b p w h s t
    → (a' b' : List ℕ) (p' w' h' : ℕ) (s' : List ℕ) (t' : ℕ)
    → Names (Join a' b' p' w' h' s' t') words → Holds a' b' p' w' h' s' t'
at_join words Holds a b p w h s t k holds a' b' p' w' h' s' t' l =
    subst (of_join Holds)
    (same_names words (Join a b p w h s t) (Join a' b' p' w' h' s' t') k l) holds
