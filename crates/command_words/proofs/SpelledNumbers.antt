-- Words with numbers spell a command, and none where one of them spells no number within its limits.
use Rattle.std.proofs.Common.{◌≡◌, true, sym, ℕ, List, [], ◌∷◌, Some, None, ap, ◌∙◌, arith}
use Rattle.std.specs.Prelude.{codes}
use Rattle.std.specs.Fmt.{decimal}
use Rattle.share_base.specs.Names.{is_name}
use Rattle.command_words.specs.Forms.{Form, Serve, Join, Generate, Spells}
use Rattle.command_words.specs.Numbers.{number_of}
use Rattle.command_words.proofs.WordNumbers.{number_spelled, number_missing}

-- ---- serve

abbrev serve_words : (a b c d : List ℕ) → List (List ℕ)
serve_words a b c d = codes "serve" ∷ a ∷ b ∷ c ∷ d ∷ []

pub serves : (config script port turns config' script' : List ℕ) (p t : ℕ) → config' ≡ config
    → script' ≡ script → number_of 0 65535 port ≡ Some p → number_of 0 4294967295 turns ≡ Some t
    → Spells (Serve config' script' p t) (codes "serve" ∷ config ∷ script ∷ port ∷ turns ∷ [])
serves config script port turns config' script' p t same also is_port are_turns =
    let x = number_spelled 0 65535 port p (omega arith) is_port in
    let y = number_spelled 0 4294967295 turns t (omega arith) are_turns in
    let spelled = ap (λ (w : List ℕ). serve_words w script' (decimal p) (decimal t)) same
    ∙ ap (λ (w : List ℕ). serve_words config w (decimal p) (decimal t)) also
    ∙ ap (λ (w : List ℕ). serve_words config script w (decimal t)) x.1
    ∙ ap (λ (w : List ℕ). serve_words config script port w) y.1 in
    ((x.0, y.0), spelled)

pub no_port : (config script port turns : List ℕ) → number_of 0 65535 port ≡ None → (form : Form)
    → Spells form (codes "serve" ∷ config ∷ script ∷ port ∷ turns ∷ []) → ⊥
no_port config script port turns none (Serve c s p t) h =
    number_missing 0 65535 port (omega arith) none p h.0.0 cc
no_port config script port turns none form h = absurd cc

pub no_turns : (config script port turns : List ℕ) → number_of 0 4294967295 turns ≡ None
    → (form : Form) → Spells form (codes "serve" ∷ config ∷ script ∷ port ∷ turns ∷ []) → ⊥
no_turns config script port turns none (Serve c s p t) h =
    number_missing 0 4294967295 turns (omega arith) none t h.0.1 cc
no_turns config script port turns none form h = absurd cc

-- ---- join

abbrev join_words : (a b c d e f g : List ℕ) → List (List ℕ)
join_words a b c d e f g = codes "join" ∷ a ∷ b ∷ c ∷ d ∷ e ∷ f ∷ g ∷ []

pub joins : (name host port w h script turns name' host' script' : List ℕ) (p x y t : ℕ)
    → name' ≡ name → host' ≡ host → script' ≡ script → is_name name ≡ true
    → number_of 0 65535 port ≡ Some p → number_of 1 32767 w ≡ Some x
    → number_of 1 32767 h ≡ Some y → number_of 0 4294967295 turns ≡ Some t
    → Spells (Join name' host' p x y script' t)
    (codes "join" ∷ name ∷ host ∷ port ∷ w ∷ h ∷ script ∷ turns ∷ [])
joins name host port w h script turns name' host' script' p x y t named hosted scripted good is_port is_w is_h are_turns =
    let a = number_spelled 0 65535 port p (omega arith) is_port in
    let b = number_spelled 1 32767 w x (omega arith) is_w in
    let c = number_spelled 1 32767 h y (omega arith) is_h in
    let d = number_spelled 0 4294967295 turns t (omega arith) are_turns in
    let spelled =
    ap (λ (z : List ℕ). join_words z host' (decimal p) (decimal x) (decimal y) script' (decimal t)) named
    ∙ ap (λ (z : List ℕ). join_words name z (decimal p) (decimal x) (decimal y) script' (decimal t)) hosted
    ∙ ap (λ (z : List ℕ). join_words name host (decimal p) (decimal x) (decimal y) z (decimal t)) scripted
    ∙ ap (λ (z : List ℕ). join_words name host z (decimal x) (decimal y) script (decimal t)) a.1
    ∙ ap (λ (z : List ℕ). join_words name host port z (decimal y) script (decimal t)) b.1
    ∙ ap (λ (z : List ℕ). join_words name host port w z script (decimal t)) c.1
    ∙ ap (λ (z : List ℕ). join_words name host port w h script z) d.1 in
    ((ap is_name named ∙ good, a.0, b.0, c.0, d.0), spelled)

-- the words of a client
pub record IsSpelledJoin (name port w h turns : List ℕ) : Type 0 where
  pub named : is_name name ≡ true
  pub is_port : number_of 0 65535 port ≡ None → ⊥
  pub is_w : number_of 1 32767 w ≡ None → ⊥
  pub is_h : number_of 1 32767 h ≡ None → ⊥
  pub are_turns : number_of 0 4294967295 turns ≡ None → ⊥

pub join_parts : (name host port w h script turns : List ℕ) (form : Form)
    → Spells form (codes "join" ∷ name ∷ host ∷ port ∷ w ∷ h ∷ script ∷ turns ∷ [])
    → IsSpelledJoin name port w h turns
join_parts name host port w h script turns (Join n o p x y s t) k =
    let same : n ≡ name = cc in
    record {
      named = sym (ap is_name same) ∙ k.0.0;
      is_port = λ none. number_missing 0 65535 port (omega arith) none p k.0.1 cc;
      is_w = λ none. number_missing 1 32767 w (omega arith) none x k.0.2 cc;
      is_h = λ none. number_missing 1 32767 h (omega arith) none y k.0.3 cc;
      are_turns = λ none. number_missing 0 4294967295 turns (omega arith) none t k.0.4 cc;
    }
join_parts name host port w h script turns form k = absurd cc

-- ---- generate

pub generates : (word : List ℕ) (n : ℕ) → number_of 0 18446744073709551615 word ≡ Some n
    → Spells (Generate n) (codes "generate" ∷ word ∷ [])
generates word n is =
    let a = number_spelled 0 18446744073709551615 word n (omega arith) is in
    (a.0, ap (λ (z : List ℕ). codes "generate" ∷ z ∷ []) a.1)

pub not_long : (word : List ℕ) → number_of 0 18446744073709551615 word ≡ None → (form : Form)
    → Spells form (codes "generate" ∷ word ∷ []) → ⊥
not_long word none (Generate n) h =
    number_missing 0 18446744073709551615 word (omega arith) none n h.0 cc
not_long word none form h = absurd cc
