-- The codes that bodies begin with.
use Rattle.std.proofs.Common.{◌≡◌, ℕ, ◌≤◌, Bool, true, false, cond, List, ◌++◌, length, drop}
use Rattle.std.proofs.Common.{Option, Some, None, refl, sym, ap, subst, ◌∙◌, arith}
use Rattle.std.specs.List.{starts_with}
use Rattle.std.specs.Prelude.{nat_eq}
use Rattle.std.proofs.lemmas.List.{drop_at, length-append}
use Rattle.std.proofs.lemmas.Slice.Eq.{starts_is}
use Rattle.std.proofs.lemmas.Bool.Decides.{Decides-eqb}
use Rattle.share_base.proofs.ListTests.{found_passes}
use Rattle.message_codec.specs.declared.coding.Code.{Code}
use Rattle.message_codec.specs.declared.coding.Code.TheVariants as code
use Rattle.message_codec.specs.declared.messages.End.{End}
use Rattle.message_codec.specs.declared.messages.End.TheVariants as ends
use Rattle.message_codec.specs.Table.{text, SentBy}
use Rattle.message_codec.specs.Codes.{hello_of, four_letters, first_code, code_at}

abbrev some : {A : Type 0} → A → Option A
some x = Some x

-- the code that a body of this end begins with, where it begins as this one
own : End → Code → Code
own from code.Hello = hello_of from
own from code.HelloBack = hello_of from
own from c = c

own_sent : (from : End) (c : Code) → SentBy c from → own from c ≡ c
unfolding own
own_sent from code.Hello sent = ap hello_of sent
own_sent from code.HelloBack sent = ap hello_of sent
own_sent from c sent = refl

-- each row's code is found by its text, so no text begins another's but a hello's the other hello's
code_at-own : (from : End) (c : Code) (rest : List ℕ)
    → code_at from (text c ++ rest) ≡ Some (own from c)
unfolding own code_at
code_at-own from code.Hello rest = refl
code_at-own from c rest = refl

pub code_at-text : (from : End) (c : Code) (rest : List ℕ) → SentBy c from
    → code_at from (text c ++ rest) ≡ Some c
code_at-text from c rest sent =
    code_at-own from c rest ∙ ap (λ (d : Code). some d) (own_sent from c sent)

pub some_is : {A : Type 0} (x y : A) → some x ≡ some y → x ≡ y
some_is x y same = cc

-- what follows the text
pub drop-text : (c : Code) (rest : List ℕ) → drop (length (text c)) (text c ++ rest) ≡ rest
drop-text c rest = drop_at (text c) rest (length (text c)) refl

found_begins : (codes : List Code) (body : List ℕ) (c : Code) → first_code codes body ≡ Some c
    → body ≡ text c ++ drop (length (text c)) body
found_begins codes body c found =
    let passes : starts_with nat_eq body (text c) ≡ true =
    found_passes (λ d. starts_with nat_eq body (text d)) codes c found in
    (starts_is Decides-eqb body (text c) (starts_with nat_eq body (text c)) refl).0 passes

text-hello_of : (from : End) → text (hello_of from) ≡ text code.Hello
text-hello_of ends.Server = refl
text-hello_of ends.Client = refl

pub code_at-begins : (from : End) (body : List ℕ) (c : Code) → code_at from body ≡ Some c
    → body ≡ text c ++ drop (length (text c)) body
unfolding code_at
code_at-begins from body c found = either (starts_with nat_eq body (text code.Hello)) refl found
  where
    either : (b : Bool) → starts_with nat_eq body (text code.Hello) ≡ b
        → cond b (some (hello_of from)) (first_code four_letters body) ≡ Some c
        → body ≡ text c ++ drop (length (text c)) body
    either true hello found =
        let same : text code.Hello ≡ text c =
        sym (text-hello_of from) ∙ ap text (some_is (hello_of from) c found) in
        subst (λ (t : List ℕ). body ≡ t ++ drop (length t) body) same
        ((starts_is Decides-eqb body (text code.Hello)
        (starts_with nat_eq body (text code.Hello)) refl).0
        hello)
    either false other found = found_begins four_letters body c found

pub text_fits : (from : End) (body : List ℕ) (c : Code) → code_at from body ≡ Some c
    → length (text c) ≤ length body
text_fits from body c found =
    omega (
      arith,
      ap length (code_at-begins from body c found),
      length-append (text c) (drop (length (text c)) body),
    )

-- no two codes that one end sends begin one body
pub one_code : (from : End) (c d : Code) (a b : List ℕ) → SentBy c from → SentBy d from
    → text c ++ a ≡ text d ++ b → c ≡ d
one_code from c d a b sent_c sent_d same =
    some_is c d
    (sym (code_at-text from c a sent_c) ∙ ap (code_at from) same ∙ code_at-text from d b sent_d)

-- where no code is found the body begins with none
pub no_code : (from : End) (body : List ℕ) (c : Code) (rest : List ℕ) → code_at from body ≡ None
    → body ≡ text c ++ rest → ⊥
no_code from body c rest none begins =
    let both = sym none ∙ ap (code_at from) begins ∙ code_at-own from c rest in cc

-- where the code that is found is another end's the body begins with none of this end
pub no_sent : (from : End) (body : List ℕ) (c d : Code) (rest : List ℕ) → code_at from body ≡ Some c
    → (SentBy c from → ⊥) → SentBy d from → body ≡ text d ++ rest → ⊥
no_sent from body c d rest found not_sent sent begins =
    let same : d ≡ c =
    some_is d c (sym (code_at-text from d rest sent) ∙ sym (ap (code_at from) begins) ∙ found)
    in
    not_sent (subst (λ (e : Code). SentBy e from) same sent)

pub text_is_short : (c : Code) → length (text c) ≤ 7
text_is_short code.Hello = omega arith
text_is_short c = omega arith
