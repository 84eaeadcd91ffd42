-- Messages with others after them, up to the first that ends something.
use Rattle.std.proofs.Common.{◌≡◌, Bool, true, false, cond, List, [], ◌∷◌, ◌++◌, Option, Some, None}
use Rattle.std.proofs.Common.{refl, ap, ◌∙◌}
use Rattle.std.specs.Prelude.{is_some}
use Rattle.std.specs.Option.{option_or}
use Rattle.message_codec.specs.declared.messages.Msg.{Msg}
use Rattle.message_reader.specs.Endings.{before_end, ending, IsFront}

-- no message ends it: neither the first nor a later one
first_goes : {A : Type 0} (o p : Option A) → option_or o p ≡ None → o ≡ None
first_goes None p none = refl
first_goes (Some x) p none = absurd cc

later_go : {A : Type 0} (o p : Option A) → option_or o p ≡ None → p ≡ None
later_go None p none = none
later_go (Some x) p none = absurd cc

pub ending-append : {A : Type 0} (ends : Msg → Option A) (ms tail : List Msg)
    → ending ends ms ≡ None → ending ends (ms ++ tail) ≡ ending ends tail
ending-append ends [] tail none = refl
ending-append ends (m ∷ ms) tail none =
    ap (λ o. option_or o (ending ends (ms ++ tail))) (first_goes (ends m) (ending ends ms) none)
    ∙ ending-append ends ms tail (later_go (ends m) (ending ends ms) none)

pub before_end-append : {A : Type 0} (ends : Msg → Option A) (ms tail : List Msg)
    → ending ends ms ≡ None → before_end ends (ms ++ tail) ≡ ms ++ before_end ends tail
before_end-append ends [] tail none = refl
before_end-append ends (m ∷ ms) tail none =
    ap (λ o. cond (is_some o) [] (m ∷ before_end ends (ms ++ tail)))
    (first_goes (ends m) (ending ends ms) none)
    ∙ ap (λ (t : List Msg). m ∷ t)
    (before_end-append ends ms tail (later_go (ends m) (ending ends ms) none))

-- the next message ends it
pub ending-at : {A : Type 0} (ends : Msg → Option A) (ms : List Msg) (m : Msg) (tail : List Msg)
    (a : A)
    → ending ends ms ≡ None → ends m ≡ Some a → ending ends (ms ++ m ∷ tail) ≡ Some a
ending-at ends ms m tail a none is =
    ending-append ends ms (m ∷ tail) none ∙ ap (λ o. option_or o (ending ends tail)) is

pub before_end-at : {A : Type 0} (ends : Msg → Option A) (ms : List Msg) (m : Msg) (tail : List Msg)
    (a : A)
    → ending ends ms ≡ None → ends m ≡ Some a → before_end ends (ms ++ m ∷ tail) ≡ ms ++ []
before_end-at ends ms m tail a none is =
    before_end-append ends ms (m ∷ tail) none
    ∙ ap (λ (t : List Msg). ms ++ t) (ap (λ o. cond (is_some o) [] (m ∷ before_end ends tail)) is)

-- all of them stand before the end, where none ends it
pub before_end-all : {A : Type 0} (ends : Msg → Option A) (ms : List Msg) → ending ends ms ≡ None
    → before_end ends ms ≡ ms
before_end-all ends [] none = refl
before_end-all ends (m ∷ ms) none =
    ap (λ o. cond (is_some o) [] (m ∷ before_end ends ms))
    (first_goes (ends m) (ending ends ms) none)
    ∙ ap (λ (t : List Msg). m ∷ t)
    (before_end-all ends ms (later_go (ends m) (ending ends ms) none))

-- they are the first ones
with_first : (stops : Bool) (m : Msg) (front ms : List Msg) → IsFront front ms
    → IsFront (cond stops [] (m ∷ front)) (m ∷ ms)
with_first true m front ms is = (m ∷ ms, refl)
with_first false m front ms (more, all) = (more, ap (λ (t : List Msg). m ∷ t) all)

pub before_end-front : {A : Type 0} (ends : Msg → Option A) (ms : List Msg)
    → IsFront (before_end ends ms) ms
before_end-front ends [] = ([], refl)
before_end-front ends (m ∷ ms) =
    with_first (is_some (ends m)) m (before_end ends ms) ms (before_end-front ends ms)

-- one more message doesn't end it
pub ending-last : {A : Type 0} (ends : Msg → Option A) (ms : List Msg) (m : Msg)
    → ending ends ms ≡ None → ends m ≡ None → ending ends (ms ++ m ∷ []) ≡ None
ending-last ends ms m none goes =
    ending-append ends ms (m ∷ []) none ∙ ap (λ o. option_or o None) goes
