-- What one word adds to a set of corners, and what it takes away.
use Rattle.std.proofs.Common.{◌≡◌, ℕ, ◌-◌, ◌<◌, ◌≤◌, Bool, true, false, cond, not, ◌&&◌, ◌||◌, ◌==◌}
use Rattle.std.proofs.Common.{List, [], ◌∷◌, Option, Some, None, bit_and, bit_or, refl, ap, sym}
use Rattle.std.proofs.Common.{subst, ◌∙◌, arith}
use Rattle.std.specs.Prelude.{codes, nat_le}
use Rattle.std.specs.Bool.{beq}
use Rattle.std.specs.List.{list_all}
use Rattle.std.specs.Str.{bytes_eq}
use Rattle.std.proofs.lemmas.Bool.{agree_below_at, and_parts, eqb-true, leb-true}
use Rattle.std.proofs.lemmas.Slice.Eq.{bytes_eq-Decides}
use Rattle.share_base.proofs.ListTests.{all_at, found_passes}
use Rattle.text_lines.specs.Reading.{begins}
use Rattle.option_table.specs.declared.corners.CornerWord.{CornerWord}
use Rattle.option_table.specs.declared.corners.CornerWord.TheVariants as corner
use Rattle.option_table.specs.Corners.{corner_of, corner_named, corner_words, with_corners}
use Rattle.option_table.specs.Corners.{without_corners, plain_corners, after_word}
use Rattle.option_table.specs.CornersByWords.{Corner, TopLeft, TopRight, BottomLeft, BottomRight}
use Rattle.option_table.specs.CornersByWords.{has, adds, removes}

-- ---- each word of the table and each corner, over each set

each_word : (p : CornerWord → Bool) → list_all p corner_words ≡ true → (w : CornerWord) → p w ≡ true
each_word p h corner.Nowhere = all_at p corner_words 0 corner.Nowhere h refl
each_word p h corner.All = all_at p corner_words 1 corner.All h refl
each_word p h corner.Left = all_at p corner_words 2 corner.Left h refl
each_word p h corner.Right = all_at p corner_words 3 corner.Right h refl
each_word p h corner.Top = all_at p corner_words 4 corner.Top h refl
each_word p h corner.Bottom = all_at p corner_words 5 corner.Bottom h refl
each_word p h corner.TopLeft = all_at p corner_words 6 corner.TopLeft h refl
each_word p h corner.TopRight = all_at p corner_words 7 corner.TopRight h refl
each_word p h corner.BottomLeft = all_at p corner_words 8 corner.BottomLeft h refl
each_word p h corner.BottomRight = all_at p corner_words 9 corner.BottomRight h refl

corners : List Corner
corners = TopLeft ∷ TopRight ∷ BottomLeft ∷ BottomRight ∷ []

each_corner : (p : Corner → Bool) → list_all p corners ≡ true → (c : Corner) → p c ≡ true
unfolding corners
each_corner p h TopLeft = all_at p corners 0 TopLeft h refl
each_corner p h TopRight = all_at p corners 1 TopRight h refl
each_corner p h BottomLeft = all_at p corners 2 BottomLeft h refl
each_corner p h BottomRight = all_at p corners 3 BottomRight h refl

same_bit : (a b : Bool) → beq a b ≡ true → a ≡ b
same_bit true true h = refl
same_bit true false h = absurd cc
same_bit false true h = absurd cc
same_bit false false h = refl

-- a test of a set, a word and a corner
abbrev Test : Type 0
Test = ℕ → CornerWord → Corner → Bool

abbrev all_of : Test → ℕ → Bool
all_of t set = list_all (λ w. list_all (λ c. t set w c) corners) corner_words

each_set : (t : Test) → ((set : ℕ) → set < 16 → all_of t set ≡ true) → (set : ℕ) → set ≤ 15
    → (w : CornerWord) (c : Corner) → t set w c ≡ true
each_set t all set h w c =
    each_corner (t set w)
    (each_word (λ v. list_all (t set v) corners) (all set (omega (arith, h))) w) c

abbrev joined : Test
joined set w c =
    beq (has (bit_or set (corner_of w).corners) c) (has (corner_of w).corners c || has set c)

abbrev parted : Test
parted set w c =
    beq (has (bit_and set (15 - (corner_of w).corners)) c)
    (has set c && not (has (corner_of w).corners c))

abbrev is_few : Test
is_few set w c =
    nat_le (bit_or set (corner_of w).corners) 15
    && nat_le (bit_and set (15 - (corner_of w).corners)) 15

all_joined : (set : ℕ) → set < 16 → all_of joined set ≡ true
unfolding corner_of corners
all_joined set h = agree_below_at (all_of joined) (λ n. true) 16 set refl h

all_parted : (set : ℕ) → set < 16 → all_of parted set ≡ true
unfolding corner_of corners
all_parted set h = agree_below_at (all_of parted) (λ n. true) 16 set refl h

all_few : (set : ℕ) → set < 16 → all_of is_few set ≡ true
unfolding corner_of corners
all_few set h = agree_below_at (all_of is_few) (λ n. true) 16 set refl h

-- ---- one word

-- the set that a word makes of another, seen by the corners that it adds and takes away
pub record Made (set : ℕ) (word : List ℕ) (next : ℕ) : Type 0 where
  pub few : next ≤ 15
  pub corner : (c : Corner) → has next c ≡ (adds c word || (has set c && not (removes c word)))

pub no_plus_word : (bs : List ℕ) → corner_named (43 ∷ bs) ≡ None
unfolding corner_named corner_of
no_plus_word bs = refl

pub no_minus_word : (bs : List ℕ) → corner_named (45 ∷ bs) ≡ None
unfolding corner_named corner_of
no_minus_word bs = refl

pub no_empty_word : corner_named [] ≡ None
unfolding corner_named corner_of
no_empty_word = refl

few_or : (set : ℕ) → set ≤ 15 → (w : CornerWord) → bit_or set (corner_of w).corners ≤ 15
few_or set h w = leb-true _ 15 (and_parts _ _ (each_set is_few all_few set h w TopLeft)).0

few_and : (set : ℕ) → set ≤ 15 → (w : CornerWord) → bit_and set (15 - (corner_of w).corners) ≤ 15
few_and set h w = leb-true _ 15 (and_parts _ _ (each_set is_few all_few set h w TopLeft)).1

-- ---- with a +

plus_shape : (x a b : Bool) → x ≡ (a || b) → x ≡ ((false || a) || (b && not (false || false)))
plus_shape x true b h = h
plus_shape x false true h = h
plus_shape x false false h = h

made_plus : (set next : ℕ) (bs : List ℕ) (o : Option CornerWord) → set ≤ 15 → corner_named bs ≡ o
    → with_corners set o ≡ Some next → Made set (43 ∷ bs) next
made_plus set next bs None h e k = absurd cc
made_plus set next bs (Some w) h e k =
    let same : bit_or set (corner_of w).corners ≡ next = cc in
    subst (Made set (43 ∷ bs)) same
    (record {
      few = few_or set h w;
      corner =
          λ c.
          rw (no_plus_word bs, e)
          (plus_shape _ _ _ (same_bit _ _ (each_set joined all_joined set h w c)));
    })

-- ---- with a -

minus_shape : (x a b : Bool) → x ≡ (b && not a) → x ≡ ((false || false) || (b && not (false || a)))
minus_shape x a b h = h

made_minus : (set next : ℕ) (bs : List ℕ) (o : Option CornerWord) → set ≤ 15 → corner_named bs ≡ o
    → without_corners set o ≡ Some next → Made set (45 ∷ bs) next
made_minus set next bs None h e k = absurd cc
made_minus set next bs (Some w) h e k =
    let same : bit_and set (15 - (corner_of w).corners) ≡ next = cc in
    subst (Made set (45 ∷ bs)) same
    (record {
      few = few_and set h w;
      corner =
          λ c.
          rw (no_minus_word bs, e)
          (minus_shape _ _ _ (same_bit _ _ (each_set parted all_parted set h w c)));
    })

-- ---- without a sign

named_is : (word : List ℕ) (w : CornerWord) → corner_named word ≡ Some w → word ≡ (corner_of w).word
unfolding corner_named
named_is word w e =
    sym
    ((bytes_eq-Decides (corner_of w).word word).0
    (found_passes (λ c. bytes_eq (corner_of c).word word) corner_words w e))

-- of the table's words `none` alone names no corner
none_alone : (w : CornerWord)
    → bytes_eq (codes "none") (corner_of w).word ≡ ((corner_of w).corners == 0)
unfolding corner_of
none_alone w =
    same_bit _ _
    (each_word (λ v. beq (bytes_eq (codes "none") (corner_of v).word) ((corner_of v).corners == 0))
    refl w)

pub nowhere : (c : Corner) → has 0 c ≡ false
nowhere TopLeft = refl
nowhere TopRight = refl
nowhere BottomLeft = refl
nowhere BottomRight = refl

none_shape : (a b : Bool) → a ≡ false → false ≡ ((a || false) || (b && not (true || false)))
none_shape true b h = absurd cc
none_shape false true h = refl
none_shape false false h = refl

plain_shape : (x a b : Bool) → x ≡ (a || b) → x ≡ ((a || false) || (b && not (false || false)))
plain_shape x true b h = h
plain_shape x false true h = h
plain_shape x false false h = h

zero_is : (n : ℕ) (c : Corner) → (n == 0) ≡ true → has n c ≡ false
zero_is n c e = ap (λ (k : ℕ). has k c) (eqb-true n 0 e) ∙ nowhere c

made_by : (t : Bool) (set next : ℕ) (word : List ℕ) (w : CornerWord) → set ≤ 15
    → begins 43 word ≡ false → begins 45 word ≡ false → corner_named word ≡ Some w
    → ((corner_of w).corners == 0) ≡ t → cond t 0 (bit_or set (corner_of w).corners) ≡ next
    → Made set word next
made_by true set next word w h plus minus e z k =
    let none : bytes_eq (codes "none") word ≡ true =
    ap (bytes_eq (codes "none")) (named_is word w e) ∙ none_alone w ∙ z in
    subst (Made set word) k
    (record {
      few = omega arith;
      corner =
          λ c.
          rw (plus, minus, e, none)
          (nowhere c ∙ none_shape _ (has set c) (zero_is (corner_of w).corners c z));
    })
made_by false set next word w h plus minus e z k =
    let none : bytes_eq (codes "none") word ≡ false =
    ap (bytes_eq (codes "none")) (named_is word w e) ∙ none_alone w ∙ z in
    subst (Made set word) k
    (record {
      few = few_or set h w;
      corner =
          λ c.
          rw (plus, minus, e, none)
          (plain_shape _ _ _ (same_bit _ _ (each_set joined all_joined set h w c)));
    })

made_plain : (set next : ℕ) (word : List ℕ) (o : Option CornerWord) → set ≤ 15
    → begins 43 word ≡ false → begins 45 word ≡ false → corner_named word ≡ o
    → plain_corners set o ≡ Some next → Made set word next
made_plain set next word None h plus minus e k = absurd cc
made_plain set next word (Some w) h plus minus e k =
    let same : cond ((corner_of w).corners == 0) 0 (bit_or set (corner_of w).corners) ≡ next = cc in
    made_by _ set next word w h plus minus e refl same

-- ---- whatever the word

by_second : (t : Bool) (set next b : ℕ) (bs : List ℕ) → set ≤ 15 → (b == 43) ≡ false → (b == 45) ≡ t
    → cond t (without_corners set (corner_named bs)) (plain_corners set (corner_named (b ∷ bs)))
    ≡ Some next
    → Made set (b ∷ bs) next
by_second true set next b bs h p m k =
    subst (λ n. Made set (n ∷ bs) next) (sym (eqb-true b 45 m))
    (made_minus set next bs (corner_named bs) h refl k)
by_second false set next b bs h p m k =
    made_plain set next (b ∷ bs) (corner_named (b ∷ bs)) h p m refl k

by_first : (t : Bool) (set next b : ℕ) (bs : List ℕ) → set ≤ 15 → (b == 43) ≡ t
    → cond t (with_corners set (corner_named bs))
    (cond (b == 45) (without_corners set (corner_named bs))
    (plain_corners set (corner_named (b ∷ bs))))
    ≡ Some next
    → Made set (b ∷ bs) next
by_first true set next b bs h p k =
    subst (λ n. Made set (n ∷ bs) next) (sym (eqb-true b 43 p))
    (made_plus set next bs (corner_named bs) h refl k)
by_first false set next b bs h p k = by_second (b == 45) set next b bs h p refl k

pub made : (set next : ℕ) (word : List ℕ) → set ≤ 15 → after_word set word ≡ Some next
    → Made set word next
unfolding after_word
made set next [] h k =
    absurd
    (let none : plain_corners set (corner_named []) ≡ None = ap (plain_corners set) no_empty_word in
    cc)
made set next (b ∷ bs) h k = by_first (b == 43) set next b bs h refl k
