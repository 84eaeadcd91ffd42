-- A line is read back from its text in one way.
use Rattle.std.proofs.Common.{◌≡◌, ◌∙◌, ap, sym, refl, ℕ, ◌+◌, ◌*◌, ◌<◌, ◌^◌, List, [], ◌∷◌, ◌++◌}
use Rattle.std.proofs.Common.{length, get_or, arith}
use Rattle.std.specs.Prelude.{ℤ, codes, cond, ◌==◌, ◌||◌, FitsSigned}
use Rattle.std.specs.Int.{w16, w32, to_be_bytes, from_be_bytes}
use Rattle.std.specs.Int.Signed.{mag}
use Rattle.std.specs.Fmt.{decimal, signed_decimal}
use Rattle.std.specs.List.{flat_map, AllByRecursion}
use Rattle.std.proofs.lemmas.Fmt.{decimal_injective, signed_decimal_injective}
use Rattle.std.proofs.lemmas.Nat.{from_be_bytes-to_be_bytes_4}
use Rattle.share_base.specs.Clips.{clip_number}
use Rattle.share_base.specs.declared.clip_id.ClipId.{ClipId}
use Rattle.share_base.specs.declared.clip_id.ClipId.TheVariants.{Clipboard, Selection}
use Rattle.held_inputs.specs.declared.line.Line.{Line}
use Rattle.held_inputs.specs.declared.line.Line.TheVariants.{Enter, Leave, KeyDown, KeyRepeat}
use Rattle.held_inputs.specs.declared.line.Line.TheVariants.{KeyUp, ButtonDown, ButtonUp, MoveTo}
use Rattle.held_inputs.specs.declared.line.Line.TheVariants.{MoveBy, Wheel, SaverOn, SaverOff}
use Rattle.held_inputs.specs.declared.line.Line.TheVariants.{ResetOptions, SetOption, Grab, Clip}
use Rattle.held_inputs.specs.Line.{line_of, text}
use Rattle.held_inputs.specs.Ranges.{Fits}
use Rattle.share_base.specs.Hex.{hex}
use Rattle.held_inputs.proofs.WordsApart.{Dark, AllDark, dark-tested, dark-decimal, dark-signed}
use Rattle.held_inputs.proofs.WordsApart.{dark-hex, mag_of_two, words-apart, hex-injective}

-- the first word of a line, and its further words
abbrev pub first_word : Line → List ℕ
first_word (Enter x y seq mask) = codes "enter"
first_word Leave = codes "leave"
first_word (KeyDown id button mask) = codes "key"
first_word (KeyRepeat id count button mask) = codes "key"
first_word (KeyUp id button) = codes "key"
first_word (ButtonDown b) = codes "button"
first_word (ButtonUp b) = codes "button"
first_word (MoveTo x y) = codes "move"
first_word (MoveBy dx dy) = codes "moveby"
first_word (Wheel dx dy) = codes "wheel"
first_word SaverOn = codes "saver"
first_word SaverOff = codes "saver"
first_word ResetOptions = codes "reset"
first_word (SetOption code value) = codes "option"
first_word (Grab clip) = codes "grab"
first_word (Clip clip bytes) = codes "clip"

abbrev pub further_words : Line → List (List ℕ)
further_words (Enter x y seq mask) =
    signed_decimal x ∷ signed_decimal y ∷ decimal seq ∷ decimal mask ∷ []
further_words Leave = []
further_words (KeyDown id button mask) =
    codes "down" ∷ decimal id ∷ decimal button ∷ decimal mask ∷ []
further_words (KeyRepeat id count button mask) =
    codes "rep" ∷ decimal id ∷ decimal count ∷ decimal button ∷ decimal mask ∷ []
further_words (KeyUp id button) = codes "up" ∷ decimal id ∷ decimal button ∷ []
further_words (ButtonDown b) = codes "down" ∷ decimal b ∷ []
further_words (ButtonUp b) = codes "up" ∷ decimal b ∷ []
further_words (MoveTo x y) = signed_decimal x ∷ signed_decimal y ∷ []
further_words (MoveBy dx dy) = signed_decimal dx ∷ signed_decimal dy ∷ []
further_words (Wheel dx dy) = signed_decimal dx ∷ signed_decimal dy ∷ []
further_words SaverOn = codes "on" ∷ []
further_words SaverOff = codes "off" ∷ []
further_words ResetOptions = codes "options" ∷ []
further_words (SetOption code value) = hex (to_be_bytes w32 code) ∷ decimal value ∷ []
further_words (Grab clip) = decimal (clip_number clip) ∷ []
further_words (Clip clip bytes) = decimal (clip_number clip) ∷ hex bytes ∷ []

pub line-words : (l : Line) → line_of l ≡ text (first_word l) (further_words l)
line-words (Enter x y seq mask) = refl
line-words Leave = refl
line-words (KeyDown id button mask) = refl
line-words (KeyRepeat id count button mask) = refl
line-words (KeyUp id button) = refl
line-words (ButtonDown b) = refl
line-words (ButtonUp b) = refl
line-words (MoveTo x y) = refl
line-words (MoveBy dx dy) = refl
line-words (Wheel dx dy) = refl
line-words SaverOn = refl
line-words SaverOff = refl
line-words ResetOptions = refl
line-words (SetOption code value) = refl
line-words (Grab clip) = refl
line-words (Clip clip bytes) = refl

dark-clip : (clip : ClipId) → Dark (decimal (clip_number clip))
dark-clip Clipboard = dark-decimal 0 (omega arith)
dark-clip Selection = dark-decimal 1 (omega arith)

dark-two : (n : ℕ) → n < 2 ^ 16 → Dark (decimal n)
dark-two n h = dark-decimal n (omega arith)

dark-four : (n : ℕ) → n < 2 ^ 32 → Dark (decimal n)
dark-four n h = dark-decimal n (omega arith)

pub dark-first : (l : Line) → Dark (first_word l)
dark-first (Enter x y seq mask) = dark-tested (codes "enter") refl
dark-first Leave = dark-tested (codes "leave") refl
dark-first (KeyDown id button mask) = dark-tested (codes "key") refl
dark-first (KeyRepeat id count button mask) = dark-tested (codes "key") refl
dark-first (KeyUp id button) = dark-tested (codes "key") refl
dark-first (ButtonDown b) = dark-tested (codes "button") refl
dark-first (ButtonUp b) = dark-tested (codes "button") refl
dark-first (MoveTo x y) = dark-tested (codes "move") refl
dark-first (MoveBy dx dy) = dark-tested (codes "moveby") refl
dark-first (Wheel dx dy) = dark-tested (codes "wheel") refl
dark-first SaverOn = dark-tested (codes "saver") refl
dark-first SaverOff = dark-tested (codes "saver") refl
dark-first ResetOptions = dark-tested (codes "reset") refl
dark-first (SetOption code value) = dark-tested (codes "option") refl
dark-first (Grab clip) = dark-tested (codes "grab") refl
dark-first (Clip clip bytes) = dark-tested (codes "clip") refl

pub dark-further : (l : Line) → Fits l → AllDark (further_words l)
dark-further (Enter x y seq mask) f = (
  dark-signed x (mag_of_two x f.0),
  (dark-signed y (mag_of_two y f.1), (dark-four seq f.2, (dark-two mask f.3, tt))),
)
dark-further Leave f = tt
dark-further (KeyDown id button mask) f = (
  dark-tested (codes "down") refl,
  (dark-two id f.0, (dark-two button f.1, (dark-two mask f.2, tt))),
)
dark-further (KeyRepeat id count button mask) f = (
  dark-tested (codes "rep") refl,
  (dark-two id f.0, (dark-two count f.1, (dark-two button f.2, (dark-two mask f.3, tt)))),
)
dark-further (KeyUp id button) f =
    (dark-tested (codes "up") refl, (dark-two id f.0, (dark-two button f.1, tt)))
dark-further (ButtonDown b) f = (dark-tested (codes "down") refl, (dark-two b (omega arith), tt))
dark-further (ButtonUp b) f = (dark-tested (codes "up") refl, (dark-two b (omega arith), tt))
dark-further (MoveTo x y) f =
    (dark-signed x (mag_of_two x f.0), (dark-signed y (mag_of_two y f.1), tt))
dark-further (MoveBy dx dy) f =
    (dark-signed dx (mag_of_two dx f.0), (dark-signed dy (mag_of_two dy f.1), tt))
dark-further (Wheel dx dy) f =
    (dark-signed dx (mag_of_two dx f.0), (dark-signed dy (mag_of_two dy f.1), tt))
dark-further SaverOn f = (dark-tested (codes "on") refl, tt)
dark-further SaverOff f = (dark-tested (codes "off") refl, tt)
dark-further ResetOptions f = (dark-tested (codes "options") refl, tt)
dark-further (SetOption code value) f = (dark-hex (to_be_bytes w32 code), (dark-four value f.1, tt))
dark-further (Grab clip) f = (dark-clip clip, tt)
dark-further (Clip clip bytes) f = (dark-clip clip, (dark-hex bytes, tt))

letter : List ℕ → ℕ
letter [] = 0
letter (b ∷ bs) = b

-- a number for a word, by its first letter and its length
mark : List ℕ → ℕ
mark w = letter w + 1000 * length w

-- a number for each kind of line, by its first word and, where lines share that, its second
kind_at : List ℕ → List (List ℕ) → ℕ
kind_at w ws =
    mark w
    + cond ((letter w == 107) || (letter w == 98) || (letter w == 115))
    (1000000 * mark (get_or ws 0 [])) 0

kind : Line → ℕ
kind (Enter x y seq mask) = 5101
kind Leave = 5108
kind (KeyDown id button mask) = 4100003107
kind (KeyRepeat id count button mask) = 3114003107
kind (KeyUp id button) = 2117003107
kind (ButtonDown b) = 4100006098
kind (ButtonUp b) = 2117006098
kind (MoveTo x y) = 4109
kind (MoveBy dx dy) = 6109
kind (Wheel dx dy) = 5119
kind SaverOn = 2111005115
kind SaverOff = 3111005115
kind ResetOptions = 5114
kind (SetOption code value) = 6111
kind (Grab clip) = 4103
kind (Clip clip bytes) = 4099

kind-is : (l : Line) → kind_at (first_word l) (further_words l) ≡ kind l
unfolding kind kind_at mark letter
kind-is (Enter x y seq mask) = refl
kind-is Leave = refl
kind-is (KeyDown id button mask) = refl
kind-is (KeyRepeat id count button mask) = refl
kind-is (KeyUp id button) = refl
kind-is (ButtonDown b) = refl
kind-is (ButtonUp b) = refl
kind-is (MoveTo x y) = refl
kind-is (MoveBy dx dy) = refl
kind-is (Wheel dx dy) = refl
kind-is SaverOn = refl
kind-is SaverOff = refl
kind-is ResetOptions = refl
kind-is (SetOption code value) = refl
kind-is (Grab clip) = refl
kind-is (Clip clip bytes) = refl

same-clip : (c d : ClipId) → decimal (clip_number c) ≡ decimal (clip_number d) → c ≡ d
same-clip Clipboard Clipboard e = refl
same-clip Selection Selection e = refl
same-clip Clipboard Selection e =
    absurd (let q : 0 ≡ 1 = decimal_injective 0 1 (omega arith) (omega arith) e in omega arith)
same-clip Selection Clipboard e =
    absurd (let q : 1 ≡ 0 = decimal_injective 1 0 (omega arith) (omega arith) e in omega arith)

bytes_of_four : (n : ℕ) → AllByRecursion (λ byte. byte < 2 ^ 8) (to_be_bytes w32 n)
bytes_of_four n = (omega arith, (omega arith, (omega arith, (omega arith, tt))))

same-code : (m n : ℕ) → m < 2 ^ 32 → n < 2 ^ 32 → hex (to_be_bytes w32 m) ≡ hex (to_be_bytes w32 n)
    → m ≡ n
same-code m n f g e =
    let b =
    hex-injective (to_be_bytes w32 m) (to_be_bytes w32 n) (bytes_of_four m) (bytes_of_four n) e
    in
    sym (from_be_bytes-to_be_bytes_4 m f) ∙ ap (from_be_bytes w32) b
    ∙ from_be_bytes-to_be_bytes_4 n g

same-signed : (y z : ℤ) → FitsSigned w16 y → FitsSigned w16 z → signed_decimal y ≡ signed_decimal z
    → y ≡ z
same-signed y z f g e =
    let p : mag y < 2 ^ 15 = mag_of_two y f in
    let q : mag z < 2 ^ 15 = mag_of_two z g in
    signed_decimal_injective y z (omega arith) (omega arith) e

same-number : (m n : ℕ) → m < 2 ^ 32 → n < 2 ^ 32 → decimal m ≡ decimal n → m ≡ n
same-number m n f g e = decimal_injective m n (omega arith) (omega arith) e

-- two lines of one kind with the same further words are equal, and lines of two kinds have
-- different numbers
same : (l m : Line) → Fits l → Fits m → further_words l ≡ further_words m → kind l ≡ kind m → l ≡ m
unfolding kind
same (Enter x y seq mask) (Enter x' y' seq' mask') f g e k =
    let e0 = same-signed x x' f.0 g.0 (cc) in
    let e1 = same-signed y y' f.1 g.1 (cc) in
    let e2 = same-number seq seq' (omega arith) (omega arith) (cc) in
    let e3 = same-number mask mask' (omega arith) (omega arith) (cc) in rw (e0, e1, e2, e3) refl
same Leave Leave f g e k = refl
same (KeyDown id button mask) (KeyDown id' button' mask') f g e k =
    let e0 = same-number id id' (omega arith) (omega arith) (cc) in
    let e1 = same-number button button' (omega arith) (omega arith) (cc) in
    let e2 = same-number mask mask' (omega arith) (omega arith) (cc) in rw (e0, e1, e2) refl
same (KeyRepeat id count button mask) (KeyRepeat id' count' button' mask') f g e k =
    let e0 = same-number id id' (omega arith) (omega arith) (cc) in
    let e1 = same-number count count' (omega arith) (omega arith) (cc) in
    let e2 = same-number button button' (omega arith) (omega arith) (cc) in
    let e3 = same-number mask mask' (omega arith) (omega arith) (cc) in rw (e0, e1, e2, e3) refl
same (KeyUp id button) (KeyUp id' button') f g e k =
    let e0 = same-number id id' (omega arith) (omega arith) (cc) in
    let e1 = same-number button button' (omega arith) (omega arith) (cc) in rw (e0, e1) refl
same (ButtonDown b) (ButtonDown b') f g e k =
    let e0 = same-number b b' (omega arith) (omega arith) (cc) in rw e0 refl
same (ButtonUp b) (ButtonUp b') f g e k =
    let e0 = same-number b b' (omega arith) (omega arith) (cc) in rw e0 refl
same (MoveTo x y) (MoveTo x' y') f g e k =
    let e0 = same-signed x x' f.0 g.0 (cc) in
    let e1 = same-signed y y' f.1 g.1 (cc) in rw (e0, e1) refl
same (MoveBy dx dy) (MoveBy dx' dy') f g e k =
    let e0 = same-signed dx dx' f.0 g.0 (cc) in
    let e1 = same-signed dy dy' f.1 g.1 (cc) in rw (e0, e1) refl
same (Wheel dx dy) (Wheel dx' dy') f g e k =
    let e0 = same-signed dx dx' f.0 g.0 (cc) in
    let e1 = same-signed dy dy' f.1 g.1 (cc) in rw (e0, e1) refl
same SaverOn SaverOn f g e k = refl
same SaverOff SaverOff f g e k = refl
same ResetOptions ResetOptions f g e k = refl
same (SetOption code value) (SetOption code' value') f g e k =
    let e0 = same-code code code' f.0 g.0 (cc) in
    let e1 = same-number value value' (omega arith) (omega arith) (cc) in rw (e0, e1) refl
same (Grab clip) (Grab clip') f g e k =
    let e0 = same-clip clip clip' (cc) in rw e0 refl
same (Clip clip bytes) (Clip clip' bytes') f g e k =
    let e0 = same-clip clip clip' (cc) in
    let e1 = hex-injective bytes bytes' f g (cc) in rw (e0, e1) refl
same l m f g e k = absurd (omega arith)

pub one_text : (l m : Line) (x y : List ℕ) → Fits l → Fits m → line_of l ++ x ≡ line_of m ++ y
    → (l ≡ m) × (x ≡ y)
one_text l m x y f g e =
    let q : text (first_word l) (further_words l) ++ x
    ≡ text (first_word m) (further_words m) ++ y =
    ap (λ (t : List ℕ). t ++ x) (sym (line-words l)) ∙ e
    ∙ ap (λ (t : List ℕ). t ++ y) (line-words m) in
    let p =
    words-apart (first_word l) (first_word m) (further_words l) (further_words m) x y
    (dark-first l) (dark-first m) (dark-further l f) (dark-further m g) q in
    let k : kind l ≡ kind m =
    sym (kind-is l) ∙ ap (λ (w : List ℕ). kind_at w (further_words l)) p.0
    ∙ ap (kind_at (first_word m)) p.1 ∙ kind-is m in
    (same l m f g p.1 k, p.2)

-- a line has a text
no_text : (l : Line) (x : List ℕ) → line_of l ++ x ≡ [] → ⊥
no_text Leave x e = cc
no_text l x e = cc

pub one_list : (ls ms : List Line) → AllByRecursion Fits ls → AllByRecursion Fits ms
    → flat_map line_of ls ≡ flat_map line_of ms → ls ≡ ms
one_list [] [] f g e = refl
one_list [] (m ∷ ms) f g e = absurd (no_text m (flat_map line_of ms) (sym e))
one_list (l ∷ ls) [] f g e = absurd (no_text l (flat_map line_of ls) e)
one_list (l ∷ ls) (m ∷ ms) f g e =
    let p = one_text l m (flat_map line_of ls) (flat_map line_of ms) f.0 g.0 e in
    rw (p.0, one_list ls ms f.1 g.1 p.1) refl
