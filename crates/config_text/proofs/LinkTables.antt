-- A table of where links begin, with one link more.
use Rattle.std.proofs.Common.{◌≡◌, ℕ, ◌+◌, ◌*◌, ◌<◌, ◌≤◌, ◌≢◌, Bool, true, false, cond, List, []}
use Rattle.std.proofs.Common.{◌∷◌, ◌++◌, length, get_or, set, Option, Some, None, is_some, refl, ap}
use Rattle.std.proofs.Common.{subst, sym, ◌∙◌, arith, get_or-set_other, get_or-set_same}
use Rattle.std.specs.List.{find}
use Rattle.std.specs.Option.{option_or}
use Rattle.std.proofs.lemmas.Bool.{both_ways, false_from_ne_true}
use Rattle.std.proofs.lemmas.List.{get_or_default}
use Rattle.std.proofs.lemmas.List.Folds.{find-append}
use Rattle.share_base.specs.declared.shape.Side.{Side}
use Rattle.share_base.specs.declared.shape.Side.TheVariants.{Left, Right, Up, Down}
use Rattle.screen_links.specs.declared.link.Link.{Link}
use Rattle.screen_config.specs.Values.{begins_at}
use Rattle.screen_config.proofs.LinkValues.{begins, begins_there}
use Rattle.config_text.specs.LinkTables.{side_index, cell_of, IsTableOf}

abbrev Cells : Type 0
Cells = List (Option Link)

one_side_index : (s t : Side) → side_index s ≡ side_index t → s ≡ t
one_side_index Left Left e = refl
one_side_index Right Right e = refl
one_side_index Up Up e = refl
one_side_index Down Down e = refl
one_side_index s t e = absurd (omega arith)

few_sides : (s : Side) → side_index s < 4
few_sides Left = omega arith
few_sides Right = omega arith
few_sides Up = omega arith
few_sides Down = omega arith

-- two cells are one cell only where all is the same
record IsSame (n m : ℕ) (s t : Side) (a b : ℕ) : Type 0 where
  screen : n ≡ m
  side : s ≡ t
  place : a ≡ b

one_cell : (n m : ℕ) (s t : Side) (a b : ℕ) → a < 100 → b < 100 → cell_of n s a ≡ cell_of m t b
    → IsSame n m s t a b
one_cell n m s t a b la lb e =
    let i = side_index s in
    let j = side_index t in
    let li : i < 4 = few_sides s in
    let lj : j < 4 = few_sides t in
    let rows : n * 4 + i ≡ m * 4 + j = omega (arith, e) in
    record {
      screen = omega (arith, rows);
      side = one_side_index s t (omega (arith, rows));
      place = omega (arith, e, rows);
    }

-- ---- the first of the links, with one more behind them

find_more : (p : Link → Bool) (links : List Link) (link : Link)
    → find p (links ++ link ∷ []) ≡ option_or (find p links) (cond (p link) (Some link) None)
find_more p links link = find-append p links (link ∷ [])

or_none : (o : Option Link) → option_or o None ≡ o
or_none None = refl
or_none (Some x) = refl

-- a link that doesn't begin there changes nothing
same_find : (p : Link → Bool) (links : List Link) (link : Link) → p link ≡ false
    → find p (links ++ link ∷ []) ≡ find p links
same_find p links link e =
    find_more p links link ∙ ap (λ b. option_or (find p links) (cond b (Some link) None)) e
    ∙ or_none (find p links)

-- nor does one that begins where another did
taken_by : (o : Option Link) (x : Link) (b : Bool) (link : Link) → o ≡ Some x
    → option_or o (cond b (Some link) None) ≡ o
taken_by None x b link e = absurd cc
taken_by (Some y) x b link e = refl

-- ---- links that have no cell

pub past_screens : (links : List Link) (link : Link) (count : ℕ) (cells : Cells)
    → count ≤ link.from.0 → IsTableOf links count cells → IsTableOf (links ++ link ∷ []) count cells
past_screens links link count cells past table n s a known below =
    let other : begins_at n s a link ≡ false =
    false_from_ne_true (begins_at n s a link)
    (λ e. let b = begins n s a link e in absurd (omega (arith, b.screen))) in
    table n s a known below ∙ sym (same_find (begins_at n s a) links link other)

pub past_side : (links : List Link) (link : Link) (count : ℕ) (cells : Cells) → 100 ≤ link.range.a
    → IsTableOf links count cells → IsTableOf (links ++ link ∷ []) count cells
past_side links link count cells past table n s a known below =
    let other : begins_at n s a link ≡ false =
    false_from_ne_true (begins_at n s a link)
    (λ e. let b = begins n s a link e in absurd (omega (arith, b.place))) in
    table n s a known below ∙ sym (same_find (begins_at n s a) links link other)

-- ---- a link's own cell

taken_at : (links : List Link) (link x : Link) (cells : Cells) (n : ℕ) (s : Side) (a : ℕ) (t : Bool)
    → begins_at n s a link ≡ t → get_or cells (cell_of n s a) None ≡ find (begins_at n s a) links
    → (t ≡ true → get_or cells (cell_of n s a) None ≡ Some x)
    → get_or cells (cell_of n s a) None ≡ find (begins_at n s a) (links ++ link ∷ [])
taken_at links link x cells n s a true e old there =
    old
    ∙ sym
    (find_more (begins_at n s a) links link
    ∙ taken_by (find (begins_at n s a) links) x (begins_at n s a link) link
    (sym old ∙ there refl))
taken_at links link x cells n s a false e old there =
    old ∙ sym (same_find (begins_at n s a) links link e)

-- the cell of a link that begins there is its own
own_cell : (n : ℕ) (s : Side) (a : ℕ) (link : Link) → begins_at n s a link ≡ true
    → cell_of n s a ≡ cell_of link.from.0 link.side link.range.a
own_cell n s a link e =
    let b = begins n s a link e in
    ap (λ (t : Side). cell_of n t a) b.there ∙ ap (λ (k : ℕ). cell_of k link.side a) (sym b.screen)
    ∙ ap (λ (k : ℕ). cell_of link.from.0 link.side k) (sym b.place)

-- another begins there
taken : (links : List Link) (link x : Link) (count : ℕ) (cells : Cells)
    → get_or cells (cell_of link.from.0 link.side link.range.a) None ≡ Some x
    → IsTableOf links count cells
    → IsTableOf (links ++ link ∷ []) count cells
taken links link x count cells there table n s a known below =
    taken_at links link x cells n s a (begins_at n s a link) refl (table n s a known below)
    (λ e. ap (λ (k : ℕ). get_or cells k None) (own_cell n s a link e) ∙ there)

put_at : (links : List Link) (link : Link) (cells : Cells) (n : ℕ) (s : Side) (a : ℕ) (t : Bool)
    → begins_at n s a link ≡ t → a < 100 → link.range.a < 100
    → cell_of link.from.0 link.side link.range.a < length cells
    → get_or cells (cell_of link.from.0 link.side link.range.a) None ≡ None
    → get_or cells (cell_of n s a) None ≡ find (begins_at n s a) links
    → get_or (set cells (cell_of link.from.0 link.side link.range.a) (Some link)) (cell_of n s a)
    None
    ≡ find (begins_at n s a) (links ++ link ∷ [])
put_at links link cells n s a true e below own within empty old =
    let k = cell_of link.from.0 link.side link.range.a in
    let here : cell_of n s a ≡ k = own_cell n s a link e in
    let none : find (begins_at n s a) links ≡ None =
    sym old ∙ ap (λ (j : ℕ). get_or cells j None) here ∙ empty in
    ap (λ (j : ℕ). get_or (set cells k (Some link)) j None) here
    ∙ get_or-set_same cells k (Some link) None within
    ∙ sym
    (find_more (begins_at n s a) links link
    ∙ ap (λ (o : Option Link). option_or o (cond (begins_at n s a link) (Some link) None))
    none
    ∙ ap (λ b. cond b (Some link) None) e)
put_at links link cells n s a false e below own within empty old =
    let k = cell_of link.from.0 link.side link.range.a in
    let apart : cell_of n s a ≢ k =
    (λ same. let all = one_cell n link.from.0 s link.side a link.range.a below own same in
    both_ways (begins_at n s a link) e
    (ap (λ (m : ℕ). begins_at m s a link) all.screen
    ∙ ap (λ (t : Side). begins_at link.from.0 t a link) all.side
    ∙ ap (λ (m : ℕ). begins_at link.from.0 link.side m link) all.place ∙ begins_there link))
    in
    get_or-set_other cells k (cell_of n s a) (Some link) None apart ∙ old
    ∙ sym (same_find (begins_at n s a) links link e)

-- none begins there yet
put : (links : List Link) (link : Link) (count : ℕ) (cells : Cells) → link.range.a < 100
    → cell_of link.from.0 link.side link.range.a < length cells
    → get_or cells (cell_of link.from.0 link.side link.range.a) None ≡ None
    → IsTableOf links count cells
    → IsTableOf (links ++ link ∷ []) count
    (set cells (cell_of link.from.0 link.side link.range.a) (Some link))
put links link count cells own within empty table n s a known below =
    put_at links link cells n s a (begins_at n s a link) refl below own within empty
    (table n s a known below)

-- ---- as the code reads a cell

no_link : (o : Option Link) → is_some o ≡ false → o ≡ None
no_link None e = refl
no_link (Some x) e = absurd cc

some_link : (o : Option Link) → is_some o ≡ true → (x : Link) × (o ≡ Some x)
some_link None e = absurd cc
some_link (Some x) e = (x, refl)

-- the cell that was read
read_at : (cells : Cells) (k : ℕ) (link : Link) (seen : Option Link)
    → k ≡ cell_of link.from.0 link.side link.range.a → k < length cells → seen ≡ get_or cells k seen
    → get_or cells (cell_of link.from.0 link.side link.range.a) None ≡ seen
read_at cells k link seen e within read =
    ap (λ (j : ℕ). get_or cells j None) (sym e) ∙ get_or_default cells k None seen within ∙ sym read

pub put_empty : (links : List Link) (link : Link) (count : ℕ) (cells : Cells) (k : ℕ)
    (seen : Option Link)
    → k ≡ cell_of link.from.0 link.side link.range.a → k < length cells → seen ≡ get_or cells k seen
    → is_some seen ≡ false → link.range.a < 100 → IsTableOf links count cells
    → IsTableOf (links ++ link ∷ []) count (set cells k (Some link))
put_empty links link count cells k seen e within read empty own table =
    subst (λ (j : ℕ). IsTableOf (links ++ link ∷ []) count (set cells j (Some link))) (sym e)
    (put links link count cells own (subst (λ (j : ℕ). j < length cells) e within)
    (read_at cells k link seen e within read ∙ no_link seen empty) table)

pub put_taken : (links : List Link) (link : Link) (count : ℕ) (cells : Cells) (k : ℕ)
    (seen : Option Link)
    → k ≡ cell_of link.from.0 link.side link.range.a → k < length cells → seen ≡ get_or cells k seen
    → is_some seen ≡ true → IsTableOf links count cells → IsTableOf (links ++ link ∷ []) count cells
put_taken links link count cells k seen e within read some table =
    let x = some_link seen some in
    taken links link x.0 count cells (read_at cells k link seen e within read ∙ x.1) table
