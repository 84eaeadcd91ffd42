-- The faults of a line's words stand by class, and within a class from the left.
use Rattle.std.proofs.Common.{◌≡◌, ℕ, ◌<◌, ◌≤◌, Bool, true, false, List, [], ◌∷◌, ◌++◌, length}
use Rattle.std.proofs.Common.{length-append, Option, Some, None, refl, ap, sym, ◌∙◌, inl, inr}
use Rattle.std.proofs.Common.{arith}
use Rattle.std.specs.Prelude.{is_some, nat_lt, nat_le, ◌&&◌, not}
use Rattle.share_base.specs.Names.{is_name}
use Rattle.text_lines.specs.Reading.{Text}
use Rattle.option_table.specs.declared.rows.OptionName.{OptionName}
use Rattle.option_table.specs.declared.rows.Scope.{Scope}
use Rattle.option_table.specs.Table.{option_named, row_of}
use Rattle.option_table.specs.Values.{value_of}
use Rattle.config_text.specs.declared.faults.ConfigKind.{ConfigKind}
use Rattle.config_text.specs.declared.faults.ConfigKind.TheVariants as kind
use Rattle.config_text.specs.declared.faults.Fault.{Fault}
use Rattle.screen_config.specs.Configurations.{Configuration, screen_of}
use Rattle.config_text.specs.Shapes.{RangeText, LinkText, SettingText}
use Rattle.config_text.specs.Judging.{fault_at}
use Rattle.config_text.specs.Spelling.{SpellsSetting}
use Rattle.config_text.specs.SpellingLinks.{SpellsMaybe, SpellsLink}
use Rattle.config_text.specs.FaultLists.{fault_unless, range_given, range_faults, is_taken}
use Rattle.config_text.specs.FaultLists.{known_faults, screen_faults, alias_faults, link_faults}
use Rattle.config_text.specs.FaultLists.{option_faults, setting_faults, class_of, ComesBefore}
use Rattle.config_text.specs.FaultLists.{ComesBeforeAll, AreInOrder}

-- ---- lists of a class and of those behind it

-- no fault is of a class before that
abbrev FromClass : ℕ → List Fault → Type 0
FromClass n [] = Unit {0}
FromClass n (f ∷ fs) = (n ≤ class_of f.kind) × FromClass n fs

class_one : (n : ℕ) (b : Bool) (k : ConfigKind) (left : ℕ) → n ≤ class_of k
    → FromClass n (fault_unless b k left)
class_one n true k left h = tt
class_one n false k left h = (h, tt)

class_both : (n : ℕ) (fs gs : List Fault) → FromClass n fs → FromClass n gs → FromClass n (fs ++ gs)
class_both n [] gs h k = k
class_both n (f ∷ fs) gs h k = (h.0, class_both n fs gs h.1 k)

before_class : (f : Fault) (n : ℕ) (gs : List Fault) → class_of f.kind < n → FromClass n gs
    → ComesBeforeAll f gs
before_class f n [] h k = tt
before_class f n (g ∷ gs) h k = (inl (omega (arith, k.0)), before_class f n gs h k.1)

one_alone : (b : Bool) (k : ConfigKind) (left : ℕ) → AreInOrder (fault_unless b k left)
one_alone true k left = tt
one_alone false k left = (tt, tt)

before_one : (f : Fault) (b : Bool) (k : ConfigKind) (left : ℕ) → ComesBefore f (fault_at k left)
    → ComesBeforeAll f (fault_unless b k left)
before_one f true k left h = tt
before_one f false k left h = (h, tt)

one_then : (b : Bool) (k : ConfigKind) (left : ℕ) (fs : List Fault)
    → ComesBeforeAll (fault_at k left) fs → AreInOrder fs → AreInOrder (fault_unless b k left ++ fs)
one_then true k left fs h o = o
one_then false k left fs h o = (h, o)

-- ---- names

pub known_in_order : (c : Configuration) (name : Text) → AreInOrder (known_faults c name)
unfolding known_faults
known_in_order c name =
    one_then (is_name name.text) kind.BadName name.left _
    (before_class (fault_at kind.BadName name.left) 2 _ (omega arith)
    (class_one 2 (is_some (screen_of c name.text)) kind.UnknownScreen name.left (omega arith)))
    (one_alone (is_some (screen_of c name.text)) kind.UnknownScreen name.left)

-- a name, what is wrong with it, and a limit
name_in_order : (a b d : Bool) (k : ConfigKind) (left whole : ℕ) → class_of k ≡ 2
    → AreInOrder
    (fault_unless a kind.BadName left
    ++ (fault_unless b k left ++ fault_unless d kind.TooMany whole))
name_in_order a b d k left whole e =
    let limit = class_one 5 d kind.TooMany whole (omega arith) in
    let limit_after = class_one 2 d kind.TooMany whole (omega arith) in
    one_then a kind.BadName left _
    (before_class (fault_at kind.BadName left) 2 _ (omega arith)
    (class_both 2 (fault_unless b k left) (fault_unless d kind.TooMany whole)
    (class_one 2 b k left (omega arith)) limit_after))
    (one_then b k left _ (before_class (fault_at k left) 5 _ (omega arith) limit)
    (one_alone d kind.TooMany whole))

pub screen_in_order : (whole : ℕ) (c : Configuration) (name : Text)
    → AreInOrder (screen_faults whole c name)
unfolding screen_faults
screen_in_order whole c name = name_in_order _ _ _ kind.DuplicateScreen name.left whole refl

pub alias_in_order : (whole : ℕ) (c : Configuration) (name : Text)
    → AreInOrder (alias_faults whole c name)
unfolding alias_faults
alias_in_order whole c name = name_in_order _ _ _ kind.DuplicateAlias name.left whole refl

-- ---- options

option_in_order : (o : Option OptionName) (stands : Scope → Bool) (s : SettingText)
    → s.value.left ≤ s.key.left → AreInOrder (option_faults o stands s)
option_in_order None stands s h = (tt, tt)
option_in_order (Some o) stands s h =
    one_then (stands (row_of o).scope) kind.UnknownOption s.key.left _
    (before_one (fault_at kind.UnknownOption s.key.left)
    (is_some (value_of (row_of o).form s.value.text)) kind.BadValue s.value.left
    (inr (refl, h)))
    (one_alone (is_some (value_of (row_of o).form s.value.text)) kind.BadValue s.value.left)

pub setting_in_order : (xs : List ℕ) (stands : Scope → Bool) (s : SettingText) → SpellsSetting xs s
    → AreInOrder (setting_faults stands s)
unfolding setting_faults
setting_in_order xs stands s h =
    option_in_order (option_named s.key.text) stands s
    (omega (
      arith,
      h.places.0,
      h.places.1,
      ap length h.text,
      length-append s.key.text (h.behind_key ++ 61 ∷ (h.behind_sign ++ s.value.text)),
      length-append h.behind_key (61 ∷ (h.behind_sign ++ s.value.text)),
      length-append h.behind_sign s.value.text,
    ))

-- ---- links

known_then : (a b : Bool) (left : ℕ) (fs : List Fault) → FromClass 3 fs → AreInOrder fs
    → AreInOrder
    ((fault_unless a kind.BadName left ++ fault_unless b kind.UnknownScreen left) ++ fs)
known_then true true left fs h o = o
known_then false true left fs h o =
    (before_class (fault_at kind.BadName left) 3 fs (omega arith) h, o)
known_then true false left fs h o =
    (before_class (fault_at kind.UnknownScreen left) 3 fs (omega arith) h, o)
known_then false false left fs h o = (
  (inl (omega arith), before_class (fault_at kind.BadName left) 3 fs (omega arith) h),
  (before_class (fault_at kind.UnknownScreen left) 3 fs (omega arith) h, o),
)

range_class : (n : ℕ) (r : Option RangeText) → n ≤ 3 → FromClass n (range_faults r)
range_class n None h = tt
range_class n (Some r) h = class_one n (nat_lt r.a r.b && nat_le r.b 100) kind.BadRange r.left h

range_then : (r : Option RangeText) (fs : List Fault)
    → ((x : RangeText) → r ≡ Some x → ComesBeforeAll (fault_at kind.BadRange x.left) fs)
    → AreInOrder fs → AreInOrder (range_faults r ++ fs)
range_then None fs h o = o
range_then (Some r) fs h o =
    one_then (nat_lt r.a r.b && nat_le r.b 100) kind.BadRange r.left fs (h r refl) o

one_before : (f : Fault) (b : Bool) (k : ConfigKind) (left : ℕ) (fs : List Fault)
    → ComesBefore f (fault_at k left) → ComesBeforeAll f fs
    → ComesBeforeAll f (fault_unless b k left ++ fs)
one_before f true k left fs h o = o
one_before f false k left fs h o = (h, o)

range_before : (f : Fault) (r : Option RangeText) (fs : List Fault)
    → ((y : RangeText) → r ≡ Some y → ComesBefore f (fault_at kind.BadRange y.left))
    → ComesBeforeAll f fs → ComesBeforeAll f (range_faults r ++ fs)
range_before f None fs h o = o
range_before f (Some r) fs h o =
    one_before f (nat_lt r.a r.b && nat_le r.b 100) kind.BadRange r.left fs (h r refl) o

maybe_place : (range : List ℕ) (m : Option RangeText) (x : RangeText) (left : ℕ)
    → SpellsMaybe range m left → m ≡ Some x → x.left ≡ left
maybe_place range None x left s e = absurd cc
maybe_place range (Some r) x left s e =
    let same : r ≡ x = cc in sym (ap (λ (y : RangeText). y.left) same) ∙ s.1

ranges_from_left : (xs : List ℕ) (l : LinkText) → SpellsLink xs l → (x y : RangeText)
    → l.source ≡ Some x → l.target ≡ Some y → y.left ≤ x.left
ranges_from_left xs l h x y p q =
    let t = h.target in
    let signed = 61 ∷ (h.behind_sign ++ h.ends) in
    omega (
      arith,
      maybe_place h.range l.source x _ h.source p,
      maybe_place t.range l.target y _ t.spelled q,
      ap length t.text,
      length-append l.name.text (t.behind_name ++ (t.range ++ t.behind_range)),
      length-append t.behind_name (t.range ++ t.behind_range),
      length-append h.range (h.behind_range ++ signed),
      length-append h.behind_range signed,
      length-append h.behind_sign h.ends,
    )

-- an overlap, and a limit
ends_class : (free room : Bool) (left whole : ℕ)
    → FromClass 4 (fault_unless free kind.Overlap left ++ fault_unless room kind.TooMany whole)
ends_class free room left whole =
    class_both 4 (fault_unless free kind.Overlap left) (fault_unless room kind.TooMany whole)
    (class_one 4 free kind.Overlap left (omega arith))
    (class_one 4 room kind.TooMany whole (omega arith))

ends_in_order : (free room : Bool) (left whole : ℕ)
    → AreInOrder (fault_unless free kind.Overlap left ++ fault_unless room kind.TooMany whole)
ends_in_order free room left whole =
    one_then free kind.Overlap left _
    (before_class (fault_at kind.Overlap left) 5 _ (omega arith)
    (class_one 5 room kind.TooMany whole (omega arith)))
    (one_alone room kind.TooMany whole)

class_from : (n m : ℕ) (fs : List Fault) → n ≤ m → FromClass m fs → FromClass n fs
class_from n m [] h k = tt
class_from n m (f ∷ fs) h k = (omega (arith, k.0), class_from n m fs h k.1)

-- the ranges, and a list of classes behind theirs
ranges_in_order : (source target : Option RangeText) (ends : List Fault)
    → ((x y : RangeText) → source ≡ Some x → target ≡ Some y → y.left ≤ x.left)
    → FromClass 4 ends → AreInOrder ends
    → AreInOrder (range_faults source ++ (range_faults target ++ ends))
ranges_in_order source target ends places k o =
    range_then source (range_faults target ++ ends)
    (λ x e.
    range_before (fault_at kind.BadRange x.left) target ends (λ y d. inr (refl, places x y e d))
    (before_class (fault_at kind.BadRange x.left) 4 ends (omega arith) k))
    (range_then target ends
    (λ y d. before_class (fault_at kind.BadRange y.left) 4 ends (omega arith) k) o)

ranges_class : (source target : Option RangeText) (ends : List Fault) → FromClass 4 ends
    → FromClass 3 (range_faults source ++ (range_faults target ++ ends))
ranges_class source target ends k =
    class_both 3 (range_faults source) (range_faults target ++ ends)
    (range_class 3 source (omega arith))
    (class_both 3 (range_faults target) ends (range_class 3 target (omega arith))
    (class_from 3 4 ends (omega arith) k))

pub link_in_order : (xs : List ℕ) (whole : ℕ) (c : Configuration) (from : ℕ) (l : LinkText)
    → SpellsLink xs l → AreInOrder (link_faults whole c from l)
unfolding link_faults known_faults
link_in_order xs whole c from l h =
    let k =
    ends_class (not (is_taken c from l.side (range_given l.source)))
    (nat_lt (length c.links) 1024) l.left whole in
    known_then (is_name l.name.text) (is_some (screen_of c l.name.text)) l.name.left _
    (ranges_class l.source l.target _ k)
    (ranges_in_order l.source l.target _ (ranges_from_left xs l h) k
    (ends_in_order (not (is_taken c from l.side (range_given l.source)))
    (nat_lt (length c.links) 1024) l.left whole))
