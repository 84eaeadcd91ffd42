-- A refusal of a text names a line, and lines count from 1.
use Rattle.std.proofs.Common.{◌≡◌, ℕ, ◌+◌, ◌-◌, ◌<◌, Bool, true, false, List, [], ◌∷◌, length}
use Rattle.std.proofs.Common.{Result, Ok, Err, Option, Some, None, refl, ap, sym, subst, inl, inr}
use Rattle.std.proofs.Common.{arith}
use Rattle.std.specs.Prelude.{IfOk, if◌then◌else◌, codes}
use Rattle.std.specs.Str.Lines.{lines}
use Rattle.std.specs.Str.{bytes_eq}
use Rattle.text_lines.specs.Lines.{LineText, Empty, Forbidden, Words, line_text}
use Rattle.text_lines.specs.Reading.{◌>>=◌}
use Rattle.option_table.specs.Scopes.{stands_below_screen, stands_for_all}
use Rattle.hotkey_text.specs.Shapes.{is_hotkey, hotkey_at}
use Rattle.config_text.specs.declared.faults.Fault.{Fault}
use Rattle.config_text.specs.declared.faults.ConfigRefusal.{ConfigRefusal}
use Rattle.config_text.specs.declared.sections.Section.{Section}
use Rattle.config_text.specs.declared.sections.Section.TheVariants as section
use Rattle.config_text.specs.declared.sections.Opened.{Opened}
use Rattle.config_text.specs.Drafts.{Draft}
use Rattle.config_text.specs.declared.faults.ConfigKind.TheVariants as kind
use Rattle.screen_config.specs.Configurations.{with_global, with_own}
use Rattle.config_text.specs.Shapes.{section_at, header_at, alias_at, link_at, setting_at}
use Rattle.config_text.specs.Judging.{fault_at, or_fault, formed, known_screen, new_screen}
use Rattle.config_text.specs.Judging.{new_alias, new_link, new_setting}
use Rattle.config_text.specs.Hotkeys.{new_hotkey}
use Rattle.config_text.specs.Sections.{opened_as, section_named, under, holding, outside, inside}
use Rattle.config_text.specs.Sections.{in_section, screen_header, known_header, screen_line}
use Rattle.config_text.specs.Sections.{alias_line, link_line, global_line, hotkey_line, option_line}
use Rattle.config_text.specs.Sections.{is_header, words_in}
use Rattle.config_text.specs.Lines.{judged, judged_as, placed, start}
use Rattle.text_lines.specs.LineByLine.{LeadsOver}
use Rattle.config_text.specs.Accepting.{Refuses}

-- a section that is open was opened at a line
abbrev HasLine : Option Opened → Type 0
HasLine None = Unit {0}
HasLine (Some o) = 0 < o.line

abbrev Keeps : Draft → Draft → Type 0
Keeps d e = e.opened ≡ d.opened

then_so : {A B E : Type 0} (P : B → Type 0) (r : Result A E) (f : A → Result B E)
    → ((x : A) → IfOk (f x) P) → IfOk (r >>= f) P
then_so P (Ok x) f h = h x
then_so P (Err e) f h = tt

either_so : {B E : Type 0} (P : B → Type 0) (b : Bool) (x y : Result B E) → IfOk x P → IfOk y P
    → IfOk (if b then x else y) P
either_so P true x y h k = h
either_so P false x y h k = k

-- ---- inside a section the open one stays

screen_header_keeps : (d : Draft) (xs : List ℕ) → IfOk (screen_header d xs) (Keeps d)
unfolding screen_header
screen_header_keeps d xs =
    then_so (Keeps d) (formed (header_at xs))
    (λ name. new_screen (length xs) d.config name
    >>= λ c. Ok (record d { header = Some (length d.config.screens); config = c }))
    (λ name.
    then_so (Keeps d) (new_screen (length xs) d.config name)
    (λ c. Ok (record d { header = Some (length d.config.screens); config = c }))
    (λ c. refl))

known_header_keeps : (d : Draft) (xs : List ℕ) → IfOk (known_header d xs) (Keeps d)
unfolding known_header
known_header_keeps d xs =
    then_so (Keeps d) (formed (header_at xs))
    (λ name. known_screen d.config name >>= λ screen. Ok (record d { header = Some screen }))
    (λ name.
    then_so (Keeps d) (known_screen d.config name)
    (λ screen. Ok (record d { header = Some screen })) (λ screen. refl))

screen_line_keeps : (d : Draft) (xs : List ℕ) → IfOk (screen_line d xs) (Keeps d)
unfolding screen_line
screen_line_keeps d xs =
    then_so (Keeps d) (under d.header xs)
    (λ screen. formed (setting_at xs) >>= λ text. new_setting stands_below_screen text
    >>= λ s. Ok (holding d (with_own d.config screen s.option s.value)))
    (λ screen.
    then_so (Keeps d) (formed (setting_at xs))
    (λ text. new_setting stands_below_screen text
    >>= λ s. Ok (holding d (with_own d.config screen s.option s.value)))
    (λ text.
    then_so (Keeps d) (new_setting stands_below_screen text)
    (λ s. Ok (holding d (with_own d.config screen s.option s.value))) (λ s. refl)))

alias_line_keeps : (d : Draft) (xs : List ℕ) → IfOk (alias_line d xs) (Keeps d)
unfolding alias_line
alias_line_keeps d xs =
    then_so (Keeps d) (under d.header xs)
    (λ screen. formed (alias_at xs) >>= λ name. new_alias (length xs) d.config screen name
    >>= λ c. Ok (holding d c))
    (λ screen.
    then_so (Keeps d) (formed (alias_at xs))
    (λ name. new_alias (length xs) d.config screen name >>= λ c. Ok (holding d c))
    (λ name.
    then_so (Keeps d) (new_alias (length xs) d.config screen name)
    (λ c. Ok (holding d c)) (λ c. refl)))

link_line_keeps : (d : Draft) (xs : List ℕ) → IfOk (link_line d xs) (Keeps d)
unfolding link_line
link_line_keeps d xs =
    then_so (Keeps d) (under d.header xs)
    (λ screen. formed (link_at xs) >>= λ text. new_link (length xs) d.config screen text
    >>= λ c. Ok (holding d c))
    (λ screen.
    then_so (Keeps d) (formed (link_at xs))
    (λ text. new_link (length xs) d.config screen text >>= λ c. Ok (holding d c))
    (λ text.
    then_so (Keeps d) (new_link (length xs) d.config screen text)
    (λ c. Ok (holding d c)) (λ c. refl)))

global_line_keeps : (d : Draft) (xs : List ℕ) → IfOk (global_line d xs) (Keeps d)
unfolding global_line
global_line_keeps d xs =
    then_so (Keeps d) (formed (setting_at xs))
    (λ text. new_setting stands_for_all text
    >>= λ s. Ok (holding d (with_global d.config s.option s.value)))
    (λ text.
    then_so (Keeps d) (new_setting stands_for_all text)
    (λ s. Ok (holding d (with_global d.config s.option s.value))) (λ s. refl))

hotkey_line_keeps : (d : Draft) (xs : List ℕ) → IfOk (hotkey_line d xs) (Keeps d)
unfolding hotkey_line
hotkey_line_keeps d xs =
    then_so (Keeps d) (formed (hotkey_at xs))
    (λ form. new_hotkey (length xs) d.config form >>= λ c. Ok (holding d c))
    (λ form.
    then_so (Keeps d) (new_hotkey (length xs) d.config form) (λ c. Ok (holding d c))
    (λ c. refl))

option_line_keeps : (d : Draft) (xs : List ℕ) → IfOk (option_line d xs) (Keeps d)
option_line_keeps d xs =
    either_so (Keeps d) (is_hotkey xs) (hotkey_line d xs) (global_line d xs)
    (hotkey_line_keeps d xs) (global_line_keeps d xs)

in_section_keeps : (s : Section) (d : Draft) (xs : List ℕ) → IfOk (in_section s d xs) (Keeps d)
unfolding in_section
in_section_keeps section.Screens d xs =
    either_so (Keeps d) (is_header xs) (screen_header d xs) (screen_line d xs)
    (screen_header_keeps d xs) (screen_line_keeps d xs)
in_section_keeps section.Aliases d xs =
    either_so (Keeps d) (is_header xs) (known_header d xs) (alias_line d xs)
    (known_header_keeps d xs) (alias_line_keeps d xs)
in_section_keeps section.Links d xs =
    either_so (Keeps d) (is_header xs) (known_header d xs) (link_line d xs)
    (known_header_keeps d xs) (link_line_keeps d xs)
in_section_keeps section.Options d xs =
    either_so (Keeps d) (is_header xs) (Err (fault_at kind.BadLine (length xs))) (option_line d xs)
    tt (option_line_keeps d xs)

-- ---- a good line

abbrev Lined : Draft → Type 0
Lined d = HasLine d.opened

outside_lined : (line column : ℕ) (d : Draft) (xs : List ℕ) → 0 < line
    → IfOk (outside line column d xs) Lined
unfolding outside
outside_lined line column d xs h =
    then_so Lined (formed (section_at xs))
    (λ name. or_fault (section_named name.text) kind.UnknownSection name.left
    >>= λ s. Ok (record d { opened = Some (opened_as s line column); header = None }))
    (λ name.
    then_so Lined (or_fault (section_named name.text) kind.UnknownSection name.left)
    (λ s. Ok (record d { opened = Some (opened_as s line column); header = None }))
    (λ s. h))

kept_lined : (d : Draft) (r : Result Draft Fault) → Lined d → IfOk r (Keeps d) → IfOk r Lined
kept_lined d (Ok e) h k = subst HasLine (sym k) h
kept_lined d (Err f) h k = tt

inside_lined : (o : Option Opened) (line column : ℕ) (d : Draft) (xs : List ℕ) → 0 < line → Lined d
    → IfOk (inside o line column d xs) Lined
inside_lined None line column d xs h k = outside_lined line column d xs h
inside_lined (Some o) line column d xs h k =
    either_so Lined (bytes_eq xs (codes "end")) (Ok (record d { opened = None; header = None }))
    (in_section o.section d xs) tt
    (kept_lined d (in_section o.section d xs) k (in_section_keeps o.section d xs))

placed_lined : (line end : ℕ) (r : Result Draft Fault) (e : Draft) → IfOk r Lined
    → placed line end r ≡ Ok e → Lined e
placed_lined line end (Ok x) e h same = let is : x ≡ e = cc in subst Lined is h
placed_lined line end (Err f) e h same = absurd cc

judged_as_lined : (t : LineText) (line : ℕ) (d e : Draft) → 0 < line → Lined d
    → judged_as t line d ≡ Ok e → Lined e
unfolding words_in
judged_as_lined Empty line d e h k same = let is : d ≡ e = cc in subst Lined is k
judged_as_lined (Forbidden place) line d e h k same = absurd cc
judged_as_lined (Words words end) line d e h k same =
    placed_lined line end (words_in line (end - length words + 1) d words) e
    (inside_lined d.opened line (end - length words + 1) d words h k) same

leads_lined : (n : ℕ) (d : Draft) (ls : List (List ℕ)) (e : Draft) → 0 < n → Lined d
    → LeadsOver judged n d ls e → Lined e
unfolding judged
leads_lined n d [] e h k leads = subst Lined leads k
leads_lined n d (l ∷ ls) e h k leads =
    leads_lined (n + 1) leads.0 ls e (omega arith)
    (judged_as_lined (line_text l) n d leads.0 h k leads.1) leads.2

-- ---- a bad line

placed_at : (line end : ℕ) (r : Result Draft Fault) (x : ConfigRefusal) → placed line end r ≡ Err x
    → x.line ≡ line
placed_at line end (Ok d) x same = absurd cc
placed_at line end (Err f) x same = cc

judged_at : (t : LineText) (line : ℕ) (d : Draft) (x : ConfigRefusal) → judged_as t line d ≡ Err x
    → x.line ≡ line
judged_at Empty line d x same = absurd cc
judged_at (Forbidden place) line d x same = cc
judged_at (Words words end) line d x same =
    placed_at line end (words_in line (end - length words + 1) d words) x same

pub has_line : (text : List ℕ) (r : ConfigRefusal) → Refuses text r → 0 < r.line
unfolding judged
has_line text r (inl o) =
    omega (arith, judged_at (line_text o.line) (length o.above + 1) o.draft r o.bad)
has_line text r (inr l) =
    let at : 0 < l.opened.line =
    subst HasLine l.open_there
    (leads_lined 1 start (lines text) l.draft (omega arith) tt l.good) in
    omega (arith, at, ap (λ (x : ConfigRefusal). x.line) l.place)
