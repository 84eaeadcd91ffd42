-- What a text of some kind means, and what a command reads of the file that holds one.
use Rattle.std.specs.Prelude.{◌≡◌, ◌⊎◌, ℕ, zero, ◌<◌, ◌≤◌, List, length, Option, Some, None, IfSome}
use Rattle.std.specs.Prelude.{Result, Ok, Err}
use Rattle.share_base.specs.Counts.{one_more, Rises}
use Rattle.share_base.specs.declared.files.Files as files
use Rattle.share_commands.specs.declared.status.Status.{Status}
use Rattle.share_commands.specs.declared.status.Status.TheVariants as status
use Rattle.share_commands.specs.Causes.{FileCounts}

-- a kind of text: how many bytes its file has at most, and the refusal of one that has more; what a
-- text spells, and why it is refused; and the refusal of this kind that a status says
pub record Kind (V R : Type 0) : Type 1 where
  pub limit : ℕ
  pub too_big : R
  pub spells : List ℕ → V → Type 0
  pub refuses : List ℕ → R → Type 0
  pub said : Status → Option R

-- the file has a text within the limit, of which this holds; where the file is told, the text is
-- its bytes
pub record HasText (limit : ℕ) (told : Option (List ℕ)) (Holds : List ℕ → Type 0)
    : Type 0 where
  pub text : List ℕ
  pub within : length text ≤ limit
  pub is_file : IfSome told (λ bytes. text ≡ bytes)
  pub holds : Holds text

-- the file spells that value
abbrev pub Has : {V R : Type 0} → Kind V R → Option (List ℕ) → V → Type 0
Has kind told value = HasText kind.limit told (λ text. kind.spells text value)

-- the file's text is refused so, or the file has more bytes than the limit
abbrev pub IsRefused : {V R : Type 0} → Kind V R → Option (List ℕ) → R → Type 0
IsRefused kind told refusal =
    HasText kind.limit told (λ text. kind.refuses text refusal)
    ⊎ ((refusal ≡ kind.too_big) × IfSome told (λ bytes. kind.limit < length bytes))

-- there is a refusal, of which this holds
abbrev pub IsOf : {R : Type 0} → Option R → (R → Type 0) → Type 0
IsOf None Holds = ⊥
IsOf (Some refusal) Holds = Holds refusal

-- why a command ends so without a value
abbrev pub Lacks : {V R : Type 0} → Kind V R → Status → Option (List ℕ) → Type 0
Lacks kind status.ReadFault told = Unit {0}
Lacks kind status.OutOfMemory told = Unit {0}
Lacks kind end told = IsOf (kind.said end) (IsRefused kind told)

-- what a text gives: the value that it spells, or how a command ends without one
abbrev pub Gives : {V R : Type 0} → Kind V R → Result V Status → List ℕ → Type 0
Gives kind (Ok value) text = kind.spells text value
Gives kind (Err status.OutOfMemory) text = Unit {0}
Gives kind (Err status.ReadFault) text = ⊥
Gives kind (Err end) text = IsOf (kind.said end) (kind.refuses text)

-- what a file gives
abbrev pub FileGives : {V R : Type 0} → Kind V R → Result V Status → Option (List ℕ) → Type 0
FileGives kind (Ok value) told = Has kind told value
FileGives kind (Err end) told = Lacks kind end told

-- how a command ends by what was given; ok where it goes on
abbrev pub end_of : {A : Type 0} → Result A Status → Status
end_of (Ok given) = status.Ok
end_of (Err end) = end

-- one file was read, and none changed
pub record ReadsOnce {F : Type 0} (seen : files.Ghosts F) (old new : F) : Type 0 where
  pub one : seen.calls new ≡ one_more (seen.calls old)
  pub kept : (name : List ℕ) → seen.told new name ≡ seen.told old name

-- the count of files that are too big rose at a refusal that names no line, and stayed at every
-- other end
abbrev pub OverCounts : Status → ℕ → ℕ → Type 0
OverCounts (status.BadConfig zero column kind) old new = Rises old new
OverCounts (status.BadScript zero kind) old new = Rises old new
OverCounts (status.BadTrace zero kind) old new = Rises old new
OverCounts _ old new = new ≡ old

abbrev pub CountsOvers : {F : Type 0} → Status → files.Ghosts F → F → F → Type 0
CountsOvers end seen old new = OverCounts end (seen.overs old) (seen.overs new)

-- the file of that name was read once, and gave that; the counts go by how it ended
pub record ReadsText {V R F : Type 0} (kind : Kind V R) (result : Result V Status)
    (seen : files.Ghosts F) (old new : F) (name : List ℕ) : Type 0 where
  pub reads : FileGives kind result (seen.told old name)
  pub once : ReadsOnce seen old new
  pub overs : OverCounts (end_of result) (seen.overs old) (seen.overs new)
  pub faults : FileCounts (end_of result) (seen.faults old) (seen.faults new)

-- ---- before a text is judged

-- the bytes themselves, which are refused only if they are too many, and then so
abbrev pub bytes_within : ℕ → Status → Kind (List ℕ) Status
bytes_within limit too_big =
    record {
      limit = limit;
      too_big = too_big;
      spells = λ text bytes. bytes ≡ text;
      refuses = λ text end. ⊥;
      said = λ end. Some end;
    }

-- a refusal that names no line
abbrev pub NamesNoLine : Status → Type 0
NamesNoLine (status.BadConfig zero column kind) = Unit {0}
NamesNoLine (status.BadScript zero kind) = Unit {0}
NamesNoLine (status.BadTrace zero kind) = Unit {0}
NamesNoLine _ = ⊥
