-- A file that was read gives what its text gives.
use Rattle.std.proofs.Common.{◌≡◌, ◌<◌, ℕ, zero, suc, List, length, Option, Some, None, IfSome, Result, Ok, Err, refl, sym, ap, subst, ◌∙◌, inl, inr, arith}
use Rattle.share_base.specs.Counts.{Rises}
use Rattle.share_base.specs.declared.files.Files as files
use Rattle.share_commands.specs.declared.status.Status.{Status}
use Rattle.share_commands.specs.declared.status.Status.TheVariants as status
use Rattle.share_commands.specs.Causes.{FileCounts}
use Rattle.share_commands.specs.Reading.{Kind, HasText, IsRefused, IsOf, Lacks, Gives, FileGives, ReadsText, OverCounts, NamesNoLine, bytes_within, end_of}

-- ---- a file that is too big

pub big_overs : (end : Status) (old new : ℕ) → NamesNoLine end → Rises old new → OverCounts end old new
big_overs (status.BadConfig zero column kind) old new none rises = rises
big_overs (status.BadScript zero kind) old new none rises = rises
big_overs (status.BadTrace zero kind) old new none rises = rises
big_overs (status.BadConfig (suc line) column kind) old new none rises = absurd none
big_overs (status.BadScript (suc line) kind) old new none rises = absurd none
big_overs (status.BadTrace (suc line) kind) old new none rises = absurd none
big_overs end old new none rises = absurd none

pub big_faults : (end : Status) (old new : ℕ) → NamesNoLine end → new ≡ old → FileCounts end old new
big_faults status.ReadFault old new none same = absurd none
big_faults end old new none same = same

pub big_lacks : (limit : ℕ) (end : Status) (told : Option (List ℕ)) → NamesNoLine end → IfSome told (λ bytes. limit < length bytes) → Lacks (bytes_within limit end) end told
big_lacks limit status.ReadFault told none big = absurd none
big_lacks limit status.OutOfMemory told none big = absurd none
big_lacks limit end told none big = inr (refl, big)

-- ---- a text that was not read

lacks : {V R : Type 0} (kind : Kind V R) (too_big end : Status) (told : Option (List ℕ)) → kind.said too_big ≡ Some kind.too_big
    → IsRefused (bytes_within kind.limit too_big) told end → IsOf (kind.said end) (IsRefused kind told)
lacks kind too_big end told says (inl read) = absurd read.holds
lacks kind too_big end told says (inr (same, big)) =
    subst (λ (r : Option _). IsOf r (IsRefused kind told)) (sym (ap kind.said same ∙ says)) (inr (refl, big))

not_given : {V R : Type 0} (kind : Kind V R) (too_big end : Status) (told : Option (List ℕ)) → kind.said too_big ≡ Some kind.too_big
    → Lacks (bytes_within kind.limit too_big) end told → Lacks kind end told
not_given kind too_big status.ReadFault told says h = tt
not_given kind too_big status.OutOfMemory told says h = tt
not_given kind too_big end told says h = lacks kind too_big end told says h

pub unread : {V R F : Type 0} (kind : Kind V R) (too_big end : Status) (seen : files.Ghosts F) (old new : F) (name : List ℕ) → kind.said too_big ≡ Some kind.too_big
    → ReadsText (bytes_within kind.limit too_big) (Err end) seen old new name → ReadsText kind (Err end) seen old new name
unread kind too_big end seen old new name says r = record {
  reads = not_given kind too_big end (seen.told old name) says r.reads;
  once = r.once;
  overs = r.overs;
  faults = r.faults;
}

-- ---- a text that was read

-- a refusal of this kind names a line
abbrev pub NamesLine : Status → Type 0
NamesLine (status.BadConfig line column kind) = 0 < line
NamesLine (status.BadScript line kind) = 0 < line
NamesLine (status.BadTrace line kind) = 0 < line
NamesLine _ = Unit {0}

kept_overs : (end : Status) (old new : ℕ) → NamesLine end → new ≡ old → OverCounts end old new
kept_overs (status.BadConfig zero column kind) old new named same = absurd (omega (arith, named))
kept_overs (status.BadScript zero kind) old new named same = absurd (omega (arith, named))
kept_overs (status.BadTrace zero kind) old new named same = absurd (omega (arith, named))
kept_overs (status.BadConfig (suc line) column kind) old new named same = same
kept_overs (status.BadScript (suc line) kind) old new named same = same
kept_overs (status.BadTrace (suc line) kind) old new named same = same
kept_overs end old new named same = same

judged : {V R : Type 0} (kind : Kind V R) (text : List ℕ) (told : Option (List ℕ)) (refusal : Option R)
    → HasText kind.limit told (λ read. text ≡ read) → IsOf refusal (kind.refuses text) → IsOf refusal (IsRefused kind told)
judged kind text told None has why = absurd why
judged kind text told (Some r) has why = inl (record {
  text = has.text;
  within = has.within;
  is_file = has.is_file;
  holds = subst (λ (xs : List ℕ). kind.refuses xs r) has.holds why;
})

gives : {V R : Type 0} (kind : Kind V R) (result : Result V Status) (text : List ℕ) (told : Option (List ℕ))
    → HasText kind.limit told (λ read. text ≡ read) → Gives kind result text → FileGives kind result told
gives kind (Ok value) text told has g = record {
  text = has.text;
  within = has.within;
  is_file = has.is_file;
  holds = subst (λ (xs : List ℕ). kind.spells xs value) has.holds g;
}
gives kind (Err status.ReadFault) text told has g = tt
gives kind (Err status.OutOfMemory) text told has g = tt
gives kind (Err end) text told has g = judged kind text told (kind.said end) has g

faults_kept : {V R : Type 0} (kind : Kind V R) (result : Result V Status) (text : List ℕ) (old new : ℕ) → Gives kind result text → new ≡ old → FileCounts (end_of result) old new
faults_kept kind (Ok value) text old new g same = same
faults_kept kind (Err status.ReadFault) text old new g same = absurd g
faults_kept kind (Err end) text old new g same = same

pub read : {V R F : Type 0} (kind : Kind V R) (too_big : Status) (result : Result V Status) (text : List ℕ) (seen : files.Ghosts F) (old new : F) (name : List ℕ)
    → ReadsText (bytes_within kind.limit too_big) (Ok text) seen old new name → Gives kind result text → NamesLine (end_of result) → ReadsText kind result seen old new name
read kind too_big result text seen old new name r g named = record {
  reads = gives kind result text (seen.told old name) r.reads g;
  once = r.once;
  overs = kept_overs (end_of result) (seen.overs old) (seen.overs new) named r.overs;
  faults = faults_kept kind result text (seen.faults old) (seen.faults new) g r.faults;
}
