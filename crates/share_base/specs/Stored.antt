-- What one reading of a file does to what files tell, and to their counts; and the files in memory.
use Rattle.std.specs.Prelude.{◌≡◌, ℕ, ◌<◌, ◌≤◌, Bool, true, false, ◌==◌, ◌||◌, List, [], length}
use Rattle.std.specs.Prelude.{Option, is_none, IfSome}
use Rattle.std.specs.Option.{option_map}
use Rattle.std.specs.List.{find, list_any}
use Rattle.std.specs.Str.{bytes_eq}
use Rattle.share_base.specs.declared.files.FileAnswer.{FileAnswer}
use Rattle.share_base.specs.declared.files.FileAnswer.TheVariants as answer
use Rattle.share_base.specs.declared.memory_files.NamedFile.{NamedFile}
use Rattle.share_base.specs.Counts.{one_more, Rises}

-- the file's bytes were given whole, and are no more than the limit; or it is larger
abbrev pub FileGives : FileAnswer → ℕ → Option (List ℕ) → Type 0
FileGives (answer.Bytes bytes) limit told = (length bytes ≤ limit) × IfSome told (λ xs. bytes ≡ xs)
FileGives answer.TooBig limit told = IfSome told (λ xs. limit < length xs)
FileGives answer.Failed limit told = Unit {0}
FileGives answer.OutOfMemory limit told = Unit {0}

-- the count of faults rose at a failure, and stayed at every other answer
abbrev pub FileFaults : FileAnswer → ℕ → ℕ → Type 0
FileFaults (answer.Bytes bytes) old new = new ≡ old
FileFaults answer.TooBig old new = new ≡ old
FileFaults answer.Failed old new = Rises old new
FileFaults answer.OutOfMemory old new = new ≡ old

-- the count of files that were too big rose at such an answer, and stayed at every other one
abbrev pub FileOvers : FileAnswer → ℕ → ℕ → Type 0
FileOvers (answer.Bytes bytes) old new = new ≡ old
FileOvers answer.TooBig old new = Rises old new
FileOvers answer.Failed old new = new ≡ old
FileOvers answer.OutOfMemory old new = new ≡ old

-- files in memory, the calls that fail, and the counts
pub record MemoryStore : Type 0 where
  pub files : List NamedFile
  pub failing : List ℕ
  pub calls : ℕ
  pub faults : ℕ
  pub overs : ℕ

-- the bytes of the file of that name
abbrev pub file_named : List NamedFile → List ℕ → Option (List ℕ)
file_named files name = option_map (λ f. f.bytes) (find (λ f. bytes_eq f.name name) files)

-- no file yet, and no call
abbrev pub store_of : List ℕ → MemoryStore
store_of failing = record { files = []; failing = failing; calls = 0; faults = 0; overs = 0 }

-- this call is listed, or there is no such file
abbrev pub fails_at : MemoryStore → List ℕ → Bool
fails_at store name =
    list_any (λ n. n == one_more store.calls) store.failing || is_none (file_named store.files name)

-- the answer is a failure
abbrev pub is_failure : FileAnswer → Bool
is_failure (answer.Bytes bytes) = false
is_failure answer.TooBig = false
is_failure answer.Failed = true
is_failure answer.OutOfMemory = false

-- the same files, and the same calls fail
pub record SameFiles (old new : MemoryStore) : Type 0 where
  pub files : new.files ≡ old.files
  pub failing : new.failing ≡ old.failing
