-- The desk in memory, as its callers see it.
use Rattle.std.specs.Prelude.{◌≡◌, ◌==◌, nat_lt, ℕ, ◌+◌, ◌++◌, length, List, [], ◌∷◌, map, Option, Some, None, Result, Ok, Err, if◌then◌else◌, string_bytes, Vec}
use Rattle.std.specs.List.{list_any}
use Rattle.std.specs.Str.{bytes_eq}
use Rattle.stat_desk.specs.Desk.{Bytes, DeskSeen, ReadResult, TooLong as GaveTooLong}
use Rattle.stat_desk.specs.Faults.{next_count}
use Rattle.stat_desk.specs.declared.desk.DeskError.{DeskError}
use Rattle.stat_desk.specs.declared.desk.DeskError.TheVariants.{Failed, TooLong, OutOfMemory}
use Rattle.stat_desk.specs.declared.mem_desk.StoredFile.{StoredFile}

-- the files of a desk, and how its reads have gone
pub record MemDeskView : Type 0 where
  -- names with their bytes, of which the first of a name counts
  pub files : List (List ℕ × List ℕ)
  -- the numbers of the reads that are to fail
  pub failing : List ℕ
  -- the names of the reads so far, in order
  pub reads : List (List ℕ)
  -- what they gave
  pub gave : List ReadResult
  -- how many of them were faults, and the name at the last one
  pub faults : ℕ
  pub last_fault : Option (List ℕ)

-- the names with their bytes
abbrev pub entries_of : List StoredFile → List (List ℕ × List ℕ)
entries_of = map (λ file. (string_bytes file.name, file.bytes.items))

-- the bytes of a name, if it was put
abbrev pub file_of : List (List ℕ × List ℕ) → List ℕ → Option (List ℕ)
file_of [] name = None
file_of (file ∷ files) name = if bytes_eq file.0 name then Some file.1 else file_of files name

-- as contracts see a desk
abbrev pub desk_seen : MemDeskView → DeskSeen
desk_seen d = record { faults = d.faults; last_fault = d.last_fault; reads = d.reads; gave = d.gave; contents = file_of d.files }

-- the bytes of a file, none where there is no file
abbrev pub bytes_in : Option (List ℕ) → List ℕ
bytes_in None = []
bytes_in (Some bytes) = bytes

-- a file read whole: it fails where there is none, and is refused where it has more than max bytes
abbrev pub whole_file : Option (List ℕ) → ℕ → Result (List ℕ) DeskError
whole_file None max = Err Failed
whole_file (Some bytes) max = if nat_lt max (length bytes) then Err TooLong else Ok bytes

-- what the next read returns, unless it runs out of memory: it fails where it is told to
abbrev pub read_answer : MemDeskView → List ℕ → ℕ → Result (List ℕ) DeskError
read_answer d name max =
    if list_any (λ call. call == length d.reads + 1) d.failing then Err Failed else whole_file (file_of d.files name) max

-- a read returns this, or runs out of memory
abbrev pub Gives : {A : Type 0} → Result (List ℕ) DeskError → Result (Vec ℕ A) DeskError → Type 0
Gives answer (Ok bytes) = answer ≡ Ok bytes.items
Gives answer (Err OutOfMemory) = Unit {0}
Gives answer (Err e) = answer ≡ Err e

-- the desk after a read to which this is the answer: the name is the last of its reads, and what the file gave, which is
-- all its bytes, or the fault, is noted with it
abbrev pub after_answer : MemDeskView → List ℕ → Result (List ℕ) DeskError → MemDeskView
after_answer d name (Ok bytes) = record d { reads = d.reads ++ name ∷ []; gave = d.gave ++ Bytes bytes ∷ [] }
after_answer d name (Err TooLong) =
    record d { reads = d.reads ++ name ∷ []; gave = d.gave ++ GaveTooLong (bytes_in (file_of d.files name)) ∷ [] }
after_answer d name (Err Failed) =
    record d { reads = d.reads ++ name ∷ []; faults = next_count d.faults; last_fault = Some name }
after_answer d name (Err OutOfMemory) = d

-- the desk after a read that returned this: out of memory, it is unchanged
abbrev pub after_read : {T : Type 0} → MemDeskView → List ℕ → ℕ → Result T DeskError → MemDeskView
after_read d name max (Ok x) = after_answer d name (read_answer d name max)
after_read d name max (Err Failed) = after_answer d name (Err Failed)
after_read d name max (Err TooLong) = after_answer d name (Err TooLong)
after_read d name max (Err OutOfMemory) = d
