-- When a result is the one that was to be read.
use Rattle.std.specs.Prelude.{◌≡◌, Result, Ok, Err}
use Rattle.stat_words.specs.declared.words.WordFault.{WordFault}
use Rattle.stat_words.specs.declared.words.WordsError.{WordsError}
use Rattle.stat_words.specs.declared.words.WordsError.TheVariants.{Fault, OutOfMemory}

-- the result is the value that was to be read, in this view, or the fault that was to be found
abbrev pub IsReadAs : {A T : Type 0} → (T → A) → Result A WordFault → Result T WordFault → Type 0
IsReadAs view read (Ok value) = read ≡ Ok (view value)
IsReadAs view read (Err fault) = read ≡ Err fault

-- the same, unless memory ran out
abbrev pub IsReadOrOutOfMemory : {A T : Type 0} → (T → A) → Result A WordFault → Result T WordsError → Type 0
IsReadOrOutOfMemory view read (Ok value) = read ≡ Ok (view value)
IsReadOrOutOfMemory view read (Err OutOfMemory) = Unit {0}
IsReadOrOutOfMemory view read (Err (Fault fault)) = read ≡ Err fault
