-- What a contract sees of a desk, and what a read does to it.
use Rattle.std.specs.Prelude.{◌≡◌, ◌⊎◌, ℕ, ◌<◌, ◌≤◌, List, [], ◌∷◌, ◌++◌, length, Option, Some, None, IfSome}
use Rattle.stat_desk.specs.Change.{Change}
use Rattle.stat_desk.specs.Faults.{next_count}
use Rattle.stat_desk.specs.declared.desk.DeskError.{DeskError}
use Rattle.stat_desk.specs.declared.desk.DeskError.TheVariants.{Failed, TooLong as IsTooLong, OutOfMemory}

-- what a file gave: all its bytes, or the first of them, where these alone are more than the caller allows
pub data ReadResult : Type 0 where
  Bytes : List ℕ → ReadResult
  TooLong : List ℕ → ReadResult

-- a desk, as a contract sees it
pub record DeskSeen : Type 0 where
  -- how often reads have failed, up to 2^64 - 1, and the name at the last one
  pub faults : ℕ
  pub last_fault : Option (List ℕ)
  -- the names that were asked for, in order
  pub reads : List (List ℕ)
  -- what the files gave, in order
  pub gave : List ReadResult
  -- the bytes of the file of a name, where the desk can tell them; `None` says nothing
  pub contents : List ℕ → Option (List ℕ)

-- these are all bytes of a file, at most max: of a file that the desk tells, its bytes
pub record IsWhole (contents : Option (List ℕ)) (max : ℕ) (bytes : List ℕ) : Type 0 where
  pub within : length bytes ≤ max
  pub whole : IfSome contents (λ file. bytes ≡ file)

-- these are the first bytes of a file, where the desk tells it
abbrev pub IsFront : Option (List ℕ) → List ℕ → Type 0
IsFront contents bytes = IfSome contents (λ file. (rest : List ℕ) × (file ≡ bytes ++ rest))

-- these are the first bytes of a file, and more than max
pub record IsLonger (contents : Option (List ℕ)) (max : ℕ) (bytes : List ℕ) : Type 0 where
  pub more : max < length bytes
  pub front : IsFront contents bytes

-- this is what a file with these contents gives
abbrev pub Agrees : Option (List ℕ) → ℕ → ReadResult → Type 0
Agrees contents max (Bytes bytes) = IsWhole contents max bytes
Agrees contents max (TooLong bytes) = IsLonger contents max bytes

-- a desk that was asked for a name
abbrev pub after_asking : DeskSeen → List ℕ → DeskSeen
after_asking desk name = record desk { reads = desk.reads ++ name ∷ [] }

-- a desk that noted what a file gave
abbrev pub after_noting : DeskSeen → ReadResult → DeskSeen
after_noting desk given = record desk { gave = desk.gave ++ given ∷ [] }

-- a desk that counted a fault at this name
abbrev pub after_fault : DeskSeen → List ℕ → DeskSeen
after_fault desk name = record desk { faults = next_count desk.faults; last_fault = Some name }

-- the file of this name gave this, and nothing else became of the desk
pub record HasGiven (desk : Change DeskSeen) (name : List ℕ) (max : ℕ) (given : ReadResult) : Type 0 where
  pub noted : desk.now ≡ after_noting (after_asking desk.before name) given
  pub agrees : Agrees (desk.before.contents name) max given

-- the desk was asked for this name, or not even that, and nothing else became of it
abbrev pub MayHaveAsked : Change DeskSeen → List ℕ → Type 0
MayHaveAsked desk name = (desk.now ≡ desk.before) ⊎ (desk.now ≡ after_asking desk.before name)

-- a read of this name ended with this error
abbrev pub HasNotRead : Change DeskSeen → List ℕ → ℕ → DeskError → Type 0
HasNotRead desk name max Failed = desk.now ≡ after_fault (after_asking desk.before name) name
HasNotRead desk name max IsTooLong = (bytes : List ℕ) × HasGiven desk name max (TooLong bytes)
HasNotRead desk name max OutOfMemory = MayHaveAsked desk name

-- the first bytes of a file that is too long were noted, or there was no memory to note them
abbrev pub IsNotedLong : Change DeskSeen → List ℕ → DeskError → Type 0
IsNotedLong desk bytes IsTooLong = desk.now ≡ after_noting desk.before (TooLong bytes)
IsNotedLong desk bytes OutOfMemory = desk.now ≡ desk.before
IsNotedLong desk bytes Failed = ⊥

-- a desk that was not asked for anything yet, and tells no file
abbrev pub new_desk : DeskSeen
new_desk = record { faults = 0; last_fault = None; reads = []; gave = []; contents = λ name. None }
