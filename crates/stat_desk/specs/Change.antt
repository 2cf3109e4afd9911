-- What became of a desk, or of a sink, as a contract sees it.

-- what a contract saw of a value before a call, and what it sees after it
pub record Change (S : Type 0) : Type 0 where
  pub before : S
  pub now : S

-- that of a value which became another
abbrev pub change : {V S : Type 0} → (V → S) → V → V → Change S
change seen old new = record { before = seen old; now = seen new }
