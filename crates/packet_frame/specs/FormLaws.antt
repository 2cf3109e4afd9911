-- Laws of reading fields.
use Rattle.std.specs.Prelude.{◌≡◌, ℕ, ◌+◌, true, List, [], ◌++◌, length, Ok}
use Rattle.packet_frame.specs.Fields.{Form, Spells, read, is_settled, later}

-- what was answered, and not for want of bytes, stays with any bytes behind
abbrev pub Stays : {A : Type 0} → Form A → Type 0
Stays form = (bytes more : List ℕ) (at : ℕ) → is_settled (read form bytes at) ≡ true → read form (bytes ++ more) at ≡ read form bytes at

-- a spelling is read, whatever stands before and behind it
abbrev pub IsReadAgain : {A : Type 0} → Form A → Type 0
IsReadAgain {A} form = (front text more : List ℕ) (x : A) → Spells form text x → read form (front ++ (text ++ more)) (length front) ≡ Ok (x, length front + length text)

-- what is read is spelled by the bytes up to the offset behind it
abbrev pub IsSpelled : {A : Type 0} → Form A → Type 0
IsSpelled {A} form = (front bytes : List ℕ) (x : A) (end : ℕ) → read form (front ++ bytes) (length front) ≡ Ok (x, end) → (text rest : List ℕ) × (bytes ≡ text ++ rest) × (end ≡ length front + length text) × Spells form text x

-- no spelling begins another
abbrev pub IsPrefixFree : {A : Type 0} → Form A → Type 0
IsPrefixFree {A} form = (text more : List ℕ) (x y : A) → Spells form text x → Spells form (text ++ more) y → (more ≡ []) × (x ≡ y)

-- bytes before the offset change nothing but the offsets
abbrev pub IsMoved : {A : Type 0} → Form A → Type 0
IsMoved form = (front bytes : List ℕ) (at : ℕ) → read form (front ++ bytes) (length front + at) ≡ later (length front) (read form bytes at)

pub record HasLaws {A : Type 0} (form : Form A) : Type 0 where
  pub stays : Stays form
  pub again : IsReadAgain form
  pub spelled : IsSpelled form
  pub free : IsPrefixFree form
  pub moved : IsMoved form
