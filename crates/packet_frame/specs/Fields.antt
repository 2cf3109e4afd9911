-- A format as fields one after another, each with a rule that may depend on the fields before it.
use Rattle.std.specs.Prelude.{◌≡◌, ℕ, zero, suc, ◌+◌, Bool, true, false, cond, not, List, [], ◌∷◌, length, take, drop, Option, Some, None, Result, Ok, Err, nat_lt}
use Rattle.std.specs.Int.{Width, byte_len, from_be_bytes}
use Rattle.packet_frame.specs.declared.error.FrameReason.{FrameReason}
use Rattle.packet_frame.specs.declared.error.FrameReason.TheVariants.{Short, BadKind, BadLength, NotCanonical, OverLimit}

-- what is wrong, and the offset of the first byte of the field
pub record Refusal : Type 0 where
  pub at : ℕ
  pub reason : FrameReason

-- A value and no further field; or a field: how many bytes it has, which rule they break if any, and what follows.
pub data Form (A : Type 0) : Type 0 where
  whole : A → Form A
  field : (width : ℕ) → (rule : List ℕ → Option FrameReason) → (next : List ℕ → Form A) → Form A

-- one form after another
infixl 10 ◌>>=◌
abbrev pub ◌>>=◌ : {A B : Type 0} → Form A → (A → Form B) → Form B
(whole a) >>= f = f a
(field width rule next) >>= f = field width rule (λ bytes. next bytes >>= f)

-- The bytes are the fields, each whole and obeying its rule, and give the value.
abbrev pub Spells : {A : Type 0} → Form A → List ℕ → A → Type 0
Spells (whole a) bytes x = (bytes ≡ []) × (a ≡ x)
Spells (field width rule next) bytes x = (length (take width bytes) ≡ width) × (rule (take width bytes) ≡ None) × Spells (next (take width bytes)) (drop width bytes) x

-- the bytes of a field
abbrev pub piece : List ℕ → ℕ → ℕ → List ℕ
piece bytes at width = take width (drop at bytes)

-- Fields from the front, from an offset on. The first that is whole and breaks its rule gives its refusal at its first
-- byte. Where the input ends before, the answer is Short there. Else it is the value, and the offset behind it.
abbrev pub read : {A : Type 0} → Form A → List ℕ → ℕ → Result (A × ℕ) Refusal
read (whole a) bytes at = Ok (a, at)
read (field width rule next) bytes at =
    elim (nat_lt (length bytes) (at + width)) [
      | true ↦ Err (record { at = at; reason = Short })
      | false ↦ elim (rule (piece bytes at width)) [
        | Some reason ↦ Err (record { at = at; reason = reason })
        | None ↦ read (next (piece bytes at width)) bytes (at + width)
      ]
    ]

-- what must hold, and the refusal where it does not
abbrev pub Rules : Type 0
Rules = List (Bool × FrameReason)

-- the refusal of the first rule that is broken
abbrev pub broken : Rules → Option FrameReason
broken [] = None
broken (r ∷ rs) = cond r.0 (broken rs) (Some r.1)

-- a number, with its highest byte first
abbrev pub number : Width → (ℕ → Rules) → Form ℕ
number w rules = field (byte_len w) (λ bytes. broken (rules (from_be_bytes w bytes))) (λ bytes. whole (from_be_bytes w bytes))

-- So many values one after another, each in a form that depends on how many come after it and on a state.
abbrev pub list_form : {S A : Type 0} → (ℕ → S → Form A) → (S → A → S) → S → ℕ → Form (List A)
list_form form after state zero = whole []
list_form form after state (suc left) = do
  x ← form left state
  xs ← list_form form after (after state x) left
  whole (x ∷ xs)

-- how many bytes the first field has
abbrev pub width_of : {A : Type 0} → Form A → ℕ
width_of (whole a) = 0
width_of (field width rule next) = width

-- the form that follows once the first field's bytes are read, or the refusal
abbrev pub after_field : {A : Type 0} → Form A → List ℕ → Result (Form A) FrameReason
after_field (whole a) bytes = Ok (whole a)
after_field (field width rule next) bytes = elim (rule bytes) [
  | Some reason ↦ Err reason
  | None ↦ Ok (next bytes)
]

abbrev pub and_then : {A B : Type 0} → Result (A × ℕ) Refusal → (A × ℕ → Result (B × ℕ) Refusal) → Result (B × ℕ) Refusal
and_then (Ok x) f = f x
and_then (Err e) f = Err e

-- the input ended, so more bytes may change the answer
abbrev pub is_short : FrameReason → Bool
is_short Short = true
is_short BadKind = false
is_short BadLength = false
is_short NotCanonical = false
is_short OverLimit = false

-- an answer that more bytes leave as it is
abbrev pub is_settled : {A : Type 0} → Result (A × ℕ) Refusal → Bool
is_settled (Ok x) = true
is_settled (Err e) = not (is_short e.reason)

-- the same, so many bytes later
abbrev pub later : {A : Type 0} → ℕ → Result (A × ℕ) Refusal → Result (A × ℕ) Refusal
later n (Ok x) = Ok (x.0, n + x.1)
later n (Err e) = Err (record { at = n + e.at; reason = e.reason })
