-- Frames one after another, and a stream of them in any pieces.
use Rattle.std.specs.Prelude.{◌≡◌, ℕ, ◌+◌, false, List, [], ◌∷◌, ◌++◌, drop, Option, Some, None, Ok, Err}
use Rattle.packet_frame.specs.declared.error.FrameReason.TheVariants.{Short}
use Rattle.packet_frame.specs.Fields.{Refusal, is_short}
use Rattle.packet_frame.specs.Frame.{Message}
use Rattle.packet_frame.specs.Reading.{first_of}

-- the frames at the front, each with its length, and the bytes behind them
abbrev pub Begins : List (Message × ℕ) → List ℕ → List ℕ → Type 0
Begins [] bytes rest = bytes ≡ rest
Begins (m ∷ ms) bytes rest = (first_of bytes ≡ Ok m) × Begins ms (drop m.1 bytes) rest

-- how many bytes the frames take
abbrev pub taken : List (Message × ℕ) → ℕ
taken [] = 0
taken (m ∷ ms) = m.1 + taken ms

-- no frame begins the bytes, but with more bytes one may: they end in the field at this offset
abbrev pub IsWaiting : List ℕ → Type 0
IsWaiting rest = (at : ℕ) × (first_of rest ≡ Err (record { at = at; reason = Short }))

-- the first fault behind whole frames, at its offset among all of the bytes
pub record Breaks (bytes : List ℕ) (fault : Refusal) : Type 0 where
  pub messages : List (Message × ℕ)
  pub rest : List ℕ
  pub at : ℕ
  pub whole : Begins messages bytes rest
  pub refused : first_of rest ≡ Err (record { at = at; reason = fault.reason })
  pub lasting : is_short fault.reason ≡ false
  pub offset : fault.at ≡ taken messages + at

-- What is kept of a stream: how many bytes its frames so far took, the bytes that wait behind them, and the refusal.
pub record Fed : Type 0 where
  pub before : ℕ
  pub rest : List ℕ
  pub refusal : Option Refusal

-- more bytes came, and yielded messages
pub record Yields (old : Fed) (bytes : List ℕ) (new : Fed) (messages : List (Message × ℕ)) : Type 0 where
  pub open_before : old.refusal ≡ None
  pub open_after : new.refusal ≡ None
  pub whole : Begins messages (old.rest ++ bytes) new.rest
  pub waiting : IsWaiting new.rest
  pub offset : new.before ≡ old.before + taken messages

-- more bytes came, and were refused
pub record Refuses (old : Fed) (bytes : List ℕ) (new : Fed) (fault : Refusal) : Type 0 where
  pub open_before : old.refusal ≡ None
  pub after : new.refusal ≡ Some fault
  pub breaks : (at : ℕ) × (fault.at ≡ old.before + at) × Breaks (old.rest ++ bytes) (record { at = at; reason = fault.reason })

-- what makes it indifferent how a stream is cut into pieces
pub record StreamLaws : Type 0 where
  -- frames stay with any bytes behind
  pub more : (ms : List (Message × ℕ)) (bytes rest more : List ℕ) → Begins ms bytes rest → Begins ms (bytes ++ more) (rest ++ more)
  -- one piece after another is both at once
  pub joins : (ms ns : List (Message × ℕ)) (bytes rest more last : List ℕ) → Begins ms bytes rest → Begins ns (rest ++ more) last → Begins (ms ++ ns) (bytes ++ more) last
  -- a fault stays at its offset
  pub lasts : (bytes more : List ℕ) (fault : Refusal) → Breaks bytes fault → Breaks (bytes ++ more) fault
  -- no other frames are there
  pub only : (ms ns : List (Message × ℕ)) (bytes rest last : List ℕ) → Begins ms bytes rest → IsWaiting rest → Begins ns bytes last → IsWaiting last → (ms ≡ ns) × (rest ≡ last)
  -- no other fault is there
  pub one_fault : (bytes : List ℕ) (fault other : Refusal) → Breaks bytes fault → Breaks bytes other → fault ≡ other
  -- bytes that wait have no fault
  pub no_fault : (ms : List (Message × ℕ)) (bytes rest : List ℕ) (fault : Refusal) → Begins ms bytes rest → IsWaiting rest → Breaks bytes fault → ⊥
