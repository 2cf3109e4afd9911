-- A capture: bytes that are frames one after another.
use Rattle.std.specs.Prelude.{◌≡◌, ◌≢◌, ◌↔◌, ℕ, zero, suc, ◌+◌, List, [], ◌∷◌, length, drop, Result, Ok, Err}
use Rattle.packet_frame.specs.declared.error.FrameError.{FrameError}
use Rattle.packet_frame.specs.declared.error.FrameError.TheVariants as errors
use Rattle.packet_frame.specs.Fields.{Refusal}
use Rattle.packet_frame.specs.Frame.{Message}
use Rattle.packet_frame.specs.Reading.{first_of}
use Rattle.packet_frame.specs.Streams.{Begins, taken}

-- the frames of a capture, each with its length; or the refusal of the first bytes that are no frame
abbrev pub Capture : Type 0
Capture = Result (List (Message × ℕ)) Refusal

-- A frame, and what follows it. What is refused there is refused so many bytes later.
abbrev pub before : Message × ℕ → Capture → Capture
before m (Ok frames) = Ok (m ∷ frames)
before m (Err e) = Err (record { at = m.1 + e.at; reason = e.reason })

-- where a frame is read, what follows it comes behind it
abbrev pub read_on : Result (Message × ℕ) Refusal → (Message × ℕ → Capture) → Capture
read_on (Ok m) rest = before m (rest m)
read_on (Err e) rest = Err e

-- at most so many frames
unfoldable pub capture_within : ℕ → List ℕ → Capture
capture_within zero bytes = Ok []
capture_within (suc n) [] = Ok []
capture_within (suc n) (b ∷ bytes) = read_on (first_of (b ∷ bytes)) (λ m. capture_within n (drop m.1 (b ∷ bytes)))

-- A frame has bytes, so there are no more frames than bytes.
unfoldable pub capture_of : List ℕ → Capture
capture_of bytes = capture_within (length bytes) bytes

-- the capture is refused so; out of memory may come instead
abbrev pub IsRefused : List ℕ → FrameError → Type 0
IsRefused bytes (errors.Refused at reason) = capture_of bytes ≡ Err (record { at = at; reason = reason })
IsRefused bytes errors.OutOfMemory = Unit {0}

-- Whole frames fill the bytes up to an offset. There the bytes go on, and what follows is refused as no frame: the input ends
-- in it, or a rule is broken.
pub record StopsAt (bytes : List ℕ) (fault : Refusal) : Type 0 where
  pub frames : List (Message × ℕ)
  pub rest : List ℕ
  pub at : ℕ
  pub whole : Begins frames bytes rest
  pub goes_on : rest ≢ []
  pub refused : first_of rest ≡ Err (record { at = at; reason = fault.reason })
  pub offset : fault.at ≡ taken frames + at

-- what a capture is: whole frames and nothing else, or whole frames up to what is refused
pub record CaptureLaws : Type 0 where
  pub whole : (bytes : List ℕ) (frames : List (Message × ℕ)) → (capture_of bytes ≡ Ok frames) ↔ Begins frames bytes []
  pub refused : (bytes : List ℕ) (fault : Refusal) → (capture_of bytes ≡ Err fault) ↔ StopsAt bytes fault
