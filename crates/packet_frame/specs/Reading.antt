-- How far a frame was read, and what was answered.
use Rattle.std.specs.Prelude.{◌≡◌, ℕ, ◌≤◌, false, List, ◌++◌, length, Result, Ok, Err}
use Rattle.packet_frame.specs.declared.error.FrameReason.TheVariants.{Short}
use Rattle.packet_frame.specs.declared.error.FrameError.{FrameError}
use Rattle.packet_frame.specs.declared.error.FrameError.TheVariants as errors
use Rattle.packet_frame.specs.declared.error.FieldError.{FieldError}
use Rattle.packet_frame.specs.declared.error.FieldError.TheVariants as faults
use Rattle.packet_frame.specs.declared.reader.Reader.{Reader}
use Rattle.packet_frame.specs.Fields.{Refusal, read, is_short}
use Rattle.packet_frame.specs.Frame.{Message, frame_form}
use Rattle.packet_frame.specs.Sent.{as_packet}
use Rattle.packet_frame.specs.Scanning.{left, packet_read, IsReady}

-- the frame at the front, and its length
abbrev pub first_of : List ℕ → Result (Message × ℕ) Refusal
first_of bytes = read frame_form bytes 0

-- what was read stands at the front of the bytes, whatever follows them
pub record IsOn {X : Type 0} (r : Reader X) (bytes : List ℕ) : Type 0 where
  pub ready : IsReady r.scan.field r.scan
  pub within : r.at ≤ length bytes
  pub goes_on : (more : List ℕ) → read (left r.scan) (bytes ++ more) r.at ≡ as_packet (first_of (bytes ++ more))

-- the input ends in the field at this offset
abbrev pub Waits : List ℕ → ℕ → Type 0
Waits bytes at = first_of bytes ≡ Err (record { at = at; reason = Short })

-- the frame is whole
abbrev pub IsWhole : {X : Type 0} → Reader X → List ℕ → Type 0
IsWhole r bytes = as_packet (first_of bytes) ≡ Ok (packet_read r.scan, r.at)

-- a field's fault, at its offset
abbrev pub refusal_at : ℕ → FieldError → FrameError
refusal_at at (faults.Broken reason) = errors.Refused at reason
refusal_at at faults.OutOfMemory = errors.OutOfMemory

-- a rule is broken at an offset of the bytes; out of memory may come instead
abbrev pub Fails : List ℕ → FrameError → Type 0
Fails bytes (errors.Refused at reason) = (first_of bytes ≡ Err (record { at = at; reason = reason })) × (is_short reason ≡ false) × (at ≤ length bytes)
Fails bytes errors.OutOfMemory = Unit {0}
