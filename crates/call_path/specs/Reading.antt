-- How a text is read as a call path: its frames, or its first error.
use Rattle.std.specs.Prelude.{ℕ, suc, ◌+◌, Bool, ◌||◌, ◌==◌, nat_eq, nat_lt, nat_le, not, cond, List, [], ◌∷◌, length, Option, None, Some, Result, Ok, Err}
use Rattle.std.specs.List.{position, prefix_len, slice_split}
use Rattle.std.specs.Option.{option_or}
use Rattle.call_path.specs.declared.read.PathError.{PathError}
use Rattle.call_path.specs.declared.read.PathError.TheVariants.{EmptyFrame, ControlByte, FrameTooLong, TooDeep}
use Rattle.call_path.specs.Path.{Path}

-- the parts of a text between its `;`
unfoldable pub frames : List ℕ → Path
frames text = slice_split (λ b. b == 59) text

-- a byte below 0x20, or 0x7F
abbrev pub is_control : ℕ → Bool
is_control b = nat_lt b 32 || nat_eq b 127

-- the error of the control byte n in a frame that begins at a offset
abbrev pub control_error : ℕ → Option ℕ → Option PathError
control_error offset None = None
control_error offset (Some n) = Some (ControlByte (offset + n))

-- the error of frame i, which begins at a offset of the text
unfoldable pub frame_error : ℕ → ℕ → List ℕ → Option PathError
frame_error i offset frame =
    cond (nat_le 128 i) (Some TooDeep)
    (cond (nat_eq (length frame) 0) (Some (EmptyFrame i))
    (cond (nat_lt 1023 (length frame)) (Some (FrameTooLong i))
    (control_error offset (position is_control frame))))

-- the first error of frames, of which the first has number i and begins at a offset
unfoldable pub first_error : ℕ → ℕ → Path → Option PathError
first_error i offset [] = None
first_error i offset (frame ∷ rest) = option_or (frame_error i offset frame) (first_error (suc i) (suc (offset + length frame)) rest)

-- the path, if there is no error
abbrev pub unless : Path → Option PathError → Result Path PathError
unless path None = Ok path
unless path (Some error) = Err error

-- what a text is read as: the path of its frames, or its first error
abbrev pub path_of : List ℕ → Result Path PathError
path_of text = unless (frames text) (first_error 0 0 (frames text))

-- how many bytes there are before the first `;`
abbrev pub frame_len : List ℕ → ℕ
frame_len text = prefix_len (λ b. not (nat_eq b 59)) text
