-- Texts and what they are read as; and that order goes by frames, not by joined texts.
use Rattle.std.specs.Prelude.{◌≡◌, refl, [], ◌∷◌, ◌++◌, false, Ok, Err, codes}
use Rattle.std.specs.declared.cmp.Ordering.TheVariants.{Less}
use Rattle.call_path.specs.declared.read.PathError.TheVariants.{EmptyFrame, ControlByte}
use Rattle.call_path.specs.Path.{path_cmp, is_prefix, shared_len, path_text}
use Rattle.call_path.specs.Functions.{func}
use Rattle.call_path.specs.Reading.{path_of, first_error, frame_error, frames}

-- two frames
two : path_of (codes "main;a") ≡ Ok (codes "main" ∷ codes "a" ∷ [])
unfolding first_error frame_error frames
two = refl

-- the frame between two `;` is empty
empty_frame : path_of (codes "a;;b") ≡ Err (EmptyFrame 1)
unfolding first_error frame_error frames
empty_frame = refl

-- no bytes are one empty frame
no_bytes : path_of [] ≡ Err (EmptyFrame 0)
unfolding first_error frame_error frames
no_bytes = refl

-- a offset is counted from the start of the text
control : path_of (codes "a;b" ++ 9 ∷ codes "c") ≡ Err (ControlByte 3)
unfolding first_error frame_error frames
control = refl

-- the texts of these paths stand in the other order
by_frames : path_cmp (codes "a" ∷ codes "b" ∷ []) (codes "a!" ∷ []) ≡ Less
by_frames = refl

-- a frame that begins alike is another frame
no_prefix : is_prefix (codes "a" ∷ []) (codes "a!" ∷ codes "b" ∷ []) ≡ false
no_prefix = refl

-- the first frames of two paths that are the same, and no later ones
shared : shared_len (codes "a" ∷ codes "b" ∷ codes "d" ∷ []) (codes "a" ∷ codes "c" ∷ codes "d" ∷ []) ≡ 1
shared = refl

-- all frames of the shorter path
all_shared : shared_len (codes "a" ∷ []) (codes "a" ∷ codes "b" ∷ []) ≡ 1
all_shared = refl

-- the frames are joined by `;`
joined : path_text (codes "main" ∷ codes "a" ∷ []) ≡ codes "main;a"
joined = refl

-- a line is cut off, zeros and all
line : func (codes "f@12") ≡ codes "f"
line = refl

zeros : func (codes "f@007") ≡ codes "f"
zeros = refl

-- only the last one
last_line : func (codes "f@1@2") ≡ codes "f@1"
last_line = refl

-- a line has 1 to 9 digits and nothing else
nine_digits : func (codes "poll@123456789") ≡ codes "poll"
nine_digits = refl

ten_digits : func (codes "f@1234567890") ≡ codes "f@1234567890"
ten_digits = refl

no_digits : func (codes "f@") ≡ codes "f@"
no_digits = refl

other_byte : func (codes "f@12x") ≡ codes "f@12x"
other_byte = refl

no_number : func (codes "poll@plt") ≡ codes "poll@plt"
no_number = refl

-- and a frame with a line has a function
no_function : func (codes "@7") ≡ codes "@7"
no_function = refl
