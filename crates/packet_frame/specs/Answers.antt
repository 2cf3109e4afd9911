-- What a call answers, against what is read.
use Rattle.std.specs.Prelude.{◌≡◌, Result, Ok, Err}
use Rattle.packet_frame.specs.declared.error.FrameError.{FrameError}
use Rattle.packet_frame.specs.declared.error.FrameError.TheVariants as errors
use Rattle.packet_frame.specs.Fields.{Refusal}

-- The answer, by its view, is what is read. Out of memory may come in its place.
abbrev pub Gives : {X Y : Type 0} → (X → Y) → Result X FrameError → Result Y Refusal → Type 0
Gives view (Ok x) read = read ≡ Ok (view x)
Gives view (Err (errors.Refused at reason)) read = read ≡ Err (record { at = at; reason = reason })
Gives view (Err errors.OutOfMemory) read = Unit {0}

-- an answer with another value
abbrev pub result_map : {X Y E : Type 0} → (X → Y) → Result X E → Result Y E
result_map f (Ok x) = Ok (f x)
result_map f (Err e) = Err e
