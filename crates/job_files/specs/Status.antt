-- The numbers of the statuses, with which the program ends, and what a refused text answers.
use Rattle.std.specs.Prelude.{ℕ, Option, Some, None}
use Rattle.text_lines.specs.declared.text_error.TextError.{TextError}
use Rattle.text_lines.specs.declared.text_error.TextError.TheVariants.{Bad, Over, OutOfMemory as NoMemory}
use Rattle.packet_frame.specs.declared.error.FrameError.{FrameError}
use Rattle.packet_frame.specs.declared.error.FrameError.TheVariants as frame_error
use Rattle.job_files.specs.declared.status.FileRole.{FileRole}
use Rattle.job_files.specs.declared.status.Status.{Status}
use Rattle.job_files.specs.declared.status.Status.TheVariants.{Done, BadWords, DeskFault, BadInput, OverLimit, SinkFault, OutOfMemory, BadJournal, Unfinished, BadFrames}

-- the number of a status; each kind has its own
abbrev pub number_of : Status → ℕ
number_of Done = 0
number_of (BadWords fault) = 2
number_of (DeskFault role) = 3
number_of (BadInput file line reason) = 4
number_of (OverLimit file line what limit) = 5
number_of (SinkFault target) = 6
number_of OutOfMemory = 7
number_of (BadJournal i) = 8
number_of (Unfinished e) = 9
number_of (BadFrames at reason) = 10

-- the status of a text that was refused
abbrev pub refusal_of : FileRole → TextError → Status
refusal_of role (Bad line reason) = BadInput role line reason
refusal_of role (Over line what limit) = OverLimit role line what limit
refusal_of role NoMemory = OutOfMemory

-- the status of a capture that was refused
abbrev pub refusal_of_capture : FrameError → Status
refusal_of_capture (frame_error.Refused at reason) = BadFrames at reason
refusal_of_capture frame_error.OutOfMemory = OutOfMemory

-- the status that standard error gets a line of, if there is one
abbrev pub refusal_of_status : Status → Option Status
refusal_of_status Done = None
refusal_of_status (BadWords fault) = Some (BadWords fault)
refusal_of_status (DeskFault role) = Some (DeskFault role)
refusal_of_status (BadInput role line reason) = Some (BadInput role line reason)
refusal_of_status (OverLimit role line what limit) = Some (OverLimit role line what limit)
refusal_of_status (SinkFault target) = Some (SinkFault target)
refusal_of_status OutOfMemory = Some OutOfMemory
refusal_of_status (BadJournal i) = Some (BadJournal i)
refusal_of_status (Unfinished e) = Some (Unfinished e)
refusal_of_status (BadFrames at reason) = Some (BadFrames at reason)
