-- From the text of a capture to the output of its job.
use Rattle.std.proofs.Common.{◌≡◌, ℕ, List, [], None, sym, ap, subst, ◌∙◌}
use Rattle.std.specs.Prelude.{Result, Ok, Err}
use Rattle.packet_frame.specs.Answers.{result_map}
use Rattle.packet_frame.specs.declared.error.FrameError.{FrameError}
use Rattle.packet_frame.specs.declared.error.FrameError.TheVariants as frame_error
use Rattle.packet_frame.specs.Fields.{Refusal}
use Rattle.packet_frame.specs.Frame.{Message}
use Rattle.capture_text.specs.Captures.{CaptureLaws, IsRefused, capture_of}
use Rattle.capture_text.specs.CaptureText.{text_of_capture}
use Rattle.stat_tool.specs.Call.{IsCaptureRefusal}
use Rattle.job_files.specs.Tasks.{CaptureTask, RunOutput}
use Rattle.job_files.specs.NextStep.{Does, by_capture}
use Rattle.stat_tool.specs.Outputs.{HasCapture}
use Rattle.job_files.specs.Status.{refusal_of_capture}
use Rattle.job_files.specs.declared.status.Status.{Status}

abbrev text_in : Result (List ℕ) Refusal → List ℕ
text_in (Ok text) = text
text_in (Err e) = []

-- bytes that are read as frames are printed, and are these frames to the last byte
pub printed : (bytes text : List ℕ) (output : RunOutput) (frames : Result (List (Message × ℕ)) Refusal) → CaptureLaws → capture_of bytes ≡ frames → result_map text_of_capture frames ≡ Ok text
    → output.report ≡ text → output.journal ≡ [] → output.unfinished ≡ None → output.journal_text ≡ []
    → (by_capture bytes (capture_of bytes) ≡ Does (CaptureTask bytes)) × HasCapture bytes output
printed bytes text output (Err e) laws is made report journal finished unwritten = absurd (cc)
printed bytes text output (Ok frames) laws is made report journal finished unwritten = (
  ap (by_capture bytes) is,
  record {
    frames = frames;
    whole = (laws.whole bytes frames).0 is;
    report = report ∙ sym (ap text_in made);
    journal = journal;
    finished = finished;
    unwritten = unwritten;
  },
)

-- bytes that are refused are answered so
pub refused : (bytes : List ℕ) (error : FrameError) (status : Status) → status ≡ refusal_of_capture error → IsRefused bytes error → IsCaptureRefusal (by_capture bytes (capture_of bytes)) status
refused bytes (frame_error.Refused at reason) status same is = subst (λ (s : Status). IsCaptureRefusal (by_capture bytes (capture_of bytes)) s) (sym same) (ap (by_capture bytes) is)
refused bytes frame_error.OutOfMemory status same is = subst (λ (s : Status). IsCaptureRefusal (by_capture bytes (capture_of bytes)) s) (sym same) tt
