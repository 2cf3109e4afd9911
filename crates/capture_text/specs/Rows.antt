-- Worked rows: small captures, and what is read of them, computed.
use Rattle.std.specs.Prelude.{◌≡◌, refl, ℕ, List, [], ◌∷◌, codes, Result, Ok, Err}
use Rattle.std.specs.Fmt.{digits}
use Rattle.packet_frame.specs.declared.error.FrameReason.TheVariants.{Short, BadKind}
use Rattle.packet_frame.specs.Answers.{result_map}
use Rattle.packet_frame.specs.Fields.{Refusal}
use Rattle.packet_frame.specs.Feeding.{refused_at}
use Rattle.packet_frame.specs.Frame.{frame_form, version_form, kind_form, packet_form, stream_form, wave_form, content_form}
use Rattle.capture_text.specs.Captures.{capture_within, capture_of}
use Rattle.capture_text.specs.CaptureText.{text_of_capture}

-- what is printed of a capture
abbrev printed : List ℕ → Result (List ℕ) Refusal
printed bytes = result_map text_of_capture (capture_of bytes)

no_bytes : printed [] ≡ Ok (codes "end 0 frames\n")
unfolding capture_of capture_within text_of_capture digits
no_bytes = refl

one_done : printed (1 ∷ 2 ∷ 0 ∷ 0 ∷ []) ≡ Ok (codes "0 done stream 0 wave 0\nend 1 frames\n")
unfolding capture_of capture_within text_of_capture digits frame_form version_form kind_form packet_form stream_form wave_form content_form
one_done = refl

-- an attach, a down in version 2, and a done
three_frames : printed (1 ∷ 3 ∷ 2 ∷ 4 ∷ 1 ∷ 2 ∷ 7 ∷ 15 ∷ []) ≡ Ok (codes "0 attach\n2 down\n4 done stream 7 wave 15\nend 3 frames\n")
unfolding capture_of capture_within text_of_capture digits frame_form version_form kind_form packet_form stream_form wave_form content_form
three_frames = refl

-- no such kind
bad_kind : capture_of (1 ∷ 9 ∷ []) ≡ Err (refused_at 1 BadKind)
unfolding capture_of capture_within frame_form version_form kind_form
bad_kind = refl

-- the same behind a frame
bad_kind_behind : capture_of (1 ∷ 3 ∷ 1 ∷ 9 ∷ []) ≡ Err (refused_at 3 BadKind)
unfolding capture_of capture_within frame_form version_form kind_form packet_form
bad_kind_behind = refl

-- the last frame is not whole
not_whole : capture_of (1 ∷ 3 ∷ 1 ∷ 2 ∷ 0 ∷ []) ≡ Err (refused_at 5 Short)
unfolding capture_of capture_within frame_form version_form kind_form packet_form stream_form wave_form
not_whole = refl
