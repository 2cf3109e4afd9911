-- The log of a run: the bytes of all frames, in the order in which they are received.
use Rattle.std.specs.Prelude.{ℕ, List, [], ◌∷◌, ◌++◌, Option, None, Some}
use Rattle.stat_plan.specs.Plans.{Plan}
use Rattle.overlay_event.specs.declared.event.Event.{Event}
use Rattle.overlay_core.specs.Independent.{taken}
use Rattle.overlay_core.specs.Nodes.{Packet}
use Rattle.overlay_core.specs.Machine.{State, start, step}
use Rattle.overlay_net.specs.Frames.{frame_bytes}

-- the bytes of the frame of a packet that comes from a node; nothing where none comes
abbrev pub bytes_of_taken : Plan → Option (ℕ × Packet) → List ℕ
bytes_of_taken p None = []
bytes_of_taken p (Some t) = frame_bytes p t.1

-- the bytes of the frame that an event receives in a state, which is the first on its link; nothing if it is no receipt
abbrev pub received_bytes : Plan → State → Event → List ℕ
received_bytes p st e = bytes_of_taken p (taken st e)

-- the log of these events from a state on: each receives its frame in the state after the events before it
abbrev pub log_from : Plan → State → List Event → List ℕ
log_from p st [] = []
log_from p st (e ∷ es) = received_bytes p st e ++ log_from p (step p st e) es

-- the log of a journal
abbrev pub frame_log : Plan → List Event → List ℕ
frame_log p journal = log_from p (start p) journal
