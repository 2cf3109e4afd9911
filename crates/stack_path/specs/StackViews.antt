-- What the code's stacks stand for.
use Rattle.std.specs.Prelude.{List, map}
use Rattle.std.specs.Borrow.{Bor}
use Rattle.frame_name.specs.Frames.{FrameView}
use Rattle.stack_path.specs.Beginnings.{Stack}

-- frames by reference
abbrev pub stack_view : List (Bor FrameView) → Stack
stack_view frames = map (λ f. f.now) frames
