-- The frames of a stack's calls. Both have their outermost first.
use Rattle.std.specs.Prelude.{Bool, true, false, ◌&&◌, cond, List, [], ◌∷◌}
use Rattle.std.specs.List.{list_any}
use Rattle.frame_name.specs.Calls.{CallView}
use Rattle.frame_name.specs.FrameRules.{RulesView, frame_of}
use Rattle.stack_path.specs.Beginnings.{Stack, without_plumbing}

-- a frame for each call
abbrev pub frames_of : RulesView → List CallView → Stack
frames_of rules [] = []
frames_of rules (c ∷ []) = frame_of rules true c ∷ []
frames_of rules (c ∷ d ∷ calls) = frame_of rules false c ∷ frames_of rules (d ∷ calls)

-- the frames that count: where lines are shown, those of the C++ library's own source files don't
unfoldable pub stack_of : RulesView → List CallView → Stack
stack_of rules calls = cond rules.keeps_lines (without_plumbing (frames_of rules calls)) (frames_of rules calls)

-- whether code of the program's own that is on a stack was removed or replaced while it ran
abbrev pub is_replaced : Stack → Bool
is_replaced s = list_any (λ f. f.is_own && f.is_deleted) s
