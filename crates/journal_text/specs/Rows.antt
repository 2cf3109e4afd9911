-- Journals, and their texts.
use Rattle.std.specs.Prelude.{◌≡◌, refl, ℕ, List, [], ◌∷◌, ◌++◌, None, Some, codes}
use Rattle.std.specs.Fmt.{digits}
use Rattle.text_lines.specs.Lines.{pieces}
use Rattle.overlay_setup.specs.Scripts.{stream, scripted}
use Rattle.overlay_setup.specs.Topologies.{topology}
use Rattle.overlay_setup.specs.declared.script.Grain.TheVariants.{Line}
use Rattle.overlay_setup.specs.declared.script.Mode.TheVariants.{DontWait}
use Rattle.overlay_event.specs.declared.event.Event.TheVariants.{Sample, Recv, Tick, Lose}
use Rattle.stat_plan.specs.Plans.{Plan, plan_of, sampled}
use Rattle.journal_text.specs.Reading.{event_of_line, events_before, bad_from, journal_of}
use Rattle.journal_text.specs.Text.{journal_text}

-- a front end `f:0` with the daemons `b:0` and `a:0`, and a stream 1 of two waves from `a:0`
abbrev job : Plan
job =
    plan_of (topology (codes "f:0" ∷ codes "b:0" ∷ codes "a:0" ∷ []) (None ∷ Some 0 ∷ Some 0 ∷ [])) (sampled [] []) (scripted (stream 1 DontWait 2 1 Line (2 ∷ []) ∷ []) [])

abbrev line : List ℕ → List ℕ
line text = text ++ 10 ∷ []

-- an event of each kind
whole : journal_text job (Sample 2 1 0 ∷ Recv 0 2 ∷ Tick 1 ∷ Lose 2 ∷ []) ≡ line (codes "sample a:0 1 0") ++ line (codes "recv f:0 a:0") ++ line (codes "tick b:0") ++ line (codes "lose a:0")
unfolding digits
whole = refl

-- the last line feed may be missing, and a carriage return belongs to the line's end
ends : journal_of job (codes "recv f:0 a:0" ++ 13 ∷ 10 ∷ codes "sample a:0 1 1") ≡ record { events = Recv 0 2 ∷ Sample 2 1 1 ∷ []; bad = None }
unfolding digits pieces event_of_line events_before bad_from
ends = refl

return_at_end : journal_of job (codes "lose a:0" ++ 13 ∷ []) ≡ record { events = Lose 2 ∷ []; bad = None }
unfolding digits pieces event_of_line events_before bad_from
return_at_end = refl

-- no bytes are no event
nothing : journal_of job [] ≡ record { events = []; bad = None }
unfolding pieces events_before bad_from
nothing = refl

-- the first bad line ends the events, and lines are numbered from 0
first_bad : journal_of job (line (codes "tick f:0") ++ line [] ++ codes "tick f:0") ≡ record { events = Tick 0 ∷ []; bad = Some 1 }
unfolding digits pieces event_of_line events_before bad_from
first_bad = refl

-- any node may stand in a line, whether or not it serves the stream
other_node : event_of_line job (codes "sample f:0 1 0") ≡ Some (Sample 0 1 0)
unfolding digits event_of_line
other_node = refl

-- a stream that the script does not have
no_stream : event_of_line job (codes "sample a:0 0 0") ≡ None
unfolding digits event_of_line
no_stream = refl

-- a wave that the stream does not have
no_wave : event_of_line job (codes "sample a:0 1 2") ≡ None
unfolding digits event_of_line
no_wave = refl

-- numbers are written in one way
zero_in_front : event_of_line job (codes "sample a:0 1 00") ≡ None
unfolding digits event_of_line
zero_in_front = refl

large_number : event_of_line job (codes "sample a:0 257 0") ≡ None
unfolding digits event_of_line
large_number = refl

-- words are parted by one space, and nothing follows them
two_spaces : event_of_line job (codes "tick  a:0") ≡ None
unfolding digits event_of_line
two_spaces = refl

space_behind : event_of_line job (codes "tick a:0 ") ≡ None
unfolding digits event_of_line
space_behind = refl

-- each word has to be there
one_node : event_of_line job (codes "recv a:0") ≡ None
unfolding digits event_of_line
one_node = refl

-- a name of no node
no_node : event_of_line job (codes "lose x:0") ≡ None
unfolding digits event_of_line
no_node = refl

upper_case : event_of_line job (codes "Lose a:0") ≡ None
unfolding digits event_of_line
upper_case = refl
