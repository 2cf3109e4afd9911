-- The report of a cast and its journal, as texts.
use Rattle.std.specs.Prelude.{ℕ, Bool, true, false, not, List, [], ◌∷◌, ◌++◌, codes, filter}
use Rattle.std.specs.Fmt.{decimal}
use Rattle.std.specs.List.{flat_map}
use Rattle.rank_set.specs.Ranks.{Ranks}
use Rattle.rank_set.specs.Text.{text_of}
use Rattle.overlay_setup.specs.Names.{name_of}
use Rattle.overlay_setup.specs.NodeSets.{member, up_to}
use Rattle.overlay_setup.specs.Trees.{is_daemon}
use Rattle.stat_plan.specs.Plans.{Plan, front, nodes, ranks_on}
use Rattle.control_cast.specs.declared.event.CastEvent.{CastEvent}
use Rattle.control_cast.specs.declared.event.CastEvent.TheVariants.{Issue, Recv, Lose}
use Rattle.control_cast.specs.Machine.{State, numbers_after, seen}

-- ---- the report

-- the daemons, by number
abbrev pub daemons_of : Plan → List ℕ
daemons_of p = filter (is_daemon p.parents) (up_to (nodes p))

-- whether a node obeyed a command
abbrev pub has_obeyed : State → ℕ → ℕ → Bool
has_obeyed st n command = member command (st.obeyed n)

-- the ranks of the daemons that obeyed a command, lost ones too
abbrev pub ranks_that_obeyed : Plan → State → ℕ → Ranks
ranks_that_obeyed p st command = ranks_on p (filter (λ d. has_obeyed st d command) (daemons_of p))

-- those ranks, as a text
abbrev pub ranks_text : Plan → State → ℕ → List ℕ
ranks_text p st command = text_of (ranks_that_obeyed p st command)

-- `command I ranks SET`
abbrev pub command_line : ℕ → List ℕ → List ℕ
command_line command ranks = codes "command " ++ decimal command ++ codes " ranks " ++ ranks ++ 10 ∷ []

-- that line of each command, from 1 on
abbrev pub command_lines : Plan → State → ℕ → List ℕ
command_lines p st commands = flat_map (λ i. command_line i (ranks_text p st i)) (numbers_after 0 commands)

-- what is said behind a daemon
abbrev pub fate_text : Bool → List ℕ
fate_text true = codes " lost"
fate_text false = []

-- `daemon NAME obeyed SEEN`, and ` lost` behind it where it is lost
abbrev pub daemon_line : Plan → State → ℕ → List ℕ
daemon_line p st d = codes "daemon " ++ name_of p.names d ++ codes " obeyed " ++ decimal (seen st d) ++ fate_text (not (st.net.alive d)) ++ 10 ∷ []

-- the report of a state: a line for each command, a line for each daemon, and the end
unfoldable pub report_text : Plan → ℕ → State → List ℕ
report_text p commands st = command_lines p st commands ++ flat_map (daemon_line p st) (daemons_of p) ++ codes "end\n"

-- ---- the journal

-- `issue NODE`, `recv NODE FROM` or `lose NODE`
abbrev pub event_line : Plan → CastEvent → List ℕ
event_line p Issue = codes "issue " ++ name_of p.names (front p) ++ 10 ∷ []
event_line p (Recv n m) = codes "recv " ++ name_of p.names n ++ 32 ∷ name_of p.names m ++ 10 ∷ []
event_line p (Lose n) = codes "lose " ++ name_of p.names n ++ 10 ∷ []

-- that line of each event
abbrev pub journal_text : Plan → List CastEvent → List ℕ
journal_text p journal = flat_map (event_line p) journal
