-- Daemons by their names.
use Rattle.std.specs.Prelude.{◌≡◌, ◌<◌, ℕ, cond, true, List, length, Option, None, Some}
use Rattle.overlay_setup.specs.Names.{name_of, number_of}
use Rattle.overlay_setup.specs.Topologies.{Nodes}
use Rattle.overlay_setup.specs.Trees.{is_daemon}

-- a node, if it is a daemon
abbrev pub if_daemon : List (Option ℕ) → Option ℕ → Option ℕ
if_daemon parents None = None
if_daemon parents (Some n) = cond (is_daemon parents n) (Some n) None

-- the number of the daemon with a name
unfoldable pub daemon_named : List ℕ → Nodes → Option ℕ
daemon_named name t = if_daemon t.parents (number_of name t.names)

-- node n is a daemon, and this is its name
abbrev pub IsDaemonNamed : Nodes → List ℕ → ℕ → Type 0
IsDaemonNamed t name n = (n < length t.parents) × (name_of t.names n ≡ name) × (is_daemon t.parents n ≡ true)
