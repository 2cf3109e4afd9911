use Rattle.std.proofs.Common.{◌≡◌, ◌++◌, take, map}
use Rattle.std.specs.Char.{to_ascii_lowercase}
use Rattle.symbol_name.proofs.mpi.c_name.Given as goal

abbrev pub invariant-loop-b : goal.invariant-loop-b
invariant-loop-b l = l.name.items ≡ l.initial.name.items ++ map to_ascii_lowercase (take l.b-index l.rest)
