use Rattle.std.proofs.Common.{◌≡◌, map, take}
use Rattle.call_path.specs.Functions.{func}
use Rattle.call_path.proofs.functions_of.Given as goal

abbrev pub invariant-loop-path : goal.invariant-loop-path
invariant-loop-path l = l.all.items ≡ map (map func) (take l.path-index l.paths)
