use Rattle.std.proofs.Common.{◌≡◌, ◌++◌, ◌∷◌, drop}
use Rattle.std.specs.Prelude.{string_bytes}
use Rattle.std.specs.List.{flat_map}
use Rattle.call_path.specs.Path.{path_text}
use Rattle.json_text.proofs.path_text.Given as goal

abbrev pub invariant-loop-i : goal.invariant-loop-i
invariant-loop-i l = string_bytes l.text ++ flat_map (λ frame. 59 ∷ frame) (drop l.i l.path) ≡ path_text l.path
