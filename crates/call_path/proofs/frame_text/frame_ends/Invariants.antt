use Rattle.std.proofs.Common.{◌≡◌, ◌<◌, ◌++◌, [], ◌∷◌, length}
use Rattle.std.specs.Prelude.{All}
use Rattle.call_path.specs.Reading.{frames}
use Rattle.call_path.specs.Cuts.{ends_from}
use Rattle.call_path.proofs.frame_text.frame_ends.Given as goal

abbrev pub invariant-loop-end : goal.invariant-loop-end
invariant-loop-end l = record {
  within : All (λ end. end < length l.text) l.end-iterator;
  ends : l.ends.items ++ (l.end-iterator ++ length l.text ∷ []) ≡ ends_from 0 (frames l.text);
}
