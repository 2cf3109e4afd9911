use Rattle.std.proofs.Common.{◌≡◌, ◌≤◌, ◌+◌, ◌++◌, [], ◌∷◌, length, drop}
use Rattle.call_path.specs.Reading.{frames, first_error}
use Rattle.call_path.specs.Cuts.{ends_from}
use Rattle.call_path.proofs.read.frame_count.Given as goal

abbrev pub invariant-loop-end : goal.invariant-loop-end
invariant-loop-end l = record {
  few : l.i ≤ l.start;
  inside : l.start ≤ length l.text;
  ends : ends_from l.start (frames (drop l.start l.text)) ≡ l.end-iterator ++ length l.text ∷ [];
  error : first_error l.i l.start (frames (drop l.start l.text)) ≡ first_error 0 0 (frames l.text);
  count : l.i + length (frames (drop l.start l.text)) ≡ length (frames l.text);
}
