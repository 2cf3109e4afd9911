use Rattle.std.proofs.Common.{◌≡◌, ◌≤◌, ◌-◌, length, map, take}
use Rattle.call_path.proofs.frame_text.ends_behind.Given as goal

abbrev pub invariant-loop-end : goal.invariant-loop-end
invariant-loop-end l = record {
  counted : l.rest.items ≡ map (λ end. end - l.start) (take l.end-index l.end-items);
  room : length l.end-items ≤ l.rest.capacity;
}
