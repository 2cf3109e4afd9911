use Rattle.std.proofs.Common.{◌≡◌, ◌≤◌, ◌-◌, ◌++◌, length, replicate}
use Rattle.rank_set.proofs.words.pad.Given as goal

abbrev pub invariant-loop-words : goal.invariant-loop-words
invariant-loop-words l = record {
  room : l.fn.len ≤ l.words.capacity;
  longer : length l.fn.words.items ≤ length l.words.items;
  within : length l.words.items ≤ l.fn.len;
  items : l.words.items ≡ l.fn.words.items ++ replicate (length l.words.items - length l.fn.words.items) 0;
}

abbrev pub decreases-loop-words : goal.decreases-loop-words
decreases-loop-words l = l.fn.len - length l.words.items

abbrev pub invariant-loop-words-2 : goal.invariant-loop-words-2
invariant-loop-words-2 l = record {
  room : l.fn.len ≤ l.words.capacity;
  longer : length l.fn.words.items ≤ length l.words.items;
  within : length l.words.items ≤ l.fn.len;
  items : l.words.items ≡ l.fn.words.items ++ replicate (length l.words.items - length l.fn.words.items) 0;
}

abbrev pub decreases-loop-words-2 : goal.decreases-loop-words-2
decreases-loop-words-2 l = l.fn.len - length l.words.items
