use Rattle.std.proofs.Common.{◌≡◌, ◌≤◌, ◌+◌, ◌-◌, ◌*◌, ◌++◌, length, nat_lt}
use Rattle.rank_set.specs.Words.{bit_in}
use Rattle.rank_set.specs.Runs.{runs_of}
use Rattle.rank_set.specs.Text.{BeginsWith}
use Rattle.rank_set.proofs.Runs.{members_from, more_text}
use Rattle.rank_set.proofs.text.write_runs.Given as goal

-- the text so far, and that of the runs that are left
abbrev pub invariant-loop-run : goal.invariant-loop-run
invariant-loop-run l = record {
  within : l.from ≤ 64 * (l.offset + length l.words);
  kept : BeginsWith l.out.items l.fn.out.items;
  text : l.out.items ++ more_text (nat_lt 0 l.from) (runs_of (members_from (bit_in l.offset l.words) l.from (64 * (l.offset + length l.words))))
      ≡ l.fn.out.items ++ more_text (nat_lt 0 0) (runs_of (members_from (bit_in l.offset l.words) 0 (64 * (l.offset + length l.words))));
}

abbrev pub decreases-loop-run : goal.decreases-loop-run
decreases-loop-run l = 64 * (l.offset + length l.words) - l.from
