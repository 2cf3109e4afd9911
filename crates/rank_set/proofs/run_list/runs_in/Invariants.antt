use Rattle.std.proofs.Common.{◌≡◌, ◌≤◌, ◌+◌, ◌-◌, ◌*◌, ◌++◌, length, map}
use Rattle.rank_set.specs.Runs.{runs_of}
use Rattle.rank_set.specs.Words.{bit_in}
use Rattle.rank_set.proofs.Runs.{members_from}
use Rattle.rank_set.proofs.run_list.runs_in.Given as goal

-- the runs so far, and those that are left
abbrev pub invariant-loop-run : goal.invariant-loop-run
invariant-loop-run l = record {
  within : l.from ≤ 64 * (l.offset + length l.words);
  list : map (λ run. (run.first, run.last)) l.runs.items ++ runs_of (members_from (bit_in l.offset l.words) l.from (64 * (l.offset + length l.words)))
      ≡ runs_of (members_from (bit_in l.offset l.words) 0 (64 * (l.offset + length l.words)));
}

abbrev pub decreases-loop-run : goal.decreases-loop-run
decreases-loop-run l = 64 * (l.offset + length l.words) - l.from
