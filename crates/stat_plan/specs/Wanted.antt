-- Samples that are wanted: those of a wave, of the ranks of some daemons.
use Rattle.std.specs.Prelude.{ℕ, List, map}
use Rattle.rank_set.specs.Ranks.{Ranks}
use Rattle.call_path.specs.Pairs.{Pairs}
use Rattle.overlay_setup.specs.declared.script.Grain.{Grain}
use Rattle.stat_plan.specs.OwnLines.{AreRanksSeen, AreUnited}
use Rattle.stat_plan.specs.Samples.{SampleLine, samples_of, seen_by, wave_lines}
use Rattle.stat_plan.specs.declared.samples.StackLine.{StackLine}
use Rattle.stat_plan.specs.declared.wave_lines.Wanted.{Wanted}

-- the wanted samples among these lines, as a stream of some grain sees them
abbrev pub samples_wanted : Grain → Wanted → List SampleLine → Pairs
samples_wanted grain w lines = samples_of (map (seen_by grain w.ranks.now) (wave_lines w.times.samples w.times.wave lines))

-- by path number, the wanted ranks that the daemons' rows and the spread lines list in the path
abbrev pub AreWantedRanks : Wanted → List (List StackLine) → List StackLine → List Ranks → Type 0
AreWantedRanks w rows spread sets = AreRanksSeen w.times.samples w.times.wave w.ranks.now rows w.daemons.now spread sets

-- the same as lines: one for each path below the count in which wanted ranks were seen
abbrev pub AreWantedLines : Wanted → List (List StackLine) → List StackLine → ℕ → List StackLine → Type 0
AreWantedLines w rows spread count lines = AreUnited w.times.samples w.times.wave w.ranks.now rows w.daemons.now spread count lines
