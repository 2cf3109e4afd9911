-- What a stream sees of two ranks that stand at different lines of one function, and how many distinct prefixes that has.
use Rattle.std.specs.Prelude.{◌≡◌, refl, List, [], ◌∷◌, Some, codes}
use Rattle.rank_set.specs.Ranks.{has, set_of, those, union, with_rank}
use Rattle.stat_plan.specs.Plans.{Plan, daemons, grain, ranks, sample_count, samples, stream_of, stream_ranks}
use Rattle.overlay_setup.specs.Scripts.{stream}
use Rattle.stat_plan.specs.Samples.{SampleLine, prefix_count}
use Rattle.overlay_setup.specs.declared.script.Grain.{Grain}
use Rattle.overlay_setup.specs.declared.script.Grain.TheVariants.{Line, Function}
use Rattle.overlay_setup.specs.declared.script.Mode.TheVariants.{WaitForAll}
use Rattle.std.specs.Prelude.{None}

-- rank 0 at line 10 of main, and rank 1 at line 12; and rank 2, which is placed on no daemon of the stream
abbrev lines : List SampleLine
lines =
    record { time = 0; ranks = set_of (0 ∷ []); path = codes "main@10" ∷ codes "f@3" ∷ [] }
    ∷ record { time = 0; ranks = set_of (1 ∷ 2 ∷ []); path = codes "main@12" ∷ codes "f@3" ∷ [] }
    ∷ record { time = 1; ranks = set_of (0 ∷ []); path = codes "exit" ∷ [] }
    ∷ []

-- a front end with two daemons, of which the stream has the first
abbrev job : Grain → Plan
job g = record {
  names = codes "fe:0" ∷ codes "a:0" ∷ codes "b:0" ∷ [];
  parents = None ∷ Some 0 ∷ Some 0 ∷ [];
  placed = set_of [] ∷ set_of (0 ∷ 1 ∷ []) ∷ set_of (2 ∷ []) ∷ [];
  lines = lines;
  streams = stream 0 WaitForAll 1 1 g (1 ∷ []) ∷ [];
  faults = [];
}

by_line : samples (job Line) 0 0 ≡ (0, codes "main@10" ∷ codes "f@3" ∷ []) ∷ (1, codes "main@12" ∷ codes "f@3" ∷ []) ∷ []
unfolding samples sample_count grain stream_ranks stream_of daemons ranks union with_rank those has
by_line = refl

by_function : samples (job Function) 0 0 ≡ (0, codes "main" ∷ codes "f" ∷ []) ∷ (1, codes "main" ∷ codes "f" ∷ []) ∷ []
unfolding samples sample_count grain stream_ranks stream_of daemons ranks union with_rank those has
by_function = refl

four_by_line : prefix_count (samples (job Line) 0 0) ≡ 4
unfolding samples sample_count grain stream_ranks stream_of daemons ranks union with_rank those has
four_by_line = refl

two_by_function : prefix_count (samples (job Function) 0 0) ≡ 2
unfolding samples sample_count grain stream_ranks stream_of daemons ranks union with_rank those has
two_by_function = refl

-- two waves of two sample times each: a rank in another path at each time, of which the last is of no wave
abbrev timed_lines : List SampleLine
timed_lines =
    record { time = 0; ranks = set_of (0 ∷ []); path = codes "a" ∷ [] }
    ∷ record { time = 1; ranks = set_of (0 ∷ []); path = codes "b" ∷ [] }
    ∷ record { time = 2; ranks = set_of (0 ∷ []); path = codes "c" ∷ [] }
    ∷ record { time = 3; ranks = set_of (0 ∷ []); path = codes "d" ∷ [] }
    ∷ record { time = 4; ranks = set_of (0 ∷ []); path = codes "e" ∷ [] }
    ∷ []

abbrev two_waves : Plan
two_waves = record {
  names = codes "fe:0" ∷ codes "a:0" ∷ [];
  parents = None ∷ Some 0 ∷ [];
  placed = set_of [] ∷ set_of (0 ∷ []) ∷ [];
  lines = timed_lines;
  streams = stream 0 WaitForAll 2 2 Line (1 ∷ []) ∷ [];
  faults = [];
}

first_wave : samples two_waves 0 0 ≡ (0, codes "a" ∷ []) ∷ (0, codes "b" ∷ []) ∷ []
unfolding samples sample_count grain stream_ranks stream_of daemons ranks union with_rank those has
first_wave = refl

second_wave : samples two_waves 0 1 ≡ (0, codes "c" ∷ []) ∷ (0, codes "d" ∷ []) ∷ []
unfolding samples sample_count grain stream_ranks stream_of daemons ranks union with_rank those has
second_wave = refl
