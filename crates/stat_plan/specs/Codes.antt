-- How the parts of a plan are stored as values.
use Rattle.std.specs.Prelude.{ℕ, List, Option, refl}
use Rattle.std.specs.Coded.{Coded, code_by, coded×, coded_list, coded_ℕ}
use Rattle.rank_set.specs.Ranks.{Ranks, coded_ranks}
use Rattle.call_path.specs.Path.{Path}
use Rattle.stat_plan.specs.Samples.{SampleLine}
use Rattle.stat_plan.specs.Plans.{Plan, Sampled}
use Rattle.overlay_setup.specs.Codes.{coded_fault, coded_nodes, coded_stream}
use Rattle.overlay_setup.specs.Scripts.{Stream}
use Rattle.overlay_setup.specs.declared.script.Fault.{Fault}

abbrev pub coded_path : Coded Path
coded_path = coded_list (coded_list coded_ℕ)

abbrev pub coded_line : Coded SampleLine
coded_line =
    code_by (ℕ × (Ranks × Path)) (coded× coded_ℕ (coded× coded_ranks coded_path)) (λ l. (l.time, (l.ranks, l.path))) (λ c. record { time = c.0; ranks = c.1.0; path = c.1.1 }) (λ _. refl)

abbrev pub coded_sampled : Coded Sampled
coded_sampled =
    code_by (List Ranks × List SampleLine) (coded× (coded_list coded_ranks) (coded_list coded_line)) (λ s. (s.placed, s.lines)) (λ c. record { placed = c.0; lines = c.1 }) (λ _. refl)

-- a plan is stored as its nodes, its samples and its script
abbrev pub coded_plan : Coded Plan
coded_plan =
    code_by ((List (List ℕ) × List (Option ℕ)) × ((List Ranks × List SampleLine) × (List Stream × List Fault)))
    (coded× coded_nodes (coded× (coded× (coded_list coded_ranks) (coded_list coded_line)) (coded× (coded_list coded_stream) (coded_list coded_fault))))
    (λ p. ((p.names, p.parents), ((p.placed, p.lines), (p.streams, p.faults))))
    (λ c. record { names = c.0.0; parents = c.0.1; placed = c.1.0.0; lines = c.1.0.1; streams = c.1.1.0; faults = c.1.1.1 })
    (λ _. refl)
