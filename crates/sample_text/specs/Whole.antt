-- What a samples text says: where the ranks are and the samples, or its first error.
use Rattle.std.specs.Prelude.{ℕ, zero, suc, Bool, false, ◌&&◌, ◌||◌, not, List, [], ◌∷◌, ◌++◌, length, Option, Result, Ok}
use Rattle.rank_set.specs.Ranks.{Ranks, none, is_empty}
use Rattle.text_lines.specs.Lines.{lines}
use Rattle.stat_plan.specs.Plans.{Sampled, sampled}
use Rattle.overlay_setup.specs.Topologies.{Nodes}
use Rattle.overlay_setup.specs.Trees.{is_daemon}
use Rattle.text_lines.specs.declared.text_error.TextError.{TextError}
use Rattle.text_lines.specs.declared.text_error.TextError.TheVariants.{Bad}
use Rattle.text_lines.specs.declared.text_error.Reason.TheVariants.{DaemonWithoutRank}
use Rattle.text_lines.specs.Parsing.{and_then, parsed_lines, if_holds}
use Rattle.sample_text.specs.Steps.{with_line}

-- so many sets without a rank
abbrev pub empty_sets : ℕ → List Ranks
empty_sets zero = []
empty_sets (suc n) = empty_sets n ++ none ∷ []

-- before the first line
abbrev pub nothing_parsed : Nodes → Sampled
nothing_parsed t = sampled (empty_sets (length t.parents)) []

-- whether a daemon has no rank, where these are the ranks of the nodes from n on
abbrev pub lacks_rank : List (Option ℕ) → ℕ → List Ranks → Bool
lacks_rank parents n [] = false
lacks_rank parents n (ranks ∷ sets) = (is_daemon parents n && is_empty ranks) || lacks_rank parents (suc n) sets

-- samples, after the check of the whole text
abbrev pub whole : Nodes → Sampled → Result Sampled TextError
whole t s = if_holds (not (lacks_rank t.parents 0 s.placed)) (Bad 0 DaemonWithoutRank) (Ok s)

-- what a samples text says for some nodes, or its first error
abbrev pub samples_of_text : Nodes → List ℕ → Result Sampled TextError
samples_of_text t text = and_then (parsed_lines (with_line t) (nothing_parsed t) 1 (lines text)) (whole t)
