-- How the lines of the plan of parts are made.
use Rattle.std.proofs.Common.{◌≡◌, ℕ, true, List, [], ◌∷◌, ◌++◌, ap, refl, sym, ◌∙◌, Option, Some, None}
use Rattle.std.proofs.Math.IntN.{ℤ}
use Rattle.std.specs.Prelude.{slice_index_or, is_some}
use Rattle.std.proofs.lemmas.Bool.{true≢false}
use Rattle.std.proofs.lemmas.List.{map-append}
use Rattle.rank_set.specs.Ranks.{Ranks, none, set_of, union}
use Rattle.rank_set.specs.Runs.{ranks_between}
use Rattle.rank_set.proofs.RunSets.{union_one}
use Rattle.call_path.specs.Path.{Path}
use Rattle.stat_plan.specs.Samples.{SampleLine}
use Rattle.stat_plan.specs.LineLists.{stack_line}
use Rattle.stat_plan.specs.StackLines.{line_of, lines_of}
use Rattle.stat_plan.specs.declared.samples.StackLine.{StackLine}
use Rattle.rank_sums.specs.PartPlans.{line_if, path_or_zero}

line_is : (paths : List Path) (time leader d : ℕ) (part : Option ℤ) (ranks : Ranks) → is_some part ≡ true → ranks ≡ union none (ranks_between leader leader) → slice_index_or paths d [] ≡ path_or_zero part
    → ◌≡◌ {A = List SampleLine} (record { time = time; ranks = ranks; path = slice_index_or paths d [] } ∷ []) (line_if time (Some leader) part)
line_is paths time leader d None ranks some r q = absurd (true≢false (sym some))
line_is paths time leader d (Some z) ranks some r q =
    let s : ranks ≡ set_of (leader ∷ []) = r ∙ union_one none leader in
    (λ i. record { time = time; ranks = s i; path = q i } ∷ [])

-- the line of a part is added
pub added : (paths : List Path) (time leader d : ℕ) (o : Option ℕ) (part : Option ℤ) (old new : List StackLine) → o ≡ Some leader → is_some part ≡ true
    → slice_index_or paths d [] ≡ path_or_zero part → new ≡ old ++ stack_line time d (union none (ranks_between leader leader)) ∷ [] → lines_of paths new ≡ lines_of paths old ++ line_if time o part
added paths time leader d o part old new is some q e =
    ap (lines_of paths) e ∙ map-append (line_of paths) old (stack_line time d (union none (ranks_between leader leader)) ∷ [])
    ∙ ap (λ l. lines_of paths old ++ l) (line_is paths time leader d part (union none (ranks_between leader leader)) some refl q ∙ ap (λ x. line_if time x part) (sym is))
