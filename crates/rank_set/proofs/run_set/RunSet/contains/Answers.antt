use Rattle.std.proofs.Common.{◌≡◌, ℕ, ◌≤◌, false, Option, None, Some, sym, ◌∙◌, inl, inr, arith}
use Rattle.std.specs.Prelude.{IfNone, IfSome, is_some}
use Rattle.std.proofs.lemmas.Bool.{cases_lt, true≢false}
use Rattle.rank_set.specs.declared.Run.{Run}
use Rattle.rank_set.specs.Ranks.{Ranks, has}
use Rattle.rank_set.specs.Runs.{IsRun, up_to}
use Rattle.rank_set.proofs.RunSearch.{in_part, past_part}
use Rattle.rank_set.proofs.run_set.RunSet.contains.Goals as goal

found_there : (s : Ranks) (r : ℕ) (o : Option Run) → IfNone o ((q : ℕ) → r ≤ q → q ≤ r → has s q ≡ false) → IfSome o (λ run. IsRun (up_to r s) r run.first run.last) → is_some o ≡ has s r
found_there s r None none run = sym (none r (omega arith) (omega arith))
found_there s r (Some found) none run = elim (cases_lt r found.first) [
  | inl past ↦ absurd (true≢false (sym (run.within found.first (omega arith) run.some) ∙ past_part s r found.first past))
  | inr le ↦ let e : found.first ≡ r = omega (arith, le, run.start) in sym (sym (in_part s r r (omega arith)) ∙ run.within r (omega (arith, e)) (omega (arith, e, run.some)))
]

pub returns : goal.returns
returns c = c.is_some.ensures ∙ found_there c.args.self.now c.args.r c.run_within.result c.run_within.ensures.none c.run_within.ensures.run
