use Rattle.std.proofs.Common.{◌≡◌, ℕ, ◌+◌, ◌++◌, true, cond, List, [], ◌∷◌, drop, get_or, sym, ap, ◌∙◌, append_assoc}
use Rattle.std.proofs.lemmas.List.{append-nil, drop_more, drop_all}
use Rattle.rank_set.specs.declared.Run.{Run}
use Rattle.rank_set.specs.Runs.{run_pair, run_pairs}
use Rattle.rank_set.specs.Text.{run_text}
use Rattle.rank_set.proofs.Runs.{begins_through, more_text, more_none, more_first, more_step}
use Rattle.rank_set.proofs.RunSearch.{runs_behind}
use Rattle.rank_set.proofs.text.write_each_run.Goals as goal

pub loop-run-preserved : goal.loop-run-preserved
loop-run-preserved c =
    let none : Run = record { first = 0; last = 0 } in
    let run : Run = get_or c.args.runs.now c.loop-run.run-index none in
    let later : List (ℕ × ℕ) = run_pairs (drop (c.loop-run.run-index + 1) c.args.runs.now) in
    let left : run_pairs (drop c.loop-run.run-index c.args.runs.now) ≡ run_pair run ∷ later = ap run_pairs (drop_more c.args.runs.now c.loop-run.run-index none c.loop-run-test.true) in
    let text : List ℕ = cond c.loop-run.follows (44 ∷ []) [] ++ run_text (run.first, run.last) in
    record {
      rest = runs_behind c.args.runs.now c.loop-run.run-index c.loop-run-test.true c.loop-run.invariant.rest;
      kept = begins_through c.args.out.now.items c.loop-run.out.items c.write_run.new.out.items c.loop-run.invariant.kept c.in_ok-write_run.ensures.kept;
      text =
          ap (λ xs. xs ++ more_text true later) c.in_ok-write_run.ensures.ok
          ∙ append_assoc c.loop-run.out.items text (more_text true later)
          ∙ ap (λ xs. c.loop-run.out.items ++ xs) (sym (more_step c.loop-run.follows (run_pairs (drop c.loop-run.run-index c.args.runs.now)) later (run.first, run.last) left))
          ∙ c.loop-run.invariant.text;
    }

pub returns-clause-ok : goal.returns-clause-ok
returns-clause-ok c =
    sym (append-nil c.loop-run.out.items)
    ∙ ap (λ xs. c.loop-run.out.items ++ xs) (sym (more_none c.loop-run.follows (run_pairs (drop c.loop-run.run-index c.args.runs.now)) (ap run_pairs (drop_all c.loop-run.run-index c.args.runs.now c.loop-run-test.false))))
    ∙ c.loop-run.invariant.text ∙ ap (λ xs. c.args.out.now.items ++ xs) (more_first (run_pairs c.args.runs.now))
