use Rattle.std.proofs.Common.{ℕ, ◌++◌, List, [], ◌∷◌, codes, sym, ap, ◌∙◌, append_assoc}
use Rattle.std.specs.Fmt.{decimal}
use Rattle.rank_set.specs.Ranks.{size, in_order}
use Rattle.rank_set.specs.Runs.{run_pairs, ranks_of_runs, runs_of}
use Rattle.rank_set.specs.Text.{runs_text}
use Rattle.rank_set.proofs.RunLists.{runs_of_ranks}
use Rattle.rank_set.proofs.text.write_run_list.Goals as goal

pub returns-clause-ok : goal.returns-clause-ok
returns-clause-ok c =
    let out : List ℕ = c.args.out.now.items in
    let n : List ℕ = decimal (size (ranks_of_runs (run_pairs c.args.runs.now))) in
    let t : List ℕ = runs_text (runs_of (in_order (ranks_of_runs (run_pairs c.args.runs.now)))) in
    c.in_ok-push.ensures.items
    ∙ ap (λ xs. xs ++ 93 ∷ []) (c.in_ok-write_each_run.ensures.ok
    ∙ ap (λ xs. xs ++ runs_text (run_pairs c.args.runs.now)) (c.in_ok-extend_from_slice.ensures.items ∙ ap (λ xs. xs ++ codes ":[") (c.in_ok-write_number.ensures.ok ∙ ap (λ k. out ++ decimal k) c.count.ensures.count))
    ∙ ap (λ rs. ((out ++ n) ++ codes ":[") ++ runs_text rs) (sym (runs_of_ranks (run_pairs c.args.runs.now) c.requires)))
    ∙ append_assoc ((out ++ n) ++ codes ":[") t (93 ∷ []) ∙ append_assoc (out ++ n) (codes ":[") (t ++ 93 ∷ []) ∙ append_assoc out n (codes ":[" ++ (t ++ 93 ∷ []))
