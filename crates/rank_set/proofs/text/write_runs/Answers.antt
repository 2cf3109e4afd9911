use Rattle.std.proofs.Common.{◌≡◌, ℕ, ◌+◌, ◌-◌, ◌*◌, ◌<◌, ◌++◌, nat_lt, Bool, true, cond, List, [], ◌∷◌, length, sym, ap, ◌∙◌, suc, append_assoc, arith}
use Rattle.std.specs.List.{range_with_len, filter}
use Rattle.std.proofs.lemmas.Bool.{lt-ltb}
use Rattle.std.proofs.lemmas.List.{append-nil}
use Rattle.rank_set.specs.Words.{bit_in}
use Rattle.rank_set.specs.Runs.{runs_of}
use Rattle.rank_set.specs.Text.{run_text, runs_text}
use Rattle.rank_set.proofs.WordSets.{has-ranks_in}
use Rattle.rank_set.proofs.Members.{members}
use Rattle.rank_set.proofs.Runs.{begins_through, members_from, first_run, no_runs, more_text, more_none, more_first, more_step}
use Rattle.rank_set.proofs.text.write_runs.Goals as goal

pub loop-run-preserved : goal.loop-run-preserved
loop-run-preserved c =
    let t : ℕ → Bool = bit_in c.args.offset c.args.words.now in
    let n : ℕ = 64 * (c.args.offset + length c.args.words.now) in
    let from : ℕ = c.loop-run.from in
    let first : ℕ = c.in-Some.run'.first in
    let last : ℕ = c.in-Some.run'.last in
    let found = c.in-Some.ensures.run in
    let small : last < n = c.in-Some.ensures.in_range in
    let later : List (ℕ × ℕ) = runs_of (members_from t (last + 1) n) in
    let runs : runs_of (members_from t from n) ≡ (first, last) ∷ later =
    first_run t from first last n found.start found.some small (λ q le lt. sym (has-ranks_in c.args.offset c.args.words.now q) ∙ found.passed q le lt) (λ q le lt. sym (has-ranks_in c.args.offset c.args.words.now q) ∙ found.within q le lt)
    (sym (has-ranks_in c.args.offset c.args.words.now (suc last)) ∙ found.ends) in
    let text : List ℕ = cond (nat_lt 0 from) (44 ∷ []) [] ++ run_text (first, last) in
    record {
      within = omega arith;
      kept = begins_through c.args.out.now.items c.loop-run.out.items c.write_run.new.out.items c.loop-run.invariant.kept c.in_ok-write_run.ensures.kept;
      text =
          (λ k. c.in_ok-write_run.ensures.ok k ++ more_text (lt-ltb 0 (last + 1) (omega arith) k) later)
          ∙ append_assoc c.loop-run.out.items text (more_text true later)
          ∙ ap (λ xs. c.loop-run.out.items ++ xs) (sym (more_step (nat_lt 0 from) (runs_of (members_from t from n)) later (first, last) runs))
          ∙ c.loop-run.invariant.text;
    }

pub returns-clause-ok : goal.returns-clause-ok
returns-clause-ok c =
    let t : ℕ → Bool = bit_in c.args.offset c.args.words.now in
    let n : ℕ = 64 * (c.args.offset + length c.args.words.now) in
    let from : ℕ = c.loop-run.from in
    let none : runs_of (members_from t from n) ≡ [] = no_runs t from n (λ q le. sym (has-ranks_in c.args.offset c.args.words.now q) ∙ c.in_default.ensures.none q le) in
    let all : n - 0 ≡ n = omega arith in
    sym (append-nil c.loop-run.out.items) ∙ ap (λ xs. c.loop-run.out.items ++ xs) (sym (more_none (nat_lt 0 from) (runs_of (members_from t from n)) none))
    ∙ c.loop-run.invariant.text
    ∙ ap (λ xs. c.args.out.now.items ++ xs) (more_first (runs_of (members_from t 0 n)) ∙ ap (λ xs. runs_text (runs_of xs)) (ap (λ m. filter t (range_with_len 0 m)) all ∙ sym (members c.args.offset c.args.words.now)))
