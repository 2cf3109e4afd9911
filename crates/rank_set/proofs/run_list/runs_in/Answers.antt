use Rattle.std.proofs.Common.{◌≡◌, ℕ, ◌+◌, ◌-◌, ◌*◌, ◌<◌, ◌++◌, Bool, List, [], ◌∷◌, length, map, sym, ap, ◌∙◌, suc, append_assoc, arith}
use Rattle.std.specs.List.{range_with_len, filter}
use Rattle.std.proofs.lemmas.List.{append-nil, map-append}
use Rattle.rank_set.specs.Words.{bit_in}
use Rattle.rank_set.specs.Runs.{runs_of}
use Rattle.rank_set.proofs.WordSets.{has-ranks_in}
use Rattle.rank_set.proofs.Members.{members}
use Rattle.rank_set.proofs.Runs.{members_from, first_run, no_runs}
use Rattle.rank_set.proofs.run_list.runs_in.Goals as goal

pub loop-run-preserved : goal.loop-run-preserved
loop-run-preserved c =
    let t : ℕ → Bool = bit_in c.args.offset c.args.words.now in
    let n : ℕ = 64 * (c.args.offset + length c.args.words.now) in
    let from : ℕ = c.loop-run.from in
    let first : ℕ = c.in-Some.run'.first in
    let last : ℕ = c.in-Some.run'.last in
    let found = c.in-Some.ensures.run in
    let small : last < n = c.in-Some.ensures.in_range in
    let later : List (ℕ × ℕ) = runs_of (members_from t (last + 1) n) in
    let seen : List (ℕ × ℕ) = map (λ run. (run.first, run.last)) c.loop-run.runs.items in
    let runs : runs_of (members_from t from n) ≡ (first, last) ∷ later =
    first_run t from first last n found.start found.some small (λ q le lt. sym (has-ranks_in c.args.offset c.args.words.now q) ∙ found.passed q le lt) (λ q le lt. sym (has-ranks_in c.args.offset c.args.words.now q) ∙ found.within q le lt)
    (sym (has-ranks_in c.args.offset c.args.words.now (suc last)) ∙ found.ends) in
    record {
      within = omega arith;
      list =
          ap (λ xs. map (λ run. (run.first, run.last)) xs ++ later) c.in_ok-push.ensures.items
          ∙ ap (λ xs. xs ++ later) (map-append (λ run. (run.first, run.last)) c.loop-run.runs.items (c.in-Some.run' ∷ []))
          ∙ append_assoc seen ((first, last) ∷ []) later ∙ ap (λ xs. seen ++ xs) (sym runs) ∙ c.loop-run.invariant.list;
    }

pub returns : goal.returns
returns c =
    let t : ℕ → Bool = bit_in c.args.offset c.args.words.now in
    let n : ℕ = 64 * (c.args.offset + length c.args.words.now) in
    let from : ℕ = c.loop-run.from in
    let seen : List (ℕ × ℕ) = map (λ run. (run.first, run.last)) c.loop-run.runs.items in
    let none : runs_of (members_from t from n) ≡ [] = no_runs t from n (λ q le. sym (has-ranks_in c.args.offset c.args.words.now q) ∙ c.in_default.ensures.none q le) in
    let all : n - 0 ≡ n = omega arith in
    sym (append-nil seen) ∙ ap (λ xs. seen ++ xs) (sym none) ∙ c.loop-run.invariant.list
    ∙ ap runs_of (ap (λ m. filter t (range_with_len 0 m)) all ∙ sym (members c.args.offset c.args.words.now))
