-- How many nodes, ranks and lines the job has.
use Rattle.std.proofs.Common.{◌≡◌, ℕ, zero, suc, ◌+◌, ◌-◌, ◌*◌, ◌<◌, true, nat_lt, length, map, refl, sym, ap, ◌∙◌, arith, length-append}
use Rattle.std.specs.List.{range_with_len, list_all, sum_by}
use Rattle.std.proofs.lemmas.Bool.{lt-ltb}
use Rattle.std.proofs.lemmas.List.FromFn.{length-range_with_len, length-map-range_with_len, sum_by-map-range_with_len_more}
use Rattle.std.proofs.lemmas.List.Sums.{sum_by-append}
use Rattle.rank_set.specs.Ranks.{none, size, is_strictly_increasing, in_order-increasing}
use Rattle.rank_set.specs.Runs.{ranks_between}
use Rattle.stat_plan.specs.Plans.{nodes}
use Rattle.generated_job.specs.Texts.{numbers, middle_count}
use Rattle.generated_job.specs.Job.{job_plan, daemon_ranks, sample_of}
use Rattle.generated_job.specs.Summary.{counts_line, plan_line}
use Rattle.generated_job.proofs.Nodes.{length-parents}
use Rattle.generated_job.proofs.Tokens.{and_all}

pub node_count : (seed size : ℕ) → nodes (job_plan seed size) ≡ 1 + middle_count size + size
node_count seed size = length-parents size (middle_count size)

pub line_count : (seed size : ℕ) → length (job_plan seed size).lines ≡ 128 * size
line_count seed size = omega (arith, length-append (map (sample_of seed 0) (numbers (64 * size))) (map (sample_of seed 1) (numbers (64 * size))), length-map-range_with_len (sample_of seed 0) 0 (64 * size), length-map-range_with_len (sample_of seed 1) 0 (64 * size))

above : (x a n : ℕ) → x < a → list_all (λ y. nat_lt x y) (range_with_len a n) ≡ true
above x a zero lt = refl
above x a (suc n) lt = and_all (nat_lt x a) _ (lt-ltb x a lt) (above x (a + 1) n (omega arith))

rises : (a n : ℕ) → is_strictly_increasing (range_with_len a n) ≡ true
rises a zero = refl
rises a (suc n) = and_all (list_all (λ y. nat_lt a y) (range_with_len (a + 1) n)) _ (above a (a + 1) n (omega arith)) (rises (a + 1) n)

block_size : (j : ℕ) → size (daemon_ranks j) ≡ 64
unfolding ranks_between
block_size j = ap length (in_order-increasing (range_with_len (64 * j) (suc (64 * j + 63) - 64 * j)) (rises (64 * j) (suc (64 * j + 63) - 64 * j))) ∙ length-range_with_len (64 * j) (suc (64 * j + 63) - 64 * j) ∙ (let e : suc (64 * j + 63) - 64 * j ≡ 64 = omega arith in e)

no_ranks : (n : ℕ) → sum_by size (map (λ i. none) (numbers n)) ≡ 0
no_ranks zero = refl
no_ranks (suc n) = (let e : suc n ≡ n + 1 = omega arith in ap (λ k. sum_by size (map (λ i. none) (numbers k))) e) ∙ sum_by-map-range_with_len_more size (λ i. none) 0 n n (omega arith) ∙ (let h = no_ranks n in omega arith)

all_ranks_of : (n : ℕ) → sum_by size (map daemon_ranks (numbers n)) ≡ 64 * n
all_ranks_of zero = refl
all_ranks_of (suc n) = (let e : suc n ≡ n + 1 = omega arith in ap (λ k. sum_by size (map daemon_ranks (numbers k))) e) ∙ sum_by-map-range_with_len_more size daemon_ranks 0 n n (omega arith) ∙ (let h = all_ranks_of n in let b = block_size n in omega arith)

pub rank_count : (seed size_of_job : ℕ) → sum_by size (job_plan seed size_of_job).placed ≡ 64 * size_of_job
rank_count seed n = sum_by-append size (map (λ i. none) (numbers (1 + middle_count n))) (map daemon_ranks (numbers n)) ∙ (let a = no_ranks (1 + middle_count n) in let b = all_ranks_of n in omega arith)

-- the line of these numbers is the plan's
pub counts_of_plan : (seed size nodes ranks lines : ℕ) → nodes ≡ 1 + middle_count size + size → ranks ≡ 64 * size → lines ≡ 128 * size → counts_line nodes ranks lines ≡ plan_line (job_plan seed size)
counts_of_plan seed size nodes ranks lines a b c = (λ i. counts_line ((a ∙ sym (node_count seed size)) i) ((b ∙ sym (rank_count seed size)) i) ((c ∙ sym (line_count seed size)) i))
