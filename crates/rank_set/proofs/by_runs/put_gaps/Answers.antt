use Rattle.std.proofs.Common.{◌≡◌, ◌+◌, ◌-◌, ◌<◌, ◌≤◌, ℕ, nat_le, nat_lt, ◌&&◌, ◌||◌, sym, ap, ◌∙◌, arith}
use Rattle.rank_set.specs.Ranks.{Ranks, has}
use Rattle.rank_set.proofs.RunWalks.{gaps_start, gaps_step, gap_added, no_gap, gaps_all, cut_end, cut_has, cut_lacks}
use Rattle.rank_set.proofs.by_runs.put_gaps.Goals.{then-from-hole+in_ok-put_run, else-from-hole}
use Rattle.rank_set.proofs.by_runs.put_gaps.Goals as goal

pub loop-hole-init : goal.loop-hole-init
loop-hole-init c = record {
  start = omega arith;
  end = omega (arith, c.requires.not_empty);
  done = gaps_start c.args.other.now c.args.out.now c.args.run.first c.args.run.last;
}

pub loop-hole-smaller : goal.loop-hole-smaller
loop-hole-smaller c = omega (arith, c.in-Some.ensures.run.start, c.in-Some.ensures.run.some, cut_end c.args.other.now c.loop-hole.from c.args.run.last c.in-Some.hole.first c.in-Some.hole.last c.in-Some.ensures.run)

pub loop-hole-preserved : goal.loop-hole-preserved
loop-hole-preserved c =
    let run = c.in-Some.ensures.run in
    let end = cut_end c.args.other.now c.loop-hole.from c.args.run.last c.in-Some.hole.first c.in-Some.hole.last run in
    let added : (q : ℕ) → has c.if-from-hole.out q ≡ (has c.loop-hole.out q || (nat_le c.loop-hole.from q && nat_lt q c.in-Some.hole.first)) = elim c.if-from-hole.branch [
      | then-from-hole+in_ok-put_run w ↦ λ q. ap (λ (s : Ranks). has s q) w.out-is ∙ gap_added c.args.other.now c.args.out.now c.args.run.first c.args.run.last c.loop-hole.out w.put_run.new.self c.loop-hole.from c.in-Some.hole.first w.if-from-hole.true w.in_ok-put_run.ensures.ok q
      | else-from-hole w ↦ λ q. ap (λ (s : Ranks). has s q) w.out-is ∙ no_gap c.args.other.now c.args.out.now c.args.run.first c.args.run.last c.loop-hole.out c.loop-hole.from c.in-Some.hole.first w.if-from-hole.false q
    ] in
    record {
      start = omega (arith, c.loop-hole.invariant.start, run.start, run.some);
      end = omega (arith, end);
      done = gaps_step c.args.other.now c.args.out.now c.args.run.first c.args.run.last c.loop-hole.out c.if-from-hole.out c.loop-hole.from c.in-Some.hole.first (c.in-Some.hole.last + 1) c.loop-hole.invariant.start run.start (omega (arith, run.some)) c.loop-hole.invariant.done
          (λ q up lt. cut_lacks c.args.other.now c.loop-hole.from c.args.run.last c.in-Some.hole.first c.in-Some.hole.last q run up lt)
          (λ q up lt. cut_has c.args.other.now c.loop-hole.from c.args.run.last c.in-Some.hole.first c.in-Some.hole.last q run up (omega (arith, lt))) added;
    }

pub returns-in_ok-put_run-2 : goal.returns-in_ok-put_run-2
returns-in_ok-put_run-2 c =
    let e : c.args.run.last ≡ (c.args.run.last + 1) - 1 = omega arith in
    let is = c.in_ok-put_run-2.ensures.ok ∙ ap (λ n. Rattle.rank_set.specs.Ranks.union c.loop-hole.out (Rattle.rank_set.specs.Runs.ranks_between c.loop-hole.from n)) e in
    gaps_all c.args.other.now c.args.out.now c.args.run.first c.args.run.last c.put_run-then-from-run.new.self c.requires.not_empty
    (gaps_step c.args.other.now c.args.out.now c.args.run.first c.args.run.last c.loop-hole.out c.put_run-then-from-run.new.self c.loop-hole.from (c.args.run.last + 1) (c.args.run.last + 1) c.loop-hole.invariant.start (omega (arith, c.if-from-run.true)) (omega arith) c.loop-hole.invariant.done
    (λ q up lt. c.in_default.ensures.none q up (omega (arith, lt))) (λ q up lt. absurd (omega (arith, up, lt)))
    (gap_added c.args.other.now c.args.out.now c.args.run.first c.args.run.last c.loop-hole.out c.put_run-then-from-run.new.self c.loop-hole.from (c.args.run.last + 1) (omega (arith, c.if-from-run.true)) is))

pub returns-else-from-run : goal.returns-else-from-run
returns-else-from-run c =
    let e : c.loop-hole.from ≡ c.args.run.last + 1 = omega (arith, c.if-from-run.false, c.loop-hole.invariant.end) in
    gaps_all c.args.other.now c.args.out.now c.args.run.first c.args.run.last c.loop-hole.out c.requires.not_empty
    (λ q. c.loop-hole.invariant.done q ∙ ap (λ n. has c.args.out.now q || (nat_le c.args.run.first q && (nat_lt q n && Rattle.std.proofs.Common.not (has c.args.other.now q)))) e)
