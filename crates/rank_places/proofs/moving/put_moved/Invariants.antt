use Rattle.std.proofs.Common.{◌≡◌, ◌≤◌, ◌*◌, ◌/◌, ◌-◌, ◌^◌, ◌+◌, [], ◌∷◌}
use Rattle.rank_set.specs.Ranks.{union}
use Rattle.rank_set.specs.Words.{ranks_in}
use Rattle.rank_places.specs.Table.{cover_of, image, AreMoved}
use Rattle.rank_places.specs.Collected.{collected, IsCollected}
use Rattle.rank_places.proofs.Images.{before}
use Rattle.rank_places.proofs.moving.put_moved.Given as goal

abbrev pub invariant-loop-rest : goal.invariant-loop-rest
invariant-loop-rest l = record {
  low : 64 * l.index ≤ l.from;
  near : l.from ≤ 64 * l.index + 128;
  rest : l.rest ≡ l.word / 2 ^ (l.from - 64 * l.index);
  moves : AreMoved l.way.back (cover_of l.way.runs.now) l.run.first l.run.last l.run.target;
  good : IsCollected l.out;
  numbers : collected l.out ≡ union (collected l.fn.out) (image l.way.back (cover_of l.way.runs.now) (before (ranks_in l.index (l.word ∷ [])) l.from));
}

abbrev pub decreases-loop-rest : goal.decreases-loop-rest
decreases-loop-rest l = (64 * l.index + 128) - l.from
