use Rattle.std.proofs.Common.{refl}
use Rattle.overlay_node.proofs.init.fresh_wave.Goals as goal

pub returns-clause-fresh : goal.returns-clause-fresh
returns-clause-fresh g c p has = record {
  part = c.none.result;
  is = refl;
  stream = c.none.ensures.stream;
  wave = c.none.ensures.wave;
  merge = c.none.ensures.partial_merge p has;
  empty = c.none.ensures.coverage;
  release_count = refl;
}
