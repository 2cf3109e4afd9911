use Rattle.std.proofs.Common.{arith}
use Rattle.front_end.proofs.Indices.{next_line}
use Rattle.front_end.proofs.class_text.write_paths.Goals as goal

pub loop-index-preserved : goal.loop-index-preserved
loop-index-preserved c =
    next_line c.args.seen.now c.args.indices.now c.loop-index.index-index c.index-seen-index.result c.loop-index.out.items c.write_path.new.out.items _
    (omega (arith, c.loop-index-test.true, c.loop-index.auto.index-index-end)) c.requires.indices c.in_ok-write_path.ensures c.loop-index.invariant
