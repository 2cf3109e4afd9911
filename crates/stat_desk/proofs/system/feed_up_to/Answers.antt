use Rattle.std.proofs.Common.{length, arith, ap, subst, sym}
use Rattle.std.proofs.lemmas.List.{length-append}
use Rattle.stat_desk.proofs.system.feed_up_to.Goals as goal

pub loop-count-preserved : goal.loop-count-preserved
loop-count-preserved g c =
    let fed = c.loop-count.invariant.fed in
    let all = length-append c.loop-count.given.bytes c.split_at.result.0.now in
    record {
      room = c.loop-count.invariant.room;
      fed = (
        subst (λ bytes. g.F.Feed.feeds c.args.fed.now bytes c.feed.new.self) (sym c.note.ensures)
            (c.feed.ensures c.args.fed.now c.loop-count.given.bytes fed.0),
        omega (arith, fed.1, ap length c.note.ensures, all, c.split_at.ensures.front_len, c.if-count-left.false),
      );
    }
