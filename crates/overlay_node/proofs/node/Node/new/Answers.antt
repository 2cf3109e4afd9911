use Rattle.std.proofs.Common.{◌∙◌, ap, sym}
use Rattle.stat_plan.specs.Plans.{waves_at}
use Rattle.loss_adoption.specs.NodeKins.{NodeKin}
use Rattle.wave_resend.specs.Books.{book_of}
use Rattle.overlay_node.proofs.Starting.{fresh_all, fresh_given}
use Rattle.overlay_node.proofs.node.Node.new.Goals as goal

pub returns-clause-start : goal.returns-clause-start
returns-clause-start g c = λ i. record {
  kin = ap (λ (k : NodeKin). k.kin) c.in_ok-kin.ensures.start i;
  book = c.in_ok-book.ensures.untouched i;
  count = 0;
}

pub returns-clause-fits : goal.returns-clause-fits
returns-clause-fits g c =
    let p = c.args.plan.now in
    let number = ap (λ (k : NodeKin). k.node) (sym c.in_ok-kin.ensures.start) in
    record {
      kin = c.in_ok-kin.ensures.fits;
      keys = c.in_ok-book.ensures.keys ∙ ap (waves_at p) number;
      held_keys = c.in_ok-held.ensures.keys ∙ ap (waves_at p) number;
      held = fresh_all p _ (book_of c.in_ok-book.book) c.in_ok-held.held.items c.in_ok-book.ensures.untouched c.in_ok-held.ensures.fresh;
    }

pub returns-clause-counts : goal.returns-clause-counts
returns-clause-counts g c s w there = fresh_given c.args.plan.now c.in_ok-held.held.items c.in_ok-held.ensures.fresh s w
