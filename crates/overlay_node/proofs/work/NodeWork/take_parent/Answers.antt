use Rattle.std.proofs.Common.{◌≡◌, ◌∙◌, Some, ap, refl, subst, sym}
use Rattle.std.proofs.lemmas.Result.{on_ok_weaker}
use Rattle.stat_plan.specs.Machine.Kin.{after_loss, is_parent}
use Rattle.loss_adoption.specs.NodeKins.{NodeKin}
use Rattle.loss_adoption.specs.Reactions.{IsReactionTo}
use Rattle.overlay_core.specs.Nodes.{Attach}
use Rattle.stat_plan.specs.Machine.Overlays.{to_parent}
use Rattle.overlay_core.specs.TreeReleases.{releases_view}
use Rattle.overlay_node.specs.Outputs.{Output, Sends}
use Rattle.overlay_node.specs.declared.work.NodeWork.{NodeWork}
use Rattle.wave_resend.specs.Books.{book_of}
use Rattle.overlay_node.specs.NodeViews.{AreHeldFits}
use Rattle.overlay_node.specs.Acting.{StepsHeld, adopt}
use Rattle.overlay_node.proofs.Ticking.{adopted_steps}
use Rattle.overlay_node.proofs.work.NodeWork.take_parent.Goals as goal

pub returns-in-NewParent-clause-steps : goal.returns-in-NewParent-clause-steps
returns-in-NewParent-clause-steps g c =
    let p = c.args.plan.now in
    let v = c.args.kin.now in
    let b = c.self.inside.0.1.0.0.0 in
    let hs = c.self.inside.0.0.items in
    let kin = after_loss p v.node v.kin c.args.lost in
    let o : Output = record { sends = c.self.inside.0.1.0.0.1.0.sends.items; releases = releases_view {X = g.row.T.Denot} g.T.PrefixTree.tree c.self.inside.0.1.0.0.1.0.releases.items } in
    let q : Output = record { sends = c.send_attach.new.sends.items; releases = releases_view {X = g.row.T.Denot} g.T.PrefixTree.tree c.self.inside.0.1.0.0.1.0.releases.items } in
    let lost = subst (IsReactionTo v c.args.lost c.on_down.new.self) c.in-NewParent.is c.in_ok-parent.ensures.reaction in
    let parent : Some c.in-NewParent.parent ≡ kin.parent = sym lost.1 ∙ ap (λ (x : NodeKin). x.kin.parent) c.in_ok-parent.ensures.kin in
    on_ok_weaker c.send_attach.result
    (λ sends.
    subst (λ (x : NodeWork g.row.T.Denot). StepsHeld p v.node (adopt (is_parent v.kin.parent c.args.lost) kin) x.held.items hs x.work.book c.reset_for_parent.new.self x.work.effects q) c.self.view_is
    (adopted_steps p v c.args.lost kin hs b c.reset_for_parent.new.self o q c.invariant.ensures c.requires.kin lost.0 c.reset_for_parent.ensures
    (subst (λ (x : NodeWork g.row.T.Denot). AreHeldFits p v.node (book_of x.work.book) x.held.items) (sym c.self.view_is) c.requires.fits)
    (subst (λ m. Sends p (to_parent m Attach) o.sends q.sends) parent sends) refl))
    c.send_attach.ensures
