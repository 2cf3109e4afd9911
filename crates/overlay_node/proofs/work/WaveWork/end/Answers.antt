use Rattle.std.proofs.Common.{◌∙◌, None, refl, sym, subst}
use Rattle.overlay_core.specs.TreeReleases.{releases_view}
use Rattle.overlay_node.specs.NodeViews.{HeldView}
use Rattle.overlay_node.specs.Outputs.{Output}
use Rattle.overlay_node.specs.declared.work.WaveWork.{WaveWork}
use Rattle.overlay_node.specs.Acting.{StepsWave, end}
use Rattle.overlay_node.proofs.Steps.{end_steps}
use Rattle.overlay_node.proofs.work.WaveWork.end.Goals as goal

pub returns : goal.returns
returns g c =
    let p = c.args.context.now.plan.now in
    let n = c.args.context.now.kin.now.node in
    let kin = c.args.context.now.kin.now.kin in
    let b = c.self.inside.0.0 in
    let tree = g.T.PrefixTree.tree in
    let h : HeldView = record { stream = c.held.inside.stream; wave = c.held.inside.wave; part = c.held.inside.part; release_count = c.held.inside.release_count } in
    let new : HeldView = record { stream = c.held.inside.stream; wave = c.held.inside.wave; part = None; release_count = c.held.inside.release_count } in
    let o : Output = record { sends = c.self.inside.0.1.0.sends.items; releases = releases_view {X = g.row.T.Denot} tree c.self.inside.0.1.0.releases.items } in
    let q : Output = record { sends = c.send_dones.new.sends.items; releases = releases_view {X = g.row.T.Denot} tree c.self.inside.0.1.0.releases.items } in
    subst (λ (y : HeldView). StepsWave p n (end p kin y.stream y.wave) y new c.args.self.now.book c.close.new.self c.args.self.now.effects q) c.held.view_is
    (subst (λ (x : WaveWork g.row.T.Denot). StepsWave p n (end p kin h.stream h.wave) h new x.book c.close.new.self x.effects q) c.self.view_is
    (end_steps p n kin h new b c.close.new.self o q (sym c.is_closed.ensures ∙ c.if-is_closed.false) refl refl refl refl c.in_ok-send_dones.ensures refl c.close.ensures))
