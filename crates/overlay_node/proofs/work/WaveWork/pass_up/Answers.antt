use Rattle.std.proofs.Common.{◌≡◌, ◌∙◌, ap, refl, sym, subst}
use Rattle.std.specs.Prelude.{◌≢◌}
use Rattle.std.proofs.lemmas.Result.{on_ok_weaker}
use Rattle.rank_set.specs.Ranks.{none}
use Rattle.stat_plan.specs.declared.machine.Act.TheVariants.{Send}
use Rattle.wave_resend.specs.Books.{book_of}
use Rattle.merge_filter.specs.Contributions.{coverage_of}
use Rattle.overlay_core.specs.Nodes.{act}
use Rattle.overlay_core.specs.TreeReleases.{releases_view}
use Rattle.overlay_node.specs.NodeViews.{HeldFits, HeldView}
use Rattle.overlay_node.specs.Outputs.{Output}
use Rattle.overlay_node.specs.declared.work.WaveWork.{WaveWork}
use Rattle.overlay_node.specs.Acting.{StepsWave, due_as}
use Rattle.overlay_node.proofs.Fitting.{due_open, open_fits, send_some, some_is}
use Rattle.overlay_node.proofs.Steps.{send_steps}
use Rattle.overlay_node.proofs.work.WaveWork.pass_up.Goals as goal

pub send_up-requires-clause-not_empty : goal.send_up-requires-clause-not_empty
send_up-requires-clause-not_empty g c κs within =
    let p = c.args.context.now.plan.now in
    let kin = c.args.context.now.kin.now in
    let h = c.args.held.now in
    let d = due_open p kin.node kin.kin.lost h.stream (book_of c.args.self.now.book h.stream h.wave) Send c.requires.due (λ k. absurd (cc)) in
    let fits = open_fits p kin.node h _ d.covered d.sent d.timer d.is c.requires.fits in
    let same : c.in-Some.part ≡ fits.part = some_is c.in-Some.part fits.part (sym c.in-Some.is ∙ ap (λ (y : HeldView). y.part) c.held.view_is ∙ fits.is) in
    subst (λ set. set ≢ none) (sym (ap coverage_of same ∙ fits.covers)) (send_some p kin.node kin.kin.lost h.stream d.covered d.sent d.timer d.due fits.within)

pub returns : goal.returns
returns g c =
    let p = c.args.context.now.plan.now in
    let n = c.args.context.now.kin.now.node in
    let kin = c.args.context.now.kin.now.kin in
    let b = c.self.inside.0.0 in
    let h : HeldView = record { stream = c.held.inside.stream; wave = c.held.inside.wave; part = c.held.inside.part; release_count = c.held.inside.release_count } in
    let o : Output = record { sends = c.self.inside.0.1.0.sends.items; releases = releases_view {X = g.row.T.Denot} g.T.PrefixTree.tree c.self.inside.0.1.0.releases.items } in
    let q : Output = record { sends = c.send_up.new.sends.items; releases = releases_view {X = g.row.T.Denot} g.T.PrefixTree.tree c.self.inside.0.1.0.releases.items } in
    on_ok_weaker c.mark_sent.result
    (λ has.
    subst (λ (y : HeldView). StepsWave p n (act p n kin y.stream y.wave) y y c.args.self.now.book c.mark_sent.new.self c.args.self.now.effects q) c.held.view_is
    (subst (λ (x : WaveWork g.row.T.Denot). StepsWave p n (act p n kin h.stream h.wave) h h x.book c.mark_sent.new.self x.effects q) c.self.view_is
    (send_steps p n kin h b c.mark_sent.new.self o q c.in-Some.part c.in-Some.is
    (subst (λ (x : WaveWork g.row.T.Denot). due_as p n kin.lost h.stream (book_of x.book h.stream h.wave) ≡ Send) (sym c.self.view_is)
    (subst (λ (y : HeldView). due_as p n kin.lost y.stream (book_of c.args.self.now.book y.stream y.wave) ≡ Send) (sym c.held.view_is) c.requires.due))
    (subst (λ (x : WaveWork g.row.T.Denot). HeldFits p n h (book_of x.book h.stream h.wave)) (sym c.self.view_is)
    (subst (λ (y : HeldView). HeldFits p n y (book_of c.args.self.now.book y.stream y.wave)) (sym c.held.view_is) c.requires.fits))
    c.in_ok-send_up.ensures refl has)))
    c.mark_sent.ensures.ok
