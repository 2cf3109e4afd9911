use Rattle.std.proofs.Common.{◌≡◌, ◌≤◌, ◌+◌, ◌∙◌, ◌++◌, ◌∷◌, [], ap, refl, sym, subst, arith}
use Rattle.std.proofs.lemmas.List.{map-append}
use Rattle.rank_set.specs.Ranks.{size}
use Rattle.rank_set.specs.declared.TheConstants.{RANK_LIMIT}
use Rattle.stat_plan.specs.declared.machine.Act.TheVariants.{Final}
use Rattle.wave_resend.specs.Books.{book_of}
use Rattle.overlay_core.specs.Nodes.{act}
use Rattle.overlay_core.specs.TreeReleases.{release_view, releases_view}
use Rattle.overlay_core.specs.declared.release.Kind.TheVariants.{Final as FinalRelease}
use Rattle.overlay_node.specs.NodeViews.{HeldFits, HeldView}
use Rattle.overlay_node.specs.Outputs.{Output}
use Rattle.overlay_node.specs.declared.work.WaveWork.{WaveWork}
use Rattle.overlay_node.specs.Acting.{StepsWave, due_as, release_with}
use Rattle.overlay_node.proofs.Fitting.{due_open, given_within}
use Rattle.overlay_node.proofs.Steps.{final_steps}
use Rattle.overlay_node.proofs.work.WaveWork.give_final.Goals as goal

pub next_release-requires-after_bounds : goal.next_release-requires-after_bounds
next_release-requires-after_bounds g c lifetimes outlives =
    let p = c.args.context.now.plan.now in
    let kin = c.args.context.now.kin.now in
    let h = c.args.held.now in
    let d = due_open p kin.node kin.kin.lost h.stream (book_of c.args.self.now.book h.stream h.wave) Final c.requires.due (λ k. absurd (cc)) in
    let few = given_within p kin.node h _ d.covered d.sent d.timer c.in-Some.part RANK_LIMIT d.is c.requires.fits (ap (λ (y : HeldView). y.part) (sym c.held.view_is) ∙ sym c.in-Some.ensures.value)
    (subst (λ set. size set ≤ RANK_LIMIT) c.coverage.ensures c.ranks_within_limit.ensures) in
    let same : c.held.inside.release_count ≡ h.release_count = ap (λ (y : HeldView). y.release_count) c.held.view_is in
    omega (arith, few, same)

pub returns : goal.returns
returns g c =
    let p = c.args.context.now.plan.now in
    let n = c.args.context.now.kin.now.node in
    let kin = c.args.context.now.kin.now.kin in
    let b = c.self.inside.0.0 in
    let tree = g.T.PrefixTree.tree in
    let h : HeldView = record { stream = c.held.inside.stream; wave = c.held.inside.wave; part = c.held.inside.part; release_count = c.held.inside.release_count } in
    let new : HeldView = record { stream = c.held.inside.stream; wave = c.held.inside.wave; part = c.take.new.self; release_count = c.held.inside.release_count + 1 } in
    let o : Output = record { sends = c.self.inside.0.1.0.sends.items; releases = releases_view {X = g.row.T.Denot} tree c.self.inside.0.1.0.releases.items } in
    let q : Output = record { sends = c.send_dones.new.sends.items; releases = releases_view {X = g.row.T.Denot} tree c.push.new.self.items } in
    let more : q.releases ≡ o.releases ++ release_with h FinalRelease (tree c.into_tree.result) kin.lost ∷ [] =
    ap (releases_view {X = g.row.T.Denot} tree) c.in_ok-push.ensures.items
    ∙ map-append (release_view {X = g.row.T.Denot} tree) c.self.inside.0.1.0.releases.items (c.in_ok-release.release ∷ [])
    ∙ ap (λ r. o.releases ++ r ∷ []) c.in_ok-release.ensures in
    subst (λ (y : HeldView). StepsWave p n (act p n kin y.stream y.wave) y new c.args.self.now.book c.close.new.self c.args.self.now.effects q) c.held.view_is
    (subst (λ (x : WaveWork g.row.T.Denot). StepsWave p n (act p n kin h.stream h.wave) h new x.book c.close.new.self x.effects q) c.self.view_is
    (final_steps p n kin h new b c.close.new.self o q c.in-Some.part (tree c.into_tree.result) (sym c.in-Some.ensures.value) c.into_tree.ensures
    (subst (λ (x : WaveWork g.row.T.Denot). due_as p n kin.lost h.stream (book_of x.book h.stream h.wave) ≡ Final) (sym c.self.view_is)
    (subst (λ (y : HeldView). due_as p n kin.lost y.stream (book_of c.args.self.now.book y.stream y.wave) ≡ Final) (sym c.held.view_is) c.requires.due))
    (subst (λ (x : WaveWork g.row.T.Denot). HeldFits p n h (book_of x.book h.stream h.wave)) (sym c.self.view_is)
    (subst (λ (y : HeldView). HeldFits p n y (book_of c.args.self.now.book y.stream y.wave)) (sym c.held.view_is) c.requires.fits))
    refl refl c.in-Some.ensures.after (omega arith) c.in_ok-send_dones.ensures more c.close.ensures))
