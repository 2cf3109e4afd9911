use Rattle.std.proofs.Common.{◌≡◌, ◌<◌, length, false, sym, ap, subst, ◌∙◌}
use Rattle.std.proofs.lemmas.List.{get_or_default}
use Rattle.overlay_setup.specs.Trees.{is_daemon}
use Rattle.overlay_setup.proofs.Leaves.{daemon_is_leaf, leaf_is_daemon}
use Rattle.overlay_setup.proofs.topology.Topology.is_daemon.Goals as goal

flag : (c : goal.After-index) → c.index.result.now ≡ is_daemon c.args.self.now.parents c.args.n
flag c =
    let within : c.args.n < length c.self.inside.parents.items = subst (λ ps. c.args.n < length ps) (ap (λ t. t.parents) (sym c.self.view_is)) c.requires in
    let inside : c.args.n < length c.self.inside.daemons.items = subst (λ k. c.args.n < k) (sym c.self.invariant.1.paired) within in
    c.index.ensures ∙ get_or_default c.self.inside.daemons.items c.args.n c.index.result.now false inside
    ∙ c.self.invariant.1.each c.args.n within
    ∙ ap (λ t. is_daemon t.parents c.args.n) c.self.view_is

pub returns-clause-value : goal.returns-clause-value
returns-clause-value c = flag c

pub returns-clause-leaf : goal.returns-clause-leaf
returns-clause-leaf c =
    (λ is. daemon_is_leaf c.args.self.now.parents c.args.n (sym (flag c) ∙ is), λ leaf. flag c ∙ leaf_is_daemon c.args.self.now.parents c.args.n leaf)
