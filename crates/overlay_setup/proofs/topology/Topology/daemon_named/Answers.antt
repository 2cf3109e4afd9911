use Rattle.std.proofs.Common.{◌∙◌, sym, ap, Some, None, cond, arith}
use Rattle.overlay_setup.proofs.DaemonNames.{named, named_by, exactly}
use Rattle.overlay_setup.proofs.topology.Topology.daemon_named.Goals as goal

pub is_daemon-requires : goal.is_daemon-requires
is_daemon-requires c =
    let at = named c.args.name.now c.args.self.now.names c.in-Some.n (sym c.in-Some.ensures) in
    let lt = at.0 in
    omega (arith, lt, c.invariant.ensures.paired)

pub returns-in-Some-clause-exact : goal.returns-in-Some-clause-exact
returns-in-Some-clause-exact c =
    exactly c.args.self.now c.invariant.ensures c.args.name.now (Some c.in-Some.n)
    (named_by c.args.self.now c.args.name.now (Some c.in-Some.n) c.in-Some.ensures ∙ ap (λ b. cond b (Some c.in-Some.n) None) (sym c.is_daemon.ensures.value ∙ c.if-is_daemon.true))

pub returns-in_default-clause-exact : goal.returns-in_default-clause-exact
returns-in_default-clause-exact c =
    exactly c.args.self.now c.invariant.ensures c.args.name.now None
    (named_by c.args.self.now c.args.name.now (Some c.in-Some.n) c.in-Some.ensures ∙ ap (λ b. cond b (Some c.in-Some.n) None) (sym c.is_daemon.ensures.value ∙ c.if-is_daemon.false))

pub returns-in_default-2-clause-exact : goal.returns-in_default-2-clause-exact
returns-in_default-2-clause-exact c = exactly c.args.self.now c.invariant.ensures c.args.name.now None (named_by c.args.self.now c.args.name.now None (sym c.in_default.is ∙ c.number_of.ensures))
