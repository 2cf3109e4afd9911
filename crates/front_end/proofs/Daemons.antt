-- The daemons of a stream.
use Rattle.std.proofs.Common.{◌≡◌, ℕ, ◌<◌, ◌==◌, List, [], ◌∷◌, Option, Some, None, sym, ap}
use Rattle.std.specs.List.{AllByRecursion}
use Rattle.stat_plan.specs.Invariants.{IsPlan}
use Rattle.overlay_setup.specs.Scripts.{IsDaemon, Stream}
use Rattle.stat_plan.specs.Plans.{Plan, daemons, nodes, nodes_of, stream_of}
use Rattle.stat_plan.proofs.FirstOver.{all_in, found_in}

pub no_daemons : (p : Plan) (s : ℕ) → stream_of p s ≡ None → [] ≡ daemons p s
unfolding daemons
no_daemons p s is = sym (ap (λ (o : Option Stream). elim o as (λ _. List ℕ) [ None ↦ [] | (Some x) ↦ x.daemons ]) is)

firsts : (p : Plan) (ds : List ℕ) → AllByRecursion (IsDaemon (nodes_of p)) ds → AllByRecursion (λ d. d < nodes p) ds
firsts p [] all = tt
firsts p (d ∷ ds) all = (all.0.0, firsts p ds all.1)

-- the daemons of a stream are nodes
pub daemons_are_nodes : (p : Plan) (s : ℕ) (x : Stream) → IsPlan p → stream_of p s ≡ Some x → AllByRecursion (λ d. d < nodes p) x.daemons
unfolding stream_of
daemons_are_nodes p s x plan is = firsts p x.daemons (all_in (λ (x : Stream). AllByRecursion (IsDaemon (nodes_of p)) x.daemons) p.streams x plan.script_fits.daemons (found_in (λ x. x.number == s) p.streams x is))
