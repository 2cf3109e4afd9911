-- What a node knows of its parent, its children and the nodes that are lost, as a value; and what holds of it between events.
use Rattle.std.specs.Prelude.{◌≡◌, refl, ℕ, false, ◌<◌, List, Option}
use Rattle.std.specs.List.{AllByRecursion}
use Rattle.std.specs.Coded.{Coded, code_by, coded×, coded_list, coded_option, coded_ℕ}
use Rattle.overlay_setup.specs.NodeSets.{member}
use Rattle.stat_plan.specs.Machine.Kin.{Kin, nearest}
use Rattle.stat_plan.specs.Plans.{Plan, ancestors, front, nodes}

-- a node and its kin
pub record NodeKin : Type 0 where
  pub node : ℕ
  pub kin : Kin

-- The node and its children are nodes of the plan, its parent is the nearest of its ancestors that isn't known to be lost, and
-- the front end isn't known to be lost: no fault names it.
pub record IsKinOf (p : Plan) (v : NodeKin) : Type 0 where
  pub node : v.node < nodes p
  pub parent : v.kin.parent ≡ nearest (ancestors p v.node) v.kin.lost
  pub children : AllByRecursion (λ c. c < nodes p) v.kin.children
  pub front_lives : member (front p) v.kin.lost ≡ false

-- ---- codes, by which a value is stored

abbrev pub coded_kin : Coded Kin
coded_kin = code_by (Option ℕ × (List ℕ × List ℕ)) (coded× (coded_option coded_ℕ) (coded× (coded_list coded_ℕ) (coded_list coded_ℕ))) (λ k. (k.parent, (k.children, k.lost))) (λ p. record { parent = p.0; children = p.1.0; lost = p.1.1 }) (λ _. refl)

abbrev pub coded_node_kin : Coded NodeKin
coded_node_kin = code_by (ℕ × Kin) (coded× coded_ℕ coded_kin) (λ v. (v.node, v.kin)) (λ p. record { node = p.0; kin = p.1 }) (λ _. refl)
