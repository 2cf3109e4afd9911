-- The table of faults.
use Rattle.std.proofs.Common.{◌≡◌, ◌≢◌, ℕ, zero, suc, ◌+◌, ◌<◌, Bool, true, false, cond, ◌==◌, List, [], ◌∷◌, length, get_or, set, take, replicate, Option, Some, None, refl, sym, ap, subst, ◌∙◌, arith, inl, inr, eqb-true, eq-eqb}
use Rattle.std.specs.Prelude.{find}
use Rattle.std.specs.List.{AllByRecursion}
use Rattle.std.proofs.lemmas.Bool.{true≢false, cases_lt}
use Rattle.std.proofs.lemmas.List.{get_or-set_same, get_or-set_other, get_or-replicate, get_or_past, length-replicate}
use Rattle.overlay_setup.specs.NodeSets.{IsStrictlyIncreasing}
use Rattle.overlay_setup.specs.Scripts.{fault_nodes}
use Rattle.overlay_setup.specs.declared.script.Fault.{Fault}
use Rattle.overlay_setup.specs.Trees.{root_of}
use Rattle.stat_plan.specs.Invariants.{IsJob}
use Rattle.stat_plan.specs.Plans.{Plan, nodes}
use Rattle.stat_plan.proofs.Elements.{all_element}
use Rattle.stat_plan.proofs.InLists.{in_at, in_map}

-- a node's fault among one fault more
pub find-next : (n : ℕ) (faults : List Fault) (i : ℕ) (d : Fault) → i < length faults → IsStrictlyIncreasing (fault_nodes faults)
    → find (λ f. f.node == n) (take (i + 1) faults) ≡ cond ((get_or faults i d).node == n) (Some (get_or faults i d)) (find (λ f. f.node == n) (take i faults))
find-next n [] i d lt up = absurd (omega arith)
find-next n (f ∷ fs) zero d lt up = refl
find-next n (f ∷ fs) (suc i) d lt up =
    let g : Fault = get_or fs i d in
    let below : f.node < g.node = up.0 g.node (in_map (λ (f : Fault). f.node) g fs (in_at fs i d (omega arith))) in
    let more : suc i + 1 ≡ suc (i + 1) = omega arith in
    ap (λ k. find (λ (f : Fault). f.node == n) (take k (f ∷ fs))) more
    ∙ ap (cond (f.node == n) (Some f)) (find-next n fs i d (omega arith) up.1)
    ∙ by g below (find (λ f. f.node == n) (take i fs)) (f.node == n) refl (g.node == n) refl
  where
    by : (g : Fault) → f.node < g.node → (o : Option Fault) → (a : Bool) → (f.node == n) ≡ a → (b : Bool) → (g.node == n) ≡ b
        → cond a (Some f) (cond b (Some g) o) ≡ cond b (Some g) (cond a (Some f) o)
    by g below o true one true two = let same = eqb-true f.node n one in let other = eqb-true g.node n two in absurd (omega (arith, below, same, other))
    by g below o true one false two = refl
    by g below o false one b two = refl

-- a table after a node's fault was set
pub table-set : (table : List (Option Fault)) (f : Fault) (n : ℕ) → f.node < length table → get_or (set table f.node (Some f)) n None ≡ cond (f.node == n) (Some f) (get_or table n None)
table-set table f n within = by (f.node == n) refl
  where
    by : (b : Bool) → (f.node == n) ≡ b → get_or (set table f.node (Some f)) n None ≡ cond b (Some f) (get_or table n None)
    by true e = ap (λ k. get_or (set table f.node (Some f)) k None) (sym (eqb-true f.node n e)) ∙ get_or-set_same table f.node (Some f) None within
    by false e = get_or-set_other table f.node n (Some f) None (λ same. true≢false (sym (eq-eqb f.node n (sym same)) ∙ e))

-- a table without faults
pub no_faults : (k n : ℕ) (table : List (Option Fault)) → table ≡ replicate k None → get_or table n None ≡ None
no_faults k n table is = elim (cases_lt n k) [
  | (inl lt) ↦ ap (λ xs. get_or xs n None) is ∙ get_or-replicate k n None None lt
  | (inr past) ↦ get_or_past table n None (let long = ap length is ∙ length-replicate k None in omega (arith, past, long))
]

-- the node of a fault is a node
pub fault_node : (p : Plan) (faults : List Fault) (i : ℕ) (d : Fault) → IsJob p → faults ≡ p.faults → i < length faults → (get_or faults i d).node < nodes p
fault_node p faults i d job is lt =
    let fits = subst (AllByRecursion (λ f. (f.node < nodes p) × (f.node ≢ root_of p.parents))) (sym is) job.script_fits.faults in
    (all_element (λ (f : Fault). (f.node < nodes p) × (f.node ≢ root_of p.parents)) faults i d fits lt).0
