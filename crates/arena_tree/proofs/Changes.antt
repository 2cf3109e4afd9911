-- Changes of nodes, seen at each place.
use Rattle.std.proofs.Common.{◌≡◌, ◌≢◌, ℕ, zero, suc, ◌+◌, ◌<◌, ◌≤◌, List, [], ◌∷◌, ◌++◌, length, set, take, refl, sym, ap, ◌∙◌, subst, arith}
use Rattle.std.specs.Prelude.{slice_get, Option, Some, None}
use Rattle.std.proofs.lemmas.Option.{same_Some}
use Rattle.arena_tree.specs.declared.node.Link.{Link}
use Rattle.arena_tree.specs.declared.node.Link.TheVariants.{Top, FirstOf, NextOf}
use Rattle.arena_tree.specs.NodeViews.{NodeView}
use Rattle.arena_tree.specs.Links.{LinkedNodes, with_change, with_first, with_next, relink, first_after, LeadsTo, IsNotAt}

pub none_some : {X : Type 0} (x : X) → None ≡ Some x → ⊥
none_some x e = subst (λ (o : Option _). elim o as (λ _. Type 0) [ None ↦ Unit {0} | Some z ↦ ⊥ ]) e tt

pub change_same : (cs : List NodeView) (a : ℕ) (f : NodeView → NodeView) (x : NodeView) → slice_get cs a ≡ Some x → slice_get (with_change a f cs) a ≡ Some (f x)
change_same [] a f x e = absurd (none_some x e)
change_same (y ∷ cs) zero f x e = ap (λ (z : NodeView). Some (f z)) (same_Some y x e)
change_same (y ∷ cs) (suc a) f x e = change_same cs a f x e

pub change_other : (cs : List NodeView) (a j : ℕ) (f : NodeView → NodeView) → j ≢ a → slice_get (with_change a f cs) j ≡ slice_get cs j
change_other [] a j f off = refl
change_other (y ∷ cs) zero zero f off = absurd (off refl)
change_other (y ∷ cs) zero (suc j) f off = refl
change_other (y ∷ cs) (suc a) zero f off = refl
change_other (y ∷ cs) (suc a) (suc j) f off = change_other cs a j f (λ e. off (ap suc e))

pub length-with_change : (cs : List NodeView) (a : ℕ) (f : NodeView → NodeView) → length (with_change a f cs) ≡ length cs
length-with_change [] a f = refl
length-with_change (y ∷ cs) zero f = refl
length-with_change (y ∷ cs) (suc a) f = ap suc (length-with_change cs a f)

-- a change that changes nothing
pub change_nothing : (cs : List NodeView) (a j : ℕ) (f : NodeView → NodeView) (x : NodeView) → slice_get cs a ≡ Some x → f x ≡ x → slice_get (with_change a f cs) j ≡ slice_get cs j
change_nothing [] a j f x e is = refl
change_nothing (y ∷ cs) zero zero f x e is = ap Some (ap f (same_Some y x e) ∙ is ∙ sym (same_Some y x e))
change_nothing (y ∷ cs) zero (suc j) f x e is = refl
change_nothing (y ∷ cs) (suc a) zero f x e is = refl
change_nothing (y ∷ cs) (suc a) (suc j) f x e is = change_nothing cs a j f x e is

pub length-relink : (l : Link) (n : ℕ) (cs : List NodeView) → length (relink l n cs) ≡ length cs
length-relink Top n cs = refl
length-relink (FirstOf a) n cs = length-with_change cs a (with_first n)
length-relink (NextOf a) n cs = length-with_change cs a (with_next n)

pub relink_other : (l : Link) (n : ℕ) (cs : List NodeView) (y : ℕ) → IsNotAt l y → slice_get (relink l n cs) y ≡ slice_get cs y
relink_other Top n cs y off = refl
relink_other (FirstOf a) n cs y off = change_other cs a y (with_first n) off
relink_other (NextOf a) n cs y off = change_other cs a y (with_next n) off

same_first : (x : NodeView) (v : ℕ) → x.first ≡ v → with_first v x ≡ x
same_first x v e = λ i. record { frames = x.frames; label = x.label; ends = x.ends; first = sym e i; next = x.next }

same_next : (x : NodeView) (v : ℕ) → x.next ≡ v → with_next v x ≡ x
same_next x v e = λ i. record { frames = x.frames; label = x.label; ends = x.ends; first = x.first; next = sym e i }

-- a link led to where it leads
pub relink_same : (l : Link) (h : LinkedNodes) (v y : ℕ) → LeadsTo l h v → slice_get (relink l v h.nodes) y ≡ slice_get h.nodes y
relink_same Top h v y to = refl
relink_same (FirstOf a) h v y to = change_nothing h.nodes a y (with_first v) to.0 to.1 (same_first to.0 v to.2)
relink_same (NextOf a) h v y to = change_nothing h.nodes a y (with_next v) to.0 to.1 (same_next to.0 v to.2)

pub begins_same : (l : Link) (h : LinkedNodes) (v : ℕ) → LeadsTo l h v → h.first ≡ first_after l v h.first
begins_same Top h v to = to
begins_same (FirstOf a) h v to = refl
begins_same (NextOf a) h v to = refl

pub at_end : (cs : List NodeView) (n : ℕ) (x : NodeView) → length cs ≡ n → slice_get (cs ++ x ∷ []) n ≡ Some x
at_end [] zero x e = refl
at_end [] (suc n) x e = absurd (omega (arith, e))
at_end (y ∷ cs) zero x e = absurd (omega (arith, e))
at_end (y ∷ cs) (suc n) x e = at_end cs n x (omega (arith, e))

pub before_end : (cs : List NodeView) (y : ℕ) (x : NodeView) → y < length cs → slice_get (cs ++ x ∷ []) y ≡ slice_get cs y
before_end [] y x lt = absurd (omega (arith, lt))
before_end (z ∷ cs) zero x lt = refl
before_end (z ∷ cs) (suc y) x lt = before_end cs y x (omega (arith, lt))

-- a change at a place is a write there
pub with_change-set : (cs : List NodeView) (a : ℕ) (f : NodeView → NodeView) (x : NodeView) → slice_get cs a ≡ Some x → set cs a (f x) ≡ with_change a f cs
with_change-set [] a f x e = refl
with_change-set (y ∷ cs) zero f x e = ap (λ (z : NodeView). f z ∷ cs) (sym (same_Some y x e))
with_change-set (y ∷ cs) (suc a) f x e = ap (λ (zs : List NodeView). y ∷ zs) (with_change-set cs a f x e)

-- a change where no node is
pub change_past : (cs : List NodeView) (a : ℕ) (f : NodeView → NodeView) → length cs ≤ a → cs ≡ with_change a f cs
change_past [] a f past = refl
change_past (y ∷ cs) zero f past = absurd (omega (arith, past))
change_past (y ∷ cs) (suc a) f past = ap (λ (zs : List NodeView). y ∷ zs) (change_past cs a f (omega (arith, past)))

-- one element more
pub take_one : (cs : List NodeView) (i : ℕ) (x : NodeView) → slice_get cs i ≡ Some x → take (i + 1) cs ≡ take i cs ++ x ∷ []
take_one [] i x e = absurd (none_some x e)
take_one (y ∷ cs) zero x e =
    ap (λ (z : NodeView). z ∷ []) (same_Some y x e)
take_one (y ∷ cs) (suc i) x e =
    let n : suc i + 1 ≡ suc (i + 1) = omega arith in
    ap (λ k. take k (y ∷ cs)) n ∙ ap (λ (zs : List NodeView). y ∷ zs) (take_one cs i x e)
