-- What a loss and an attach leave of a node's kin.
use Rattle.std.proofs.Common.{◌≡◌, ◌≢◌, ◌<◌, ℕ, true, false, List, [], length, refl, sym, ap, subst, ◌∙◌, inl, inr, Option, None, Some, le_refl}
use Rattle.std.specs.List.{AllByRecursion}
use Rattle.std.proofs.lemmas.Bool.{cond-true, cond-false}
use Rattle.overlay_setup.specs.NodeSets.{member, up_to, with_number, without_number}
use Rattle.stat_plan.specs.Invariants.{IsPlan}
use Rattle.stat_plan.specs.Machine.Kin.{Kin, after_loss, children_of, is_parent, nearest, with_parent, without_child}
use Rattle.stat_plan.specs.Plans.{Plan, ancestors, front, nodes}
use Rattle.stat_plan.proofs.Elements.{all_from}
use Rattle.stat_plan.proofs.InLists.{in_from_filter, up_to_below}
use Rattle.stat_plan.proofs.KinLemmas.{member_more, nearest_same, nearest_some, is_parent_some}
use Rattle.stat_plan.proofs.Rooted.{IsRooted, ancestors_end, rooted, under_front}
use Rattle.loss_adoption.specs.declared.reaction.Reaction.{Reaction}
use Rattle.loss_adoption.specs.declared.reaction.Reaction.TheVariants.{Stay, NewParent}
use Rattle.loss_adoption.specs.NodeKins.{IsKinOf, NodeKin}
use Rattle.loss_adoption.specs.Reactions.{IsReactionTo}
use Rattle.loss_adoption.proofs.NumberLists.{all_with, all_without}

-- a node's kin of these parts
abbrev pub kin_of : Option ℕ → List ℕ → List ℕ → Kin
kin_of o children lost = record { parent = o; children = children; lost = lost }

abbrev pub at_node : ℕ → Kin → NodeKin
at_node n kin = record { node = n; kin = kin }

abbrev pub parts : ℕ → Option ℕ → List ℕ → List ℕ → NodeKin
parts n o children lost = at_node n (kin_of o children lost)

-- what a node leaves that hears of the loss of m, and its reaction
pub record IsAfterLoss (p : Plan) (old : NodeKin) (m : ℕ) (new : NodeKin) (reaction : Reaction) : Type 0 where
  pub kin : new ≡ record { node = old.node; kin = after_loss p old.node old.kin m }
  pub reaction_is : IsReactionTo old m new reaction
  pub fits : IsKinOf p new

-- the front end is still not known to be lost
front_still : (p : Plan) (m : ℕ) (lost more : List ℕ) → m ≢ front p → member (front p) lost ≡ false → more ≡ with_number m lost → member (front p) more ≡ false
front_still p m lost more ne lives is = ap (member (front p)) is ∙ member_more (front p) m lost (λ e. ne (sym e)) lives

-- a node that isn't the parent is lost
pub stays : (p : Plan) (v : NodeKin) (n : ℕ) (o : Option ℕ) (children fewer lost more : List ℕ) (m : ℕ) → parts n o children lost ≡ v → IsKinOf p v → m ≢ front p → is_parent o m ≡ false → more ≡ with_number m lost → fewer ≡ without_number m children → IsAfterLoss p v m (parts n o fewer more) Stay
stays p v n o children fewer lost more m is fits ne other added removed = subst (λ w. IsAfterLoss p w m (parts n o fewer more) Stay) is (record {
  kin =
      (λ i. parts n o (removed i) (added i))
      ∙ ap (at_node n) (sym (cond-false (is_parent o m) (with_parent p n (kin_of o children lost) m) (without_child (kin_of o children lost) m) (other)));
  reaction_is = other;
  fits = record {
    node = old.node;
    parent = old.parent ∙ sym (nearest_same (ancestors p n) lost m (ap (λ q. is_parent q m) (sym old.parent) ∙ other)) ∙ ap (nearest (ancestors p n)) (sym added);
    children = subst (AllByRecursion (λ c. c < nodes p)) (sym removed) (all_without (λ c. c < nodes p) m children old.children);
    front_lives = front_still p m lost more ne old.front_lives added;
  };
})
  where
    old : IsKinOf p (parts n o children lost)
    old = subst (IsKinOf p) (sym is) fits

-- the parent is lost
pub adopted : (p : Plan) (v : NodeKin) (n : ℕ) (o : Option ℕ) (children lost more : List ℕ) (m q : ℕ) → parts n o children lost ≡ v → IsKinOf p v → m ≢ front p → is_parent o m ≡ true → more ≡ with_number m lost → nearest (ancestors p n) more ≡ Some q → IsAfterLoss p v m (parts n (Some q) children more) (NewParent q)
adopted p v n o children lost more m q is fits ne parent added next = subst (λ w. IsAfterLoss p w m (parts n (Some q) children more) (NewParent q)) is (record {
  kin =
      (λ i. parts n ((sym next ∙ ap (nearest (ancestors p n)) added) i) children (added i))
      ∙ ap (at_node n) (sym (cond-true (is_parent o m) (with_parent p n (kin_of o children lost) m) (without_child (kin_of o children lost) m) parent));
  reaction_is = (parent, refl);
  fits = record {
    node = old.node;
    parent = sym next;
    children = old.children;
    front_lives = front_still p m lost more ne old.front_lives added;
  };
})
  where
    old : IsKinOf p (parts n o children lost)
    old = subst (IsKinOf p) (sym is) fits

-- there is a new parent: the front end, at the latest
pub some_parent : (p : Plan) (v : NodeKin) (n : ℕ) (o : Option ℕ) (children lost more : List ℕ) (m : ℕ) → parts n o children lost ≡ v → IsPlan p → IsKinOf p v → m ≢ front p → is_parent o m ≡ true → more ≡ with_number m lost → nearest (ancestors p n) more ≡ None → ⊥
some_parent p v n o children lost more m is plan fits ne parent added nothing = elim (under_front p (length (ancestors p n)) n tree (le_refl _) old.node) [
  | (inl top) ↦
      let none_above : ancestors p n ≡ [] = ap (ancestors p) top ∙ ancestors_end p (front p) tree tree.root in
      let is_some : o ≡ Some m = is_parent_some o m parent in
      let no_parent : o ≡ None = old.parent ∙ ap (λ above. nearest above lost) none_above in
      cc
  | (inr under) ↦
      let next = nearest_some (ancestors p n) more (front p) under (front_still p m lost more ne old.front_lives added) in
      let found : nearest (ancestors p n) more ≡ Some next.0 = next.1 in
      cc
]
  where
    old : IsKinOf p (parts n o children lost)
    old = subst (IsKinOf p) (sym is) fits

    tree : IsRooted p
    tree = rooted p plan.topology.tree

-- one child more
pub attached : (p : Plan) (v : NodeKin) (n : ℕ) (o : Option ℕ) (children more lost : List ℕ) (m : ℕ) → parts n o children lost ≡ v → more ≡ with_number m children → IsKinOf p v → m < nodes p → IsKinOf p (parts n o more lost)
attached p v n o children more lost m is added fits lt =
    let old : IsKinOf p (parts n o children lost) = subst (IsKinOf p) (sym is) fits in
    record {
      node = old.node;
      parent = old.parent;
      children = subst (AllByRecursion (λ c. c < nodes p)) (sym added) (all_with (λ c. c < nodes p) m children lt old.children);
      front_lives = old.front_lives;
    }

-- the kin that a node begins with
pub starts : (p : Plan) (n : ℕ) (o : Option ℕ) (children lost : List ℕ) → n < nodes p → o ≡ nearest (ancestors p n) [] → children ≡ children_of p n → lost ≡ [] → IsKinOf p (parts n o children lost)
starts p n o children lost lt parent is empty = record {
  node = lt;
  parent = parent ∙ ap (nearest (ancestors p n)) (sym empty);
  children = subst (AllByRecursion (λ c. c < nodes p)) (sym is) (all_from (λ c. c < nodes p) (children_of p n) (λ c there. up_to_below (nodes p) c (in_from_filter _ c (up_to (nodes p)) there).0));
  front_lives = ap (member (front p)) empty;
}
