-- A set that gets more ranks.
use Rattle.call_path.specs.Path.{Path}
use Rattle.arena_tree.specs.NodeViews.{NodeView}
use Rattle.std.proofs.Common.{◌≡◌, ℕ, Bool, true, false, cond, ◌||◌, refl, sym, ap, ◌∙◌}
use Rattle.std.proofs.lemmas.Bool.{true≢false, eqb-true}
use Rattle.rank_set.specs.Ranks.{Ranks, none, has, union, size, is_empty, has-none, has-union, same_ranks, none_from_size}
use Rattle.arena_tree.specs.Steps.{more_for, with_more, with_more_marks}

or_false : (a : Bool) → (a || false) ≡ a
or_false true = refl
or_false false = refl

or_false_left : (a b : Bool) → (a || b) ≡ false → a ≡ false
or_false_left true b e = absurd (true≢false e)
or_false_left false b e = refl

empty_is : (s : Ranks) → is_empty s ≡ true → s ≡ none
empty_is s e = none_from_size s (eqb-true (size s) 0 e)

-- a union with no ranks is the set
pub no_more : (s t : Ranks) → is_empty t ≡ true → s ≡ union s t
no_more s t e = same_ranks _ _ (λ r. sym (has-union s t r ∙ ap (λ u. has s r || has u r) (empty_is t e) ∙ ap (λ b. has s r || b) (has-none r) ∙ or_false (has s r)))

-- a set whose union has no ranks is that union
all_empty : (s t : Ranks) → is_empty (union s t) ≡ true → s ≡ union s t
all_empty s t e =
    let nothing : union s t ≡ none = empty_is (union s t) e in
    same_ranks _ _ (λ r.
    let gone : has (union s t) r ≡ false = ap (λ u. has u r) nothing ∙ has-none r in
    or_false_left (has s r) (has t r) (sym (has-union s t r) ∙ gone) ∙ sym gone)

by_union : (s t : Ranks) (b : Bool) → is_empty (union s t) ≡ b → cond b s (union s t) ≡ union s t
by_union s t true e = all_empty s t e
by_union s t false e = refl

by_other : (s t : Ranks) (b : Bool) → is_empty t ≡ b → with_more s (cond b t (union s t)) ≡ union s t
by_other s t true e = ap (λ b. cond b s t) e ∙ no_more s t e
by_other s t false e = by_union s t (is_empty (union s t)) refl

-- what a step has for a set makes it the union
pub more_makes_union : (s t : Ranks) → with_more s (more_for s t) ≡ union s t
more_makes_union s t = by_other s t (is_empty t) refl

-- a node whose marks are united with others
pub marks_united : (fs : Path) (l e l1 e1 : Ranks) (a b : ℕ) (v : NodeView) (wl we : Ranks) → record { frames = fs; label = l; ends = e; first = a; next = b } ≡ v → l1 ≡ union l wl → e1 ≡ union e we
    → record { frames = fs; label = l1; ends = e1; first = a; next = b } ≡ with_more_marks (more_for v.label wl) (more_for v.ends we) v
marks_united fs l e l1 e1 a b v wl we is one two =
    (λ i. record { frames = fs; label = (one ∙ sym (more_makes_union l wl)) i; ends = (two ∙ sym (more_makes_union e we)) i; first = a; next = b })
    ∙ ap (λ (v : NodeView). with_more_marks (more_for v.label wl) (more_for v.ends we) v) is
