-- Parts of a wave, and their halves.
use Rattle.std.proofs.Common.{◌≡◌, ℕ, Bool, true, false, ◌||◌, List, [], ◌∷◌, ◌++◌, map, refl, sym, ap, ◌∙◌, subst}
use Rattle.std.proofs.lemmas.List.{map-append}
use Rattle.rank_set.specs.Ranks.{Ranks, has, has-none, has-union, none, same_ranks, union, union-none}
use Rattle.rank_set.proofs.RunLists.{union_assoc}
use Rattle.overlay_setup.specs.NodeSets.{In}
use Rattle.stat_plan.specs.Plans.{Plan, ranks, ranks_on}
use Rattle.stat_plan.specs.Samples.{all_ranks, ranks_with}
use Rattle.stat_plan.proofs.InLists.{append_left, append_right}
use Rattle.merge_filter.specs.Contributions.{Contrib, IsPartialMerge, coverage_of}
use Rattle.wide_merge.specs.Parts.{IsPartOf, MayMerge}

or_false : (b : Bool) → (b || false) ≡ b
or_false true = refl
or_false false = refl

union_with_none : (C : Ranks) → C ≡ union C none
union_with_none C = same_ranks _ _ (λ r. sym (has-union C none r ∙ ap (λ b. has C r || b) (has-none r) ∙ or_false (has C r)))

ranks_with-from : (C : Ranks) (Ds : List Ranks) → ranks_with C Ds ≡ union C (ranks_with none Ds)
ranks_with-from C [] = union_with_none C
ranks_with-from C (E ∷ Ds) =
    ranks_with-from (union C E) Ds
    ∙ union_assoc C E (ranks_with none Ds)
    ∙ ap (union C) (sym (ranks_with-from (union none E) Ds ∙ ap (λ F. union F (ranks_with none Ds)) (union-none E)))

ranks_with-append : (C : Ranks) (Ds Es : List Ranks) → ranks_with C (Ds ++ Es) ≡ ranks_with (ranks_with C Ds) Es
ranks_with-append C [] Es = refl
ranks_with-append C (D ∷ Ds) Es = ranks_with-append (union C D) Ds Es

-- the ranks of two lists of daemons are those of each, united
ranks_on-append : (p : Plan) (ds es : List ℕ) → ranks_on p (ds ++ es) ≡ union (ranks_on p ds) (ranks_on p es)
ranks_on-append p ds es =
    ap all_ranks (map-append (ranks p) ds es)
    ∙ ranks_with-append none (map (ranks p) ds) (map (ranks p) es)
    ∙ ranks_with-from (ranks_on p ds) (map (ranks p) es)

-- both halves may be merged
pub front_may : (p : Plan) (ds fs bs : List ℕ) (s w : ℕ) → MayMerge p ds s w → ds ≡ fs ++ bs → MayMerge p fs s w
front_may p ds fs bs s w may is = record { wave = may.wave; daemons = λ d i. may.daemons d (subst (In d) (sym is) (append_left d fs bs i)) }

pub back_may : (p : Plan) (ds fs bs : List ℕ) (s w : ℕ) → MayMerge p ds s w → ds ≡ fs ++ bs → MayMerge p bs s w
back_may p ds fs bs s w may is = record { wave = may.wave; daemons = λ d i. may.daemons d (subst (In d) (sym is) (append_right d fs bs i)) }

-- and merged they are the whole
pub whole_is : (p : Plan) (ds fs bs : List ℕ) (s w : ℕ) (a b c : Contrib) → ds ≡ fs ++ bs → IsPartOf p fs s w a → IsPartOf p bs s w b
    → c.stream ≡ a.stream → c.wave ≡ a.wave → IsPartialMerge p c → coverage_of c ≡ union (coverage_of a) (coverage_of b) → IsPartOf p ds s w c
whole_is p ds fs bs s w a b c is front back stream wave merge covers = record {
  stream = stream ∙ front.stream;
  wave = wave ∙ front.wave;
  coverage = covers ∙ (λ i. union (front.coverage i) (back.coverage i)) ∙ sym (ranks_on-append p fs bs) ∙ ap (ranks_on p) (sym is);
  partial_merge = merge;
}
