-- Classes, by the order of states.
use Rattle.std.proofs.Common.{◌≡◌, ℕ, ◌<◌, not, ◌&&◌, eqb, ltb, List, [], ◌∷◌, length, get_or, map, drop, refl, sym, ap, ◌∙◌, subst, arith}
use Rattle.std.specs.List.{AllByRecursion, list_any, filter}
use Rattle.std.proofs.Math.Bool.{and_comm}
use Rattle.std.proofs.lemmas.Simd.{map-map}
use Rattle.rank_set.specs.Ranks.{Ranks, in_order, those}
use Rattle.rank_set.proofs.Ordered.{map_on}
use Rattle.call_path.specs.Path.{Path}
use Rattle.call_path.specs.Pairs.{Pairs}
use Rattle.equiv_class.specs.Classes.{classes_of, equivalent, is_least, paths_of}
use Rattle.equiv_class.specs.Origins.{LeadToStates, paths_before}
use Rattle.equiv_class.specs.SeenPaths.{Lists}
use Rattle.equiv_class.specs.StateBlocks.{HasStates, block_view}
use Rattle.equiv_class.specs.States.{AreStates, is_first, states_in_order}
use Rattle.equiv_class.specs.declared.rank_blocks.Block.{Block}
use Rattle.equiv_class.specs.declared.rank_blocks.Blocks.{Blocks}
use Rattle.equiv_class.specs.declared.states.Origin.{Origin}
use Rattle.equiv_class.proofs.Filling.{turned}

-- the first of a state is the least of its class
first_is_least : (P : Pairs) (es : List (Path × Ranks)) (C : Ranks) (states : List ℕ) → AreStates states es → Lists P es → (r : ℕ) → is_first states C r ≡ is_least P C r
first_is_least P es C states same lists r =
    let each : (s : ℕ) → (eqb (get_or states s 0) (get_or states r 0) && ltb s r) ≡ (ltb s r && equivalent P r s) = λ s.
    and_comm (eqb (get_or states s 0) (get_or states r 0)) (ltb s r)
    ∙ ap (λ b. ltb s r && b) (turned (get_or states s 0) (get_or states r 0) ∙ same r s ∙ sym (lists.same_ranks r s)) in
    (λ i. not (list_any (λ s. each s i) (in_order C)))

-- the ranks that have a state
abbrev pub ranks_of_state : List ℕ → Ranks → ℕ → Ranks
ranks_of_state states C k = those (λ s. eqb k (get_or states s 0)) C

-- the ranks of a state, and the paths that led to it
abbrev class_of_state : List (Path × Ranks) → List Origin → Ranks → List ℕ → ℕ → Ranks × List Path
class_of_state es origins C states k = (ranks_of_state states C k, paths_before es origins k)

-- blocks with the ranks of their states, by their states
by_states : (es : List (Path × Ranks)) (origins : List Origin) (C : Ranks) (states : List ℕ) (blocks : List Block) → AllByRecursion (λ (b : Block). b.ranks ≡ ranks_of_state states C b.state) blocks
    → map (block_view es origins) blocks ≡ map (class_of_state es origins C states) (map (λ (b : Block). b.state) blocks)
by_states es origins C states [] h = refl
by_states es origins C states (b ∷ bs) h = (λ i. (h.0 i, paths_before es origins b.state) ∷ by_states es origins C states bs h.1 i)

-- the blocks of the states in order are the classes
pub classes_by_states : (P : Pairs) (es : List (Path × Ranks)) (C : Ranks) (states : List ℕ) (origins : List Origin) (blocks : List Block) → AreStates states es → LeadToStates es states origins
    → AllByRecursion (λ (b : Block). b.ranks ≡ ranks_of_state states C b.state) blocks
    → map (λ (b : Block). b.state) blocks ≡ states_in_order states C → Lists P es → map (block_view es origins) blocks ≡ classes_of P C
unfolding classes_of
classes_by_states P es C states origins blocks same lead filled is_order lists =
    let firsts : List ℕ = filter (is_first states C) (in_order C) in
    let class_at : ℕ → Ranks × List Path = λ r. (those (equivalent P r) C, paths_of P r) in
    let of_state : ℕ → Ranks × List Path = class_of_state es origins C states in
    by_states es origins C states blocks filled
    ∙ ap (map of_state) is_order
    ∙ map-map of_state (λ r. get_or states r 0) firsts
    ∙ map_on (λ r. of_state (get_or states r 0)) class_at firsts (λ r one. each r)
    ∙ (λ i. map class_at (filter (λ r. first_is_least P es C states same lists r i) (in_order C)))
  where
    each : (r : ℕ) → class_of_state es origins C states (get_or states r 0) ≡ (those (equivalent P r) C, paths_of P r)
    each r =
        let ranks : ranks_of_state states C (get_or states r 0) ≡ those (equivalent P r) C = (λ i. those (λ s. (same r s ∙ sym (lists.same_ranks r s)) i) C) in
        (λ i. (ranks i, (lead.paths r ∙ sym (lists.paths_agree r)) i))

-- each state in the order is that of a rank
all_mapped : (Q : ℕ → Type 0) (f : ℕ → ℕ) → ((r : ℕ) → Q (f r)) → (xs : List ℕ) (bs : List Block) → map (λ (b : Block). b.state) bs ≡ map f xs → AllByRecursion (λ (b : Block). Q b.state) bs
all_mapped Q f each xs [] is = tt
all_mapped Q f each [] (b ∷ bs) is = absurd (omega (arith, ap length is))
all_mapped Q f each (x ∷ xs) (b ∷ bs) is = (subst Q (sym (ap (λ ys. get_or ys 0 0) is)) (each x), all_mapped Q f each xs bs (ap (drop 1) is))

-- each block's state has an origin
pub has_states : (es : List (Path × Ranks)) (C : Ranks) (states : List ℕ) (blocks : Blocks) → LeadToStates es states blocks.origins.items
    → map (λ (b : Block). b.state) blocks.all.items ≡ states_in_order states C → HasStates blocks
has_states es C states blocks lead is_order = record {
  in_origins = all_mapped (λ k. k < length blocks.origins.items) (λ r. get_or states r 0) lead.within (filter (is_first states C) (in_order C)) blocks.all.items is_order;
  backward = lead.backward;
}
