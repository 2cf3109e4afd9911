-- Blocks are made one after another, each for a state that had none, and a table has the number of each state's block.
use Rattle.std.proofs.Common.{◌≡◌, ℕ, zero, suc, ◌++◌, ◌<◌, ◌≤◌, ◌-◌, true, false, cond, eqb, List, [], ◌∷◌, length, get_or, set, map, refl, sym, ap, ◌∙◌, subst, inl, inr, arith}
use Rattle.std.specs.List.{AllByRecursion, list_any}
use Rattle.std.specs.Ordering.{nat_cmp, eq_by_cmp}
use Rattle.std.proofs.lemmas.Bool.{true≢false, cases_eq, eq-eqb, ne_eqb, or_right}
use Rattle.std.proofs.lemmas.List.{get_or_append_left, get_or-set_same, get_or-set_other, length-append, length-set, map-append}
use Rattle.std.proofs.Math.Seq.{get_or-append_seam, map-set_same}
use Rattle.rank_set.specs.Ranks.{Ranks, none, has, in_order, union, is_empty, has-in_order, has-union}
use Rattle.rank_set.specs.Runs.{ranks_between}
use Rattle.rank_set.proofs.RunSets.{between_in}
use Rattle.equiv_class.specs.States.{with_state}
use Rattle.equiv_class.specs.StateBlocks.{empty_block, more_ranks, number_of, with_block, with_number, with_run}
use Rattle.equiv_class.specs.declared.rank_blocks.Block.{Block}

-- the ranks of the block that has a number; none for number 0
abbrev pub ranks_of : List Block → ℕ → Ranks
ranks_of blocks zero = none
ranks_of blocks (suc i) = (get_or blocks i (empty_block 0)).ranks

-- the ranks of a state so far
abbrev pub ranks_at : List ℕ → List Block → ℕ → Ranks
ranks_at numbers blocks k = ranks_of blocks (get_or numbers k 0)

-- the states of blocks
abbrev pub states_of : List Block → List ℕ
states_of blocks = map (λ (b : Block). b.state) blocks

-- each block has ranks, and its number is that of its state
pub record IsTable (numbers : List ℕ) (blocks : List Block) : Type 0 where
  pub within : (k : ℕ) → get_or numbers k 0 ≤ length blocks
  pub back : (i : ℕ) → i < length blocks → get_or numbers (get_or blocks i (empty_block 0)).state 0 ≡ suc i
  pub forth : (k i : ℕ) → get_or numbers k 0 ≡ suc i → (get_or blocks i (empty_block 0)).state ≡ k
  pub some : (i : ℕ) → i < length blocks → is_empty (get_or blocks i (empty_block 0)).ranks ≡ false

-- it is so of lists that are equal
pub IsTable-same : (numbers numbers' : List ℕ) (blocks blocks' : List Block) → numbers' ≡ numbers → blocks' ≡ blocks → IsTable numbers blocks → IsTable numbers' blocks'
IsTable-same numbers numbers' blocks blocks' e f h = subst (λ ns. IsTable ns blocks') (sym e) (subst (IsTable numbers) (sym f) h)

-- a run of ranks has gone to the block of their state
pub record IsNextTable (numbers : List ℕ) (blocks : List Block) (own first last : ℕ) (numbers' : List ℕ) (blocks' : List Block) : Type 0 where
  pub table : IsTable numbers' blocks'
  pub own_ranks : ranks_at numbers' blocks' own ≡ union (ranks_at numbers blocks own) (ranks_between first last)
  pub others : (k : ℕ) → (k ≡ own → ⊥) → ranks_at numbers' blocks' k ≡ ranks_at numbers blocks k
  pub order : states_of blocks' ≡ with_state (ranks_at numbers blocks own) own (states_of blocks)

-- a set that has a member is not empty
some_member : (xs : List ℕ) (r : ℕ) → list_any (eq_by_cmp nat_cmp r) xs ≡ true → eqb (length xs) 0 ≡ false
some_member [] r one = absurd (true≢false (sym one))
some_member (x ∷ xs) r one = ne_eqb (suc (length xs)) 0 (λ e. omega (arith, e))

-- a union with a run is not empty
some_ranks : (s : Ranks) (first last : ℕ) → first ≤ last → is_empty (union s (ranks_between first last)) ≡ false
some_ranks s first last some =
    some_member (in_order (union s (ranks_between first last))) first
    (sym (has-in_order (union s (ranks_between first last)) first) ∙ has-union s (ranks_between first last) first ∙ or_right (has s first) _ (between_in first last first (omega arith) some))

-- what has changed: block `j` is that of the state, and the others are as they were
record IsChanged (numbers : List ℕ) (blocks : List Block) (own first last j : ℕ) (numbers' : List ℕ) (blocks' : List Block) (old : Block) : Type 0 where
  here : get_or numbers' own 0 ≡ suc j
  elsewhere : (k : ℕ) → (k ≡ own → ⊥) → get_or numbers' k 0 ≡ get_or numbers k 0
  apart : (k : ℕ) → (k ≡ own → ⊥) → get_or numbers k 0 ≡ suc j → ⊥
  was : (i : ℕ) → get_or numbers own 0 ≡ suc i → i ≡ j
  inside : j < length blocks'
  grown : length blocks ≤ length blocks'
  earlier : (i : ℕ) → i < length blocks' → (i ≡ j → ⊥) → i < length blocks
  old_state : old.state ≡ own
  old_ranks : old.ranks ≡ ranks_at numbers blocks own
  block : get_or blocks' j (empty_block 0) ≡ more_ranks first last old
  kept : (i : ℕ) → i < length blocks → (i ≡ j → ⊥) → get_or blocks' i (empty_block 0) ≡ get_or blocks i (empty_block 0)

module _ (numbers : List ℕ) (blocks : List Block) (own first last j : ℕ) (numbers' : List ℕ) (blocks' : List Block) (old : Block) (some : first ≤ last) (h : IsTable numbers blocks)
    (c : IsChanged numbers blocks own first last j numbers' blocks' old) where
  block_state : (get_or blocks' j (empty_block 0)).state ≡ own
  block_state = ap (λ (b : Block). b.state) c.block ∙ c.old_state

  next_within : (k : ℕ) → get_or numbers' k 0 ≤ length blocks'
  next_within k = elim (cases_eq k own) [
    | inl is ↦ omega (arith, ap (λ x. get_or numbers' x 0) is, c.here, c.inside)
    | inr ne ↦ omega (arith, c.elsewhere k ne, h.within k, c.grown)
  ]

  next_back : (i : ℕ) → i < length blocks' → get_or numbers' (get_or blocks' i (empty_block 0)).state 0 ≡ suc i
  next_back i lt = elim (cases_eq i j) [
    | inl is ↦ ap (λ x. get_or numbers' (get_or blocks' x (empty_block 0)).state 0) is ∙ ap (λ k. get_or numbers' k 0) block_state ∙ c.here ∙ ap suc (sym is)
    | inr ne ↦
        let low : i < length blocks = c.earlier i lt ne in
        let k : ℕ = (get_or blocks i (empty_block 0)).state in
        ap (λ (b : Block). get_or numbers' b.state 0) (c.kept i low ne)
        ∙ c.elsewhere k (λ is_own. ne (c.was i (ap (λ x. get_or numbers x 0) (sym is_own) ∙ h.back i low))) ∙ h.back i low
  ]

  next_forth : (k i : ℕ) → get_or numbers' k 0 ≡ suc i → (get_or blocks' i (empty_block 0)).state ≡ k
  next_forth k i e = elim (cases_eq k own) [
    | inl is ↦
        let is_j : i ≡ j = omega (arith, e, ap (λ x. get_or numbers' x 0) is, c.here) in
        ap (λ x. (get_or blocks' x (empty_block 0)).state) is_j ∙ block_state ∙ sym is
    | inr ne ↦
        let was : get_or numbers k 0 ≡ suc i = sym (c.elsewhere k ne) ∙ e in
        ap (λ (b : Block). b.state) (c.kept i (omega (arith, was, h.within k)) (λ is_j. c.apart k ne (was ∙ ap suc is_j))) ∙ h.forth k i was
  ]

  next_some : (i : ℕ) → i < length blocks' → is_empty (get_or blocks' i (empty_block 0)).ranks ≡ false
  next_some i lt = elim (cases_eq i j) [
    | inl is ↦ ap (λ x. is_empty (get_or blocks' x (empty_block 0)).ranks) is ∙ ap (λ (b : Block). is_empty b.ranks) c.block ∙ some_ranks old.ranks first last some
    | inr ne ↦ ap (λ (b : Block). is_empty b.ranks) (c.kept i (c.earlier i lt ne) ne) ∙ h.some i (c.earlier i lt ne)
  ]

  other_ranks : (k : ℕ) → (k ≡ own → ⊥) → (n : ℕ) → get_or numbers k 0 ≡ n → ranks_of blocks' n ≡ ranks_of blocks n
  other_ranks k ne zero e = refl
  other_ranks k ne (suc i) e = ap (λ (b : Block). b.ranks) (c.kept i (omega (arith, e, h.within k)) (λ is_j. c.apart k ne (e ∙ ap suc is_j)))

  next_table : states_of blocks' ≡ with_state (ranks_at numbers blocks own) own (states_of blocks) → IsNextTable numbers blocks own first last numbers' blocks'
  next_table order = record {
    table = record { within = next_within; back = next_back; forth = next_forth; some = next_some };
    own_ranks = ap (ranks_of blocks') c.here ∙ ap (λ (b : Block). b.ranks) c.block ∙ ap (λ s. union s (ranks_between first last)) c.old_ranks;
    others = λ k ne. ap (ranks_of blocks') (c.elsewhere k ne) ∙ other_ranks k ne (get_or numbers k 0) refl;
    order = order;
  }

-- blocks with more ranks in one of them
abbrev run_at : ℕ → ℕ → List Block → ℕ → List Block
run_at first last blocks i = set blocks i (more_ranks first last (get_or blocks i (empty_block 0)))

-- their states are the same
same_states : (first last : ℕ) (blocks : List Block) (i : ℕ) → states_of (run_at first last blocks i) ≡ states_of blocks
same_states first last blocks i = map-set_same (λ (b : Block). b.state) blocks i (more_ranks first last (get_or blocks i (empty_block 0))) (empty_block 0) refl

module _ (numbers : List ℕ) (blocks : List Block) (own first last : ℕ) (inside : own < length numbers) (some : first ≤ last) (h : IsTable numbers blocks) where
  abbrev longer : List Block
  longer = blocks ++ empty_block own ∷ []

  one_longer : length longer ≡ suc (length blocks)
  one_longer = length-append blocks (empty_block own ∷ []) ∙ omega arith

  abbrev numbered : List ℕ
  numbered = set numbers own (suc (length blocks))

  -- the state had no block
  new_block : get_or numbers own 0 ≡ 0 → IsNextTable numbers blocks own first last numbered (run_at first last longer (length blocks))
  new_block e = next_table numbers blocks own first last (length blocks) numbered (run_at first last longer (length blocks)) (empty_block own) some h
      (record {
        here = get_or-set_same numbers own (suc (length blocks)) 0 inside;
        elsewhere = λ k ne. get_or-set_other numbers own k (suc (length blocks)) 0 ne;
        apart = λ k ne is. omega (arith, is, h.within k);
        was = λ i is. absurd (omega (arith, is, e));
        inside = omega (arith, one_longer, set_long);
        grown = omega (arith, one_longer, set_long);
        earlier = λ i lt ne. omega (arith, lt, ne, one_longer, set_long);
        old_state = refl;
        old_ranks = sym (ap (ranks_of blocks) e);
        block = get_or-set_same longer (length blocks) (more_ranks first last (get_or longer (length blocks) (empty_block 0))) (empty_block 0) (omega (arith, one_longer))
            ∙ ap (more_ranks first last) (get_or-append_seam blocks (empty_block own) [] (empty_block 0));
        kept = λ i lt ne. get_or-set_other longer (length blocks) i (more_ranks first last (get_or longer (length blocks) (empty_block 0))) (empty_block 0) ne
            ∙ get_or_append_left blocks (empty_block own ∷ []) (empty_block 0) i lt;
      })
      (same_states first last longer (length blocks) ∙ map-append (λ (b : Block). b.state) blocks (empty_block own ∷ [])
      ∙ sym (ap (λ b. cond b (states_of blocks ++ own ∷ []) (states_of blocks)) (ap (λ n. is_empty (ranks_of blocks n)) e ∙ eq-eqb 0 0 refl)))
    where
      set_long : length (run_at first last longer (length blocks)) ≡ length longer
      set_long = length-set longer (length blocks) (more_ranks first last (get_or longer (length blocks) (empty_block 0)))

  -- the state had block `j`
  known_block : (j : ℕ) → get_or numbers own 0 ≡ suc j → IsNextTable numbers blocks own first last numbers (run_at first last blocks j)
  known_block j e = next_table numbers blocks own first last j numbers (run_at first last blocks j) (get_or blocks j (empty_block 0)) some h
      (record {
        here = e;
        elsewhere = λ k ne. refl;
        apart = λ k ne is. ne (sym (h.forth k j is) ∙ h.forth own j e);
        was = λ i is. omega (arith, is, e);
        inside = omega (arith, low, set_long);
        grown = omega (arith, set_long);
        earlier = λ i lt ne. omega (arith, lt, set_long);
        old_state = h.forth own j e;
        old_ranks = sym (ap (ranks_of blocks) e);
        block = get_or-set_same blocks j (more_ranks first last (get_or blocks j (empty_block 0))) (empty_block 0) low;
        kept = λ i lt ne. get_or-set_other blocks j i (more_ranks first last (get_or blocks j (empty_block 0))) (empty_block 0) ne;
      })
      (same_states first last blocks j
      ∙ sym (ap (λ b. cond b (states_of blocks ++ own ∷ []) (states_of blocks)) (ap (λ n. is_empty (ranks_of blocks n)) e ∙ h.some j low)))
    where
      low : j < length blocks
      low = omega (arith, e, h.within own)

      set_long : length (run_at first last blocks j) ≡ length blocks
      set_long = length-set blocks j (more_ranks first last (get_or blocks j (empty_block 0)))

  -- the run has gone to the block of its state
  pub table_step : (numbers' : List ℕ) (blocks' blocks'' : List Block) (number : ℕ) → numbers' ≡ with_number own numbers blocks → blocks' ≡ with_block own numbers blocks → number ≡ number_of own numbers blocks
      → blocks'' ≡ with_run number first last blocks' → IsNextTable numbers blocks own first last numbers' blocks''
  table_step numbers' blocks' blocks'' number is_numbers is_blocks is_number is = by_number (get_or numbers own 0) refl
    where
      both : (ns : List ℕ) (bs : List Block) → numbers' ≡ ns → blocks'' ≡ bs → IsNextTable numbers blocks own first last ns bs → IsNextTable numbers blocks own first last numbers' blocks''
      both ns bs e f x = subst (λ ms. IsNextTable numbers blocks own first last ms blocks'') (sym e) (subst (λ cs. IsNextTable numbers blocks own first last ns cs) (sym f) x)

      by_number : (n : ℕ) → get_or numbers own 0 ≡ n → IsNextTable numbers blocks own first last numbers' blocks''
      by_number zero e =
          let none_yet : eqb (get_or numbers own 0) 0 ≡ true = eq-eqb (get_or numbers own 0) 0 e in
          let number_is : number - 1 ≡ length blocks = omega (arith, is_number ∙ ap (λ b. cond b (suc (length blocks)) (get_or numbers own 0)) none_yet) in
          let blocks_is : blocks' ≡ longer = is_blocks ∙ ap (λ b. cond b longer blocks) none_yet in
          both numbered (run_at first last longer (length blocks)) (is_numbers ∙ ap (λ b. cond b numbered numbers) none_yet)
          (is ∙ (λ i. run_at first last (blocks_is i) (number_is i))) (new_block e)
      by_number (suc j) e =
          let one : eqb (get_or numbers own 0) 0 ≡ false = ne_eqb (get_or numbers own 0) 0 (λ z. absurd (omega (arith, z, e))) in
          let number_is : number - 1 ≡ j = omega (arith, e, is_number ∙ ap (λ b. cond b (suc (length blocks)) (get_or numbers own 0)) one) in
          let blocks_is : blocks' ≡ blocks = is_blocks ∙ ap (λ b. cond b longer blocks) one in
          both numbers (run_at first last blocks j) (is_numbers ∙ ap (λ b. cond b numbered numbers) one)
          (is ∙ (λ i. run_at first last (blocks_is i) (number_is i))) (known_block j e)

-- at first there is no block
pub table_start : (numbers : List ℕ) (blocks : List Block) → ((k : ℕ) → get_or numbers k 0 ≡ 0) → blocks ≡ [] → IsTable numbers blocks
table_start numbers blocks start is = record {
  within = λ k. omega (arith, start k);
  back = λ i lt. absurd (omega (arith, lt, ap length is));
  forth = λ k i e. absurd (omega (arith, e, start k));
  some = λ i lt. absurd (omega (arith, lt, ap length is));
}

pub ranks_start : (numbers : List ℕ) (blocks : List Block) → ((k : ℕ) → get_or numbers k 0 ≡ 0) → (k : ℕ) → ranks_at numbers blocks k ≡ none
ranks_start numbers blocks start k = ap (ranks_of blocks) (start k)

-- what holds at each index holds of each block
all_from_each : (Q : Block → Type 0) (blocks : List Block) → ((i : ℕ) → i < length blocks → Q (get_or blocks i (empty_block 0))) → AllByRecursion Q blocks
all_from_each Q [] each = tt
all_from_each Q (b ∷ bs) each = (each 0 (omega arith), all_from_each Q bs (λ i lt. each (suc i) (omega (arith, lt))))

-- each block has the ranks of its state
pub ranks_of_blocks : (numbers : List ℕ) (blocks : List Block) (of_state : ℕ → Ranks) → IsTable numbers blocks → ((k : ℕ) → ranks_at numbers blocks k ≡ of_state k) → AllByRecursion (λ (b : Block). b.ranks ≡ of_state b.state) blocks
ranks_of_blocks numbers blocks of_state h all =
    all_from_each (λ (b : Block). b.ranks ≡ of_state b.state) blocks (λ i lt. ap (ranks_of blocks) (sym (h.back i lt)) ∙ all (get_or blocks i (empty_block 0)).state)
