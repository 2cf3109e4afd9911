-- The state after one more entry, and after a longer log.
use Rattle.std.proofs.Common.{◌≡◌, ◌≢◌, ℕ, zero, suc, ◌+◌, ◌^◌, ◌<◌, ◌≤◌, ◌==◌, eq-eqb, ne_eqb, ◌⊎◌, ⊎_elim, inl, inr, Bool, true, false, cond, List, [], ◌∷◌, ◌++◌, length, replicate, set, Option, Some, None, slice_get, refl, sym, ap, ◌∙◌, subst, arith, append_assoc, length-append, length-set, le_refl}
use Rattle.std.proofs.lemmas.List.{append-nil, length-replicate}
use Rattle.std.proofs.lemmas.Option.{slice_get_within}
use mathlib.Core.List.{IsPrefix}
use mathlib.Core.Logic.{dite}
use native.Mathlib.Decide.{ℕ_discrete}
use Rattle.overlay_event.specs.declared.event.Event.{Event}
use Rattle.board_turn.specs.declared.holding.Holding.{Holding}
use Rattle.board_turn.specs.declared.view.LogEntry.{LogEntry}
use Rattle.board_turn.specs.Entries.{holding, LogState, set_out, state_after_claim, state_after_commit, state_after_entry, log_state_from, log_state, IsUnmoved, out_count}
use Rattle.overlay_event.specs.Events.{event_node}
use Rattle.board_turn.specs.Turns.{LogInvariant}

-- a list is a prefix of itself
pub prefix_self : {A : Type 0} (xs : List A) → IsPrefix xs xs
prefix_self xs = ([], append-nil xs)

-- prefixes are transitive
pub prefix_trans : {A : Type 0} (xs ys zs : List A) → IsPrefix xs ys → IsPrefix ys zs → IsPrefix xs zs
prefix_trans xs ys zs p q = (p.0 ++ q.0, sym (append_assoc xs p.0 q.0) ∙ (ap (λ w. w ++ q.0) p.1 ∙ q.1))

module _ {A : Type 0} where
  -- an item of a list with one item set is the one that was set, or the old item
  pub get_set_cases : (l : List A) (i j : ℕ) (a b : A) → slice_get (set l i a) j ≡ Some b → ((j ≡ i) × (a ≡ b)) ⊎ ((j ≢ i) × (slice_get l j ≡ Some b))
  get_set_cases [] i j a b e = absurd (cc)
  get_set_cases (x ∷ xs) zero zero a b e = inl (refl, cc)
  get_set_cases (x ∷ xs) zero (suc j) a b e = inr ((λ h. omega arith), e)
  get_set_cases (x ∷ xs) (suc i) zero a b e = inr ((λ h. omega arith), e)
  get_set_cases (x ∷ xs) (suc i) (suc j) a b e = ⊎_elim (λ t. inl (ap suc t.0, t.1)) (λ t. let n = t.0 in inr ((λ h. n (omega arith)), t.1)) (get_set_cases xs i j a b e)

  -- at the index that was set
  pub get_set_here : (l : List A) (i : ℕ) (a b : A) → slice_get l i ≡ Some b → slice_get (set l i a) i ≡ Some a
  get_set_here [] i a b e = absurd (cc)
  get_set_here (x ∷ xs) zero a b e = refl
  get_set_here (x ∷ xs) (suc i) a b e = get_set_here xs i a b e

  -- at another index
  pub get_set_else : (l : List A) (i j : ℕ) (a : A) → j ≢ i → slice_get (set l i a) j ≡ slice_get l j
  get_set_else [] i j a n = refl
  get_set_else (x ∷ xs) zero zero a n = absurd (n refl)
  get_set_else (x ∷ xs) zero (suc j) a n = refl
  get_set_else (x ∷ xs) (suc i) zero a n = refl
  get_set_else (x ∷ xs) (suc i) (suc j) a n = get_set_else xs i j a (λ e. n (ap suc e))

  -- an item of a list with one more at its end is an item of the list, or the last
  pub get_snoc : (l : List A) (a b : A) (i : ℕ) → slice_get (l ++ a ∷ []) i ≡ Some b → (slice_get l i ≡ Some b) ⊎ (a ≡ b)
  get_snoc [] a b zero e = inr (cc)
  get_snoc [] a b (suc i) e = absurd (cc)
  get_snoc (x ∷ xs) a b zero e = inl e
  get_snoc (x ∷ xs) a b (suc i) e = get_snoc xs a b i e

module _ {A : Type 0} where
  -- what a seat has out, where one seat's is set, is what was set, or what it had out
  pub out_cases : (f : ℕ → A) (k : ℕ) (o : A) (j : ℕ) (r : A) → cond (j == k) o (f j) ≡ r → ((j ≡ k) × (o ≡ r)) ⊎ ((j ≢ k) × (f j ≡ r))
  out_cases f k o j r e = dite (ℕ_discrete j k) (λ y. inl (y, subst (λ b. cond b o (f j) ≡ r) (eq-eqb j k y) e)) (λ n. inr (n, subst (λ b. cond b o (f j) ≡ r) (ne_eqb j k n) e))

  -- of the seat that was set
  pub out_here : (f : ℕ → A) (k : ℕ) (o : A) → cond (k == k) o (f k) ≡ o
  out_here f k o = subst (λ b. cond b o (f k) ≡ o) (sym (eq-eqb k k refl)) refl

  -- of another seat
  pub out_else : (f : ℕ → A) (k : ℕ) (o : A) (j : ℕ) → j ≢ k → cond (j == k) o (f j) ≡ f j
  out_else f k o j n = subst (λ b. cond b o (f j) ≡ f j) (sym (ne_eqb j k n)) refl

-- one more node is out
pub out_count-fill : (l : List (Option Holding)) (i : ℕ) (h : Holding) → slice_get l i ≡ Some None → out_count (set l i (Some h)) ≡ out_count l + 1
out_count-fill [] i h e = absurd (cc)
out_count-fill (None ∷ xs) zero h e = refl
out_count-fill (Some g ∷ xs) zero h e = absurd (cc)
out_count-fill (None ∷ xs) (suc i) h e = out_count-fill xs i h e
out_count-fill (Some g ∷ xs) (suc i) h e = ap (λ (k : ℕ). k + 1) (out_count-fill xs i h e)

-- one node less is out
pub out_count-free : (l : List (Option Holding)) (i : ℕ) (h : Holding) → slice_get l i ≡ Some (Some h) → out_count l ≡ out_count (set l i None) + 1
out_count-free [] i h e = absurd (cc)
out_count-free (None ∷ xs) zero h e = absurd (cc)
out_count-free (Some g ∷ xs) zero h e = refl
out_count-free (None ∷ xs) (suc i) h e = out_count-free xs i h e
out_count-free (Some g ∷ xs) (suc i) h e = ap (λ (k : ℕ). k + 1) (out_count-free xs i h e)

-- no more nodes are out than there are
pub out_count-le : (l : List (Option Holding)) → out_count l ≤ length l
out_count-le [] = omega arith
out_count-le (None ∷ xs) = omega (arith, out_count-le xs)
out_count-le (Some h ∷ xs) = omega (arith, out_count-le xs)

-- where all nodes are home, none is out
pub out_count-replicate : (n : ℕ) → out_count (replicate n None) ≡ 0
out_count-replicate zero = refl
out_count-replicate (suc n) = out_count-replicate n

get_none : (n i : ℕ) (o : Option Holding) → slice_get (replicate n None) i ≡ Some o → o ≡ None
get_none zero i o e = absurd (cc)
get_none (suc n) zero o e = cc
get_none (suc n) (suc i) o e = get_none n i o e

-- the holders where no node is out
pub all_none : (l : List (Option Holding)) → ((v : ℕ) → v < length l → slice_get l v ≡ Some None) → l ≡ replicate (length l) None
all_none [] h = refl
all_none (x ∷ xs) h = let e : x ≡ None = (let a : Some x ≡ Some None = h 0 (omega arith) in cc) in let t = all_none xs (λ v l. h (suc v) (omega arith)) in λ k. e k ∷ t k

-- the invariant holds of the empty log
pub invariant_start : (n : ℕ) → n < 2 ^ 32 → LogInvariant n 0 0 (log_state n [])
invariant_start n within_limit = record {
  outs_held = λ k h e. absurd (cc);
  holders_out = λ v h e. let o : Some h ≡ None = get_none n v (Some h) e in absurd (cc);
  unmoved = λ k h e. absurd (cc);
  unused = λ k l. refl;
  node_count = length-replicate n None;
  within_limit = within_limit;
  entry_count = omega (arith, out_count-replicate n);
  count_limit = omega (arith, out_count-replicate n);
}

-- a claim of a node at home, by a seat with nothing out, keeps the invariant
pub invariant_claim : (n made c : ℕ) (x : LogState) (k : ℕ) (e : Event) → LogInvariant n made c x → k ≤ made + 1 → x.outs k ≡ None → slice_get x.holders (event_node e) ≡ Some None → length x.journal < 2 ^ 62
    → LogInvariant n made (c + 1) (state_after_claim x k e)
invariant_claim n made c x k e s low free at_home under =
    let h : Holding = holding k e (length x.journal) in let here : slice_get (set x.holders (event_node e) (Some h)) (event_node e) ≡ Some (Some h) = get_set_here x.holders (event_node e) (Some h) None at_home in record {
      outs_held = λ j g o. ⊎_elim
          (λ (t : (j ≡ k) × (Some h ≡ Some g)). let same : h ≡ g = (let a = t.1 in cc) in subst (λ (z : Holding). (z.seat ≡ j) × (slice_get (set x.holders (event_node e) (Some h)) (event_node z.event) ≡ Some (Some z))) same (sym t.0, here))
          (λ (t : (j ≢ k) × (x.outs j ≡ Some g)). let old = s.outs_held j g t.1 in
          let distinct_numbers : event_node g.event ≢ event_node e = λ i. let a = old.1 in let b : slice_get x.holders (event_node g.event) ≡ Some None = ap (slice_get x.holders) i ∙ at_home in absurd (cc) in
          (old.0, get_set_else x.holders (event_node e) (event_node g.event) (Some h) distinct_numbers ∙ old.1))
          (out_cases x.outs k (Some h) j (Some g) o);
      holders_out = λ v g o. ⊎_elim
          (λ (t : (v ≡ event_node e) × (Some h ≡ Some g)). let same : h ≡ g = (let a = t.1 in cc) in subst (λ (z : Holding). (set_out x.outs k (Some h) z.seat ≡ Some z) × (event_node z.event ≡ v)) same (out_here x.outs k (Some h), sym t.0))
          (λ (t : (v ≢ event_node e) × (slice_get x.holders v ≡ Some (Some g))). let old = s.holders_out v g t.1 in
          let distinct_numbers : g.seat ≢ k = λ i. let a = old.0 in let b : x.outs g.seat ≡ None = ap x.outs i ∙ free in absurd (cc) in
          (out_else x.outs k (Some h) g.seat distinct_numbers ∙ old.0, old.1))
          (get_set_cases x.holders (event_node e) v (Some h) (Some g) o);
      unmoved = λ j g o. ⊎_elim
          (λ (t : (j ≡ k) × (Some h ≡ Some g)). let same : h ≡ g = (let a = t.1 in cc) in subst (λ (z : Holding). (z.since ≤ length x.journal) × IsUnmoved x.journal z) same
          (le_refl (length x.journal), λ i e' l at. let w = slice_get_within x.journal i e' at in absurd (omega arith)))
          (λ (t : (j ≢ k) × (x.outs j ≡ Some g)). s.unmoved j g t.1)
          (out_cases x.outs k (Some h) j (Some g) o);
      unused = λ j l. out_else x.outs k (Some h) j (λ i. omega arith) ∙ s.unused j l;
      node_count = length-set x.holders (event_node e) (Some h) ∙ s.node_count;
      within_limit = s.within_limit;
      entry_count = omega (arith, s.entry_count, out_count-fill x.holders (event_node e) h at_home);
      count_limit = let w = s.node_count in omega (arith, out_count-le (set x.holders (event_node e) (Some h)), length-set x.holders (event_node e) (Some h));
    }

-- so does a commit of what a seat has out
pub invariant_commit : (n made c : ℕ) (x : LogState) (k : ℕ) (h : Holding) → LogInvariant n made c x → x.outs k ≡ Some h → LogInvariant n made (c + 1) (state_after_commit x k h.event)
invariant_commit n made c x k h s out =
    let mine = s.outs_held k h out in let v : ℕ = event_node h.event in let long : length (x.journal ++ h.event ∷ []) ≡ length x.journal + 1 = length-append x.journal (h.event ∷ []) in
    let others : (g : Holding) → slice_get x.holders (event_node g.event) ≡ Some (Some g) → g.seat ≢ k → event_node g.event ≢ v = λ g at ne i.
    let a : slice_get x.holders (event_node g.event) ≡ Some (Some h) = ap (slice_get x.holders) i ∙ mine.1 in let same : g ≡ h = cc in ne (ap (λ (z : Holding). z.seat) same ∙ mine.0) in record {
      outs_held = λ j g o. ⊎_elim
          (λ (t : (j ≡ k) × (None ≡ Some g)). let a = t.1 in absurd (cc))
          (λ (t : (j ≢ k) × (x.outs j ≡ Some g)). let old = s.outs_held j g t.1 in let ne = t.0 in
          (old.0, get_set_else x.holders v (event_node g.event) None (others g old.1 (λ i. ne (sym old.0 ∙ i))) ∙ old.1))
          (out_cases x.outs k None j (Some g) o);
      holders_out = λ w g o. ⊎_elim
          (λ (t : (w ≡ v) × (None ≡ Some g)). let a = t.1 in absurd (cc))
          (λ (t : (w ≢ v) × (slice_get x.holders w ≡ Some (Some g))). let old = s.holders_out w g t.1 in let ne = t.0 in
          let distinct_numbers : g.seat ≢ k = λ i. let a = old.0 in let b : x.outs g.seat ≡ Some h = ap x.outs i ∙ out in let same : g ≡ h = cc in ne (sym old.1 ∙ ap (λ (z : Holding). event_node z.event) same) in
          (out_else x.outs k None g.seat distinct_numbers ∙ old.0, old.1))
          (get_set_cases x.holders v w None (Some g) o);
      unmoved = λ j g o. ⊎_elim
          (λ (t : (j ≡ k) × (None ≡ Some g)). let a = t.1 in absurd (cc))
          (λ (t : (j ≢ k) × (x.outs j ≡ Some g)). let old = s.unmoved j g t.1 in let at = s.outs_held j g t.1 in let ne = t.0 in let since = old.0 in (
            omega arith,
            λ i e l there. ⊎_elim (λ (before : slice_get x.journal i ≡ Some e). old.1 i e l before)
                (λ (last : h.event ≡ e). λ (same : event_node e ≡ event_node g.event). others g at.1 (λ z. ne (sym at.0 ∙ z)) (sym same ∙ sym (ap event_node last)))
                (get_snoc x.journal h.event e i there),
          ))
          (out_cases x.outs k None j (Some g) o);
      unused = λ j l. dite (ℕ_discrete j k) (λ i. let a : x.outs k ≡ None = subst (λ (z : ℕ). x.outs z ≡ None) i (s.unused j l) in absurd (cc)) (λ ne. out_else x.outs k None j ne ∙ s.unused j l);
      node_count = length-set x.holders v None ∙ s.node_count;
      within_limit = s.within_limit;
      entry_count = omega (arith, s.entry_count, out_count-free x.holders v h mine.1);
      count_limit = omega (arith, s.count_limit, out_count-free x.holders v h mine.1);
    }

-- the state after two logs, one after the other
pub log_state_from-append : (x : LogState) (xs ys : List LogEntry) → log_state_from x (xs ++ ys) ≡ log_state_from (log_state_from x xs) ys
log_state_from-append x [] ys = refl
log_state_from-append x (e ∷ xs) ys = log_state_from-append (state_after_entry x e) xs ys

grows_by : (b : Bool) (x : LogState) (k : ℕ) (e : Event) → IsPrefix x.journal (cond b (state_after_claim x k e) (state_after_commit x k e)).journal
grows_by true x k e = prefix_self x.journal
grows_by false x k e = (e ∷ [], refl)

grows : (x : LogState) (es : List LogEntry) → IsPrefix x.journal (log_state_from x es).journal
grows x [] = prefix_self x.journal
grows x (e ∷ es) = prefix_trans x.journal (state_after_entry x e).journal (log_state_from (state_after_entry x e) es).journal (grows_by e.claims x e.seat e.event) (grows (state_after_entry x e) es)

-- the journal of a prefix of a log is a prefix of the log's journal
pub seen_journal_grows : (n : ℕ) (seen log : List LogEntry) → IsPrefix seen log → IsPrefix (log_state n seen).journal (log_state n log).journal
seen_journal_grows n seen log p = subst (λ (l : List LogEntry). IsPrefix (log_state n seen).journal (log_state n l).journal) p.1
    (subst (λ (z : LogState). IsPrefix (log_state n seen).journal z.journal) (sym (log_state_from-append record { journal = []; holders = replicate n None; outs = λ _. None } seen p.0)) (grows (log_state n seen) p.0))

-- the state after one more entry at the end
pub log_state-snoc : (n : ℕ) (log : List LogEntry) (e : LogEntry) → log_state n (log ++ e ∷ []) ≡ state_after_entry (log_state n log) e
log_state-snoc n log e = log_state_from-append record { journal = []; holders = replicate n None; outs = λ _. None } log (e ∷ [])
