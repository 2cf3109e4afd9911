-- Marks on nodes, and the numbers of those that are marked.
use Rattle.std.proofs.Common.{◌≡◌, ℕ, zero, suc, ◌+◌, ◌<◌, Bool, true, false, List, [], ◌∷◌, length, set, replicate, refl, sym, ap, ◌∙◌, arith}
use Rattle.std.proofs.lemmas.Bool.{lt-ltb, le-ltb, eq-eqb, ne_eqb}
use Rattle.overlay_setup.specs.NodeSets.{with_number}
use Rattle.script_text.specs.Marks.{marked_from}

-- a number that is less than those that are marked comes first
first : (marks : List Bool) (n k : ℕ) → n < k → with_number n (marked_from k marks) ≡ n ∷ marked_from k marks
first [] n k lt = refl
first (true ∷ marks) n k lt = rw (lt-ltb n k lt) refl
first (false ∷ marks) n k lt = first marks n (suc k) (omega arith)

-- a node more that is marked
pub one_marked : (marks : List Bool) (k n : ℕ) → n < length marks → with_number (k + n) (marked_from k marks) ≡ marked_from k (set marks n true)
one_marked [] k n lt = absurd (omega arith)
one_marked (true ∷ marks) k zero lt = let e : k + 0 ≡ k = omega arith in ap (λ m. with_number m (k ∷ marked_from (suc k) marks)) e ∙ rw (le-ltb k k (omega arith)) (rw (eq-eqb k k refl) refl)
one_marked (false ∷ marks) k zero lt = let e : k + 0 ≡ k = omega arith in ap (λ m. with_number m (marked_from (suc k) marks)) e ∙ first marks k (suc k) (omega arith)
one_marked (true ∷ marks) k (suc n) lt =
    let e : k + suc n ≡ suc k + n = omega arith in
    ap (λ m. with_number m (k ∷ marked_from (suc k) marks)) e
    ∙ rw (le-ltb (suc k + n) k (omega arith)) (rw (ne_eqb (suc k + n) k (λ h. absurd (omega arith))) (ap (λ t. k ∷ t) (one_marked marks (suc k) n (omega arith))))
one_marked (false ∷ marks) k (suc n) lt =
    let e : k + suc n ≡ suc k + n = omega arith in
    ap (λ m. with_number m (marked_from (suc k) marks)) e ∙ one_marked marks (suc k) n (omega arith)

-- where nothing is marked
pub none_marked : (count k : ℕ) → marked_from k (replicate count false) ≡ []
none_marked zero k = refl
none_marked (suc count) k = none_marked count (suc k)

-- a node more that is marked, where the marks begin with that of node 0
pub one_more : (marks : List Bool) (n : ℕ) → n < length marks → marked_from 0 (set marks n true) ≡ with_number n (marked_from 0 marks)
one_more marks n lt = let e : n ≡ 0 + n = omega arith in sym (ap (λ m. with_number m (marked_from 0 marks)) e ∙ one_marked marks 0 n lt)
