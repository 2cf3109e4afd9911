-- The job's nodes by number.
use Rattle.std.proofs.Common.{◌≡◌, ℕ, zero, suc, ◌+◌, ◌-◌, ◌*◌, ◌/◌, ◌≤◌, ◌<◌, inl, inr, Bool, true, false, not, ◌&&◌, nat_eq, List, [], ◌∷◌, ◌++◌, length, map, Option, Some, refl, sym, ap, ◌∙◌, arith, append_assoc, append-nil, length-append, ◌⊎◌, rules}
use Rattle.std.specs.List.{range_with_len, AllByRecursion, list_all}
use Rattle.std.proofs.lemmas.Bool.Decides.{nat_tests}
use Rattle.std.proofs.lemmas.List.FromFn.{length-map-range_with_len}
use Rattle.overlay_setup.specs.Names.{number_of}
use Rattle.overlay_setup.specs.Trees.{is_daemon, is_other}
use Rattle.stat_plan.proofs.Elements.{all_append}
use Rattle.generated_job.specs.Texts.{numbers, front_name, middle_name, daemon_name}
use Rattle.generated_job.specs.Job.{nodes_with}
use Rattle.generated_job.proofs.Rows.{row_append, row_all}
use Rattle.generated_job.proofs.Names.{none_append, number_seam, none_of_row}
use Rattle.generated_job.proofs.Tokens.{and_all}
use Rattle.generated_job.proofs.Topology.{middles_differ, daemons_differ, no_daemon_before}

-- how many nodes there are
pub length-parents : (size count : ℕ) → length (nodes_with size count).parents ≡ 1 + count + size
length-parents size count = omega (arith, length-append (map (λ i. Some 0) (numbers count)) (map (λ j. Some (1 + j / 16)) (numbers size)), length-map-range_with_len {X = Option ℕ} (λ i. Some 0) 0 count, length-map-range_with_len {X = Option ℕ} (λ j. Some (1 + j / 16)) 0 size)

-- ---- numbers of names

pub middle_number : (size count k : ℕ) → k < count → count ≤ 65536 → number_of (middle_name k) (nodes_with size count).names ≡ Some (1 + k)
middle_number size count k low few =
    ap (number_of (middle_name k)) (
    ap (λ n. front_name ∷ map middle_name (numbers n) ++ map daemon_name (numbers size)) parts
    ∙ ap (λ t. front_name ∷ t ++ map daemon_name (numbers size)) (sym (row_append middle_name 0 k k (suc (count - k - 1)) (omega arith)))
    ∙ append_assoc (front_name ∷ map middle_name (range_with_len 0 k)) (map middle_name (range_with_len k (suc (count - k - 1)))) (map daemon_name (numbers size)))
    ∙ number_seam (middle_name k) (front_name ∷ map middle_name (range_with_len 0 k)) (map middle_name (range_with_len (k + 1) (count - k - 1)) ++ map daemon_name (numbers size)) (refl, none_of_row middle_name 65536 middles_differ k 0 k (omega arith) (omega arith) (inr (omega arith)))
    ∙ (let n : suc (length (map middle_name (range_with_len 0 k))) ≡ 1 + k = omega (arith, length-map-range_with_len middle_name 0 k) in ap Some n)
  where
    parts : count ≡ k + suc (count - k - 1)
    parts = omega arith

pub daemon_number : (size count j : ℕ) → j < size → size ≤ 65536 → number_of (daemon_name j) (nodes_with size count).names ≡ Some (1 + count + j)
daemon_number size count j low few =
    ap (number_of (daemon_name j)) (
    ap (λ n. front_name ∷ map middle_name (numbers count) ++ map daemon_name (numbers n)) parts
    ∙ ap (λ t. front_name ∷ map middle_name (numbers count) ++ t) (sym (row_append daemon_name 0 j j (suc (size - j - 1)) (omega arith)))
    ∙ sym (append_assoc (front_name ∷ map middle_name (numbers count)) (map daemon_name (range_with_len 0 j)) (map daemon_name (range_with_len j (suc (size - j - 1))))))
    ∙ number_seam (daemon_name j) ((front_name ∷ map middle_name (numbers count)) ++ map daemon_name (range_with_len 0 j)) (map daemon_name (range_with_len (j + 1) (size - j - 1))) (none_append (daemon_name j) (front_name ∷ map middle_name (numbers count)) (map daemon_name (range_with_len 0 j)) (no_daemon_before j count) (none_of_row daemon_name 65536 daemons_differ j 0 j (omega arith) (omega arith) (inr (omega arith))))
    ∙ (let n : length ((front_name ∷ map middle_name (numbers count)) ++ map daemon_name (range_with_len 0 j)) ≡ 1 + count + j = omega (arith, length-append (front_name ∷ map middle_name (numbers count)) (map daemon_name (range_with_len 0 j)), length-map-range_with_len middle_name 0 count, length-map-range_with_len daemon_name 0 j) in ap Some n)
  where
    parts : size ≡ j + suc (size - j - 1)
    parts = omega arith

-- ---- which nodes are daemons

all_from : {X : Type 0} (p : X → Bool) (xs : List X) → AllByRecursion (λ x. p x ≡ true) xs → list_all p xs ≡ true
all_from p [] all = refl
all_from p (x ∷ xs) all = and_all (p x) (list_all p xs) all.0 (all_from p xs all.1)

and_second : (a b : Bool) → b ≡ false → (a && b) ≡ false
and_second true b e = e
and_second false b e = refl

and_first : (a b : Bool) → a ≡ false → (a && b) ≡ false
and_first true b e = cc
and_first false b e = refl

not_second : {X : Type 0} (p : X → Bool) (xs ys : List X) → list_all p ys ≡ false → list_all p (xs ++ ys) ≡ false
not_second p [] ys e = e
not_second p (x ∷ xs) ys e = and_second (p x) (list_all p (xs ++ ys)) (not_second p xs ys e)

either : (n m : ℕ) → (n < m) ⊎ (m ≤ n)
either n m = search rules

-- a row with something that fails a test
row_not : {X : Type 0} (p : X → Bool) (f : ℕ → X) (j a n : ℕ) (ys : List X) → a ≤ j → j < a + n → p (f j) ≡ false → list_all p (map f (range_with_len a n) ++ ys) ≡ false
row_not p f j a zero ys le lt e = absurd (omega arith)
row_not p f j a (suc n) ys le lt e = by (either a j) (λ low. row_not p f j (a + 1) n ys (omega arith) (omega arith) e)
  where
    by : (a < j) ⊎ (j ≤ a) → (a < j → list_all p (map f (range_with_len (a + 1) n) ++ ys) ≡ false) → (p (f a) && list_all p (map f (range_with_len (a + 1) n) ++ ys)) ≡ false
    by (inl low) later = and_second (p (f a)) _ (later low)
    by (inr high) later = and_first (p (f a)) _ (let same : a ≡ j = omega arith in ap (λ k. p (f k)) same ∙ e)

other : (n p : ℕ) → p < n → not (nat_eq p n) ≡ true
other n p lt = grind (arith, nat_tests)

same : (n p : ℕ) → p ≡ n → not (nat_eq p n) ≡ false
same n p e = grind (arith, nat_tests)

module _ (size count : ℕ) where
  abbrev parents : List (Option ℕ)
  parents = (nodes_with size count).parents

  -- what comes behind the middle nodes is a daemon
  pub daemon_is : (n : ℕ) → size ≤ 16 * count → count < n → is_daemon parents n ≡ true
  daemon_is n few high =
      all_from (is_other n) parents (
        refl,
        all_append (λ o. is_other n o ≡ true) (map (λ i. Some 0) (numbers count)) (map (λ j. Some (1 + j / 16)) (numbers size))
            (row_all (λ o. is_other n o ≡ true) (λ i. Some 0) 0 count (λ i le lt. other n 0 (omega arith)))
            (row_all (λ o. is_other n o ≡ true) (λ j. Some (1 + j / 16)) 0 size (λ j le lt. other n (1 + j / 16) (omega arith))),
      )

  -- the front end and the middle nodes are none
  pub middle_is : (n : ℕ) → n ≤ count → 1 ≤ count → 16 * count < size + 16 → is_daemon parents n ≡ false
  middle_is zero low some few = and_second true _ (row_not (is_other 0) (λ i. Some 0) 0 0 count (map (λ j. Some (1 + j / 16)) (numbers size)) (omega arith) (omega arith) refl)
  middle_is (suc k) low some few =
      and_second true _ (not_second (is_other (suc k)) (map (λ i. Some 0) (numbers count)) (map (λ j. Some (1 + j / 16)) (numbers size))
      (ap (list_all (is_other (suc k))) (sym (append-nil (map (λ j. Some (1 + j / 16)) (numbers size)))) ∙ row_not (is_other (suc k)) (λ j. Some (1 + j / 16)) (16 * k) 0 size [] (omega arith) (omega arith) (same (suc k) (1 + 16 * k / 16) (omega arith))))
