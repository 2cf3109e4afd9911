-- The topology's text is read as the job's nodes.
use Rattle.std.proofs.Common.{◌≡◌, ◌≢◌, ℕ, zero, suc, ◌+◌, ◌-◌, ◌*◌, ◌/◌, min, ◌≤◌, ◌<◌, ◌⊎◌, inl, inr, true, false, List, [], ◌∷◌, ◌++◌, length, map, Option, None, Some, Ok, refl, sym, ap, ◌∙◌, arith, append_assoc, length-append, append-nil, add-one, codes}
use Rattle.std.specs.List.{range_with_len, AllByRecursion}
use Rattle.std.specs.Str.{bytes_eq}
use Rattle.std.proofs.lemmas.List.{map-append}
use Rattle.std.proofs.lemmas.List.FromFn.{length-map-range_with_len, map-range_with_len_more}
use Rattle.text_lines.specs.Parsing.{and_then}
use Rattle.overlay_setup.specs.Names.{IsName, number_of}
use Rattle.overlay_setup.specs.Topologies.{topology}
use Rattle.overlay_setup.specs.Trees.{parent_of}
use Rattle.topology_text.specs.declared.parser.Node.{Node}
use Rattle.topology_text.specs.declared.parser.ParserState.TheVariants.{Outside}
use Rattle.topology_text.specs.Tokens.{pieces}
use Rattle.topology_text.specs.Statements.{Parsed, with_pieces}
use Rattle.topology_text.specs.Whole.{is_within, roots_from, parents_of, first_beyond, reach_error, depth_error, roots_error, whole_error, whole, unless, nodes_of, topology_of}
use Rattle.generated_job.specs.Texts.{numbers, text_of, statement, front_name, middle_name, daemon_name, middle_count, middle_line, node_lines, topology_text}
use Rattle.generated_job.specs.Job.{nodes_with, job_nodes}
use Rattle.generated_job.proofs.Rows.{row_append, row_const, row_all, map_map}
use Rattle.generated_job.proofs.Names.{letter_name, letter_names_differ, IsNoneOf, number_none, number_seam, none_of_row, row_is_new}
use Rattle.generated_job.proofs.Statements.{parsed, node, AreNew, first_line, new_taken, known_taken}

middle_good : (i : ℕ) → i < 65536 → IsName (middle_name i)
middle_good i small = letter_name 109 i refl small

daemon_good : (j : ℕ) → j < 65536 → IsName (daemon_name j)
daemon_good j small = letter_name 100 j refl small

front_good : IsName front_name
front_good = record { host = codes "fe"; index = codes "0"; parts = refl; host_bytes = refl; has_host = omega arith; host_within_limit = omega arith; digits = refl; has_digits = omega arith; digits_within_limit = omega arith; no_leading_zero = refl }

pub middles_differ : (i j : ℕ) → i < 65536 → j < 65536 → i ≢ j → bytes_eq (middle_name i) (middle_name j) ≡ false
middles_differ = letter_names_differ 109

pub daemons_differ : (i j : ℕ) → i < 65536 → j < 65536 → i ≢ j → bytes_eq (daemon_name i) (daemon_name j) ≡ false
daemons_differ = letter_names_differ 100

-- no daemon is named as the front end or a middle node is
pub no_daemon_before : (j n : ℕ) → IsNoneOf (daemon_name j) (front_name ∷ map middle_name (numbers n))
no_daemon_before j n = (refl, row_all (λ x. bytes_eq (daemon_name j) x ≡ false) middle_name 0 n (λ i le lt. refl))

-- the front end, a middle node after its statement and before it, and a daemon
abbrev top : Node
top = node 1 None true

abbrev done : Node
done = node 1 (Some 0) true

abbrev waiting : Node
waiting = node 1 (Some 0) false

abbrev leaf : ℕ → Node
leaf j = node (2 + j / 16) (Some (1 + j / 16)) false

-- nodes where k middle nodes have begun their statements, w have not, and there are r daemons
abbrev nodes_at : ℕ → ℕ → ℕ → List Node
nodes_at k w r = (top ∷ map (λ i. done) (range_with_len 0 k)) ++ (map (λ i. waiting) (range_with_len k w) ++ map leaf (range_with_len 0 r))

-- names where there are this many middle nodes, and r daemons
abbrev names_at : ℕ → ℕ → List (List ℕ)
names_at count r = front_name ∷ map middle_name (numbers count) ++ map daemon_name (range_with_len 0 r)

length-names : (count r : ℕ) → length (names_at count r) ≡ 1 + count + r
length-names count r = omega (arith, length-append (map middle_name (numbers count)) (map daemon_name (range_with_len 0 r)), length-map-range_with_len middle_name 0 count, length-map-range_with_len daemon_name 0 r)

length-nodes : (k w r : ℕ) → length (nodes_at k w r) ≡ 1 + (k + w) + r
length-nodes k w r = omega (arith, length-append (top ∷ map (λ i. done) (range_with_len 0 k)) (map (λ i. waiting) (range_with_len k w) ++ map leaf (range_with_len 0 r)), length-append (map (λ i. waiting) (range_with_len k w)) (map leaf (range_with_len 0 r)), length-map-range_with_len (λ i. done) 0 k, length-map-range_with_len (λ i. waiting) k w, length-map-range_with_len leaf 0 r)

-- the statement of middle node k, which has the daemons r to r + c
module _ (k w c : ℕ) (few : k + suc w ≤ 16) (some : c < 16) (lines : List (List ℕ)) where
  abbrev count : ℕ
  count = k + suc w

  abbrev r : ℕ
  r = 16 * k

  abbrev before : List Node
  before = top ∷ map (λ i. done) (range_with_len 0 k)

  abbrev after : List Node
  after = map (λ i. waiting) (range_with_len (k + 1) w) ++ map leaf (range_with_len 0 r)

  known : number_of (middle_name k) (names_at count r) ≡ Some (1 + k)
  known =
      ap (number_of (middle_name k)) (
      ap (λ t. front_name ∷ t ++ map daemon_name (range_with_len 0 r)) (sym (row_append middle_name 0 k k (suc w) (omega arith)))
      ∙ append_assoc (front_name ∷ map middle_name (range_with_len 0 k)) (map middle_name (range_with_len k (suc w))) (map daemon_name (range_with_len 0 r)))
      ∙ number_seam (middle_name k) (front_name ∷ map middle_name (range_with_len 0 k)) (map middle_name (range_with_len (k + 1) w) ++ map daemon_name (range_with_len 0 r)) (refl, none_of_row middle_name 65536 middles_differ k 0 k (omega arith) (omega arith) (inr (omega arith)))
      ∙ (let n : suc (length (map middle_name (range_with_len 0 k))) ≡ 1 + k = omega (arith, length-map-range_with_len middle_name 0 k) in ap Some n)

  fresh : AreNew (names_at count r) (map daemon_name (range_with_len r (suc c)))
  fresh = row_is_new daemon_name 65536 daemons_differ (front_name ∷ map middle_name (numbers count)) (λ j low. no_daemon_before j count) r (suc c) (omega arith)

  names_after : names_at count r ++ map daemon_name (range_with_len r (suc c)) ≡ names_at count (r + suc c)
  names_after =
      append_assoc (front_name ∷ map middle_name (numbers count)) (map daemon_name (range_with_len 0 r)) (map daemon_name (range_with_len r (suc c)))
      ∙ ap (λ t. front_name ∷ map middle_name (numbers count) ++ t) (row_append daemon_name 0 r r (suc c) (omega arith))

  leaves_after : map leaf (range_with_len 0 r) ++ map (λ _. node (2 + k) (Some (1 + k)) false) (map daemon_name (range_with_len r (suc c))) ≡ map leaf (range_with_len 0 (r + suc c))
  leaves_after =
      ap (λ t. map leaf (range_with_len 0 r) ++ t) (sym (row_const leaf daemon_name (node (2 + k) (Some (1 + k)) false) r (suc c) (λ j le lt. let q : j / 16 ≡ k = omega arith in ap (λ q. node (2 + q) (Some (1 + q)) false) q)))
      ∙ row_append leaf 0 r r (suc c) (omega arith)

  nodes_after : (before ++ done ∷ after) ++ map (λ _. node (2 + k) (Some (1 + k)) false) (map daemon_name (range_with_len r (suc c))) ≡ nodes_at (k + 1) w (r + suc c)
  nodes_after =
      append_assoc before (done ∷ after) _
      ∙ sym (append_assoc before (done ∷ []) (after ++ map (λ _. node (2 + k) (Some (1 + k)) false) (map daemon_name (range_with_len r (suc c)))))
      ∙ (λ i. (top ∷ sym (map-range_with_len_more (λ i. done) 0 k k (omega arith)) i) ++ (append_assoc (map (λ i. waiting) (range_with_len (k + 1) w)) (map leaf (range_with_len 0 r)) (map (λ _. node (2 + k) (Some (1 + k)) false) (map daemon_name (range_with_len r (suc c)))) ∙ ap (λ t. map (λ i. waiting) (range_with_len (k + 1) w) ++ t) leaves_after) i)

  statement_taken : with_pieces (parsed (names_at count r) (nodes_at k (suc w) r) Outside) (pieces (2 + k) 0 (text_of (statement (middle_name k) (map daemon_name (range_with_len r (suc c))) ∷ lines))) ≡ with_pieces (parsed (names_at count (r + suc c)) (nodes_at (k + 1) w (r + suc c)) Outside) (pieces (2 + (k + 1)) 0 (text_of lines))
  statement_taken =
      ap (with_pieces (parsed (names_at count r) (nodes_at k (suc w) r) Outside)) (first_line (2 + k) (middle_name k) (map daemon_name (range_with_len r (suc c))) lines (middle_good k (omega arith)) (row_all IsName daemon_name r (suc c) (λ j le lt. daemon_good j (omega arith))))
      ∙ known_taken (2 + k) (1 + k) (middle_name k) (daemon_name r) (map daemon_name (range_with_len (r + 1) c)) (names_at count r) before waiting after (pieces (suc (2 + k)) 0 (text_of lines)) known
      (omega (arith, length-map-range_with_len (λ (i : ℕ). done) 0 k)) refl
      (length-names count r ∙ (let e : 1 + count + r ≡ 1 + (k + suc w) + r = omega arith in e) ∙ sym (length-nodes k (suc w) r))
      (omega (arith, length-names count r, length-map-range_with_len daemon_name r (suc c))) fresh
      ∙ (let line : suc (2 + k) ≡ 2 + (k + 1) = omega arith in (λ i. with_pieces (parsed (names_after i) (nodes_after i) Outside) (pieces (line i) 0 (text_of lines))))

ends : (s : Parsed) (line : ℕ) → s.state ≡ Outside → with_pieces s (pieces line 0 []) ≡ Ok s
unfolding pieces with_pieces
ends s line outside = rw outside refl

module _ (size : ℕ) (few : size ≤ 256) where
  -- the statements of the middle nodes from k on are taken
  abbrev RowsTaken : ℕ → ℕ → Type 0
  RowsTaken w k = with_pieces (parsed (names_at (k + w) (min (16 * k) size)) (nodes_at k w (min (16 * k) size)) Outside) (pieces (2 + k) 0 (text_of (map (middle_line size) (range_with_len k w)))) ≡ Ok (parsed (names_at (k + w) size) (nodes_at (k + w) 0 size) Outside)

  one_row : (w k : ℕ) → k + suc w ≤ 16 → size ≤ 16 * (k + suc w) → 16 * (k + suc w) < size + 16 → (c : ℕ) → min 16 (size - 16 * k) ≡ c → (k + 1 + w ≤ 16 → size ≤ 16 * (k + 1 + w) → 16 * (k + 1 + w) < size + 16 → RowsTaken w (k + 1)) → RowsTaken (suc w) k
  one_row w k low all some zero e later = absurd (omega arith)
  one_row w k low all some (suc c) e later =
      (let r : min (16 * k) size ≡ 16 * k = omega arith in (λ i. with_pieces (parsed (names_at (k + suc w) (r i)) (nodes_at k (suc w) (r i)) Outside) (pieces (2 + k) 0 (text_of (statement (middle_name k) (map daemon_name (range_with_len (16 * k) (e i))) ∷ map (middle_line size) (range_with_len (k + 1) w))))))
      ∙ statement_taken k w c low (omega arith) (map (middle_line size) (range_with_len (k + 1) w))
      ∙ (let r : 16 * k + suc c ≡ min (16 * (k + 1)) size = omega arith in let n : k + suc w ≡ k + 1 + w = omega arith in (λ i. with_pieces (parsed (names_at (n i) (r i)) (nodes_at (k + 1) w (r i)) Outside) (pieces (2 + (k + 1)) 0 (text_of (map (middle_line size) (range_with_len (k + 1) w))))))
      ∙ later (omega arith) (omega arith) (omega arith)
      ∙ (let n : k + 1 + w ≡ k + suc w = omega arith in (λ i. Ok (parsed (names_at (n i) size) (nodes_at (n i) 0 size) Outside)))

  rows_taken : (w k : ℕ) → k + w ≤ 16 → size ≤ 16 * (k + w) → 16 * (k + w) < size + 16 → RowsTaken w k
  rows_taken zero k low all some =
      ends _ (2 + k) refl
      ∙ (let r : min (16 * k) size ≡ size = omega arith in let n : k ≡ k + 0 = omega arith in (λ i. Ok (parsed (names_at (k + 0) (r i)) (nodes_at (n i) 0 (r i)) Outside)))
  rows_taken (suc w) k low all some = one_row w k low all some (min 16 (size - 16 * k)) refl (rows_taken w (k + 1))

-- ---- the whole file

-- each node's parent
abbrev job_parents : ℕ → ℕ → List (Option ℕ)
job_parents size count = None ∷ map (λ i. Some 0) (numbers count) ++ map (λ j. Some (1 + j / 16)) (numbers size)

parents_are : (size count : ℕ) → parents_of (nodes_at count 0 size) ≡ job_parents size count
parents_are size count =
    map-append (λ x. x.parent) (top ∷ map (λ i. done) (range_with_len 0 count)) (map leaf (range_with_len 0 size))
    ∙ (λ i. None ∷ map_map (λ (x : Node). x.parent) (λ i. done) (range_with_len 0 count) i ++ map_map (λ (x : Node). x.parent) leaf (range_with_len 0 size) i)

-- ---- no error of the whole text

no_roots : (f : ℕ → ℕ) (n : ℕ) (xs : List ℕ) (ys : List (Option ℕ)) → ((m : ℕ) → roots_from m ys ≡ []) → roots_from n (map (λ x. Some (f x)) xs ++ ys) ≡ []
no_roots f n [] ys none = none n
no_roots f n (x ∷ xs) ys none = no_roots f (suc n) xs ys none

one_root : (size count : ℕ) → roots_from 0 (job_parents size count) ≡ 0 ∷ []
one_root size count = ap (λ t. 0 ∷ t) (no_roots (λ i. 0) 1 (numbers count) (map (λ j. Some (1 + j / 16)) (numbers size)) (λ m. ap (roots_from m) (sym (append-nil (map (λ j. Some (1 + j / 16)) (numbers size)))) ∙ no_roots (λ j. 1 + j / 16) m (numbers size) [] (λ m. refl)))

-- a node with a parent is one link further from the root than its parent
within_parent : (parents : List (Option ℕ)) (n p links : ℕ) → parent_of parents n ≡ Some p → is_within parents (links + 1) n ≡ is_within parents links p
unfolding is_within
within_parent parents n p links e = rw (add-one links) (rw (e, is_within) refl)

-- a node without a parent is within any number of links
within_root : (parents : List (Option ℕ)) (n links : ℕ) → parent_of parents n ≡ None → is_within parents links n ≡ true
unfolding is_within
within_root parents n zero e = rw e refl
within_root parents n (suc links) e = rw (e, is_within) refl

-- a node's parent is none, the front end or a middle node
abbrev IsSmall : ℕ → Option ℕ → Type 0
IsSmall count o = (o ≡ None) ⊎ ((p : ℕ) × ((o ≡ Some p) × (p ≤ count)))

at_all : (P : Option ℕ → Type 0) (os : List (Option ℕ)) (n : ℕ) → P None → AllByRecursion P os → P (parent_of os n)
at_all P [] n none all = none
at_all P (o ∷ os) zero none all = all.0
at_all P (o ∷ os) (suc n) none all = at_all P os n none all.1

all_both : (P : Option ℕ → Type 0) (xs ys : List (Option ℕ)) → AllByRecursion P xs → AllByRecursion P ys → AllByRecursion P (xs ++ ys)
all_both P [] ys first second = second
all_both P (x ∷ xs) ys first second = (first.0, all_both P xs ys first.1 second)

small : (size count n : ℕ) → size ≤ 16 * count → IsSmall count (parent_of (job_parents size count) n)
small size count n few =
    at_all (IsSmall count) (job_parents size count) n (inl refl) (
      inl refl,
      all_both (IsSmall count) (map (λ i. Some 0) (numbers count)) (map (λ j. Some (1 + j / 16)) (numbers size))
          (row_all (IsSmall count) (λ i. Some 0) 0 count (λ j le lt. inr (0, (refl, omega arith))))
          (row_all (IsSmall count) (λ j. Some (1 + j / 16)) 0 size (λ j le lt. inr (1 + j / 16, (refl, omega arith)))),
    )

-- of the front end and the middle nodes it is none or the front end
abbrev IsTop : Option ℕ → Type 0
IsTop o = (o ≡ None) ⊎ (o ≡ Some 0)

in_front : (f : ℕ → Option ℕ) (P : Option ℕ → Type 0) (a n m : ℕ) (ys : List (Option ℕ)) → m < n → ((j : ℕ) → P (f j)) → P (parent_of (map f (range_with_len a n) ++ ys) m)
in_front f P a zero m ys lt each = absurd (omega arith)
in_front f P a (suc n) zero ys lt each = each a
in_front f P a (suc n) (suc m) ys lt each = in_front f P (a + 1) n m ys (omega arith) each

near_top : (size count p : ℕ) → p ≤ count → IsTop (parent_of (job_parents size count) p)
near_top size count zero le = inl refl
near_top size count (suc p) le = in_front (λ i. Some 0) IsTop 0 count p _ (omega arith) (λ j. inr refl)

module _ (size count : ℕ) (few : size ≤ 16 * count) where
  within_one : (p links : ℕ) → p ≤ count → is_within (job_parents size count) (links + 1) p ≡ true
  within_one p links le = by (near_top size count p le)
    where
      by : IsTop (parent_of (job_parents size count) p) → is_within (job_parents size count) (links + 1) p ≡ true
      by (inl root) = within_root (job_parents size count) p (links + 1) root
      by (inr at) = within_parent (job_parents size count) p 0 links at ∙ within_root (job_parents size count) 0 links refl

  within_two : (n links : ℕ) → is_within (job_parents size count) (links + 1 + 1) n ≡ true
  within_two n links = by (small size count n few)
    where
      by : IsSmall count (parent_of (job_parents size count) n) → is_within (job_parents size count) (links + 1 + 1) n ≡ true
      by (inl root) = within_root (job_parents size count) n (links + 1 + 1) root
      by (inr (p, (at, le))) = within_parent (job_parents size count) n p (links + 1) at ∙ within_one p links le

none_beyond : (parents : List (Option ℕ)) (links n more : ℕ) → ((m : ℕ) → is_within parents links m ≡ true) → first_beyond parents links n more ≡ None
unfolding first_beyond
none_beyond parents links n zero all = refl
none_beyond parents links n (suc more) all = rw (all n, first_beyond) (none_beyond parents links (suc n) more all)

module _ (size count : ℕ) (some : 1 ≤ size) (rows : 1 ≤ count) (few : size ≤ 16 * count) where
  abbrev nodes : List Node
  nodes = nodes_at count 0 size

  far : length nodes - 1 ≡ size + count - 2 + 1 + 1
  far = omega (arith, length-nodes count 0 size)

  no_error : whole_error (nodes_at count 0 size) ≡ None
  unfolding whole_error
  no_error =
      ap (λ ps. roots_error nodes (roots_from 0 ps)) (parents_are size count)
      ∙ ap (roots_error nodes) (one_root size count)
      ∙ ap (λ ps. reach_error nodes (first_beyond ps (length nodes - 1) 0 (length nodes))) (parents_are size count)
      ∙ ap (reach_error nodes) (ap (λ l. first_beyond (job_parents size count) l 0 (length nodes)) far ∙ none_beyond (job_parents size count) (size + count - 2 + 1 + 1) 0 (length nodes) (λ n. within_two size count few n (size + count - 2)))
      ∙ ap (λ ps. depth_error (first_beyond ps 8 0 (length nodes))) (parents_are size count)
      ∙ ap depth_error (none_beyond (job_parents size count) 8 0 (length nodes) (λ n. within_two size count few n 6))

module _ (size m : ℕ) (few : size ≤ 256) (some : 16 * m < size) (all : size ≤ 16 * suc m) where
  fresh_middles : AreNew [] (front_name ∷ map middle_name (numbers (suc m)))
  fresh_middles = (number_none front_name [] tt, row_is_new middle_name 65536 middles_differ (front_name ∷ []) (λ j low. (refl, tt)) 0 (suc m) (omega arith))

  taken : with_pieces (parsed [] [] Outside) (pieces 1 0 (text_of (node_lines size (suc m)))) ≡ Ok (parsed (names_at (suc m) size) (nodes_at (suc m) 0 size) Outside)
  taken =
      ap (with_pieces (parsed [] [] Outside)) (first_line 1 front_name (map middle_name (numbers (suc m))) (map (middle_line size) (numbers (suc m))) front_good (row_all IsName middle_name 0 (suc m) (λ i le lt. middle_good i (omega arith))))
      ∙ new_taken 1 front_name (middle_name 0) (map middle_name (range_with_len 1 m)) (pieces 2 0 (text_of (map (middle_line size) (numbers (suc m))))) fresh_middles (omega (arith, length-map-range_with_len middle_name 1 m))
      ∙ (λ i. with_pieces (parsed (names_start i) (nodes_start i) Outside) (pieces 2 0 (text_of (map (middle_line size) (numbers (suc m))))))
      ∙ rows_taken size few (suc m) 0 (omega arith) (omega arith) (omega arith)
      ∙ (λ i. Ok (parsed (names_at (n i) size) (nodes_at (n i) 0 size) Outside))
    where
      n : 0 + suc m ≡ suc m
      n = omega arith

      r : min (16 * 0) size ≡ 0
      r = omega arith

      names_start : front_name ∷ map middle_name (numbers (suc m)) ≡ names_at (0 + suc m) (min (16 * 0) size)
      names_start = sym (append-nil (front_name ∷ map middle_name (numbers (suc m)))) ∙ sym (λ i. names_at (n i) (r i))

      nodes_start : top ∷ map (λ _. waiting) (map middle_name (numbers (suc m))) ≡ nodes_at 0 (suc m) (min (16 * 0) size)
      nodes_start = sym (append-nil (top ∷ map (λ _. waiting) (map middle_name (numbers (suc m))))) ∙ (λ i. (top ∷ sym (row_const (λ i. waiting) middle_name waiting 0 (suc m) (λ j le lt. refl)) i) ++ map leaf (range_with_len 0 (sym r i)))

  text_is : topology_of (text_of (node_lines size (suc m))) ≡ Ok (nodes_with size (suc m))
  text_is =
      ap (λ x. nodes_of (and_then x whole)) taken
      ∙ ap (λ f. nodes_of (unless (parsed (names_at (suc m) size) (nodes_at (suc m) 0 size) Outside) f)) (no_error size (suc m) (omega arith) (omega arith) all)
      ∙ ap (λ ps. Ok (topology (names_at (suc m) size) ps)) (parents_are size (suc m))

-- the text is read as the nodes
pub topology_is : (size : ℕ) → 1 ≤ size → size ≤ 256 → topology_of (topology_text size) ≡ Ok (job_nodes size)
topology_is size some few = by (middle_count size) refl
  where
    by : (n : ℕ) → middle_count size ≡ n → topology_of (text_of (node_lines size n)) ≡ Ok (nodes_with size n)
    by zero e = absurd (omega arith)
    by (suc m) e = text_is size m few (omega arith) (omega arith)
