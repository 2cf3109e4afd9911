-- From which place on brackets are closed by the end of a text.
use Rattle.std.proofs.Common.{◌≡◌, ◌∙◌, ℕ, suc, ◌+◌, ◌-◌, ◌<◌, ◌≤◌, Bool, List, [], ◌∷◌, ◌++◌, length, take, drop, get_or, Option, None, Some, true, false, not, cond, refl, ap, sym, codes, arith, append_assoc, nat_eq, nat_le, inl, inr, ◌⊎◌}
use Rattle.std.specs.List.{prefix_len, list_any}
use Rattle.std.specs.Option.{unwrap_or}
use Rattle.std.specs.Prelude.{◌&&◌, ◌||◌}
use Rattle.std.specs.Str.{bytes_eq}
use Rattle.std.proofs.Math.Seq.{take-append-add, drop-append-add}
use Rattle.std.proofs.lemmas.Bool.{true≢false, eqb-true, cases_lt}
use Rattle.std.proofs.lemmas.Bool.Decides.{nat_tests}
use Rattle.std.proofs.lemmas.List.{take-append-drop, length-append, drop-append-le, get_or-append-add, get_or_append_left, get_or_at, length-take-le}
use Rattle.std.proofs.lemmas.List.Folds.{list_any-append}
use Rattle.std.proofs.lemmas.List.Sums.{prefix_len_is, prefix_len_passes, prefix_len_stops}
use Rattle.std.proofs.lemmas.Slice.Eq.{bytes_eq-Decides}
use Rattle.memchr.specs.Find.{IsLastByte, is_byte}
use Rattle.stack_text.specs.Lines.{undeleted, closes, file_follows_if, file_follows}
use Rattle.stack_text.specs.Texts.{begins}

abbrev deleted : List ℕ
deleted = codes " (deleted)"

undeleted_is : (text : List ℕ) →
    undeleted text ≡ cond (bytes_eq (drop (length text - 10) text) deleted) (take (length text - 10) text) text
undeleted_is text = by (bytes_eq (drop (length text - 10) text) deleted)
  where
    by : (b : Bool) → unwrap_or (cond b (Some (take (length text - 10) text)) None) text ≡ cond b (take (length text - 10) text) text
    by true = refl
    by false = refl

not_true : (b : Bool) → (b ≡ true → ⊥) → b ≡ false
not_true true h = absurd (h refl)
not_true false h = refl

or_true : (b : Bool) → (b || true) ≡ true
or_true true = refl
or_true false = refl

-- a text with an opening bracket in it isn't ` (deleted)`
bracket_in : (front rest : List ℕ) → bytes_eq (front ++ 91 ∷ rest) deleted ≡ false
bracket_in front rest = by (bytes_eq (front ++ 91 ∷ rest) deleted) refl
  where
    by : (b : Bool) → bytes_eq (front ++ 91 ∷ rest) deleted ≡ b → b ≡ false
    by false e = refl
    by true e =
        let same = (bytes_eq-Decides (front ++ 91 ∷ rest) deleted).0 e in
        let none : list_any (nat_eq 91) (front ++ 91 ∷ rest) ≡ false = ap (list_any (nat_eq 91)) same in
        absurd (true≢false (sym (list_any-append (nat_eq 91) front (91 ∷ rest) ∙ or_true _) ∙ none))

-- a text that is shorter isn't either
shorter : (text : List ℕ) → length text < 10 → bytes_eq text deleted ≡ false
shorter text short = by (bytes_eq text deleted) refl
  where
    by : (b : Bool) → bytes_eq text deleted ≡ b → b ≡ false
    by false e = refl
    by true e = let same = ap length ((bytes_eq-Decides text deleted).0 e) in absurd (omega (arith, same, short))

inside : (b : Bool) (front some all : List ℕ) →
    cond b (front ++ 91 ∷ some) (front ++ 91 ∷ all) ≡ front ++ 91 ∷ cond b some all
inside true front some all = refl
inside false front some all = refl

-- the last bytes of a text with a bracket in it, where the bracket is among them, or before them
module _ (front rest : List ℕ) where
  no_tail : length rest < 10 →
      cond (bytes_eq (drop (length (front ++ 91 ∷ rest) - 10) (front ++ 91 ∷ rest)) deleted)
      (take (length (front ++ 91 ∷ rest) - 10) (front ++ 91 ∷ rest)) (front ++ 91 ∷ rest)
      ≡ front ++ 91 ∷ cond (bytes_eq (drop (length rest - 10) rest) deleted) (take (length rest - 10) rest) rest
  no_tail short =
      let few : length (front ++ 91 ∷ rest) - 10 ≤ length front = omega (arith, length-append front (91 ∷ rest), short) in
      let none : length rest - 10 ≡ 0 = omega (arith, short) in
      rw (
        drop-append-le (length (front ++ 91 ∷ rest) - 10) front (91 ∷ rest) few,
        bracket_in (drop (length (front ++ 91 ∷ rest) - 10) front) rest,
        none,
        shorter rest short,
      ) refl

  tail_behind : 10 ≤ length rest →
      cond (bytes_eq (drop (length (front ++ 91 ∷ rest) - 10) (front ++ 91 ∷ rest)) deleted)
      (take (length (front ++ 91 ∷ rest) - 10) (front ++ 91 ∷ rest)) (front ++ 91 ∷ rest)
      ≡ front ++ 91 ∷ cond (bytes_eq (drop (length rest - 10) rest) deleted) (take (length rest - 10) rest) rest
  tail_behind long =
      let len : length (front ++ 91 ∷ rest) - 10 ≡ length front + suc (length rest - 10) =
      omega (arith, length-append front (91 ∷ rest), long) in
      rw (len, take-append-add front (91 ∷ rest) (suc (length rest - 10)), drop-append-add front (91 ∷ rest) (suc (length rest - 10)))
      (inside (bytes_eq (drop (length rest - 10) rest) deleted) front (take (length rest - 10) rest) rest)

-- what is taken off the end of a text is taken off what stands behind a bracket in it
undeleted_behind : (front rest : List ℕ) → undeleted (front ++ 91 ∷ rest) ≡ front ++ 91 ∷ undeleted rest
undeleted_behind front rest = undeleted_is (front ++ 91 ∷ rest) ∙ by (cases_lt (length rest) 10) ∙ sym (ap (λ t. front ++ 91 ∷ t) (undeleted_is rest))
  where
    by : (length rest < 10) ⊎ (10 ≤ length rest) →
        cond (bytes_eq (drop (length (front ++ 91 ∷ rest) - 10) (front ++ 91 ∷ rest)) deleted)
        (take (length (front ++ 91 ∷ rest) - 10) (front ++ 91 ∷ rest)) (front ++ 91 ∷ rest)
        ≡ front ++ 91 ∷ cond (bytes_eq (drop (length rest - 10) rest) deleted) (take (length rest - 10) rest) rest
    by (inl short) = no_tail front rest short
    by (inr long) = tail_behind front rest long

-- a test of a file doesn't depend on brackets where it has none
tests : (p q r s u x y : Bool) → ((p && (q && (r && (s && true)))) ≡ true → x ≡ y) →
    ((p && (q && (r && true))) && (u || (s && x))) ≡ ((p && (q && (r && true))) && (u || (s && y)))
tests false q r s u x y h = refl
tests true false r s u x y h = refl
tests true true false s u x y h = refl
tests true true true false u x y h = refl
tests true true true true u x y h = ap (λ z. u || z) (h refl)

-- a text that is too short has no file
no_file : (text : List ℕ) (x y : Bool) → length text < 4 → file_follows_if x text ≡ file_follows_if y text
no_file [] x y h = refl
no_file (a ∷ []) x y h = by (nat_eq a 32)
  where
    by : (p : Bool) → ((p && false) && false) ≡ ((p && false) && false)
    by p = refl
no_file (a ∷ b ∷ []) x y h = refl
no_file (a ∷ b ∷ c ∷ []) x y h = refl
no_file (a ∷ b ∷ c ∷ d ∷ rest) x y h = absurd (omega (arith, h))

only_if : (text : List ℕ) (x y : Bool) → (begins (codes " - [") text ≡ true → x ≡ y) →
    file_follows_if x text ≡ file_follows_if y text
only_if [] x y h = refl
only_if (a ∷ []) x y h = no_file (a ∷ []) x y (omega arith)
only_if (a ∷ b ∷ []) x y h = no_file (a ∷ b ∷ []) x y (omega arith)
only_if (a ∷ b ∷ c ∷ []) x y h = no_file (a ∷ b ∷ c ∷ []) x y (omega arith)
only_if (a ∷ b ∷ c ∷ d ∷ rest) x y h = tests (nat_eq a 32) (nat_eq b 45) (nat_eq c 32) (nat_eq d 91) (nat_eq d 47) x y h

abbrev no_close : ℕ → Bool
no_close b = not (nat_eq b 93)

-- where a text closes, it ends with a closing bracket
closes_ends : (text : List ℕ) → closes text ≡ true → (0 < length text) × (get_or text (length text - 1) 0 ≡ 93)
closes_ends text h =
    let len : prefix_len no_close text + 1 ≡ length text = eqb-true _ _ h in
    let last : no_close (get_or text (prefix_len no_close text) 0) ≡ false = prefix_len_stops no_close text 0 (omega (arith, len)) in
    let at : prefix_len no_close text ≡ length text - 1 = omega (arith, len) in
    (omega (arith, len), closed_by _ (ap (λ k. no_close (get_or text k 0)) (sym at) ∙ last))
  where
    closed_by : (b : ℕ) → no_close b ≡ false → b ≡ 93
    closed_by b e = grind (arith, nat_tests)

-- a text that ends with the first closing bracket in it
closes_here : (text : List ℕ) → 0 < length text → get_or text (length text - 1) 0 ≡ 93 →
    ((k : ℕ) → k < length text - 1 → nat_eq (get_or text k 0) 93 ≡ false) → closes text ≡ true
closes_here text some last none =
    let len = prefix_len_is no_close text (length text - 1) 0 (omega (arith, some))
    (λ k lt. ap not (none k lt)) (λ _. ap no_close last) in
    grind (arith, nat_tests, some, len)

-- a text with a closing bracket before its end
closes_early : (text : List ℕ) (k : ℕ) → k + 1 < length text → get_or text k 0 ≡ 93 → closes text ≡ false
closes_early text k lt here =
    let early : prefix_len no_close text ≤ k = by (cases_lt k (prefix_len no_close text)) in
    grind (arith, nat_tests, lt, early)
  where
    by : (k < prefix_len no_close text) ⊎ (prefix_len no_close text ≤ k) → prefix_len no_close text ≤ k
    by (inl lt) = absurd (true≢false (sym (prefix_len_passes no_close text k 0 lt) ∙ ap no_close here))
    by (inr le) = le

-- a file with a bracket behind a front of it
module _ (front rest : List ℕ) where
  file_at : (k : ℕ) → get_or (front ++ 91 ∷ rest) (length front + suc k) 0 ≡ get_or rest k 0
  file_at k = get_or-append-add front (91 ∷ rest) (suc k) 0

  module _ (inner : List ℕ) (last : ℕ) (parts : front ++ 91 ∷ rest ≡ inner ++ last ∷ []) where
    len : length front + suc (length rest) ≡ length inner + 1
    len = sym (length-append front (91 ∷ rest)) ∙ ap length parts ∙ length-append inner (last ∷ [])

    -- its last byte
    last_alone : length rest ≡ 0 → last ≡ 91
    last_alone none =
        sym (get_or_at inner last [] 0 (length front) (omega (arith, len, none)))
        ∙ ap (λ t. get_or t (length front) 0) (sym parts) ∙ get_or_at front 91 rest 0 (length front) refl

    last_is : 0 < length rest → get_or rest (length rest - 1) 0 ≡ last
    last_is some =
        sym (file_at (length rest - 1)) ∙ ap (λ t. get_or t (length front + suc (length rest - 1)) 0) parts
        ∙ get_or_at inner last [] 0 (length front + suc (length rest - 1)) (omega (arith, len, some))

    -- a byte before the last
    inner_at : (k : ℕ) → k + 1 < length rest → get_or inner (length front + suc k) 0 ≡ get_or rest k 0
    inner_at k lt =
        sym (get_or_append_left inner (last ∷ []) 0 (length front + suc k) (omega (arith, len, lt)))
        ∙ ap (λ t. get_or t (length front + suc k) 0) (sym parts) ∙ file_at k

    -- the file ends with another byte
    pub ends_otherwise : nat_eq last 93 ≡ false → closes rest ≡ false
    ends_otherwise other = by (closes rest) refl
      where
        by : (b : Bool) → closes rest ≡ b → b ≡ false
        by false e = refl
        by true e =
            let ends = closes_ends rest e in
            absurd (true≢false (ap (λ b. nat_eq b 93) (sym (sym (last_is ends.0) ∙ ends.1)) ∙ other))

    -- the file ends with a closing bracket
    module _ (is : last ≡ 93) where
      has_byte : 0 < length rest
      has_byte = by (cases_lt 0 (length rest))
        where
          by : (0 < length rest) ⊎ (length rest ≤ 0) → 0 < length rest
          by (inl lt) = lt
          by (inr le) = let b = last_alone (omega (arith, le)) in absurd (omega (arith, b, is))

      -- no other closing bracket stands behind the opening one
      pub closed_at_end : ((k : ℕ) → length front < k → k < length inner → nat_eq (get_or inner k 0) 93 ≡ false) → closes rest ≡ true
      closed_at_end none =
          closes_here rest has_byte (last_is has_byte ∙ is) (λ k lt.
          ap (λ b. nat_eq b 93) (sym (inner_at k (omega (arith, lt))))
          ∙ none (length front + suc k) (omega arith) (omega (arith, len, lt)))

      -- another one does
      pub closed_before : (k : ℕ) → length front < k → k < length inner → get_or inner k 0 ≡ 93 → closes rest ≡ false
      closed_before k behind within here =
          let at : length front + suc (k - length front - 1) ≡ k = omega (arith, behind) in
          let lt : k - length front - 1 + 1 < length rest = omega (arith, len, within, behind) in
          closes_early rest (k - length front - 1) lt
          (sym (inner_at (k - length front - 1) lt) ∙ ap (λ n. get_or inner n 0) at ∙ here)

-- What follows in a text from a place on, by the last closing bracket before its end: the text's file is parted into its
-- last byte and what stands before it.
module _ (text : List ℕ) (i : ℕ) (within : i < length text) where
  rest : List ℕ
  rest = drop 4 (drop i text)

  front : List ℕ
  front = take i text ++ codes " - "

  front_len : length front ≡ i + 3
  unfolding front
  front_len = omega (arith, length-append (take i text) (codes " - "), length-take-le i text (omega (arith, within)))

  module _ (file_is : begins (codes " - [") (drop i text) ≡ true) where
    whole : text ≡ front ++ 91 ∷ rest
    unfolding front rest
    whole =
        let four = (bytes_eq-Decides (take 4 (drop i text)) (codes " - [")).0 file_is in
        sym (take-append-drop i text)
        ∙ ap (λ t. take i text ++ t) (sym (take-append-drop 4 (drop i text)) ∙ ap (λ t. t ++ drop 4 (drop i text)) four)
        ∙ sym (append_assoc (take i text) (codes " - ") (91 ∷ drop 4 (drop i text)))

    file_whole : undeleted text ≡ front ++ 91 ∷ undeleted rest
    file_whole = ap undeleted whole ∙ undeleted_behind front rest

  -- the test of a file by any answer that is right where a bracket opens
  by_brackets : (b : Bool) → (begins (codes " - [") (drop i text) ≡ true → closes (undeleted rest) ≡ b) →
      file_follows (drop i text) ≡ file_follows_if b (drop i text)
  unfolding rest
  by_brackets b right = only_if (drop i text) (closes (undeleted (drop 4 (drop i text)))) b right

  beyond : nat_le (length text) i ≡ false
  beyond = grind (arith, nat_tests)

  -- the file has no byte
  pub file_empty : length (undeleted text) ≡ 0 → file_follows (drop i text) ≡ file_follows_if (nat_le (length text) i) (drop i text)
  file_empty none = by_brackets (nat_le (length text) i) (λ h.
      absurd (omega (arith, none, ap length (file_whole h), length-append front (91 ∷ undeleted rest))))

  module _ (inner : List ℕ) (last : ℕ) (parts : undeleted text ≡ inner ++ last ∷ []) where
    pub file_open : nat_eq last 93 ≡ false → file_follows (drop i text) ≡ file_follows_if (nat_le (length text) i) (drop i text)
    file_open other = by_brackets (nat_le (length text) i) (λ h.
        ends_otherwise front (undeleted rest) inner last (sym (file_whole h) ∙ parts) other ∙ sym beyond)

    pub file_closed : last ≡ 93 → (found : Option ℕ) → IsLastByte (is_byte 93) inner found → (from : ℕ) →
        from ≡ unwrap_or found 0 - 3 → file_follows (drop i text) ≡ file_follows_if (nat_le from i) (drop i text)
    file_closed is None none from at = by_brackets (nat_le from i) (λ h.
        closed_at_end front (undeleted rest) inner last (sym (file_whole h) ∙ parts) is (λ k behind lt. not_true _ (none k (omega arith) lt))
        ∙ grind (arith, nat_tests, at))
    file_closed is (Some q) some from at = by_brackets (nat_le from i) (λ h. by h (cases_lt (i + 3) q))
      where
        by : begins (codes " - [") (drop i text) ≡ true → (i + 3 < q) ⊎ (q ≤ i + 3) → closes (undeleted rest) ≡ nat_le from i
        by h (inl later) =
            closed_before front (undeleted rest) inner last (sym (file_whole h) ∙ parts) is q
            (omega (arith, front_len, later)) some.0.high (eqb-true _ _ some.1)
            ∙ grind (arith, nat_tests, at, later)
        by h (inr earlier) =
            closed_at_end front (undeleted rest) inner last (sym (file_whole h) ∙ parts) is
            (λ k behind lt. not_true _ (some.0.after k (omega (arith, front_len, earlier, behind)) lt))
            ∙ grind (arith, nat_tests, at, earlier)
