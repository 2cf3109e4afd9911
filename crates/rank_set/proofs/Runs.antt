-- The longest runs of a set's members and their text.
use Rattle.std.proofs.Common.{◌≡◌, ℕ, zero, suc, ◌+◌, ◌-◌, ◌<◌, ◌≤◌, nat_eq, Bool, true, false, cond, List, [], ◌∷◌, ◌++◌, length, take, refl, sym, ap, ◌∙◌, append_assoc, arith}
use Rattle.std.specs.List.{range_with_len, filter}
use Rattle.std.proofs.lemmas.Bool.{eq-eqb, ne_eqb}
use Rattle.std.proofs.Math.Seq.{take-append_seam}
use Rattle.std.proofs.lemmas.List.{append-nil}
use Rattle.std.proofs.lemmas.List.Elements.{filter-append}
use Rattle.rank_set.specs.Runs.{run_before, runs_of}
use Rattle.rank_set.specs.Text.{run_text, runs_text, BeginsWith}
use Rattle.rank_set.proofs.Members.{range_parts, none_pass}

-- the members of a range from one place up to another
abbrev pub members_from : (ℕ → Bool) → ℕ → ℕ → List ℕ
members_from t from end = filter t (range_with_len from (end - from))

-- all of a range passes
all_pass : (t : ℕ → Bool) (a n : ℕ) → ((q : ℕ) → a ≤ q → q < a + n → t q ≡ true) → filter t (range_with_len a n) ≡ range_with_len a n
all_pass t a zero each = refl
all_pass t a (suc n) each =
    ap (λ b. cond b (a ∷ filter t (range_with_len (a + 1) n)) (filter t (range_with_len (a + 1) n))) (each a (omega arith) (omega arith))
    ∙ ap (λ xs. a ∷ xs) (all_pass t (a + 1) n (λ q le lt. each q (omega arith) (omega arith)))

-- a run goes before runs that begin further on
begins_with : (b r : ℕ) (rs : List (ℕ × ℕ)) → nat_eq (suc b) r ≡ false → (a : ℕ) → run_before a b (run_before r r rs) ≡ (a, b) ∷ run_before r r rs
begins_with b r [] e a = ap (λ x. cond x ((a, r) ∷ []) ((a, b) ∷ (r, r) ∷ [])) e
begins_with b r (s ∷ rs) e a = elim (nat_eq (suc r) s.0) as (λ x. run_before a b (cond x ((r, s.1) ∷ rs) ((r, r) ∷ s ∷ rs)) ≡ (a, b) ∷ cond x ((r, s.1) ∷ rs) ((r, r) ∷ s ∷ rs)) [
  | true ↦ ap (λ x. cond x ((a, s.1) ∷ rs) ((a, b) ∷ (r, s.1) ∷ rs)) e
  | false ↦ ap (λ x. cond x ((a, r) ∷ s ∷ rs) ((a, b) ∷ (r, r) ∷ s ∷ rs)) e
]

later : (t : ℕ → Bool) (b c n : ℕ) → suc b < c → (a : ℕ) → run_before a b (runs_of (filter t (range_with_len c n))) ≡ (a, b) ∷ runs_of (filter t (range_with_len c n))
later t b c zero lt a = refl
later t b c (suc n) lt a = elim (t c) as (λ x. run_before a b (runs_of (cond x (c ∷ filter t (range_with_len (c + 1) n)) (filter t (range_with_len (c + 1) n)))) ≡ (a, b) ∷ runs_of (cond x (c ∷ filter t (range_with_len (c + 1) n)) (filter t (range_with_len (c + 1) n)))) [
  | true ↦ begins_with b c (runs_of (filter t (range_with_len (c + 1) n))) (ne_eqb (suc b) c (λ e. omega (arith, e, lt))) a
  | false ↦ later t b (c + 1) n (omega arith) a
]

-- neighbours make one run
one_run : (a n : ℕ) (zs : List ℕ) → ((x : ℕ) → run_before x (a + n) (runs_of zs) ≡ (x, a + n) ∷ runs_of zs) → runs_of (range_with_len a (suc n) ++ zs) ≡ (a, a + n) ∷ runs_of zs
one_run a zero zs last = let e : a ≡ a + 0 = omega arith in ap (λ b. run_before a b (runs_of zs)) e ∙ last a
one_run a (suc n) zs last =
    let e : (a + 1) + n ≡ a + suc n = omega arith in
    let rest : runs_of (range_with_len (a + 1) (suc n) ++ zs) ≡ (a + 1, (a + 1) + n) ∷ runs_of zs = one_run (a + 1) n zs (λ x. ap (λ b. run_before x b (runs_of zs)) e ∙ last x ∙ ap (λ b. (x, b) ∷ runs_of zs) (sym e)) in
    ap (run_before a a) rest ∙ ap (λ x. cond x ((a, (a + 1) + n) ∷ runs_of zs) ((a, a) ∷ (a + 1, (a + 1) + n) ∷ runs_of zs)) (eq-eqb (suc a) (a + 1) (omega arith)) ∙ ap (λ b. (a, b) ∷ runs_of zs) e

-- the first of the longest runs from a place on, and those after it
pub first_run : (t : ℕ → Bool) (from a b end : ℕ) → from ≤ a → a ≤ b → b < end → ((q : ℕ) → from ≤ q → q < a → t q ≡ false) → ((q : ℕ) → a ≤ q → q ≤ b → t q ≡ true) → t (suc b) ≡ false
    → runs_of (members_from t from end) ≡ (a, b) ∷ runs_of (members_from t (b + 1) end)
first_run t from a b end up le lt passed within ends =
    let gap : ℕ = a - from in
    let n : ℕ = b - a in
    let rest : ℕ = end - (b + 1) in
    let parts : end - from ≡ gap + (suc n + rest) = omega arith in
    let at : from + gap ≡ a = omega arith in
    let past : a + suc n ≡ b + 1 = omega arith in
    let last : a + n ≡ b = omega arith in
    let cut : range_with_len from (end - from) ≡ range_with_len from gap ++ (range_with_len a (suc n) ++ range_with_len (b + 1) rest) =
    ap (range_with_len from) parts ∙ range_parts from gap (suc n + rest) ∙ ap (λ x. range_with_len from gap ++ range_with_len x (suc n + rest)) at
    ∙ ap (λ xs. range_with_len from gap ++ xs) (range_parts a (suc n) rest ∙ ap (λ x. range_with_len a (suc n) ++ range_with_len x rest) past) in
    let kept : members_from t from end ≡ range_with_len a (suc n) ++ members_from t (b + 1) end =
    ap (filter t) cut ∙ filter-append t (range_with_len from gap) (range_with_len a (suc n) ++ range_with_len (b + 1) rest)
    ∙ ap (λ xs. xs ++ filter t (range_with_len a (suc n) ++ range_with_len (b + 1) rest)) (none_pass t from gap (λ i l. passed (from + i) (omega arith) (omega arith)))
    ∙ filter-append t (range_with_len a (suc n)) (range_with_len (b + 1) rest)
    ∙ ap (λ xs. xs ++ filter t (range_with_len (b + 1) rest)) (all_pass t a (suc n) (λ q l m. within q l (omega arith))) in
    ap runs_of kept ∙ one_run a n (members_from t (b + 1) end) (λ x. ap (λ y. run_before x y (runs_of (members_from t (b + 1) end))) last ∙ after rest refl x ∙ ap (λ y. (x, y) ∷ runs_of (members_from t (b + 1) end)) (sym last))
    ∙ ap (λ y. (a, y) ∷ runs_of (members_from t (b + 1) end)) last
  where
    after : (m : ℕ) → m ≡ end - (b + 1) → (x : ℕ) → run_before x b (runs_of (filter t (range_with_len (b + 1) m))) ≡ (x, b) ∷ runs_of (filter t (range_with_len (b + 1) m))
    after zero e x = refl
    after (suc m) e x =
        let s : suc b ≡ b + 1 = omega arith in
        let none : t (b + 1) ≡ false = ap t (sym s) ∙ ends in
        ap (λ (y : Bool). run_before x b (runs_of (cond y ((b + 1) ∷ filter t (range_with_len ((b + 1) + 1) m)) (filter t (range_with_len ((b + 1) + 1) m))))) none
        ∙ later t b ((b + 1) + 1) m (omega arith) x
        ∙ ap (λ (y : Bool). (x, b) ∷ runs_of (cond y ((b + 1) ∷ filter t (range_with_len ((b + 1) + 1) m)) (filter t (range_with_len ((b + 1) + 1) m)))) (sym none)

-- there are no members from a place on
pub no_runs : (t : ℕ → Bool) (from end : ℕ) → ((q : ℕ) → from ≤ q → t q ≡ false) → runs_of (members_from t from end) ≡ []
no_runs t from end none = ap runs_of (none_pass t from (end - from) (λ i lt. none (from + i) (omega arith)))

-- the text of runs, with a comma in front where they are not the first
unfoldable pub more_text : Bool → List (ℕ × ℕ) → List ℕ
more_text others [] = []
more_text others (r ∷ rs) = cond others (44 ∷ []) [] ++ runs_text (r ∷ rs)

-- nothing is left to write
pub more_none : (others : Bool) (rs : List (ℕ × ℕ)) → rs ≡ [] → more_text others rs ≡ []
unfolding more_text
more_none others [] e = refl
more_none others (r ∷ rs) e = cc

-- the text of all runs
pub more_first : (rs : List (ℕ × ℕ)) → more_text false rs ≡ runs_text rs
unfolding more_text
more_first [] = refl
more_first (r ∷ rs) = refl

-- one run is written after a comma, if it is not the first, and others are left
pub more_step : (others : Bool) (rs later : List (ℕ × ℕ)) (r : ℕ × ℕ) → rs ≡ r ∷ later → more_text others rs ≡ (cond others (44 ∷ []) [] ++ run_text r) ++ more_text true later
unfolding more_text
more_step others rs [] r e = ap (more_text others) e ∙ sym (append-nil (cond others (44 ∷ []) [] ++ run_text r))
more_step others rs (s ∷ later) r e = ap (more_text others) e ∙ sym (append_assoc (cond others (44 ∷ []) []) (run_text r) (44 ∷ runs_text (s ∷ later)))

-- a text begins with itself
pub begins_itself : (a b : List ℕ) → b ≡ a → BeginsWith b a
begins_itself a b e = record { rest = []; is = e ∙ sym (append-nil a) }

-- a text that goes on
pub begins_more : (a b c x : List ℕ) → BeginsWith b a → c ≡ b ++ x → BeginsWith c a
begins_more a b c x h e = record { rest = h.rest ++ x; is = e ∙ ap (λ t. t ++ x) h.is ∙ append_assoc a h.rest x }

-- the beginning of a beginning
pub begins_through : (a b c : List ℕ) → BeginsWith b a → BeginsWith c b → BeginsWith c a
begins_through a b c h k = begins_more a b c k.rest h k.is

-- a text that is cut back
pub cut_back : (a b c : List ℕ) (n : ℕ) → BeginsWith b a → n ≡ length a → c ≡ take n b → c ≡ a
cut_back a b c n h e is = is ∙ (λ i. take (e i) (h.is i)) ∙ take-append_seam a h.rest
