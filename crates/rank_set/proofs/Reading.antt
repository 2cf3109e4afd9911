-- Texts of ranks from the front.
use Rattle.std.proofs.Common.{◌≡◌, ℕ, suc, ◌+◌, ◌-◌, ◌*◌, ◌<◌, ◌≤◌, Bool, true, false, not, cond, nat_eq, min, List, [], ◌∷◌, length, get_or, drop, take, Ok, Err, Result, refl, sym, ap, ◌∙◌, subst, arith, drop-cons}
use Rattle.std.specs.Char.{is_ascii_digit}
use Rattle.std.specs.Result.{IsErr, IsErrAnd, IfErr}
use Rattle.std.proofs.lemmas.Bool.{lt-ltb, le-ltb}
use Rattle.rank_set.specs.declared.read.RanksError.{RanksError}
use Rattle.rank_set.specs.declared.read.RanksError.TheVariants.{BadNumber, Backward}
use Rattle.rank_set.specs.Ranks.{Ranks, none, union}
use Rattle.rank_set.specs.Runs.{ranks_between}
use Rattle.rank_set.specs.Digits.{digits_len, value_after}
use Rattle.rank_set.specs.RanksText.{number_at, ends_at, second_at, after_first, item_from, item_at, item_len, items, before_first, ranks_at}

-- a number that is cut at a limit goes on as the number itself does
same_capped : (limit a b : ℕ) (ds : List ℕ) → min limit a ≡ min limit b → min limit (value_after a ds) ≡ min limit (value_after b ds)
same_capped limit a b [] e = e
same_capped limit a b (d ∷ ds) e = same_capped limit (10 * a + (d - 48)) (10 * b + (d - 48)) ds (omega arith)

-- one digit more
pub capped_step : (limit n m d i : ℕ) (ds : List ℕ) → i < length ds → d ≡ get_or ds i 0 → m ≡ min limit (10 * n + (d - 48)) → min limit (value_after m (drop (i + 1) ds)) ≡ min limit (value_after n (drop i ds))
capped_step limit n m d i ds lt here is =
    same_capped limit m (10 * n + (d - 48)) (drop (i + 1) ds) (omega arith)
    ∙ ap (λ x. min limit (value_after (10 * n + (x - 48)) (drop (i + 1) ds))) here
    ∙ (let e : i + 1 ≡ suc i = omega arith in ap (λ k. min limit (value_after (10 * n + (get_or ds i 0 - 48)) (drop k ds))) e)
    ∙ sym (ap (λ xs. min limit (value_after n xs)) (drop-cons ds i 0 lt))

-- the digits at the front of a text, one by one
module _ (text : List ℕ) (i : ℕ) (lt : i < length text) (one : is_ascii_digit (get_or text i 0) ≡ true) where
  front : drop i text ≡ get_or text i 0 ∷ drop (i + 1) text
  front = drop-cons text i 0 lt ∙ (let e : suc i ≡ i + 1 = omega arith in ap (λ k. get_or text i 0 ∷ drop k text) e)

  one_digit : digits_len (drop i text) ≡ 1 + digits_len (drop (i + 1) text)
  one_digit = ap digits_len front ∙ ap (λ t. cond t (1 + digits_len (drop (i + 1) text)) 0) one

  -- one digit more of the front's length
  pub digit_len : (i + 1) + digits_len (drop (i + 1) text) ≡ i + digits_len (drop i text)
  digit_len = omega (arith, one_digit)

  digits_are : take (digits_len (drop i text)) (drop i text) ≡ get_or text i 0 ∷ take (digits_len (drop (i + 1) text)) (drop (i + 1) text)
  digits_are =
      let n : ℕ = digits_len (drop (i + 1) text) in
      let e : 1 + n ≡ suc n = omega arith in
      (λ k. take (one_digit k) (front k)) ∙ ap (λ m. take m (get_or text i 0 ∷ drop (i + 1) text)) e

  -- one digit more of the front's number
  pub digit_value : (limit n m : ℕ) → m ≡ min limit (10 * n + (get_or text i 0 - 48)) → min limit (value_after m (take (digits_len (drop (i + 1) text)) (drop (i + 1) text))) ≡ min limit (value_after n (take (digits_len (drop i text)) (drop i text)))
  digit_value limit n m is =
      same_capped limit m (10 * n + (get_or text i 0 - 48)) (take (digits_len (drop (i + 1) text)) (drop (i + 1) text)) (omega arith)
      ∙ sym (ap (λ ds. min limit (value_after n ds)) digits_are)

-- an item by its parts
module _ (offset : ℕ) (item : List ℕ) where
  -- an item whose first number is refused
  pub item_bad : (e : RanksError) → number_at offset item ≡ Err e → item_at offset item ≡ Err e
  unfolding item_at
  item_bad e bad = ap (item_from offset item) bad

  module _ (first : ℕ) (good : number_at offset item ≡ Ok first) where
    -- an item that is one number
    pub item_alone : drop (digits_len item) item ≡ [] → item_at offset item ≡ Ok (first, first)
    unfolding item_at
    item_alone rest = ap (item_from offset item) good ∙ ap (after_first first (offset + digits_len item)) rest

    -- an item in which a number is followed by what is no `-`
    pub item_stray : (b : ℕ) (text : List ℕ) → drop (digits_len item) item ≡ b ∷ text → nat_eq b 45 ≡ false → item_at offset item ≡ Err (BadNumber (offset + digits_len item))
    unfolding item_at
    item_stray b text rest other = ap (item_from offset item) good ∙ ap (after_first first (offset + digits_len item)) rest ∙ rw other refl

    -- an item with a `-` after its first number
    pub item_run : (b : ℕ) (text : List ℕ) → drop (digits_len item) item ≡ b ∷ text → nat_eq b 45 ≡ true → item_at offset item ≡ second_at first (offset + digits_len item + 1) text (number_at (offset + digits_len item + 1) text)
    unfolding item_at
    item_run b text rest dash = ap (item_from offset item) good ∙ ap (after_first first (offset + digits_len item)) rest ∙ rw dash refl

-- a second number that is less than the first
pub second_backward : (first second offset : ℕ) (text : List ℕ) → second < first → second_at first offset text (Ok second) ≡ Err (Backward offset)
second_backward first second offset text lt = rw (lt-ltb second first lt) refl

-- a second number at the end of the item
pub second_ends : (first second offset : ℕ) (text : List ℕ) → first ≤ second → drop (digits_len text) text ≡ [] → second_at first offset text (Ok second) ≡ Ok (first, second)
second_ends first second offset text le end = rw (le-ltb second first le) (ap (λ t. ends_at (offset + digits_len text) t (first, second)) end)

-- a second number that something follows
pub second_stray : (first second offset : ℕ) (text : List ℕ) → first ≤ second → 0 < length (drop (digits_len text) text) → second_at first offset text (Ok second) ≡ Err (BadNumber (offset + digits_len text))
second_stray first second offset text le more = rw (le-ltb second first le) (by (drop (digits_len text) text) more)
  where
    by : (t : List ℕ) → 0 < length t → ends_at (offset + digits_len text) t (first, second) ≡ Err (BadNumber (offset + digits_len text))
    by [] h = absurd (omega arith)
    by (b ∷ t) h = refl

-- a list of length 0 is empty
pub nothing_left : (t : List ℕ) → length t ≡ 0 → t ≡ []
nothing_left [] e = refl
nothing_left (b ∷ t) e = absurd (omega arith)

-- the items after the first
abbrev pub items_after : List ℕ → List (List ℕ)
items_after [] = []
items_after (b ∷ rest) = items rest

-- a byte before the items of the rest
module _ (b : ℕ) (rest : List ℕ) (n : ℕ) (first : items rest ≡ take n rest ∷ items_after (drop n rest)) where
  first_by : (t : Bool) → cond t ([] ∷ items rest) (before_first b (items rest)) ≡ take (cond (not t) (1 + n) 0) (b ∷ rest) ∷ items_after (drop (cond (not t) (1 + n) 0) (b ∷ rest))
  first_by true = refl
  first_by false = ap (before_first b) first ∙ (let e : suc n ≡ 1 + n = omega arith in ap (λ k. take k (b ∷ rest) ∷ items_after (drop k (b ∷ rest))) e)

-- the first item of a text is what stands before the first comma
pub items_first : (text : List ℕ) → items text ≡ take (item_len text) text ∷ items_after (drop (item_len text) text)
unfolding items
items_first [] = refl
items_first (b ∷ rest) = first_by b rest (item_len rest) (items_first rest) (nat_eq b 44)

-- an item that is refused refuses all
pub item_bad_ranks : (offset : ℕ) (s : Ranks) (item : List ℕ) (rest : List (List ℕ)) (e : RanksError) → item_at offset item ≡ Err e → ranks_at offset s (item ∷ rest) ≡ Err e
unfolding ranks_at
item_bad_ranks offset s item rest e bad = rw (bad, ranks_at) refl

-- an item that is read adds its ranks
pub item_good_ranks : (offset : ℕ) (s : Ranks) (item : List ℕ) (rest : List (List ℕ)) (range : ℕ × ℕ) → item_at offset item ≡ Ok range → ranks_at offset s (item ∷ rest) ≡ ranks_at (offset + length item + 1) (union s (ranks_between range.0 range.1)) rest
unfolding ranks_at
item_good_ranks offset s item rest range good = rw (good, ranks_at) refl

-- with no item left the ranks are read
pub no_items : (offset : ℕ) (s : Ranks) → ranks_at offset s [] ≡ Ok s
unfolding ranks_at
no_items offset s = refl

-- an error that `?` hands on
pub handed_on : {A : Type 0} (r : Result A RanksError) (x : RanksError) (P : RanksError → Type 0) → IsErr r × IsErrAnd r (λ e. e ≡ x) → P x → IfErr r P
handed_on (Ok a) x P h p = tt
handed_on (Err e) x P h p = subst P (sym h.1) p

-- the first item of what is left
module _ (offset len : ℕ) (s : Ranks) (rest item after : List ℕ) (is : len ≡ item_len rest) (front : item ≡ take len rest) (back : after ≡ drop len rest) where
  first_item : items rest ≡ item ∷ items_after after
  first_item = items_first rest ∙ ap (λ n. take n rest ∷ items_after (drop n rest)) (sym is) ∙ (λ k. sym front k ∷ items_after (sym back k))

  -- the first item is refused
  pub first_bad : (e : RanksError) → item_at offset item ≡ Err e → ranks_at offset s (items rest) ≡ Err e
  first_bad e bad = ap (ranks_at offset s) first_item ∙ item_bad_ranks offset s item (items_after after) e bad

  module _ (range : ℕ × ℕ) (good : item_at offset item ≡ Ok range) where
    first_good : ranks_at offset s (items rest) ≡ ranks_at (offset + length item + 1) (union s (ranks_between range.0 range.1)) (items_after after)
    first_good = ap (ranks_at offset s) first_item ∙ item_good_ranks offset s item (items_after after) range good

    -- the first item is read, and is the last
    pub last_good : length after ≡ 0 → ranks_at offset s (items rest) ≡ Ok (union s (ranks_between range.0 range.1))
    last_good none = first_good ∙ ap (λ t. ranks_at (offset + length item + 1) (union s (ranks_between range.0 range.1)) (items_after t)) (nothing_left after none) ∙ no_items _ _

    -- the first item is read, and others follow
    pub next_good : (b : ℕ) (next : List ℕ) (t : Ranks) (there : ℕ) → after ≡ b ∷ next → t ≡ union s (ranks_between range.0 range.1) → there ≡ offset + length item + 1 → ranks_at there t (items next) ≡ ranks_at offset s (items rest)
    next_good b next t there parts is_run is_there = (λ k. ranks_at (is_there k) (is_run k) (items_after (sym parts k))) ∙ sym first_good
