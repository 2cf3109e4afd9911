-- Names and their numbers, where a name is one more.
use Rattle.std.proofs.Common.{◌≡◌, ℕ, ◌+◌, ◌<◌, ◌≤◌, Bool, true, false, not, cond, List, [], ◌∷◌, ◌++◌, length, None, Some, Ok, Err, refl, ap, ◌∙◌, subst, arith, map, length-append, String, Global, string_bytes}
use Rattle.indexmap.specs.IndexSet.{insert_key}
use Rattle.std.specs.String.{string_eq}
use Rattle.std.specs.List.{list_any, AllByRecursion, IsDistinct}
use Rattle.std.specs.List.{position, position_or_len}
use Rattle.std.specs.Str.{bytes_eq}
use Rattle.std.proofs.lemmas.List.Sums.{prefix_len-le-length}
use Rattle.std.proofs.lemmas.Slice.Eq.{bytes_eq-Decides}
use Rattle.std.proofs.lemmas.Bool.{eq-eqb, lt-ltb, ltb-true, ltb-false, le-leb, lt-leb}
use Rattle.std.proofs.lemmas.List.Folds.{position_or_len_push}
use Rattle.overlay_setup.specs.Names.{number_of}
use Rattle.text_lines.specs.declared.text_error.TextError.TheVariants.{Over}
use Rattle.text_lines.specs.declared.text_error.Quantity.TheVariants.{Nodes}
use Rattle.topology_text.specs.Statements.{Parsed, appear}

cond_none : (t : Bool) (n : ℕ) → cond t (Some n) None ≡ None → t ≡ false
cond_none true n e = cc
cond_none false n e = refl

-- the state of an element that is the first to pass a test, and the last of its list
pub position_last : {X : Type 0} (p : X → Bool) (xs : List X) (y : X) → p y ≡ true → position p xs ≡ None → position p (xs ++ y ∷ []) ≡ Some (length xs)
position_last p xs y passes none =
    let past : length xs ≤ position_or_len p xs = ltb-false _ _ (cond_none _ _ none) in
    let all : position_or_len p xs ≡ length xs = omega (arith, prefix_len-le-length (λ x. not (p x)) xs) in
    let len : length (xs ++ y ∷ []) ≡ length xs + 1 = length-append xs (y ∷ []) in
    let at : position_or_len p (xs ++ y ∷ []) ≡ length xs = position_or_len_push p xs y ∙ rw (eq-eqb _ _ all) (rw passes (omega arith)) in
    rw at (rw (lt-ltb (length xs) (length (xs ++ y ∷ [])) (omega arith)) refl)

-- a new name gets the next number
pub number_of_last : (name : List ℕ) (names : List (List ℕ)) → number_of name names ≡ None → number_of name (names ++ name ∷ []) ≡ Some (length names)
unfolding number_of
number_of_last name names none = position_last (bytes_eq name) names name ((bytes_eq-Decides name name).1 refl) none

-- a name that is known changes nothing
pub appear_known : (s : Parsed) (line n : ℕ) (name : List ℕ) → number_of name s.names ≡ Some n → appear s line name ≡ Ok s
unfolding appear
appear_known s line n name e = rw (e, appear) refl

-- a new name where there are as many as may be
pub appear_over : (s : Parsed) (line : ℕ) (name : List ℕ) → number_of name s.names ≡ None → 512 ≤ length s.names → appear s line name ≡ Err (Over line Nodes 512)
unfolding appear
appear_over s line name e many = rw (e, appear) (rw (le-leb 512 (length s.names) many) refl)

-- a new name becomes a node
pub appear_new : (s : Parsed) (line : ℕ) (name : List ℕ) → number_of name s.names ≡ None → length s.names < 512 → appear s line name ≡ Ok (record s {
  names = s.names ++ name ∷ [];
  nodes = s.nodes ++ record { line = line; parent = None; is_parent = false } ∷ [];
})
unfolding appear
appear_new s line name e few = rw (e, appear) (rw (lt-leb 512 (length s.names) few) refl)

map-append : {X Y : Type 0} (f : X → Y) (xs : List X) (y : X) → map f (xs ++ y ∷ []) ≡ map f xs ++ f y ∷ []
map-append f [] y = refl
map-append f (x ∷ xs) y = ap (λ t. f x ∷ t) (map-append f xs y)

-- a key that a set of names doesn't have goes last
pub inserted : (keys : List (String Global)) (key : String Global) (name : List ℕ) → string_bytes key ≡ name → list_any (λ k. bytes_eq name (string_bytes k)) keys ≡ false → map string_bytes (insert_key string_eq keys key) ≡ map string_bytes keys ++ name ∷ []
inserted keys key name is absent =
    rw (ap (λ n. list_any (λ k. bytes_eq n (string_bytes k)) keys) is ∙ absent) (map-append string_bytes keys key ∙ ap (λ n. map string_bytes keys ++ n ∷ []) is)

cond_some : (t : Bool) (m n : ℕ) → cond t (Some m) None ≡ Some n → (t ≡ true) × (m ≡ n)
cond_some true m n e = (refl, cc)
cond_some false m n e = cc

-- the number of a name is one of the names' numbers
pub number_below : (name : List ℕ) (names : List (List ℕ)) (n : ℕ) → number_of name names ≡ Some n → n < length names
unfolding number_of
number_below name names n e =
    let h = cond_some _ (position_or_len (bytes_eq name) names) n e in
    let lt : position_or_len (bytes_eq name) names < length names = ltb-true _ _ h.0 in
    subst (λ k. k < length names) h.1 lt

-- texts differ where their bytes do
differ : (key : String Global) (keys : List (String Global)) → AllByRecursion (λ k. string_eq key k ≡ false) keys → AllByRecursion (λ name. bytes_eq (string_bytes key) name ≡ false) (map string_bytes keys)
differ key [] h = h
differ key (k ∷ keys) h = (h.0, differ key keys h.1)

-- keys that differ are names that differ
pub distinct_names : (keys : List (String Global)) → IsDistinct string_eq keys → IsDistinct bytes_eq (map string_bytes keys)
unfolding IsDistinct
distinct_names [] h = h
distinct_names (key ∷ keys) h = (differ key keys h.0, distinct_names keys h.1)
