-- Names and their numbers, where the names are the keys of a set.
use Rattle.std.proofs.Common.{◌≡◌, ℕ, suc, ◌+◌, Bool, true, false, not, cond, nat_lt, List, [], ◌∷◌, length, map, Option, None, Some, refl, sym, ap, ◌∙◌, subst, arith, String, Global, string_bytes}
use Rattle.std.specs.List.{prefix_len, position}
use Rattle.std.specs.Str.{bytes_eq, IsUtf8}
use Rattle.std.proofs.lemmas.Slice.Eq.{bytes_eq-Decides}
use Rattle.std.proofs.lemmas.Bool.{le-ltb}
use Rattle.std.proofs.lemmas.Str.{IsUtf8-string_bytes}
use Rattle.overlay_setup.specs.Names.{number_of}

-- a map keeps the length
pub length-map : {X Y : Type 0} (f : X → Y) (xs : List X) → length (map f xs) ≡ length xs
length-map f [] = refl
length-map f (x ∷ xs) = ap suc (length-map f xs)

prefix_len-map : {X Y : Type 0} (f : X → Y) (p : Y → Bool) (xs : List X) → prefix_len p (map f xs) ≡ prefix_len (λ x. p (f x)) xs
prefix_len-map f p [] = refl
prefix_len-map f p (x ∷ xs) = ap (λ n. cond (p (f x)) (1 + n) 0) (prefix_len-map f p xs)

-- a test past a map
pub position-map : {X Y : Type 0} (f : X → Y) (p : Y → Bool) (xs : List X) → position p (map f xs) ≡ position (λ x. p (f x)) xs
position-map f p xs = λ i. cond (nat_lt (prefix_len-map f (λ y. not (p y)) xs i) (length-map f xs i)) (Some (prefix_len-map f (λ y. not (p y)) xs i)) None

-- a name's place among the keys is its number
pub number_of_keys : {K : Type 0} (bytes : K → List ℕ) (name : List ℕ) (keys : List K) (r : Option ℕ) → r ≡ position (λ k. bytes_eq name (bytes k)) keys → number_of name (map bytes keys) ≡ r
unfolding number_of
number_of_keys bytes name keys r e = position-map bytes (bytes_eq name) keys ∙ sym e

-- nothing passes a test that fails everywhere
fails : {X : Type 0} (p : X → Bool) (xs : List X) → ((x : X) → p x ≡ false) → prefix_len (λ x. not (p x)) xs ≡ length xs
fails p [] never = refl
fails p (x ∷ xs) never = rw (never x) (rw (fails p xs never) (omega arith))

differs : (name : List ℕ) → (IsUtf8 name → ⊥) → (key : String Global) → bytes_eq name (string_bytes key) ≡ false
differs name bad key = by (bytes_eq name (string_bytes key)) refl
  where
    by : (t : Bool) → bytes_eq name (string_bytes key) ≡ t → t ≡ false
    by true e = absurd (bad (subst IsUtf8 (sym ((bytes_eq-Decides name (string_bytes key)).0 e)) (IsUtf8-string_bytes key)))
    by false e = refl

-- bytes that are not UTF-8 are not a name
pub no_name : (name : List ℕ) (keys : List (String Global)) → (IsUtf8 name → ⊥) → number_of name (map string_bytes keys) ≡ None
no_name name keys bad =
    number_of_keys string_bytes name keys None
    (sym (rw (fails (λ (k : String Global). bytes_eq name (string_bytes k)) keys (differs name bad)) (rw (le-ltb (length keys) (length keys) (omega arith)) refl)))
