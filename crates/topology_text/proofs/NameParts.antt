-- The names among the tokens of a text are good names.
use Rattle.std.proofs.Common.{◌≡◌, ℕ, zero, suc, ◌+◌, ◌-◌, ◌≤◌, Bool, true, false, not, ◌||◌, cond, nat_eq, List, [], ◌∷◌, ◌++◌, length, take, drop, refl, ap, ◌∙◌, arith}
use Rattle.std.specs.Char.{is_ascii_digit}
use Rattle.std.specs.List.{prefix_len, list_all, AllByRecursion}
use Rattle.std.proofs.lemmas.List.{length-take}
use Rattle.std.proofs.lemmas.List.Sums.{prefix_len-le-length}
use Rattle.std.proofs.lemmas.Bool.Decides.{nat_tests}
use Rattle.overlay_setup.specs.Names.{IsName, is_host_byte, begins}
use Rattle.topology_text.specs.Tokens.{Piece, Arrow, Semicolon, Name, End, NoToken, host_len, is_space, is_name, name_after, name_at, piece_at, piece_len, pieces}
use Rattle.rank_set.specs.Digits.{digits_len}
use Rattle.text_lines.specs.Lines.{line_len}

-- a token that is a name is a good one
abbrev pub IsGoodPiece : Piece → Type 0
IsGoodPiece Arrow = Unit {0}
IsGoodPiece Semicolon = Unit {0}
IsGoodPiece (Name name) = IsName name
IsGoodPiece End = Unit {0}
IsGoodPiece NoToken = Unit {0}

-- the front that passes a test passes it throughout
all_front : (p : ℕ → Bool) (text : List ℕ) → list_all p (take (prefix_len p text) text) ≡ true
all_front p [] = refl
all_front p (b ∷ rest) = by (p b) refl (all_front p rest)
  where
    by : (t : Bool) → p b ≡ t → list_all p (take (prefix_len p rest) rest) ≡ true → list_all p (take (cond t (1 + prefix_len p rest) 0) (b ∷ rest)) ≡ true
    by true e all = (let n : 1 + prefix_len p rest ≡ suc (prefix_len p rest) = omega arith in ap (λ k. list_all p (take k (b ∷ rest))) n) ∙ rw e all
    by false e all = refl

-- more bytes from the front
take_more : (n m : ℕ) (text : List ℕ) → take (n + m) text ≡ take n text ++ take m (drop n text)
take_more zero m text = (let e : 0 + m ≡ m = omega arith in ap (λ k. take k text) e)
take_more (suc n) m [] = (let e : suc n + m ≡ suc (n + m) = omega arith in ap (λ k. take k []) e) ∙ nothing m
  where
    nothing : (m : ℕ) → ◌≡◌ {A = List ℕ} [] (take m [])
    nothing zero = refl
    nothing (suc m) = refl
take_more (suc n) m (b ∷ rest) = (let e : suc n + m ≡ suc (n + m) = omega arith in ap (λ k. take k (b ∷ rest)) e) ∙ ap (λ t. b ∷ t) (take_more n m rest)

-- the same first byte
begins_take : (c n : ℕ) (text : List ℕ) → 1 ≤ n → begins c (take n text) ≡ begins c text
begins_take c zero text some = absurd (omega arith)
begins_take c (suc n) [] some = refl
begins_take c (suc n) (b ∷ rest) some = refl

-- the parts of a name
module _ (host colon digits : ℕ) (index : List ℕ) (e : is_name host colon index digits ≡ true) where
  has_host : 1 ≤ host
  has_host = grind (arith, nat_tests)

  host_within_limit : host ≤ 63
  host_within_limit = grind (arith, nat_tests)

  colon_is : colon ≡ 58
  colon_is = grind (arith, nat_tests)

  has_digits : 1 ≤ digits
  has_digits = grind (arith, nat_tests)

  digits_within_limit : digits ≤ 5
  digits_within_limit = grind (arith, nat_tests)

  no_zero : (nat_eq digits 1 || not (begins 48 index)) ≡ true
  no_zero = grind (arith, nat_tests)

module _ (text : List ℕ) (colon : ℕ) (index : List ℕ) (at : drop (host_len text) text ≡ colon ∷ index) (e : is_name (host_len text) colon index (digits_len index) ≡ true) where
  host_is : length (take (host_len text) text) ≡ host_len text
  host_is = let h : host_len text ≤ length text = prefix_len-le-length is_host_byte text in omega (arith, length-take {A = ℕ} (host_len text) text)

  index_is : length (take (digits_len index) index) ≡ digits_len index
  index_is = let h : digits_len index ≤ length index = prefix_len-le-length is_ascii_digit index in omega (arith, length-take {A = ℕ} (digits_len index) index)

  parts_are : take (host_len text + 1 + digits_len index) text ≡ take (host_len text) text ++ 58 ∷ take (digits_len index) index
  parts_are =
      (let n : host_len text + 1 + digits_len index ≡ host_len text + suc (digits_len index) = omega arith in ap (λ k. take k text) n)
      ∙ take_more (host_len text) (suc (digits_len index)) text
      ∙ ap (λ t. take (host_len text) text ++ take (suc (digits_len index)) t) (at ∙ ap (λ c. c ∷ index) (colon_is (host_len text) colon (digits_len index) index e))

  -- a name by its parts
  name_is : IsName (take (host_len text + 1 + digits_len index) text)
  name_is = record {
    host = take (host_len text) text;
    index = take (digits_len index) index;
    parts = parts_are;
    host_bytes = all_front is_host_byte text;
    has_host = omega (arith, host_is, has_host (host_len text) colon (digits_len index) index e);
    host_within_limit = omega (arith, host_is, host_within_limit (host_len text) colon (digits_len index) index e);
    digits = all_front is_ascii_digit index;
    has_digits = omega (arith, index_is, has_digits (host_len text) colon (digits_len index) index e);
    digits_within_limit = omega (arith, index_is, digits_within_limit (host_len text) colon (digits_len index) index e);
    no_leading_zero =
        ap (λ n. nat_eq n 1 || not (begins 48 (take (digits_len index) index))) index_is
        ∙ ap (λ b. nat_eq (digits_len index) 1 || not b) (begins_take 48 (digits_len index) index (has_digits (host_len text) colon (digits_len index) index e))
        ∙ no_zero (host_len text) colon (digits_len index) index e;
  }

after_good : (text after : List ℕ) → drop (host_len text) text ≡ after → IsGoodPiece (name_after text (host_len text) after)
after_good text [] at = tt
after_good text (colon ∷ index) at = by (is_name (host_len text) colon index (digits_len index)) refl
  where
    by : (t : Bool) → is_name (host_len text) colon index (digits_len index) ≡ t → IsGoodPiece (cond t (Name (take (host_len text + 1 + digits_len index) text)) NoToken)
    by true e = name_is text colon index at e
    by false e = tt

piece_by : (semicolon arrow : Bool) (name : Piece) → IsGoodPiece name → IsGoodPiece (cond semicolon Semicolon (cond arrow Arrow name))
piece_by true arrow name good = tt
piece_by false true name good = tt
piece_by false false name good = good

-- a token that is read is a good one
pub piece_good : (text : List ℕ) → IsGoodPiece (piece_at text)
piece_good text = piece_by (begins 59 text) _ (name_at text) (after_good text (drop (host_len text) text) refl)

-- each token of a text is a good one
pub pieces_good : (line passed : ℕ) (text : List ℕ) → AllByRecursion (λ p. IsGoodPiece p.1) (pieces line passed text)
unfolding pieces
pieces_good line zero [] = (tt, tt)
pieces_good line (suc passed) [] = (tt, tt)
pieces_good line (suc passed) (b ∷ rest) = pieces_good line passed rest
pieces_good line zero (b ∷ rest) = by (nat_eq b 10) (is_space b) (nat_eq b 35) (λ l n. pieces_good l n rest)
  where
    by : (feed space mark : Bool) → ((l n : ℕ) → AllByRecursion (λ p. IsGoodPiece p.1) (pieces l n rest)) → AllByRecursion (λ p. IsGoodPiece p.1) (elim feed as (λ _. List (ℕ × Piece)) [
      | true ↦ pieces (suc line) 0 rest
      | false ↦ elim space as (λ _. List (ℕ × Piece)) [
        | true ↦ pieces line 0 rest
        | false ↦ elim mark as (λ _. List (ℕ × Piece)) [
          | true ↦ pieces line (line_len rest) rest
          | false ↦ (line, piece_at (b ∷ rest)) ∷ pieces line (piece_len (piece_at (b ∷ rest)) - 1) rest
        ]
      ]
    ])
    by true space mark more = more (suc line) 0
    by false true mark more = more line 0
    by false false true more = more line (line_len rest)
    by false false false more = (piece_good (b ∷ rest), more line (piece_len (piece_at (b ∷ rest)) - 1))
