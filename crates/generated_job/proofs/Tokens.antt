-- The first token of a text, and the tokens of names.
use Rattle.std.proofs.Common.{◌≡◌, ℕ, zero, suc, ◌+◌, ◌-◌, ◌≤◌, Bool, true, false, not, ◌||◌, ◌&&◌, cond, nat_eq, List, [], ◌∷◌, ◌++◌, length, take, drop, refl, sym, ap, ◌∙◌, subst, arith, append_assoc, length-append}
use Rattle.std.specs.Char.{is_ascii_digit}
use Rattle.std.specs.List.{prefix_len, list_all}
use Rattle.std.proofs.Math.Seq.{drop-append_seam, take-append_seam}
use Rattle.std.proofs.lemmas.Bool.{and_parts, le-leb}
use Rattle.std.proofs.lemmas.Bool.Decides.{nat_tests}
use Rattle.overlay_setup.specs.Names.{IsName, is_host_byte, begins}
use Rattle.rank_set.specs.Digits.{digits_len}
use Rattle.topology_text.specs.Tokens.{Name, NoToken, host_len, is_name, name_after, name_at, piece_at, piece_len, pieces, StopsAt}

-- passed bytes are dropped
passed_drop : (line n : ℕ) (text : List ℕ) → pieces line n text ≡ pieces line 0 (drop n text)
unfolding pieces
passed_drop line zero [] = refl
passed_drop line (suc n) [] = refl
passed_drop line zero (b ∷ rest) = refl
passed_drop line (suc n) (b ∷ rest) = passed_drop line n rest

-- the first token, and then those of the bytes after it
pub first_token : (line n : ℕ) (text : List ℕ) → StopsAt text → 1 ≤ length text → 1 ≤ n → piece_len (piece_at text) ≡ n → pieces line 0 text ≡ (line, piece_at text) ∷ pieces line 0 (drop n text)
unfolding pieces
first_token line n [] stops some pos e = absurd (omega arith)
first_token line n (b ∷ rest) stops some pos e =
    rw (stops.0, stops.1, stops.2, pieces) (
    ap (λ t. (line, piece_at (b ∷ rest)) ∷ t) (
    passed_drop line (piece_len (piece_at (b ∷ rest)) - 1) rest
    ∙ (let k : suc (piece_len (piece_at (b ∷ rest)) - 1) ≡ n = omega arith in ap (λ m. pieces line 0 (drop m (b ∷ rest))) k)))

-- a blank is passed
pub past_space : (line : ℕ) (rest : List ℕ) → pieces line 0 (32 ∷ rest) ≡ pieces line 0 rest
unfolding pieces
past_space line rest = refl

-- bytes that pass a test, before one that doesn't
pub prefix_stops : (p : ℕ → Bool) (xs : List ℕ) (b : ℕ) (rest : List ℕ) → list_all p xs ≡ true → p b ≡ false → prefix_len p (xs ++ b ∷ rest) ≡ length xs
prefix_stops p [] b rest all stop = rw stop refl
prefix_stops p (x ∷ xs) b rest all stop =
    let parts = and_parts (p x) (list_all p xs) all in
    rw parts.0 (rw (prefix_stops p xs b rest parts.1 stop) (omega arith))

host_no_semicolon : (h : ℕ) → is_host_byte h ≡ true → nat_eq h 59 ≡ false
host_no_semicolon h e = grind (arith, nat_tests)

host_no_arrow : (h : ℕ) → is_host_byte h ≡ true → nat_eq h 61 ≡ false
host_no_arrow h e = grind (arith, nat_tests)

first_piece : (h : ℕ) (rest : List ℕ) → is_host_byte h ≡ true → piece_at (h ∷ rest) ≡ name_at (h ∷ rest)
first_piece h rest e = rw (host_no_semicolon h e) (rw (host_no_arrow h e) refl)

begins_same : (index rest : List ℕ) → 1 ≤ length index → begins 48 (index ++ rest) ≡ begins 48 index
begins_same [] rest some = absurd (omega arith)
begins_same (d ∷ index) rest some = refl

pub and_all : (a b : Bool) → a ≡ true → b ≡ true → (a && b) ≡ true
and_all true b p q = q
and_all false b p q = p

module _ (host index rest : List ℕ) (host_bytes : list_all is_host_byte host ≡ true) (has_host : 1 ≤ length host) (host_within_limit : length host ≤ 63) (digits : list_all is_ascii_digit index ≡ true) (has_digits : 1 ≤ length index) (digits_within_limit : length index ≤ 5) (no_zero : (nat_eq (length index) 1 || not (begins 48 index)) ≡ true) where
  abbrev text : List ℕ
  text = host ++ 58 ∷ (index ++ 32 ∷ rest)

  host_is : host_len text ≡ length host
  host_is = prefix_stops is_host_byte host 58 (index ++ 32 ∷ rest) host_bytes refl

  digits_is : digits_len (index ++ 32 ∷ rest) ≡ length index
  digits_is = prefix_stops is_ascii_digit index 32 rest digits refl

  is_one : is_name (length host) 58 (index ++ 32 ∷ rest) (length index) ≡ true
  is_one =
      and_all _ _
      (and_all _ _
      (and_all _ _
      (and_all _ _
      (and_all _ _ (le-leb 1 (length host) has_host) (le-leb (length host) 63 host_within_limit))
      refl)
      (le-leb 1 (length index) has_digits))
      (le-leb (length index) 5 digits_within_limit))
      (ap (λ b. nat_eq (length index) 1 || not b) (begins_same index (32 ∷ rest) has_digits) ∙ no_zero)

  taken : take (length host + 1 + length index) text ≡ host ++ 58 ∷ index
  taken =
      (λ i. take (len i) (sym (append_assoc host (58 ∷ index) (32 ∷ rest)) i))
      ∙ take-append_seam (host ++ 58 ∷ index) (32 ∷ rest)
    where
      len : length host + 1 + length index ≡ length (host ++ 58 ∷ index)
      len = omega (arith, length-append host (58 ∷ index))

  name_here : name_at text ≡ Name (host ++ 58 ∷ index)
  name_here =
      ap (λ n. name_after text n (drop n text)) host_is
      ∙ ap (name_after text (length host)) (drop-append_seam host (58 ∷ (index ++ 32 ∷ rest)))
      ∙ ap (λ n. cond (is_name (length host) 58 (index ++ 32 ∷ rest) n) (Name (take (length host + 1 + n) text)) NoToken) digits_is
      ∙ (λ i. cond (is_one i) (Name (taken i)) NoToken)

module _ (index rest : List ℕ) (digits : list_all is_ascii_digit index ≡ true) (has_digits : 1 ≤ length index) (digits_within_limit : length index ≤ 5) (no_zero : (nat_eq (length index) 1 || not (begins 48 index)) ≡ true) where
  parts_piece : (host : List ℕ) → list_all is_host_byte host ≡ true → 1 ≤ length host → length host ≤ 63 → piece_at ((host ++ 58 ∷ index) ++ 32 ∷ rest) ≡ Name (host ++ 58 ∷ index)
  parts_piece [] host_bytes has_host host_within_limit = absurd (omega arith)
  parts_piece (h ∷ host) host_bytes has_host host_within_limit =
      first_piece h ((host ++ 58 ∷ index) ++ 32 ∷ rest) (and_parts (is_host_byte h) (list_all is_host_byte host) host_bytes).0
      ∙ ap name_at (append_assoc (h ∷ host) (58 ∷ index) (32 ∷ rest))
      ∙ name_here (h ∷ host) index rest host_bytes has_host host_within_limit digits has_digits digits_within_limit no_zero

-- a name before a blank is read as that name
pub name_piece : (name rest : List ℕ) → IsName name → piece_at (name ++ 32 ∷ rest) ≡ Name name
name_piece name rest good =
    subst (λ n. piece_at (n ++ 32 ∷ rest) ≡ Name n) (sym good.parts)
    (parts_piece good.index rest good.digits good.has_digits good.digits_within_limit good.no_leading_zero good.host good.host_bytes good.has_host good.host_within_limit)
