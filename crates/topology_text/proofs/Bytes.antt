-- Bytes from the front of a text, and links from a node to the root.
use Rattle.std.proofs.Common.{◌≡◌, ℕ, zero, suc, ◌+◌, ◌-◌, ◌<◌, ◌≤◌, true, false, not, nat_eq, List, [], ◌∷◌, length, drop, Option, None, Some, refl, sym, ap, ◌∙◌, arith, is_some, add-one}
use Rattle.overlay_setup.specs.Trees.{parent_of}
use Rattle.topology_text.specs.Whole.{is_within}
use Rattle.topology_text.specs.Tokens.{End, piece_at, piece_len, pieces, is_space, StopsAt}
use Rattle.text_lines.specs.Lines.{line_len}

-- passing bytes is dropping them
pub passed_drop : (line n : ℕ) (text : List ℕ) → pieces line n text ≡ pieces line 0 (drop n text)
unfolding pieces
passed_drop line zero [] = refl
passed_drop line (suc n) [] = refl
passed_drop line zero (b ∷ rest) = refl
passed_drop line (suc n) (b ∷ rest) = passed_drop line n rest

-- a line feed begins the next line
pub after_feed : (line b : ℕ) (rest : List ℕ) → b ≡ 10 → pieces (line + 1) 0 rest ≡ pieces line 0 (b ∷ rest)
unfolding pieces
after_feed line b rest e = (let s : line + 1 ≡ suc line = omega arith in ap (λ l. pieces l 0 rest) s) ∙ sym (ap (λ c. pieces line 0 (c ∷ rest)) e)

-- a blank is skipped
pub after_space : (line b : ℕ) (rest : List ℕ) → nat_eq b 10 ≡ false → is_space b ≡ true → pieces line 0 rest ≡ pieces line 0 (b ∷ rest)
unfolding pieces
after_space line b rest not_feed space = rw (not_feed, space, pieces) refl

-- a comment is skipped
pub after_comment : (line b : ℕ) (rest : List ℕ) → nat_eq b 10 ≡ false → is_space b ≡ false → nat_eq b 35 ≡ true → pieces line 0 (drop (line_len rest) rest) ≡ pieces line 0 (b ∷ rest)
unfolding pieces
after_comment line b rest not_feed not_space mark = sym (passed_drop line (line_len rest) rest) ∙ rw (not_feed, not_space, mark, pieces) refl

-- a token stands where no blank and no comment does
pub at_piece : (line b : ℕ) (rest : List ℕ) → nat_eq b 10 ≡ false → is_space b ≡ false → nat_eq b 35 ≡ false → pieces line 0 (b ∷ rest) ≡ (line, piece_at (b ∷ rest)) ∷ pieces line (piece_len (piece_at (b ∷ rest)) - 1) rest
unfolding pieces
at_piece line b rest not_feed not_space not_mark = rw (not_feed, not_space, not_mark, pieces) refl

-- a node with a parent is one link further
pub within_parent : (parents : List (Option ℕ)) (n p links : ℕ) → parent_of parents n ≡ Some p → is_within parents (links + 1) n ≡ is_within parents links p
unfolding is_within
within_parent parents n p links e = rw (add-one links) (rw (e, is_within) refl)

-- a node without a parent is within any number of links
pub within_root : (parents : List (Option ℕ)) (n links : ℕ) → parent_of parents n ≡ None → is_within parents links n ≡ true
unfolding is_within
within_root parents n zero e = rw e refl
within_root parents n (suc links) e = rw (e, is_within) refl

-- a node is within no links where it has no parent
pub within_none : (parents : List (Option ℕ)) (n : ℕ) → is_within parents 0 n ≡ not (is_some (parent_of parents n))
unfolding is_within
within_none parents n = refl

-- a token where no blank and no comment stands
pub next_piece : (line n : ℕ) (text : List ℕ) → StopsAt text → 0 < length text → 1 ≤ n → n ≡ piece_len (piece_at text) → pieces line 0 text ≡ (line, piece_at text) ∷ pieces line 0 (drop n text)
next_piece line n [] stops some pos e = absurd (omega arith)
next_piece line n (b ∷ rest) stops some pos e =
    at_piece line b rest stops.0 stops.1 stops.2
    ∙ ap (λ t. (line, piece_at (b ∷ rest)) ∷ t) (passed_drop line (piece_len (piece_at (b ∷ rest)) - 1) rest ∙ (let k : suc (piece_len (piece_at (b ∷ rest)) - 1) ≡ n = omega arith in ap (λ m. pieces line 0 (drop m (b ∷ rest))) k))

-- at the end of the text stands its end
pub no_pieces : (line : ℕ) (text : List ℕ) → length text ≡ 0 → pieces line 0 text ≡ (line, End) ∷ []
unfolding pieces
no_pieces line [] e = refl
no_pieces line (b ∷ rest) e = absurd (omega arith)
