-- Texts that are cut at their line feeds.
use Rattle.std.proofs.Common.{◌≡◌, ◌∙◌, ℕ, ◌<◌, Bool, List, [], ◌∷◌, ◌++◌, length, take, drop, map, true, false, cond, refl, ap, sym, arith, nat_eq, append_assoc}
use Rattle.std.specs.List.{list_any}
use Rattle.std.specs.Prelude.{◌||◌}
use Rattle.text_lines.specs.Lines.{before_first, line_len, lines, pieces, without_return}
use Rattle.text_lines.proofs.Cuts.{first_piece}
use Rattle.stack_text.specs.Bare.{bare}
use Rattle.stack_text.specs.Texts.{has_feed, joined}
use Rattle.stack_text.specs.Threads.{thread_of}
use Rattle.stack_text.proofs.BareLines.{bare_has_no_feed}
use Rattle.stack_text.proofs.BareThreads.{thread_of_bare}

-- a text without a byte has no piece
pub no_pieces : (text : List ℕ) → length text ≡ 0 → pieces text ≡ []
unfolding pieces
no_pieces [] e = refl
no_pieces (b ∷ rest) e = absurd (omega (arith, e))

-- what is left behind a line feed
abbrev behind_feed : List ℕ → List ℕ
behind_feed [] = []
behind_feed (b ∷ rest) = rest

-- the first piece of a text that is cut behind it
module _ (text piece after : List ℕ) (len : ℕ) (some : 0 < length text) (is : len ≡ line_len text)
    (front : piece ≡ take len text) (back : after ≡ drop len text) where
  cut_piece : pieces text ≡ piece ∷ pieces (behind_feed after)
  cut_piece =
      first_piece text some ∙ ap (λ n. take n text ∷ pieces (behind_feed (drop n text))) (sym is)
      ∙ (λ i. sym front i ∷ pieces (behind_feed (sym back i)))

  pub piece_more : (b : ℕ) (rest : List ℕ) → after ≡ b ∷ rest → pieces text ≡ piece ∷ pieces rest
  piece_more b rest parts = cut_piece ∙ ap (λ t. piece ∷ pieces (behind_feed t)) parts

  pub piece_last : length after ≡ 0 → pieces text ≡ piece ∷ pieces after
  piece_last none = cut_piece ∙ ap (λ t. piece ∷ pieces t) (same after none)
    where
      same : (t : List ℕ) → length t ≡ 0 → behind_feed t ≡ t
      same [] e = refl
      same (b ∷ t) e = absurd (omega (arith, e))

none_of : (a b : Bool) → (a || b) ≡ false → (a ≡ false) × (b ≡ false)
none_of false false h = (refl, refl)
none_of false true h = cc
none_of true b h = cc

-- the first of joined lines
first_line : (line rest : List ℕ) → has_feed line ≡ false → pieces (line ++ 10 ∷ rest) ≡ line ∷ pieces rest
unfolding pieces
first_line [] rest none = refl
first_line (b ∷ line) rest none =
    let parts = none_of (nat_eq b 10) (has_feed line) none in
    rw parts.0 (ap (before_first b) (first_line line rest parts.1))

-- joined lines are cut into these lines
pub pieces_joined : (lines : List (List ℕ)) → list_any has_feed lines ≡ false → pieces (joined lines) ≡ lines
unfolding pieces
pieces_joined [] none = refl
pieces_joined (line ∷ lines) none =
    let parts = none_of (has_feed line) (list_any has_feed lines) none in
    ap pieces (append_assoc line (10 ∷ []) (joined lines)) ∙ first_line line (joined lines) parts.0
    ∙ ap (λ ls. line ∷ ls) (pieces_joined lines parts.1)

-- bare lines have line feeds only if their lines have some
bare_lines_have_no_feed : (lines : List (List ℕ)) → list_any has_feed lines ≡ false → list_any has_feed (map bare lines) ≡ false
bare_lines_have_no_feed [] none = refl
bare_lines_have_no_feed (line ∷ lines) none =
    let parts = none_of (has_feed line) (list_any has_feed lines) none in
    rw (bare_has_no_feed line parts.0) (bare_lines_have_no_feed lines parts.1)

pub thread_of_joined : (lines : List (List ℕ)) → list_any has_feed lines ≡ false →
    thread_of (pieces (joined (map bare lines))) ≡ thread_of lines
thread_of_joined lines none =
    ap thread_of (pieces_joined (map bare lines) (bare_lines_have_no_feed lines none)) ∙ thread_of_bare lines

-- no line of a text has a line feed
piece_front : (b : ℕ) (ps : List (List ℕ)) → nat_eq b 10 ≡ false → list_any has_feed ps ≡ false → list_any has_feed (before_first b ps) ≡ false
piece_front b [] is none = rw is refl
piece_front b (p ∷ ps) is none = rw is none

pieces_have_no_feed : (text : List ℕ) → list_any has_feed (pieces text) ≡ false
unfolding pieces
pieces_have_no_feed [] = refl
pieces_have_no_feed (b ∷ rest) = by (nat_eq b 10) refl (pieces_have_no_feed rest)
  where
    by : (t : Bool) → nat_eq b 10 ≡ t → list_any has_feed (pieces rest) ≡ false →
        list_any has_feed (cond t ([] ∷ pieces rest) (before_first b (pieces rest))) ≡ false
    by true is none = none
    by false is none = piece_front b (pieces rest) is none

-- nor has one without the carriage return at its end
trimmed_has_no_feed : (line : List ℕ) → has_feed line ≡ false → has_feed (without_return line) ≡ false
trimmed_has_no_feed [] none = refl
trimmed_has_no_feed (b ∷ []) none = by (nat_eq b 13) none
  where
    by : (t : Bool) → has_feed (b ∷ []) ≡ false → has_feed (cond t [] (b ∷ [])) ≡ false
    by true e = refl
    by false e = e
trimmed_has_no_feed (b ∷ c ∷ rest) none =
    let parts = none_of (nat_eq b 10) (has_feed (c ∷ rest)) none in
    rw parts.0 (trimmed_has_no_feed (c ∷ rest) parts.1)

trimmed_have_no_feed : (ps : List (List ℕ)) → list_any has_feed ps ≡ false → list_any has_feed (map without_return ps) ≡ false
trimmed_have_no_feed [] none = refl
trimmed_have_no_feed (p ∷ ps) none =
    let parts = none_of (has_feed p) (list_any has_feed ps) none in
    rw (trimmed_has_no_feed p parts.0) (trimmed_have_no_feed ps parts.1)

pub lines_have_no_feed : (text : List ℕ) → list_any has_feed (lines text) ≡ false
lines_have_no_feed text = trimmed_have_no_feed (pieces text) (pieces_have_no_feed text)
