-- The rows of a tree, written one after another.
use Rattle.std.proofs.Common.{◌≡◌, ℕ, zero, suc, ◌+◌, ◌<◌, List, [], ◌∷◌, ◌++◌, length, drop, map, ap, ◌∙◌, arith, append_assoc}
use Rattle.std.specs.Prelude.{codes}
use Rattle.std.specs.List.{slice_get}
use Rattle.std.specs.Option.{IfSome}
use Rattle.json.specs.Token.{Token, begin_array, begin_object, end_object}
use Rattle.serde_json.specs.Data.{string}
use Rattle.rank_set.specs.Ranks.{Ranks}
use Rattle.rank_set.specs.Text.{text_of}
use Rattle.call_path.specs.Path.{Path}
use Rattle.prefix_tree.specs.declared.Row.{Row}
use Rattle.prefix_tree.specs.Tree.{Marks}
use Rattle.prefix_tree.specs.Shown.{Shows}
use Rattle.front_end.specs.JsonValues.{row_data, row_of}
use Rattle.json_text.specs.Values.{count, ranks_data}
use Rattle.json_text.specs.Tokens.{member_tokens, rest_tokens, value_tokens}

-- the tokens of a row as it is read
abbrev pub shown_tokens : Row → List Token
shown_tokens row = value_tokens (row_of row.depth row.label.now row.ends.now row.frame.now)

-- the members of a row
pub row_written : (depth : ℕ) (label ends : Ranks) (frame text : List ℕ) (out a b c d e : List Token) → text ≡ text_of label → a ≡ out ++ begin_object ∷ [] → b ≡ a ++ member_tokens (codes "depth") (count depth)
    → c ≡ b ++ member_tokens (codes "ends") (ranks_data ends) → d ≡ c ++ member_tokens (codes "frame") (string frame) → e ≡ d ++ member_tokens (codes "label") (string text) → e ++ end_object ∷ [] ≡ out ++ value_tokens (row_of depth label ends frame)
row_written depth label ends frame text out a b c d e is pa pb pc pd pe =
    let first = member_tokens (codes "depth") (count depth) in
    let second = member_tokens (codes "ends") (ranks_data ends) in
    let third = member_tokens (codes "frame") (string frame) in
    ap (λ ts. ts ++ end_object ∷ []) (pe ∙ ap (λ ts. ts ++ member_tokens (codes "label") (string text)) (pd ∙ ap (λ ts. ts ++ third) (pc ∙ ap (λ ts. ts ++ second) (pb ∙ ap (λ ts. ts ++ first) pa))))
    ∙ regroup out (begin_object ∷ []) first second third (member_tokens (codes "label") (string text)) (end_object ∷ [])
    ∙ ap (λ s. out ++ begin_object ∷ (first ++ (second ++ (third ++ (member_tokens (codes "label") (string s) ++ end_object ∷ []))))) is
  where
    regroup : (out a b c d e f : List Token) → (((((out ++ a) ++ b) ++ c) ++ d) ++ e) ++ f ≡ out ++ (a ++ (b ++ (c ++ (d ++ (e ++ f)))))
    regroup out a b c d e f = simp append_assoc

-- a row as it is read is the row's object
shown_row : (row : Row) (e : Path × Marks) → Shows row e → shown_tokens row ≡ value_tokens (row_data e)
shown_row row e h = λ i. value_tokens (row_of (h.depth i) (h.label i) (h.ends i) (h.frame i))

-- the rows from a row on
rows_from : (row : Row) (es : List (Path × Marks)) (k : ℕ) → k < length es → IfSome (slice_get es k) (Shows row) → shown_tokens row ++ rest_tokens (map row_data (drop (k + 1) es)) ≡ rest_tokens (map row_data (drop k es))
rows_from row [] k lt h = absurd (omega arith)
rows_from row (e ∷ es) zero lt h = ap (λ ts. ts ++ rest_tokens (map row_data es)) (shown_row row e h)
rows_from row (e ∷ es) (suc k) lt h = let later : suc k + 1 ≡ suc (k + 1) = omega arith in ap (λ n. shown_tokens row ++ rest_tokens (map row_data (drop n (e ∷ es)))) later ∙ rows_from row es k (omega arith) h

-- one row more
pub rows_next : (row : Row) (es : List (Path × Marks)) (k n : ℕ) (all before after : List Token) → k < length es → IfSome (slice_get es k) (Shows row) → after ≡ before ++ shown_tokens row → n ≡ k + 1
    → before ++ rest_tokens (map row_data (drop k es)) ≡ all → after ++ rest_tokens (map row_data (drop n es)) ≡ all
rows_next row es k n all before after lt shows is next so_far =
    ap (λ ts. ts ++ rest_tokens (map row_data (drop n es))) is ∙ append_assoc before (shown_tokens row) (rest_tokens (map row_data (drop n es)))
    ∙ ap (λ m. before ++ (shown_tokens row ++ rest_tokens (map row_data (drop m es)))) next ∙ ap (λ ts. before ++ ts) (rows_from row es k lt shows) ∙ so_far

-- the first row
pub rows_begin : (row : Row) (es : List (Path × Marks)) (n : ℕ) (out begun after : List Token) → 0 < length es → IfSome (slice_get es 0) (Shows row) → begun ≡ out ++ begin_array ∷ [] → after ≡ begun ++ shown_tokens row → n ≡ 1
    → after ++ rest_tokens (map row_data (drop n es)) ≡ out ++ begin_array ∷ rest_tokens (map row_data es)
rows_begin row es n out begun after some shows begin is first =
    rows_next row es 0 n (out ++ begin_array ∷ rest_tokens (map row_data es)) begun after some shows is first
    (ap (λ ts. ts ++ rest_tokens (map row_data es)) begin ∙ append_assoc out (begin_array ∷ []) (rest_tokens (map row_data es)))
