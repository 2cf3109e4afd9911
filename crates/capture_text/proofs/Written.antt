-- Texts that are written one after another.
use Rattle.std.proofs.Common.{◌≡◌, ℕ, ◌-◌, List, [], ◌∷◌, ◌++◌, length, ap, ◌∙◌, arith, append_assoc}
use Rattle.std.specs.Prelude.{codes}
use Rattle.std.specs.FinMap as finmap
use Rattle.std.specs.Fmt.{decimal}
use Rattle.rank_set.specs.Ranks.{Ranks}
use Rattle.rank_set.specs.Text.{text_of}
use Rattle.prefix_tree.specs.Tree.{Tree, rows_of, count_below}
use Rattle.tree_text.specs.TreeText.{rows_text}
use Rattle.capture_text.specs.CaptureText.{contents_text}

rows_besides : (t : Tree) (rows : ℕ) → rows ≡ length (rows_of t) → rows - 1 ≡ count_below t
rows_besides t rows is = let e = finmap.len-entries t.below in omega (arith, e, is)

-- the ranks that a tree covers, and its rows
pub contents_written : (t : Tree) (label : Ranks) (rows : ℕ) (out a b c d : List ℕ) → label ≡ t.coverage → rows ≡ length (rows_of t) → a ≡ out ++ codes " covered " → b ≡ a ++ text_of label → c ≡ b ++ codes " rows " ++ decimal (rows - 1) → d ≡ c ++ 10 ∷ [] → d ++ rows_text t ≡ out ++ contents_text t
contents_written t label rows out a b c d is_label is_rows pa pb pc pd =
    ap (λ ys. ys ++ rows_text t) (pd ∙ ap (λ ys. ys ++ 10 ∷ []) (pc ∙ ap (λ ys. ys ++ codes " rows " ++ decimal (rows - 1)) (pb ∙ ap (λ ys. ys ++ text_of label) pa)))
    ∙ regroup out (codes " covered ") (text_of label) (codes " rows ") (decimal (rows - 1)) (10 ∷ []) (rows_text t)
    ∙ ap (λ n. out ++ (codes " covered " ++ text_of label ++ codes " rows " ++ decimal n ++ 10 ∷ [] ++ rows_text t)) (rows_besides t rows is_rows)
    ∙ ap (λ s. out ++ (codes " covered " ++ text_of s ++ codes " rows " ++ decimal (count_below t) ++ 10 ∷ [] ++ rows_text t)) is_label
  where
    regroup : (out a b c d e f : List ℕ) → (((((out ++ a) ++ b) ++ c) ++ d) ++ e) ++ f ≡ out ++ (((((a ++ b) ++ c) ++ d) ++ e) ++ f)
    regroup out a b c d e f = simp append_assoc
