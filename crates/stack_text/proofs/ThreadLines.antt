-- The lines of a thread, one after another.
use Rattle.std.proofs.Common.{◌≡◌, ◌∙◌, ℕ, List, [], ◌∷◌, ap, sym}
use Rattle.stack_text.specs.Lines.{LineView, read_line}
use Rattle.stack_text.specs.Threads.{ThreadView, with_line, with_lines}

-- the lines that are left, where one is taken
pub line_taken : (old new whole : ThreadView) (line : List ℕ) (view : LineView) (lines rest : List (List ℕ)) →
    with_lines old lines ≡ whole → lines ≡ line ∷ rest → view ≡ read_line line → new ≡ with_line old view →
    with_lines new rest ≡ whole
unfolding with_lines
line_taken old new whole line view lines rest so_far next is taken =
    ap (λ t. with_lines t rest) (taken ∙ ap (with_line old) is) ∙ ap (with_lines old) (sym next) ∙ so_far

-- no line is left
pub lines_taken : (t whole : ThreadView) (lines : List (List ℕ)) → with_lines t lines ≡ whole → lines ≡ [] → t ≡ whole
unfolding with_lines
lines_taken t whole lines so_far none = ap (with_lines t) (sym none) ∙ so_far
