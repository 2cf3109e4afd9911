use Rattle.std.proofs.Common.{◌≡◌, ◌∷◌, ℕ, List, [], length, true, refl, arith}
use Rattle.text_lines.specs.Lines.{words, says_nothing}
use Rattle.text_lines.proofs.lines.says_nothing.Goals as goal

-- an empty line says nothing
empty : (line : List ℕ) → length line ≡ 0 → true ≡ says_nothing line
unfolding words
empty [] e = refl
empty (b ∷ rest) e = absurd (omega arith)

pub returns-in-None : goal.returns-in-None
returns-in-None c = empty c.args.line.now c.in-None.ensures.cases
