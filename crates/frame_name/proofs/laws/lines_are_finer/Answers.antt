use Rattle.std.proofs.Common.{◌≡◌, Bool, false, cond, [], ◌++◌, List, ℕ, refl, sym, ap, ◌∙◌}
use Rattle.std.proofs.lemmas.List.{append-nil}
use Rattle.frame_name.specs.Calls.{CallView}
use Rattle.frame_name.specs.Names.{name_of}
use Rattle.frame_name.specs.SourceLines.{line_of}
use Rattle.frame_name.proofs.Unlined.{kept_cut}
use Rattle.frame_name.proofs.laws.lines_are_finer.Goals as goal

without : (keeps_lines : Bool) (name : List ℕ) (call : CallView) → keeps_lines ≡ false → name ≡ name ++ cond keeps_lines (line_of call) []
without keeps_lines name call e = sym (ap (λ k. name ++ cond k (line_of call) []) e ∙ append-nil name)

pub returns-clause-name : goal.returns-clause-name
returns-clause-name c = λ rules others is_innermost call. refl

pub returns-clause-text : goal.returns-clause-text
returns-clause-text c = λ rules others is_innermost call e f.
    kept_cut rules.keeps_lines (name_of is_innermost call) call f
    ∙ without others.keeps_lines (name_of is_innermost call) call e
