-- What the code's choices stand for.
use Rattle.stack_path.specs.declared.choice.Choice.{Choice}
use Rattle.stack_path.specs.declared.choice.End.{End}
use Rattle.stack_path.specs.declared.choice.End.TheVariants as end
use Rattle.stack_path.specs.declared.choice.Recursion.{Recursion}
use Rattle.stack_path.specs.declared.choice.Recursion.TheVariants as recursion
use Rattle.stack_path.specs.Recursion.{RecursionView, Cycles, Loops, Each}
use Rattle.stack_path.specs.Choices.{EndView, Calls, Whole, ChoiceView}

abbrev pub recursion_view : Recursion → RecursionView
recursion_view recursion.Cycles = Cycles
recursion_view recursion.Loops = Loops
recursion_view recursion.Each = Each

abbrev pub end_view : End → EndView
end_view (end.Calls words) = Calls words
end_view end.Whole = Whole

abbrev pub choice_view : Choice → ChoiceView
choice_view c = record { end = end_view c.end; recursion = recursion_view c.recursion }
