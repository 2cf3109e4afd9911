-- What the code's rules stand for.
use Rattle.frame_name.specs.declared.rules.Rules.{Rules}
use Rattle.frame_name.specs.FrameRules.{RulesView}

abbrev pub rules_view : Rules → RulesView
rules_view r = record { own = r.own; keeps_lines = r.keeps_lines }
