use Rattle.symbol_name.specs.Copies.{without_mark}
use Rattle.symbol_name.proofs.Repeating.{settled_stays, settled_twice}
use Rattle.symbol_name.proofs.Shorter.{mark_shortens}
use Rattle.symbol_name.proofs.no_mark_is_left.Goals as goal

pub returns-clause-none : goal.returns-clause-none
returns-clause-none c = settled_stays without_mark mark_shortens

pub returns-clause-once : goal.returns-clause-once
returns-clause-once c = settled_twice without_mark mark_shortens
