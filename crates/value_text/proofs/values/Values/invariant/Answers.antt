use Rattle.std.proofs.Common.{subst}
use Rattle.value_text.specs.Numbers.{AreSmall}
use Rattle.value_text.proofs.Entries.{are_small}
use Rattle.value_text.proofs.values.Values.invariant.Goals as goal

pub returns : goal.returns
returns c = subst AreSmall c.self.view_is (are_small c.self.inside.entries c.self.inside.numbers.items c.self.invariant)
