-- What a node does when it hears of a loss.
use Rattle.std.specs.Prelude.{◌≡◌, ℕ, true, false, Some}
use Rattle.stat_plan.specs.Machine.Kin.{is_parent}
use Rattle.loss_adoption.specs.NodeKins.{NodeKin}
use Rattle.loss_adoption.specs.declared.reaction.Reaction.{Reaction}
use Rattle.loss_adoption.specs.declared.reaction.Reaction.TheVariants.{Stay, NewParent}

-- It stays where it is exactly if the lost node wasn't its parent. Else it has a new parent, which the reaction names.
abbrev pub IsReactionTo : NodeKin → ℕ → NodeKin → Reaction → Type 0
IsReactionTo old lost new Stay = is_parent old.kin.parent lost ≡ false
IsReactionTo old lost new (NewParent m) = (is_parent old.kin.parent lost ≡ true) × (new.kin.parent ≡ Some m)
