-- The due table: what is to be done for an open wave.
use Rattle.std.specs.Prelude.{Bool, true, false, if◌then◌else◌}
use Rattle.overlay_setup.specs.declared.script.Mode.{Mode}
use Rattle.overlay_setup.specs.declared.script.Mode.TheVariants.{WaitForAll, TimeOut, DontWait}
use Rattle.stat_plan.specs.declared.machine.Timer.{Timer}
use Rattle.stat_plan.specs.declared.machine.Timer.TheVariants.{Off, Running, Fired}
use Rattle.stat_plan.specs.declared.machine.Act.{Act}
use Rattle.stat_plan.specs.declared.machine.Act.TheVariants.{Hold, Arm, Send, Partial, Final}

-- a wave that isn't held goes up, or out at the front end
abbrev pub passed_on : Bool → Act
passed_on front = if front then Partial else Send

-- where the wave isn't complete
abbrev pub due_incomplete : Mode → Bool → Bool → Timer → Act
due_incomplete WaitForAll grown front timer = Hold
due_incomplete DontWait grown front timer = if grown then passed_on front else Hold
due_incomplete (TimeOut t) grown front Off = if grown then Arm else Hold
due_incomplete (TimeOut t) grown front (Running k) = Hold
due_incomplete (TimeOut t) grown front Fired = if grown then passed_on front else Hold

-- mode, complete, grown, at the front end, timer
abbrev pub due_act : Mode → Bool → Bool → Bool → Timer → Act
due_act mode true grown true timer = Final
due_act mode true grown false timer = if grown then Send else Hold
due_act mode false grown front timer = due_incomplete mode grown front timer
