-- The commands of the modes are simple, and no option has a rule on another.
use Rattle.std.proofs.Common.{◌≡◌, true, refl}
use Rattle.clap.specs.Words.{is_simple, is_simple_and_free}
use Rattle.stat_words.specs.Modes.{command_of}
use Rattle.stat_words.specs.declared.modes.Mode.{Mode}
use Rattle.stat_words.specs.declared.modes.Mode.TheVariants.{Run, Sim, Replay, Direct, Gen, Cast, Sums, View, Frames}

pub all_are_simple : (mode : Mode) → is_simple (command_of mode) ≡ true
all_are_simple Run = refl
all_are_simple Sim = refl
all_are_simple Replay = refl
all_are_simple Direct = refl
all_are_simple Gen = refl
all_are_simple Cast = refl
all_are_simple Sums = refl
all_are_simple View = refl
all_are_simple Frames = refl

pub all_are_free : (mode : Mode) → is_simple_and_free (command_of mode) ≡ true
all_are_free Run = refl
all_are_free Sim = refl
all_are_free Replay = refl
all_are_free Direct = refl
all_are_free Gen = refl
all_are_free Cast = refl
all_are_free Sums = refl
all_are_free View = refl
all_are_free Frames = refl
