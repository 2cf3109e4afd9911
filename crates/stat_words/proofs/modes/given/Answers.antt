use Rattle.std.proofs.Common.{◌≡◌, ◌∙◌, List, false, sym, ap, subst, map, string_bytes}
use Rattle.std.specs.Prelude.{Err, if◌then◌else◌}
use Rattle.clap.specs.Words.{App, Text, app_of, is_simple, is_simple_and_free}
use Rattle.stat_words.specs.Modes.{command_of, given, has_dashes, rows_in, taken}
use Rattle.stat_words.specs.Outcomes.{IsReadOrOutOfMemory}
use Rattle.stat_words.specs.declared.modes.Mode.{Mode}
use Rattle.stat_words.specs.declared.words.WordFault.TheVariants.{Options}
use Rattle.stat_words.proofs.Simple.{all_are_free, all_are_simple}
use Rattle.stat_words.proofs.modes.given.Goals as goal

pub parse-requires-clause-simple : goal.parse-requires-clause-simple
parse-requires-clause-simple c = ap is_simple c.in-Ok.ensures ∙ all_are_simple c.args.mode

pub parse-requires-clause-free : goal.parse-requires-clause-free
parse-requires-clause-free c = ap is_simple_and_free c.in-Ok.ensures ∙ all_are_free c.args.mode

-- words with no `--`, and the mode's command
is_given : (mode : Mode) (words : List Text) (command : App) → has_dashes words ≡ false → command ≡ command_of mode
    → taken command words ≡ given mode words
is_given mode words command plain is =
    ap (λ app. taken app words) is
    ∙ sym (ap (λ dashes. if dashes then Err Options else taken (command_of mode) words) plain)

pub returns : goal.returns
returns c =
    let words : List Text = map string_bytes c.args.words.now in
    let plain : has_dashes words ≡ false = sym c.has_dashes.ensures ∙ c.if-has_dashes.false in
    subst (λ read. IsReadOrOutOfMemory rows_in read c.parse.result)
    (is_given c.args.mode words (app_of c.in-Ok.command) plain c.in-Ok.ensures) c.parse.ensures
