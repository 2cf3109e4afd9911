-- Commands whose argument was tested.
use Rattle.std.proofs.Common.{◌≡◌, Ok, Err, Result, subst, sym}
use Rattle.std.specs.Result.{IfOk}
use Rattle.stat_words.specs.Words.{HasGoodArgument}
use Rattle.stat_words.specs.declared.words.Command.{Command}
use Rattle.stat_words.specs.declared.words.WordsError.{WordsError}

pub good : (result : Result Command WordsError) (command : Command) → result ≡ Ok command → HasGoodArgument command → IfOk result HasGoodArgument
good result command is has = subst (λ (r : Result Command WordsError). IfOk r HasGoodArgument) (sym is) has

pub none : (result : Result Command WordsError) (error : WordsError) → result ≡ Err error → IfOk result HasGoodArgument
none result error is = subst (λ (r : Result Command WordsError). IfOk r HasGoodArgument) (sym is) tt
