use Rattle.std.proofs.Common.{◌≡◌, Option, None, Some, Result, Ok, ◌∙◌, sym, ap}
use Rattle.std.specs.Prelude.{IfSome}
use Rattle.rank_set.specs.declared.read.RanksError.{RanksError}
use Rattle.rank_set.specs.Ranks.{Ranks, none, union}
use Rattle.rank_set.specs.Runs.{ranks_between}
use Rattle.rank_set.specs.RanksText.{ranks_text}
use Rattle.rank_set.proofs.OneItem.{item_is_text}
use Rattle.rank_set.proofs.read.read_one_item.Goals as goal

read_as : (text : Result Ranks RanksError) (all : Ranks) (o : Option Ranks) → text ≡ Ok all → IfSome o (λ set. set ≡ all) → IfSome o (λ ranks. text ≡ Ok ranks)
read_as text all None read is = tt
read_as text all (Some set) read is = read ∙ ap Ok (sym is)

pub returns-in-Ok : goal.returns-in-Ok
returns-in-Ok c =
    read_as (ranks_text c.args.text.now) (union none (ranks_between c.in-Ok.run'.first c.in-Ok.run'.last)) c.of_run.result
    (item_is_text c.args.text.now c.in-Ok.run'.first c.in-Ok.run'.last c.requires c.in-Ok.ensures.ok) c.of_run.ensures
