use Rattle.std.proofs.Common.{◌∙◌, ap}
use Rattle.std.specs.Ordering.{is_eq}
use Rattle.wide_merge.proofs.Blocks.{last_has}
use Rattle.wide_merge.proofs.united.ends_with_paths.Goals as goal

pub returns-in-Some : goal.returns-in-Some
returns-in-Some c =
    c.is_eq.ensures ∙ ap is_eq c.cmp_paths.ensures
    ∙ last_has c.args.all.now c.in-Some.last.now c.args.class.now.paths.items c.in-Some.ensures.value
