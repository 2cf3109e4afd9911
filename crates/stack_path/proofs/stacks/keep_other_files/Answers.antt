use Rattle.std.proofs.Common.{rules, not}
use Rattle.std.proofs.lemmas.Fn.{filter_same}
use Rattle.stack_path.proofs.stacks.keep_other_files.Goals as goal

pub returns : goal.returns
returns c = filter_same _ (λ f. not f.is_plumbing) _ (λ x b f' k. search rules) _ _ c.retain.ensures.filtered
