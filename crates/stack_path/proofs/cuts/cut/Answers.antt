use Rattle.std.proofs.Common.{◌∙◌, ap, not}
use Rattle.std.specs.List.{prefix_len}
use Rattle.stack_path.specs.Cuts.{is_cut_by}
use Rattle.stack_path.proofs.Views.{until_view}
use Rattle.stack_path.proofs.cuts.cut.Goals as goal

pub returns : goal.returns
returns c =
    until_view (λ f. not (is_cut_by c.args.words.now f)) c.args.frames.now.items c.truncate.new.self.items c.uncut_len-n.result
    c.truncate.ensures.items
    (c.uncut_len-n.ensures.value ∙ ap (prefix_len (λ f. not (is_cut_by c.args.words.now f.now))) c.as_slice.ensures.value)
