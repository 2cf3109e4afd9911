use Rattle.std.proofs.Common.{◌≡◌, ◌∙◌, List, Ok, Err, Result, true, ap, sym}
use Rattle.std.specs.Prelude.{OnOk}
use Rattle.std.specs.declared.alloc.AllocError.{AllocError}
use Rattle.equiv_class.specs.declared.Class.{Class}
use Rattle.wide_merge.specs.Joining.{ends_with, index_view, index_views, same_indices, with_block, with_ranks}
use Rattle.wide_merge.proofs.Blocks.{views_push, with_last, with_new}
use Rattle.wide_merge.proofs.united.add_class.Goals as goal

pub returns : goal.returns
returns c =
    ap index_views c.in_ok-push.ensures.items ∙ views_push c.args.all.now.items c.args.class
    ∙ with_new same_indices (index_views c.args.all.now.items) (index_view c.args.class)
    (sym (ap (λ cs. ends_with same_indices (index_views cs) c.args.class.paths.items) c.as_slice.ensures.value) ∙ sym c.ends_with_paths.ensures ∙ c.if-ends_with_paths.false)

in_last : (r : Result (Unit {0}) AllocError) (new old : List Class) (class : Class) → ends_with same_indices (index_views old) class.paths.items ≡ true → OnOk r (index_views new ≡ with_ranks (index_views old) class.ranks)
    → OnOk r (index_views new ≡ with_block same_indices (index_views old) (index_view class))
in_last (Ok x) new old class last is = is ∙ with_last same_indices (index_views old) (index_view class) last
in_last (Err e) new old class last is = tt

pub returns-then-ends_with_paths : goal.returns-then-ends_with_paths
returns-then-ends_with_paths c =
    in_last c.add_ranks.result c.add_ranks.new.all.items c.args.all.now.items c.args.class
    (sym (ap (λ cs. ends_with same_indices (index_views cs) c.args.class.paths.items) c.as_slice.ensures.value) ∙ sym c.ends_with_paths.ensures ∙ c.if-ends_with_paths.true)
    c.add_ranks.ensures
