use Rattle.std.proofs.Common.{◌+◌, nat_eq, refl, sym, ap, subst, get_or, length, take, arith}
use Rattle.std.proofs.lemmas.List.{take_all}
use Rattle.rank_set.proofs.SameWords.{AreSame, none_same, no_bit_differs, one_more, all_same}
use Rattle.rank_set.proofs.words.have_same_words.Goals as goal

pub loop-i-init : goal.loop-i-init
loop-i-init c = none_same c.args.xs.now c.args.ys.now

pub loop-i-preserved : goal.loop-i-preserved
loop-i-preserved c =
    let x = get_or c.args.xs.now c.loop-i.i 0 in
    let y = get_or (take (length c.args.xs.now) c.args.ys.now) c.loop-i.i 0 in
    subst (λ same. AreSame same (c.loop-i.i + 1) c.args.xs.now c.args.ys.now)
    (sym (no_bit_differs c.loop-i.differing x y (omega (arith, c.type_inv.xs c.loop-i.i)) (omega (arith, c.type_inv.ys c.loop-i.i))))
    (one_more (nat_eq c.loop-i.differing 0) c.loop-i.i c.args.xs.now c.args.ys.now x y refl
    (ap (λ zs. get_or zs c.loop-i.i 0) (take_all (length c.args.xs.now) c.args.ys.now (omega (arith, c.requires))))
    c.loop-i.invariant)

pub returns : goal.returns
returns c = all_same (nat_eq c.loop-i.differing 0) c.loop-i.i c.args.xs.now c.args.ys.now c.requires c.loop-i-test.false c.loop-i.invariant
