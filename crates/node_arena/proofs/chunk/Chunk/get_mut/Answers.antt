use Rattle.std.proofs.Common.{◌<◌, refl, ◌∙◌, length-set}
use Rattle.node_arena.proofs.Filling.{view_below, filled_some, filled_get, filled-set, values-set}
use Rattle.std.specs.Prelude.{Some}
use Rattle.node_arena.proofs.chunk.Chunk.get_mut.Goals as goal

pub get_mut-requires : goal.get_mut-requires
get_mut-requires g c =
    let slots = c.self.inside.slots in let filled = c.self.invariant.filled in
    let lt : c.args.i < c.self.inside.len = view_below _ _ slots.contents c.args.self.now filled c.self.view_is c.requires in
    filled_some _ slots.contents _ filled lt

pub invariant_of-self-lent : goal.invariant_of-self-lent
invariant_of-self-lent g c w =
    let slots = c.self.inside.slots in let filled = c.self.invariant.filled in
    let lt : c.args.i < c.self.inside.len = view_below _ _ slots.contents c.args.self.now filled c.self.view_is c.requires in
    let same = c.self.invariant.same in
    record {
      filled = filled-set _ slots.contents _ w filled lt;
      same = record { start = same.start; capacity = same.capacity; allocator = same.allocator };
    }

pub returns : goal.returns
returns g c =
    let slots = c.self.inside.slots in let filled = c.self.invariant.filled in
    let lt : c.args.i < c.self.inside.len = view_below _ _ slots.contents c.args.self.now filled c.self.view_is c.requires in
    let ss = slots.contents in let i = c.args.i in
    let value = filled_get _ ss _ filled lt ∙ c.get_mut.ensures.value in (
      (refl, λ w. rw (← c.self.view_is, values-set _ ss i w filled lt, length-set ss i (Some w)) refl),
      record { writes_back = tt; value = rw (← c.self.view_is) value },
    )
