use Rattle.std.proofs.Common.{sym, ap, ◌∙◌, arith}
use Rattle.node_arena.specs.Filled.{slots_view}
use Rattle.node_arena.proofs.Filling.{filled_next, filled_put_at, view_room, values-put}
use Rattle.node_arena.proofs.chunk.Chunk.push.Goals as goal

pub write-requires : goal.write-requires
write-requires g c =
    let slots = c.self.inside.slots in let filled = c.self.invariant.filled in
    let room = view_room _ slots.contents c.args.self.now filled c.self.view_is c.requires in
    record { in_range = room; empty = filled_next _ slots.contents filled }

pub overflow_add-self : goal.overflow_add-self
overflow_add-self g c =
    let slots = c.self.inside.slots in let filled = c.self.invariant.filled in
    let room = view_room _ slots.contents c.args.self.now filled c.self.view_is c.requires in
    record { fits = omega (arith, room, slots.counted, slots.in_range) }

pub invariant_of-self : goal.invariant_of-self
invariant_of-self g c =
    let slots = c.self.inside.slots in let filled = c.self.invariant.filled in
    let room = view_room _ slots.contents c.args.self.now filled c.self.view_is c.requires in
    let same = c.self.invariant.same in let written = c.write.ensures in
    record {
      filled = filled_put_at _ slots.contents _ _ filled room written.contents;
      same = record {
        start = same.start ∙ sym written.block.start;
        capacity = same.capacity ∙ sym written.block.capacity;
        allocator = same.allocator;
      };
    }

pub returns-clause-items : goal.returns-clause-items
returns-clause-items g c =
    let slots = c.self.inside.slots in let filled = c.self.invariant.filled in
    let room = view_room _ slots.contents c.args.self.now filled c.self.view_is c.requires in
    rw (← c.self.view_is) (ap slots_view c.write.ensures.contents ∙ values-put _ slots.contents _ filled room)
