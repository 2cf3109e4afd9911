use Rattle.std.proofs.Common.{◌≡◌, ◌∙◌, ap, sym, arith, length, cond, Bool}
use Rattle.std.specs.Prelude.{IsOk}
use Rattle.std.specs.List.{insert}
use Rattle.std.specs.Vec.{vec_capacity}
use Rattle.prefix_tree.proofs.Putting.{put_over, put_fits, put_in}
use Rattle.prefix_tree.proofs.owned.insert_rows.Goals as goal

pub loop-row-preserved-in-Ok : goal.loop-row-preserved-in-Ok
loop-row-preserved-in-Ok c =
    let inserted = put_over c.loop-row.rows.items c.deref.result.now c.loop-row.row-iterator.rest.items c.next.new.self.rest.items c.in-Some.row (vec_capacity c.loop-row.rows) c.in-Ok.at c.loop-row.invariant.in_order c.deref.ensures.value c.in-Some.ensures.steps.0 c.loop-row.invariant.room (sym c.find_row.ensures.index ∙ c.in-Ok.is) c.in-Ok.ensures.found in
    record { in_order = inserted.in_order; room = inserted.room; put = inserted.put ∙ c.loop-row.invariant.put }

pub loop-row-preserved-in-Err : goal.loop-row-preserved-in-Err
loop-row-preserved-in-Err c =
    let at = sym c.find_row.ensures.index ∙ c.in-Err.is in
    let fits = put_fits c.loop-row.rows.items c.deref.result.now c.loop-row.row-iterator.rest.items c.next.new.self.rest.items c.in-Some.row (vec_capacity c.loop-row.rows) c.in-Err.at c.loop-row.invariant.in_order c.deref.ensures.value c.in-Some.ensures.steps.0 c.loop-row.invariant.room at c.in-Err.ensures.absent in
    let ok : IsOk c.insert.result = c.insert.ensures.succeeds (omega (arith, fits, c.deref.ensures.len, ap length c.deref.ensures.value)) in
    let new : c.insert.new.self.items ≡ insert c.loop-row.rows.items c.in-Err.at c.in-Some.row = c.insert.ensures.items ∙ ap (λ (b : Bool). cond b (insert c.loop-row.rows.items c.in-Err.at c.in-Some.row) c.loop-row.rows.items) ok in
    let inserted = put_in c.loop-row.rows.items c.deref.result.now c.loop-row.row-iterator.rest.items c.next.new.self.rest.items c.in-Some.row (vec_capacity c.loop-row.rows) c.in-Err.at c.loop-row.invariant.in_order c.deref.ensures.value c.in-Some.ensures.steps.0 c.loop-row.invariant.room at c.in-Err.ensures.absent c.insert.new.self.items new in
    let grown = c.insert.ensures.capacity in
    let room = inserted.room in
    record { in_order = inserted.in_order; room = omega (arith, room, grown); put = inserted.put ∙ c.loop-row.invariant.put }

pub loop-row-preserved : goal.loop-row-preserved
loop-row-preserved c =
    let at = sym c.find_row.ensures.index ∙ c.in-Err.is in
    let fits = put_fits c.loop-row.rows.items c.deref.result.now c.loop-row.row-iterator.rest.items c.next.new.self.rest.items c.in-Some.row (vec_capacity c.loop-row.rows) c.in-Err.at c.loop-row.invariant.in_order c.deref.ensures.value c.in-Some.ensures.steps.0 c.loop-row.invariant.room at c.in-Err.ensures.absent in
    let ok : IsOk c.insert.result = c.insert.ensures.succeeds (omega (arith, fits, c.deref.ensures.len, ap length c.deref.ensures.value)) in
    let new : c.insert.new.self.items ≡ insert c.loop-row.rows.items c.in-Err.at c.in-Some.row = c.insert.ensures.items ∙ ap (λ (b : Bool). cond b (insert c.loop-row.rows.items c.in-Err.at c.in-Some.row) c.loop-row.rows.items) ok in
    let inserted = put_in c.loop-row.rows.items c.deref.result.now c.loop-row.row-iterator.rest.items c.next.new.self.rest.items c.in-Some.row (vec_capacity c.loop-row.rows) c.in-Err.at c.loop-row.invariant.in_order c.deref.ensures.value c.in-Some.ensures.steps.0 c.loop-row.invariant.room at c.in-Err.ensures.absent c.insert.new.self.items new in
    let grown = c.insert.ensures.capacity in
    let room = inserted.room in
    record { in_order = inserted.in_order; room = omega (arith, room, grown); put = inserted.put ∙ c.loop-row.invariant.put }

pub loop-row-preserved-in-Ok-2 : goal.loop-row-preserved-in-Ok-2
loop-row-preserved-in-Ok-2 c =
    let inserted = put_over c.loop-row.rows.items c.deref.result.now c.loop-row.row-iterator.rest.items c.next.new.self.rest.items c.in-Some.row (vec_capacity c.loop-row.rows) c.in-Ok.at c.loop-row.invariant.in_order c.deref.ensures.value c.in-Some.ensures.steps.0 c.loop-row.invariant.room (sym c.find_row.ensures.index ∙ c.in-Ok.is) c.in-Ok.ensures.found in
    record { in_order = inserted.in_order; room = inserted.room; put = inserted.put ∙ c.loop-row.invariant.put }

pub loop-row-preserved-in-Err-2 : goal.loop-row-preserved-in-Err-2
loop-row-preserved-in-Err-2 c =
    let at = sym c.find_row.ensures.index ∙ c.in-Err.is in
    let fits = put_fits c.loop-row.rows.items c.deref.result.now c.loop-row.row-iterator.rest.items c.next.new.self.rest.items c.in-Some.row (vec_capacity c.loop-row.rows) c.in-Err.at c.loop-row.invariant.in_order c.deref.ensures.value c.in-Some.ensures.steps.0 c.loop-row.invariant.room at c.in-Err.ensures.absent in
    let ok : IsOk c.insert.result = c.insert.ensures.succeeds (omega (arith, fits, c.deref.ensures.len, ap length c.deref.ensures.value)) in
    let new : c.insert.new.self.items ≡ insert c.loop-row.rows.items c.in-Err.at c.in-Some.row = c.insert.ensures.items ∙ ap (λ (b : Bool). cond b (insert c.loop-row.rows.items c.in-Err.at c.in-Some.row) c.loop-row.rows.items) ok in
    let inserted = put_in c.loop-row.rows.items c.deref.result.now c.loop-row.row-iterator.rest.items c.next.new.self.rest.items c.in-Some.row (vec_capacity c.loop-row.rows) c.in-Err.at c.loop-row.invariant.in_order c.deref.ensures.value c.in-Some.ensures.steps.0 c.loop-row.invariant.room at c.in-Err.ensures.absent c.insert.new.self.items new in
    let grown = c.insert.ensures.capacity in
    let room = inserted.room in
    record { in_order = inserted.in_order; room = omega (arith, room, grown); put = inserted.put ∙ c.loop-row.invariant.put }

pub loop-row-preserved-in-Ok-3 : goal.loop-row-preserved-in-Ok-3
loop-row-preserved-in-Ok-3 c =
    let inserted = put_over c.loop-row.rows.items c.deref.result.now c.loop-row.row-iterator.rest.items c.next.new.self.rest.items c.in-Some.row (vec_capacity c.loop-row.rows) c.in-Ok.at c.loop-row.invariant.in_order c.deref.ensures.value c.in-Some.ensures.steps.0 c.loop-row.invariant.room (sym c.find_row.ensures.index ∙ c.in-Ok.is) c.in-Ok.ensures.found in
    record { in_order = inserted.in_order; room = inserted.room; put = inserted.put ∙ c.loop-row.invariant.put }

pub loop-row-preserved-in-Ok-4 : goal.loop-row-preserved-in-Ok-4
loop-row-preserved-in-Ok-4 c =
    let inserted = put_over c.loop-row.rows.items c.deref.result.now c.loop-row.row-iterator.rest.items c.next.new.self.rest.items c.in-Some.row (vec_capacity c.loop-row.rows) c.in-Ok.at c.loop-row.invariant.in_order c.deref.ensures.value c.in-Some.ensures.steps.0 c.loop-row.invariant.room (sym c.find_row.ensures.index ∙ c.in-Ok.is) c.in-Ok.ensures.found in
    record { in_order = inserted.in_order; room = inserted.room; put = inserted.put ∙ c.loop-row.invariant.put }

pub loop-row-preserved-in-Err-3 : goal.loop-row-preserved-in-Err-3
loop-row-preserved-in-Err-3 c =
    let at = sym c.find_row.ensures.index ∙ c.in-Err.is in
    let fits = put_fits c.loop-row.rows.items c.deref.result.now c.loop-row.row-iterator.rest.items c.next.new.self.rest.items c.in-Some.row (vec_capacity c.loop-row.rows) c.in-Err.at c.loop-row.invariant.in_order c.deref.ensures.value c.in-Some.ensures.steps.0 c.loop-row.invariant.room at c.in-Err.ensures.absent in
    let ok : IsOk c.insert.result = c.insert.ensures.succeeds (omega (arith, fits, c.deref.ensures.len, ap length c.deref.ensures.value)) in
    let new : c.insert.new.self.items ≡ insert c.loop-row.rows.items c.in-Err.at c.in-Some.row = c.insert.ensures.items ∙ ap (λ (b : Bool). cond b (insert c.loop-row.rows.items c.in-Err.at c.in-Some.row) c.loop-row.rows.items) ok in
    let inserted = put_in c.loop-row.rows.items c.deref.result.now c.loop-row.row-iterator.rest.items c.next.new.self.rest.items c.in-Some.row (vec_capacity c.loop-row.rows) c.in-Err.at c.loop-row.invariant.in_order c.deref.ensures.value c.in-Some.ensures.steps.0 c.loop-row.invariant.room at c.in-Err.ensures.absent c.insert.new.self.items new in
    let grown = c.insert.ensures.capacity in
    let room = inserted.room in
    record { in_order = inserted.in_order; room = omega (arith, room, grown); put = inserted.put ∙ c.loop-row.invariant.put }

pub loop-row-preserved-in-Err-4 : goal.loop-row-preserved-in-Err-4
loop-row-preserved-in-Err-4 c =
    let at = sym c.find_row.ensures.index ∙ c.in-Err.is in
    let fits = put_fits c.loop-row.rows.items c.deref.result.now c.loop-row.row-iterator.rest.items c.next.new.self.rest.items c.in-Some.row (vec_capacity c.loop-row.rows) c.in-Err.at c.loop-row.invariant.in_order c.deref.ensures.value c.in-Some.ensures.steps.0 c.loop-row.invariant.room at c.in-Err.ensures.absent in
    let ok : IsOk c.insert.result = c.insert.ensures.succeeds (omega (arith, fits, c.deref.ensures.len, ap length c.deref.ensures.value)) in
    let new : c.insert.new.self.items ≡ insert c.loop-row.rows.items c.in-Err.at c.in-Some.row = c.insert.ensures.items ∙ ap (λ (b : Bool). cond b (insert c.loop-row.rows.items c.in-Err.at c.in-Some.row) c.loop-row.rows.items) ok in
    let inserted = put_in c.loop-row.rows.items c.deref.result.now c.loop-row.row-iterator.rest.items c.next.new.self.rest.items c.in-Some.row (vec_capacity c.loop-row.rows) c.in-Err.at c.loop-row.invariant.in_order c.deref.ensures.value c.in-Some.ensures.steps.0 c.loop-row.invariant.room at c.in-Err.ensures.absent c.insert.new.self.items new in
    let grown = c.insert.ensures.capacity in
    let room = inserted.room in
    record { in_order = inserted.in_order; room = omega (arith, room, grown); put = inserted.put ∙ c.loop-row.invariant.put }
