use Rattle.stat_plan.specs.LineLists.{line_view}
use Rattle.stat_plan.specs.OwnLines.{key_of}
use Rattle.stat_plan.proofs.Sharing.{key_gains, keys_kept, keys_same, on_ok}
use Rattle.stat_plan.proofs.parted_lines.SpreadLines.add.Goals as goal

pub returns-then-not-added-clause-keys : goal.returns-then-not-added-clause-keys
returns-then-not-added-clause-keys c =
    let keys = c.args.self.now.keys.keys in
    on_ok c.union_into.result
    (λ _. keys_kept keys c.insert_full.new.self.keys c.args.self.now.lines.items c.in_ok-i.i c.index_mut.result.now c.union_into.new.self c.requires.keys
    (keys_same keys c.insert_full.new.self.keys (key_of (line_view c.args.line.now)) c.in_ok-i.added c.in_ok-i.ensures.keys c.in_ok-i.ensures.added c.if-not-added.true)
    c.index_mut.ensures.value)
    c.union_into.ensures.ok

pub returns-then-not-added-clause-gained : goal.returns-then-not-added-clause-gained
returns-then-not-added-clause-gained c =
    let keys = c.args.self.now.keys.keys in
    let found = c.in_ok-i.ensures.stored in
    on_ok c.union_into.result
    (key_gains (line_view c.args.line.now) c.index_mut.result.now c.args.ranks.now c.union_into.new.self keys c.insert_full.new.self.keys c.args.self.now.lines.items c.in_ok-i.i found.0 c.requires.keys
    (keys_same keys c.insert_full.new.self.keys (key_of (line_view c.args.line.now)) c.in_ok-i.added c.in_ok-i.ensures.keys c.in_ok-i.ensures.added c.if-not-added.true)
    found.1 found.2 c.index_mut.ensures.value)
    c.union_into.ensures.ok
