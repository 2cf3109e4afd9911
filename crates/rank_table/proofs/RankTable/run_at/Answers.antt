use Rattle.std.proofs.Common.{arith, ap, ◌≡◌, ◌∙◌, ℕ, sym, get_or, length, ◌<◌}
use Rattle.rank_table.specs.Numbers.{number_at}
use Rattle.rank_table.proofs.Numbers.{below_end, long}
use Rattle.rank_table.proofs.RankTable.run_at.Goals as goal

-- what a contract sees of a rank below the end of the run
seen : (c : goal.After-run_in) (r : ℕ) → r < c.args.end → get_or c.args.self.now r 0 ≡ number_at c.as_slice.result.now r
seen c r lt =
    let words = c.self.inside.words.items in
    let end = c.self.inside.end in
    ap (λ xs. get_or xs r 0) (sym c.self.view_is) ∙ below_end words end r (omega (arith, lt, c.requires.in_table, ap length c.self.view_is, long words end))
    ∙ ap (λ ws. number_at ws r) (sym c.as_slice.ensures.value)

pub run_in-requires-clause-in_words : goal.run_in-requires-clause-in_words
run_in-requires-clause-in_words c = omega (arith, c.requires.in_table, c.self.invariant, ap length c.self.view_is, long c.self.inside.words.items c.self.inside.end, ap length c.as_slice.ensures.value)

pub returns-clause-number : goal.returns-clause-number
returns-clause-number c = c.run_in.ensures.number ∙ sym (seen c c.args.first c.requires.some)

pub returns-clause-same : goal.returns-clause-same
returns-clause-same c r ge lt = seen c r (omega (arith, lt, c.run_in.ensures.within)) ∙ c.run_in.ensures.same r ge lt

pub returns-clause-differs : goal.returns-clause-differs
returns-clause-differs c lt same = c.run_in.ensures.differs lt (sym (seen c c.run_in.result.end lt) ∙ same)
