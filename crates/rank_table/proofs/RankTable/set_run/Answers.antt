use Rattle.std.proofs.Common.{arith, ap, ◌≡◌, ◌∙◌, ℕ, get_or, length, ◌≤◌, ◌<◌}
use Rattle.std.specs.Result.{OnOk}
use Rattle.std.specs.declared.result.Result.{Result}
use Rattle.std.specs.declared.result.Result.TheVariants.{Ok, Err}
use Rattle.std.proofs.lemmas.List.{with_items_is}
use Rattle.rank_table.specs.Numbers.{number_at, numbers_below}
use Rattle.rank_table.proofs.Numbers.{below_end, long, kept}
use Rattle.rank_table.proofs.RankTable.set_run.Goals as goal

-- what a contract sees of a rank afterwards, where its number is as before
same_as_before : (c : goal.After-self-1) (r : ℕ) → number_at c.set_in.new.words r ≡ number_at c.as_mut_slice.result.now r
    → get_or (Rattle.rank_table.specs.contracts.RankTable.the_view record { words = Rattle.std.specs.Vec.with_items c.self.inside.words c.set_in.new.words; end = c.self.inside.end }) r 0 ≡ get_or c.args.self.now r 0
same_as_before c r same =
    ap (λ ws. get_or (numbers_below ws c.self.inside.end) r 0) (with_items_is c.self.inside.words c.set_in.new.words (c.set_in.auto.words ∙ c.as_mut_slice.ensures.len))
    ∙ kept c.self.inside.words.items c.set_in.new.words c.self.inside.end r (same ∙ ap (λ ws. number_at ws r) c.as_mut_slice.ensures.value)
    ∙ ap (λ xs. get_or xs r 0) c.self.view_is

-- what holds if there is a value
on_ok : {T E P Q : Type 0} (result : Result T E) → (P → Q) → OnOk result P → OnOk result Q
on_ok (Ok x) f p = f p
on_ok (Err e) f p = p

pub set_in-requires-clause-in_words : goal.set_in-requires-clause-in_words
set_in-requires-clause-in_words c = omega (arith, c.requires.in_table, c.self.invariant, ap length c.self.view_is, long c.self.inside.words.items c.self.inside.end, ap length c.as_mut_slice.ensures.value)

pub returns-clause-given : goal.returns-clause-given
returns-clause-given c = on_ok c.set_in.result given c.set_in.ensures.given
  where
    given : ((r : ℕ) → c.args.first ≤ r → r < c.args.end → number_at c.set_in.new.words r ≡ c.args.number)
        → (r : ℕ) → c.args.first ≤ r → r < c.args.end → get_or (Rattle.rank_table.specs.contracts.RankTable.the_view record { words = Rattle.std.specs.Vec.with_items c.self.inside.words c.set_in.new.words; end = c.self.inside.end }) r 0 ≡ c.args.number
    given all r ge lt =
        ap (λ ws. get_or (numbers_below ws c.self.inside.end) r 0) (with_items_is c.self.inside.words c.set_in.new.words (c.set_in.auto.words ∙ c.as_mut_slice.ensures.len))
        ∙ below_end c.set_in.new.words c.self.inside.end r (omega (arith, lt, c.requires.in_table, ap length c.self.view_is, long c.self.inside.words.items c.self.inside.end))
        ∙ all r ge lt

pub returns-clause-below : goal.returns-clause-below
returns-clause-below c r lt = same_as_before c r (c.set_in.ensures.below r lt)

pub returns-clause-above : goal.returns-clause-above
returns-clause-above c r le = same_as_before c r (c.set_in.ensures.above r le)
