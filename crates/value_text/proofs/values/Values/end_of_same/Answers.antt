use Rattle.std.proofs.Common.{◌≡◌, ◌∙◌, ◌≤◌, ℕ, None, length, sym, ap, arith}
use Rattle.std.proofs.lemmas.List.{get_or_past}
use Rattle.value_text.specs.Numbers.{number_of}
use Rattle.value_text.specs.Views.{number_at}
use Rattle.value_text.proofs.Trimming.{number-view}
use Rattle.value_text.proofs.values.Values.end_of_same.Goals as goal

pub returns-then-first-len-clause-same : goal.returns-then-first-len-clause-same
returns-then-first-len-clause-same c r from lt = none r (omega (arith, from, c.if-first-len.true, c.len-len.ensures)) ∙ sym (none c.args.first (omega (arith, c.if-first-len.true, c.len-len.ensures)))
  where
    none : (q : ℕ) → length c.self.inside.entries ≤ q → number_of c.args.self.now q ≡ None
    none q past = ap (λ n. number_of n q) (sym c.self.view_is) ∙ number-view c.self.inside.entries c.self.inside.numbers.items q ∙ ap (number_at c.self.inside.numbers.items) (get_or_past c.self.inside.entries q 0 past)

pub returns-clause-same : goal.returns-clause-same
returns-clause-same c r from lt =
    let v = c.self.inside in
    ap (λ n. number_of n r) (sym c.self.view_is)
    ∙ number-view v.entries v.numbers.items r
    ∙ ap (number_at v.numbers.items) (c.run_at.ensures.same r from lt ∙ c.run_at.ensures.number)
    ∙ sym (number-view v.entries v.numbers.items c.args.first)
    ∙ ap (λ n. number_of n c.args.first) c.self.view_is
