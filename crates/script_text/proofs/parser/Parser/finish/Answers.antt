use Rattle.std.proofs.Common.{◌≡◌, ◌<◌, ◌∙◌, sym, ap, subst, Ok, Err, length, nat_eq, true, false, ℕ, vec_len, arith}
use Rattle.std.proofs.lemmas.Bool.{eqb-true, eqb-false}
use Rattle.overlay_setup.specs.Scripts.{ScriptFits}
use Rattle.script_text.specs.ParserViews.{parser_view, parser_nodes}
use Rattle.script_text.proofs.InvariantLemmas.{script_from_invariant, fits_from_invariant}
use Rattle.script_text.proofs.WholeScript.{whole_none, whole_some, not_empty}
use Rattle.script_text.proofs.parser.Parser.finish.Goals as goal

none : (n len : ℕ) → len ≡ n → nat_eq len 0 ≡ true → n ≡ 0
none n len e h = let k = eqb-true len 0 h in omega arith

some : (n len : ℕ) → len ≡ n → nat_eq len 0 ≡ false → 0 < n
some n len e h = let k = eqb-false len 0 h in omega arith

pub returns-then-is_empty-clause-err : goal.returns-then-is_empty-clause-err
returns-then-is_empty-clause-err c = λ _.
    let streams = c.args.self.streams in
    whole_none (parser_view c.args.self) (none (length streams.items) (vec_len streams) streams.ok.0 (sym c.is_empty.ensures ∙ c.if-is_empty.true)) ∙ ap Err (sym c.bad.ensures)

pub new-requires : goal.new-requires
new-requires c =
    let streams = c.args.self.streams in
    script_from_invariant (parser_nodes c.args.self) (parser_view c.args.self) c.requires (not_empty streams.items (some (length streams.items) (vec_len streams) streams.ok.0 (sym c.is_empty.ensures ∙ c.if-is_empty.false)))

pub returns-clause-ok : goal.returns-clause-ok
returns-clause-ok c =
    let streams = c.args.self.streams in
    whole_some (parser_view c.args.self) (some (length streams.items) (vec_len streams) streams.ok.0 (sym c.is_empty.ensures ∙ c.if-is_empty.false)) ∙ ap Ok (sym c.new.ensures)

pub returns-clause-fits : goal.returns-clause-fits
returns-clause-fits c = subst (ScriptFits (parser_nodes c.args.self)) (sym c.new.ensures) (fits_from_invariant (parser_nodes c.args.self) (parser_view c.args.self) c.requires)
