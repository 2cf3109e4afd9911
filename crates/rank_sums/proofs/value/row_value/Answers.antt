use Rattle.std.proofs.Common.{◌≡◌, ap, sym, ◌∙◌, Ok, w64, Result, to_z, of_z}
use Rattle.std.proofs.lemmas.Fmt.{parse-signed_decimal}
use Rattle.std.proofs.lemmas.Int.{to_z-of_z}
use Rattle.rank_sums.specs.Folds.{times}
use Rattle.rank_sums.proofs.value.row_value.Goals as goal

ok_same : {A E : Type 0} {a b : A} → ◌≡◌ {A = Result A E} (Ok a) (Ok b) → a ≡ b
ok_same e = cc

pub unreachable-requires : goal.unreachable-requires
unreachable-requires c =
    let e = parse-signed_decimal w64 c.requires.number c.args.frame.now c.parse.result (record { sfits = c.requires.fits }) c.requires.fits c.requires.writes c.parse.ensures.value.0 in
    absurd (cc)

pub returns : goal.returns
returns c z small is =
    let e = parse-signed_decimal w64 z c.args.frame.now c.parse.result (record { sfits = small }) small is c.parse.ensures.value.0 in
    let n : c.in-Ok.number ≡ z = ok_same (sym c.in-Ok.is ∙ e) in
    c.times.ensures ∙ ap (λ m. times c.args.fold (to_z w64 (of_z w64 m)) c.args.count) n ∙ ap (λ m. times c.args.fold m c.args.count) (to_z-of_z w64 z (record { sfits = small }))
