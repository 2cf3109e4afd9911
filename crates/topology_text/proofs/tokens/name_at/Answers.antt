use Rattle.std.proofs.Common.{◌≡◌, ◌∙◌, sym, ap, subst, ◌∷◌, true, ℕ, List, arith}
use Rattle.std.specs.Str.{IsUtf8}
use Rattle.std.proofs.lemmas.Bool.Decides.{nat_tests}
use Rattle.topology_text.specs.Tokens.{is_name}
use Rattle.topology_text.proofs.NameBytes.{name_utf8}
use Rattle.topology_text.proofs.tokens.name_at.Goals as goal

colon_is : (host colon digits : ℕ) (index : List ℕ) → is_name host colon index digits ≡ true → colon ≡ 58
colon_is host colon digits index e = grind (arith, nat_tests)

pub unreachable-requires : goal.unreachable-requires
unreachable-requires c =
    let colon = colon_is c.host_len-host.result c.in_ok-colon.colon.now c.digits_len-digits.result c.in_ok-colon.index.now (sym c.is_name.ensures ∙ c.if-not-is_name.false) in
    c.in-Err.ensures.cases.0 (subst IsUtf8 (sym c.split_at-2.ensures.front) (name_utf8 c.args.text.now c.host_len-host.result c.digits_len-digits.result c.in_ok-colon.index.now c.host_len-host.ensures.value
    (sym c.split_at.ensures.back ∙ c.in_ok-colon.ensures.cases.0 ∙ ap (λ b. b ∷ c.in_ok-colon.index.now) colon) c.digits_len-digits.ensures.value))
