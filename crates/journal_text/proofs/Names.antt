-- Names of nodes, and their numbers.
use Rattle.std.proofs.Common.{◌≡◌, ℕ, ◌<◌, true, List, ◌∷◌, length, None, Some, refl, sym, ap, ◌∙◌, subst, arith}
use Rattle.std.specs.Char.{is_ascii_digit}
use Rattle.std.specs.List.{list_all}
use Rattle.std.proofs.lemmas.Bool.Decides.{nat_tests}
use Rattle.std.proofs.lemmas.List.Elements.{All-from_recursion}
use Rattle.overlay_setup.specs.Names.{IsName, is_host_byte, name_of, number_of}
use Rattle.overlay_setup.proofs.DaemonNames.{named, number_of_name}
use Rattle.stat_plan.specs.Invariants.{IsPlan}
use Rattle.stat_plan.specs.Plans.{Plan, nodes}
use Rattle.journal_text.specs.Words.{has_no_space}
use Rattle.journal_text.proofs.Plain.{is_plain, weaker, both, plain_no_space}

plain_host : (b : ℕ) → is_host_byte b ≡ true → is_plain b ≡ true
plain_host b e = grind (arith, nat_tests)

plain_index : (b : ℕ) → is_ascii_digit b ≡ true → is_plain b ≡ true
plain_index b e = grind (arith, nat_tests)

plain_parts : (name : List ℕ) → IsName name → list_all is_plain name ≡ true
plain_parts name is =
    ap (list_all is_plain) is.parts
    ∙ both is_plain is.host (58 ∷ is.index) (weaker is_host_byte is_plain plain_host is.host is.host_bytes) (weaker is_ascii_digit is_plain plain_index is.index is.digits)

module _ (p : Plan) (plan : IsPlan p) where
  within : (n : ℕ) → n < nodes p → n < length p.names
  within n below = subst (λ k. n < k) (sym plan.topology.paired) below

  -- a node's name has no space and no line's end
  pub plain_name : (n : ℕ) → n < nodes p → list_all is_plain (name_of p.names n) ≡ true
  plain_name n below = plain_parts (name_of p.names n) (All-from_recursion IsName p.names plan.topology.named n _ (within n below))

  pub name_has_no_space : (n : ℕ) → n < nodes p → has_no_space (name_of p.names n) ≡ true
  name_has_no_space n below = plain_no_space (name_of p.names n) (plain_name n below)

  -- a name that is found is that of its node
  pub name_known : (name : List ℕ) (n : ℕ) → Some n ≡ number_of name p.names → (n < nodes p) × (name_of p.names n ≡ name)
  name_known name n e = let at = named name p.names n (sym e) in (subst (λ k. n < k) plan.topology.paired at.0, at.1)

  -- a name that is not found is that of no node
  pub name_unknown : (name : List ℕ) (n : ℕ) → None ≡ number_of name p.names → n < nodes p → name ≡ name_of p.names n → ⊥
  name_unknown name n e below is = let found = number_of_name p.names plan.topology.distinct name n (within n below) (sym is) in cc

  -- two nodes with one name are one
  pub one_name : (n m : ℕ) → n < nodes p → m < nodes p → name_of p.names n ≡ name_of p.names m → n ≡ m
  one_name n m below within_m e =
      let first = number_of_name p.names plan.topology.distinct (name_of p.names n) n (within n below) refl in
      let second = number_of_name p.names plan.topology.distinct (name_of p.names n) m (within m within_m) (sym e) in
      cc
