-- A shared library's version is taken off.
use Rattle.std.proofs.Common.{◌≡◌, ℕ, true, cond, List, [], ◌∷◌, ◌++◌, refl, ap, ◌∙◌, append_assoc}
use Rattle.std.specs.Prelude.{◌&&◌, codes}
use Rattle.std.specs.List.{list_all}
use Rattle.std.proofs.lemmas.Bool.{and_from}
use Rattle.std.proofs.lemmas.Bool.Decides.{Decides-eqb}
use Rattle.std.proofs.lemmas.Slice.Eq.{ends_is}
use Rattle.frame_name.specs.Texts.{begins_with, closes_with, last_bytes, before_last_bytes}
use Rattle.frame_name.specs.Binaries.{is_version, without_version}
use Rattle.frame_name.proofs.Contains.{begins_from}
use Rattle.frame_name.proofs.LastBytes.{last_are, before_last_are}

pub closes_from : (part front : List ℕ) → closes_with part (front ++ part) ≡ true
closes_from part front = (ends_is Decides-eqb (front ++ part) part (closes_with part (front ++ part)) refl).1 front refl

pub taken_off : (front version : List ℕ) → list_all is_version version ≡ true → without_version (front ++ codes ".so." ++ version) ≡ front ++ codes ".so"
unfolding without_version
taken_off front version h =
    let text = front ++ codes ".so." ++ version in
    let is : text ≡ ((front ++ codes ".s") ++ 111 ∷ []) ++ (46 ∷ version) = simp append_assoc in
    let stem : (front ++ codes ".s") ++ 111 ∷ [] ≡ front ++ codes ".so" = simp append_assoc in
    let back : last_bytes is_version text ≡ 46 ∷ version = ap (last_bytes is_version) is ∙ last_are is_version (front ++ codes ".s") 111 (46 ∷ version) refl h in
    let before : before_last_bytes is_version text ≡ front ++ codes ".so" = ap (before_last_bytes is_version) is ∙ before_last_are is_version (front ++ codes ".s") 111 (46 ∷ version) refl h ∙ stem in
    let test : (closes_with (codes ".so") (before_last_bytes is_version text) && begins_with (codes ".") (last_bytes is_version text)) ≡ true =
    and_from (closes_with (codes ".so") (before_last_bytes is_version text)) (begins_with (codes ".") (last_bytes is_version text))
    (ap (closes_with (codes ".so")) before ∙ closes_from (codes ".so") front)
    (ap (begins_with (codes ".")) back ∙ begins_from (codes ".") (46 ∷ version) version refl) in
    ap (λ t. cond t (before_last_bytes is_version text) text) test ∙ before
