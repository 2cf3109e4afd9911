-- A text contains a part exactly where it is something, the part, and something.
use Rattle.std.proofs.Common.{◌≡◌, ℕ, ◌+◌, Bool, true, false, List, [], ◌∷◌, ◌++◌, length, take, drop, Option, None, Some, refl, sym, ap, ◌∙◌, ⊎_elim, arith}
use Rattle.std.specs.Prelude.{◌||◌}
use Rattle.std.specs.Option.{is_some}
use Rattle.std.proofs.lemmas.Bool.{or_cases, cases_Bool}
use Rattle.std.proofs.lemmas.Bool.Decides.{Decides-eqb}
use Rattle.std.proofs.lemmas.List.{drop_at, take-append-drop, length-append}
use Rattle.std.proofs.lemmas.List.Prefix.{at_from_reads, at_reads}
use Rattle.std.proofs.lemmas.Slice.Eq.{starts_is}
use Rattle.memchr.specs.Find.{OccursAt, FindsNeedle}
use Rattle.frame_name.specs.Texts.{begins_with, contains}

pub begins : (part text : List ℕ) → begins_with part text ≡ true → text ≡ part ++ drop (length part) text
begins part text = (starts_is Decides-eqb text part (begins_with part text) refl).0

pub begins_from : (part text rest : List ℕ) → text ≡ part ++ rest → begins_with part text ≡ true
begins_from part text = (starts_is Decides-eqb text part (begins_with part text) refl).1

or_right : (x y : Bool) → y ≡ true → (x || y) ≡ true
or_right true y e = refl
or_right false y e = e

or_left : (x y : Bool) → x ≡ true → (x || y) ≡ true
or_left x y e = ap (λ v. v || y) e

pub contained : (part text : List ℕ) → contains part text ≡ true → (front : List ℕ) × (rest : List ℕ) × (text ≡ front ++ (part ++ rest))
contained part [] h = ([], drop (length part) [], begins part [] h)
contained part (b ∷ text) h =
    ⊎_elim (λ e. ([], drop (length part) (b ∷ text), begins part (b ∷ text) e))
    (λ e. let r = contained part text e in (b ∷ r.0, r.1, ap (λ t. b ∷ t) r.2))
    (or_cases (begins_with part (b ∷ text)) (contains part text) h)

pub contained_from : (part text front rest : List ℕ) → text ≡ front ++ (part ++ rest) → contains part text ≡ true
contained_from part [] [] rest e = begins_from part [] rest e
contained_from part (b ∷ text) [] rest e = or_left (begins_with part (b ∷ text)) (contains part text) (begins_from part (b ∷ text) rest e)
contained_from part [] (a ∷ front) rest e = absurd (cc)
contained_from part (b ∷ text) (a ∷ front) rest e =
    or_right (begins_with part (b ∷ text)) (contains part text) (contained_from part text front rest (cc))

occurs : (part text front rest : List ℕ) → text ≡ front ++ (part ++ rest) → OccursAt text part (length front)
occurs part text front rest e = record {
  fits = omega (arith, ap length e, length-append front (part ++ rest), length-append part rest);
  reads = λ j h. at_reads 0 text part (length front) rest (ap (drop (length front)) e ∙ drop_at front (part ++ rest) (length front) refl) j h;
}

from_occurs : (part text : List ℕ) (k : ℕ) → OccursAt text part k → contains part text ≡ true
from_occurs part text k o =
    contained_from part text (take k text) (drop (k + length part) text)
    (sym (take-append-drop k text) ∙ ap (λ t. take k text ++ t) (at_from_reads 0 text part k o.fits o.reads))

pub found : (part text : List ℕ) (r : Option ℕ) → FindsNeedle text part 0 r → is_some r ≡ contains part text
found part text (Some k) h = sym (from_occurs part text k h.1)
found part text None h =
    ⊎_elim (λ e. let c = contained part text e in
    absurd (h (length c.0) (omega arith) (omega (arith, ap length c.2, length-append c.0 (part ++ c.1))) (occurs part text c.0 c.1 c.2)))
    sym (cases_Bool (contains part text))
