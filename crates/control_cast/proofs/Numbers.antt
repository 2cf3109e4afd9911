-- The commands that are sent one after another.
use Rattle.std.proofs.Common.{◌≡◌, ◌≤◌, ◌+◌, ◌-◌, ℕ, suc, List, [], ◌∷◌, ◌++◌, map, sym, ap, ◌∙◌, arith}
use Rattle.std.proofs.lemmas.List.{map-append}
use Rattle.control_cast.specs.Machine.{Packet, Cmd, numbers_after}
use Rattle.control_cast.proofs.Commands.{numbers_more}

pub one_number_more : (to k i : ℕ) (items more : List (ℕ × Packet)) → k ≤ i → items ≡ map (λ j. (to, Cmd j)) (numbers_after k (i - k)) → more ≡ items ++ (to, Cmd (i + 1)) ∷ [] → more ≡ map (λ j. (to, Cmd j)) (numbers_after k (i + 1 - k))
one_number_more to k i items more le is e =
    let n : numbers_after k (i - k) ++ suc i ∷ [] ≡ numbers_after k (suc (i - k)) = numbers_more k (i - k) i (omega arith) in
    let s : suc (i - k) ≡ i + 1 - k = omega arith in
    let t : i + 1 ≡ suc i = omega arith in
    e ∙ ap (λ l. l ++ (to, Cmd (i + 1)) ∷ []) is
    ∙ ap (λ x. map (λ j. (to, Cmd j)) (numbers_after k (i - k)) ++ (to, Cmd x) ∷ []) t
    ∙ sym (map-append (λ j. (to, Cmd j)) (numbers_after k (i - k)) (suc i ∷ []))
    ∙ ap (map (λ j. (to, Cmd j))) n
    ∙ ap (λ x. map (λ j. (to, Cmd j)) (numbers_after k x)) s

pub all_numbers : (to k i seen : ℕ) (items : List (ℕ × Packet)) → i - k ≤ seen - k → seen ≤ i → items ≡ map (λ j. (to, Cmd j)) (numbers_after k (i - k)) → items ≡ map (λ j. (to, Cmd j)) (numbers_after k (seen - k))
all_numbers to k i seen items le ge is =
    let e : i - k ≡ seen - k = omega arith in
    is ∙ ap (λ x. map (λ j. (to, Cmd j)) (numbers_after k x)) e
