-- Texts before an end and behind a beginning.
use Rattle.std.proofs.Common.{◌≡◌, ◌∙◌, ◌+◌, ◌-◌, ℕ, Bool, true, false, cond, List, [], ◌∷◌, ◌++◌, length, take, drop, refl, sym, ap, arith, length-append}
use Rattle.std.specs.Prelude.{Option, None, Some, option_map}
use Rattle.std.specs.Str.{bytes_eq}
use Rattle.std.proofs.lemmas.List.{take-append-drop}
use Rattle.std.proofs.Math.Seq.{drop-append_seam, take-append_seam}
use Rattle.std.proofs.lemmas.Slice.Eq.{bytes_eq-Decides}
use Rattle.std.proofs.lemmas.Option.{same_Some, none-some}
use Rattle.symbol_name.specs.Texts.{behind, before, offset_of, cut_at}

-- what a test lets through, and that it does
pub let_through : {X : Type 0} (b : Bool) (o : Option X) (x : X) → cond b o None ≡ Some x → o ≡ Some x
let_through true o x e = e
let_through false o x e = absurd (none-some x e)

-- of nothing it lets nothing through
pub none_through : {X : Type 0} (b : Bool) (o : Option X) → o ≡ None → cond b o None ≡ None
none_through true o e = e
none_through false o e = refl

pub passed : {X : Type 0} (b : Bool) (o : Option X) (x : X) → cond b o None ≡ Some x → b ≡ true
passed true o x e = refl
passed false o x e = absurd (none-some x e)

pub behind_is : (start text rest : List ℕ) → behind start text ≡ Some rest → text ≡ start ++ rest
behind_is start text rest e =
    let n = length start in
    let same : bytes_eq (take n text) start ≡ true = passed _ _ rest e in
    let front : take n text ≡ start = (bytes_eq-Decides (take n text) start).0 same in
    let back : drop n text ≡ rest = same_Some _ _ (let_through _ _ rest e) in
    sym (take-append-drop n text) ∙ (λ i. front i ++ back i)

pub before_is : (end text left : List ℕ) → before end text ≡ Some left → text ≡ left ++ end
before_is end text left e =
    let n = length text - length end in
    let same : bytes_eq (drop n text) end ≡ true = passed _ _ left e in
    let back : drop n text ≡ end = (bytes_eq-Decides (drop n text) end).0 same in
    let front : take n text ≡ left = same_Some _ _ (let_through _ _ left e) in
    sym (take-append-drop n text) ∙ (λ i. front i ++ back i)

pub before_length : (end text left : List ℕ) → before end text ≡ Some left → length left + length end ≡ length text
before_length end text left e = omega (arith, ap length (before_is end text left e), length-append left end)

-- the same the other way round
pub before_append : (end left : List ℕ) → before end (left ++ end) ≡ Some left
before_append end left =
    let text = left ++ end in
    let n : length text - length end ≡ length left = omega (arith, length-append left end) in
    let back : drop (length text - length end) text ≡ end = ap (λ k. drop k text) n ∙ drop-append_seam left end in
    let front : take (length text - length end) text ≡ left = ap (λ k. take k text) n ∙ take-append_seam left end in
    ap (λ b. cond b (Some (take (length text - length end) text)) None) ((bytes_eq-Decides (drop (length text - length end) text) end).1 back)
    ∙ ap (λ t. Some t) front

-- a byte in front of a text that is not all of the end
in_front : (end : List ℕ) (b : ℕ) (text : List ℕ) → (b ∷ text ≡ end → ⊥) → (o : Option (List ℕ)) → before end text ≡ o →
    (p : Option (List ℕ)) → before end (b ∷ text) ≡ p → p ≡ option_map (λ t. b ∷ t) o
in_front end b text other (Some left) e p f =
    sym f ∙ ap (λ t. before end (b ∷ t)) (before_is end text left e) ∙ before_append end (b ∷ left)
in_front end b text other None e None f = refl
in_front end b text other None e (Some []) f = absurd (other (before_is end (b ∷ text) [] f))
in_front end b text other None e (Some (c ∷ left)) f =
    absurd (none-some left (sym e ∙ ap (before end) (tail b text c (left ++ end) (before_is end (b ∷ text) (c ∷ left) f)) ∙ before_append end left))
  where
    tail : (b : ℕ) (x : List ℕ) (c : ℕ) (y : List ℕ) → b ∷ x ≡ c ∷ y → x ≡ y
    tail b x c y e = cc

pub before_cons : (end : List ℕ) (b : ℕ) (text : List ℕ) → (b ∷ text ≡ end → ⊥) →
    before end (b ∷ text) ≡ option_map (λ t. b ∷ t) (before end text)
before_cons end b text other = in_front end b text other (before end text) refl (before end (b ∷ text)) refl

-- what stands before and behind a part, with the part between
cut_is_at : (part text : List ℕ) (n : ℕ) (o : Option (List ℕ)) → behind part (drop n text) ≡ o → (a b : List ℕ) →
    option_map {U = List ℕ × List ℕ} (λ rest. (take n text, rest)) o ≡ Some (a, b) → text ≡ a ++ (part ++ b)
cut_is_at part text n None e a b f = absurd (none-some (a, b) f)
cut_is_at part text n (Some rest) e a b f =
    let same = same_Some (take n text, rest) (a, b) f in
    sym (take-append-drop n text) ∙ (λ i. (same i).0 ++ behind_is part (drop n text) rest e i) ∙ (λ i. a ++ (part ++ (same i).1))

pub cut_is : (part text a b : List ℕ) → cut_at part text ≡ Some (a, b) → text ≡ a ++ (part ++ b)
cut_is part text a b e = cut_is_at part text (offset_of part text) _ refl a b e
