-- Texts that are written piece by piece.
use Rattle.std.proofs.Common.{◌≡◌, ℕ, ◌+◌, ◌*◌, ◌-◌, ◌/◌, ◌%◌, min, List, [], ◌∷◌, ◌++◌, map, sym, ap, ◌∙◌, arith, append_assoc, append-nil, codes}
use Rattle.std.specs.Fmt.{decimal}
use Rattle.std.specs.List.{range_with_len, flat_map}
use Rattle.std.proofs.lemmas.List.{flat_map_more}
use Rattle.std.proofs.lemmas.List.Folds.{flat_map-map}
use Rattle.std.proofs.lemmas.List.FromFn.{map-range_with_len_more}
use Rattle.std.proofs.lemmas.Grind.{flat_map-append}
use Rattle.call_path.specs.Path.{path_text}
use Rattle.generated_job.specs.Texts.{numbers, text_of, line_of, front_name, middle_name, daemon_name, middle_line, daemons_under, statement, path_with, stack_line, stack_lines, daemon_line, samples_text}
use Rattle.generated_job.proofs.Rows.{range_more}

-- one piece more of a row
pub pieces_more : (out : List ℕ) (f : ℕ → List ℕ) (a n j : ℕ) → a + n ≡ j → (out ++ flat_map f (range_with_len a n)) ++ f j ≡ out ++ flat_map f (range_with_len a (n + 1))
pieces_more out f a n j e = flat_map_more f out (range_with_len a n) j ∙ ap (λ xs. out ++ flat_map f xs) (sym (range_more a n j e))

-- one line more of a row
pub lines_more : (out : List ℕ) (line : ℕ → List ℕ) (n : ℕ) → (out ++ text_of (map line (range_with_len 0 n))) ++ (line n ++ 10 ∷ []) ≡ out ++ text_of (map line (range_with_len 0 (n + 1)))
lines_more out line n = flat_map_more (λ l. l ++ 10 ∷ []) out (map line (range_with_len 0 n)) (line n) ∙ ap (λ ls. out ++ text_of ls) (sym (map-range_with_len_more line 0 n n (omega arith)))

-- a piece of two parts behind others
pub in_parts : (out a b c : List ℕ) → (out ++ (a ++ b)) ++ c ≡ out ++ (a ++ (b ++ c))
in_parts out a b c = append_assoc out (a ++ b) c ∙ ap (λ t. out ++ t) (append_assoc a b c)

-- a statement by its pieces
statement_written : (out parent spaced : List ℕ) → (((out ++ parent) ++ codes " =>") ++ spaced) ++ (32 ∷ 59 ∷ 10 ∷ []) ≡ out ++ ((parent ++ (codes " =>" ++ (spaced ++ codes " ;"))) ++ 10 ∷ [])
statement_written out parent spaced =
    ap (λ t. t ++ (32 ∷ 59 ∷ 10 ∷ [])) (ap (λ t. t ++ spaced) (append_assoc out parent (codes " =>")) ∙ append_assoc out (parent ++ codes " =>") spaced ∙ ap (λ t. out ++ t) (append_assoc parent (codes " =>") spaced))
    ∙ append_assoc out (parent ++ (codes " =>" ++ spaced)) (32 ∷ 59 ∷ 10 ∷ [])
    ∙ ap (λ t. out ++ t) (
    append_assoc parent (codes " =>" ++ spaced) (32 ∷ 59 ∷ 10 ∷ [])
    ∙ ap (λ t. parent ++ (codes " =>" ++ t)) (sym (append_assoc spaced (codes " ;") (10 ∷ [])))
    ∙ sym (append_assoc parent (codes " =>" ++ (spaced ++ codes " ;")) (10 ∷ [])))

-- a middle node's statement
pub middle_written : (out : List ℕ) (size i m : ℕ) → m ≡ min 16 (size - 16 * i) → (((out ++ (codes "m:" ++ decimal i)) ++ codes " =>") ++ flat_map (λ j. codes " d:" ++ decimal j) (range_with_len (16 * i) m)) ++ (32 ∷ 59 ∷ 10 ∷ []) ≡ out ++ (middle_line size i ++ 10 ∷ [])
middle_written out size i m e =
    statement_written out (middle_name i) (flat_map (λ j. codes " d:" ++ decimal j) (range_with_len (16 * i) m))
    ∙ ap (λ spaced. out ++ ((middle_name i ++ (codes " =>" ++ (spaced ++ codes " ;"))) ++ 10 ∷ [])) (ap (λ k. flat_map (λ j. codes " d:" ++ decimal j) (range_with_len (16 * i) k)) e ∙ sym (flat_map-map (λ c. 32 ∷ c) daemon_name (daemons_under size i)))

-- the front end's
pub front_written : (count : ℕ) → (codes "fe:0 =>" ++ flat_map (λ i. codes " m:" ++ decimal i) (numbers count)) ++ (32 ∷ 59 ∷ 10 ∷ []) ≡ (statement front_name (map middle_name (numbers count)) ++ 10 ∷ []) ++ []
front_written count =
    statement_written [] front_name (flat_map (λ i. codes " m:" ++ decimal i) (numbers count))
    ∙ ap (λ spaced. (front_name ++ (codes " =>" ++ (spaced ++ codes " ;"))) ++ 10 ∷ []) (sym (flat_map-map (λ c. 32 ∷ c) middle_name (numbers count)))
    ∙ sym (append-nil (statement front_name (map middle_name (numbers count)) ++ 10 ∷ []))

-- the remainder of a seed serves as the seed
stack_remainder : (seed time : ℕ) (rs : List ℕ) → map (stack_line (seed % 3) time) rs ≡ map (stack_line seed time) rs
stack_remainder seed time rs = let e : seed % 3 % 3 ≡ seed % 3 = omega arith in ap (λ k. map (λ r. line_of (codes "stack" ∷ decimal time ∷ decimal r ∷ path_text (path_with (r / 16 % 4) ((r + time + k) % 3)) ∷ [])) rs) e

-- the samples by their parts
pub samples_written : (seed size : ℕ) → (text_of (map daemon_line (numbers size)) ++ text_of (stack_lines (seed % 3) size 0)) ++ text_of (stack_lines (seed % 3) size 1) ≡ samples_text seed size
samples_written seed size =
    (λ i. (text_of (map daemon_line (numbers size)) ++ text_of (stack_remainder seed 0 (numbers (64 * size)) i)) ++ text_of (stack_remainder seed 1 (numbers (64 * size)) i))
    ∙ append_assoc (text_of (map daemon_line (numbers size))) (text_of (stack_lines seed size 0)) (text_of (stack_lines seed size 1))
    ∙ ap (λ t. text_of (map daemon_line (numbers size)) ++ t) (sym (flat_map-append (λ l. l ++ 10 ∷ []) (stack_lines seed size 0) (stack_lines seed size 1)))
    ∙ sym (flat_map-append (λ l. l ++ 10 ∷ []) (map daemon_line (numbers size)) (stack_lines seed size 0 ++ stack_lines seed size 1))

-- six parts of a text, one written after another
pub six_parts : {o p q r s t u : List ℕ} (a b c d e f : List ℕ) → o ≡ [] → p ≡ o ++ a → q ≡ p ++ b → r ≡ q ++ c → s ≡ r ++ d → t ≡ s ++ e → u ≡ t ++ f → u ≡ a ++ (b ++ (c ++ (d ++ (e ++ f))))
six_parts a b c d e f none first second third fourth fifth sixth =
    sixth
    ∙ ap (λ x. x ++ f) (fifth ∙ ap (λ x. x ++ e) (fourth ∙ ap (λ x. x ++ d) (third ∙ ap (λ x. x ++ c) (second ∙ ap (λ x. x ++ b) (first ∙ ap (λ x. x ++ a) none)))))
    ∙ append_assoc (((a ++ b) ++ c) ++ d) e f
    ∙ append_assoc ((a ++ b) ++ c) d (e ++ f)
    ∙ append_assoc (a ++ b) c (d ++ (e ++ f))
    ∙ append_assoc a b (c ++ (d ++ (e ++ f)))
