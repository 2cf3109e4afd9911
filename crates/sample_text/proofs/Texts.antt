-- Texts and the paths that they are read as, by number.
use Rattle.std.proofs.Common.{◌≡◌, ◌∙◌, ℕ, zero, suc, ◌<◌, ◌≤◌, false, List, [], ◌∷◌, ◌++◌, length, get_or, slice_get, Some, None, Ok, refl, sym, ap, arith, String, Global, string_bytes}
use Rattle.std.specs.List.{list_any, position}
use Rattle.std.specs.Str.{bytes_eq}
use Rattle.std.specs.String.{string_eq}
use Rattle.std.proofs.lemmas.List.Quantifiers.{position-Some}
use Rattle.std.proofs.lemmas.Slice.Eq.{bytes_eq-Decides}
use Rattle.indexmap.specs.IndexSet.{insert_key}
use Rattle.call_path.specs.Path.{Path}
use Rattle.call_path.specs.Reading.{path_of}
use Rattle.stat_plan.specs.StackLines.{line_of, lines_of, PathIndicesInRange}
use Rattle.stat_plan.specs.declared.samples.StackLine.{StackLine}
use Rattle.sample_text.specs.Steps.{path_or_error, path_on}
use Rattle.sample_text.specs.ParserViews.{AreRead}

read_at : (texts : List (String Global)) (paths : List Path) (i : ℕ) (d : String Global) → AreRead texts paths → i < length texts → (path_of (string_bytes (get_or texts i d)) ≡ Ok (get_or paths i [])) × (i < length paths)
read_at [] paths i d read lt = absurd (omega arith)
read_at (text ∷ texts) [] i d read lt = absurd read
read_at (text ∷ texts) (path ∷ paths) zero d read lt = (read.0, omega arith)
read_at (text ∷ texts) (path ∷ paths) (suc i) d read lt = let h = read_at texts paths i d read.1 (omega arith) in let less = h.1 in (h.0, omega arith)

not_some : (i : ℕ) → Some i ≡ None → ⊥
not_some i e = cc

-- a text that is found is read as the path with its number
pub found : (name : List ℕ) (texts : List (String Global)) (paths : List Path) (i : ℕ) → AreRead texts paths → Some i ≡ position (λ k. bytes_eq name (string_bytes k)) texts → (path_of name ≡ Ok (get_or paths i [])) × (i < length paths)
found name [] paths i read is = absurd (not_some i is)
found name (text ∷ texts) paths i read is =
    let at = position-Some (λ k. bytes_eq name (string_bytes k)) (text ∷ texts) i text (sym is) in
    let same : name ≡ string_bytes (get_or (text ∷ texts) i text) = (bytes_eq-Decides name (string_bytes (get_or (text ∷ texts) i text))).0 at.1 in
    let h = read_at (text ∷ texts) paths i text read at.0 in
    (ap path_of same ∙ h.0, h.1)

-- the text with a number is read as the path with this number
pub read_as : (name : List ℕ) (text : String Global) (texts : List (String Global)) (paths : List Path) (i : ℕ) → AreRead texts paths → Some text ≡ slice_get texts i → string_bytes text ≡ name → (path_of name ≡ Ok (get_or paths i [])) × (i < length paths)
read_as name text [] paths i read is same = absurd (let h = is in cc)
read_as name text (t ∷ texts) [] i read is same = absurd read
read_as name text (t ∷ texts) (path ∷ paths) zero read is same = let first : text ≡ t = cc in (ap path_of (sym same ∙ ap string_bytes first) ∙ read.0, omega arith)
read_as name text (t ∷ texts) (path ∷ paths) (suc i) read is same = let h = read_as name text texts paths i read.1 is same in let less = h.1 in (h.0, omega arith)

-- one text more, and its path
pub read_more : (texts : List (String Global)) (paths : List Path) (text : String Global) (path : Path) → AreRead texts paths → path_of (string_bytes text) ≡ Ok path → AreRead (texts ++ text ∷ []) (paths ++ path ∷ [])
read_more [] [] text path read is = (is, tt)
read_more [] (p ∷ paths) text path read is = absurd read
read_more (t ∷ texts) [] text path read is = absurd read
read_more (t ∷ texts) (p ∷ paths) text path read is = (read.0, read_more texts paths text path read.1 is)

-- a text that isn't there goes last
pub inserted : (texts : List (String Global)) (text : String Global) (name : List ℕ) → string_bytes text ≡ name → list_any (λ k. bytes_eq name (string_bytes k)) texts ≡ false → insert_key string_eq texts text ≡ texts ++ text ∷ []
inserted texts text name is absent = rw (ap (λ n. list_any (λ k. bytes_eq n (string_bytes k)) texts) is ∙ absent) refl

-- the last element
pub at_last : {X : Type 0} (xs : List X) (x d : X) → get_or (xs ++ x ∷ []) (length xs) d ≡ x
at_last [] x d = refl
at_last (y ∷ xs) x d = at_last xs x d

-- lines whose paths stay where they are
pub same_lines : (old new : List Path) (lines : List StackLine) → ((n : ℕ) → n < length old → get_or new n [] ≡ get_or old n []) → PathIndicesInRange old lines → lines_of new lines ≡ lines_of old lines
same_lines old new [] same numbered = refl
same_lines old new (line ∷ lines) same numbered = (λ i. record { time = line.time; ranks = line.ranks; path = same line.path numbered.0 i } ∷ same_lines old new lines same numbered.1 i)

-- lines with one more
pub lines_more : (paths : List Path) (lines : List StackLine) (line : StackLine) → lines_of paths (lines ++ line ∷ []) ≡ lines_of paths lines ++ line_of paths line ∷ []
lines_more paths [] line = refl
lines_more paths (l ∷ lines) line = ap (λ t. line_of paths l ∷ t) (lines_more paths lines line)

pub length-lines_of : (paths : List Path) (lines : List StackLine) → length (lines_of paths lines) ≡ length lines
length-lines_of paths [] = refl
length-lines_of paths (l ∷ lines) = ap suc (length-lines_of paths lines)

-- numbers of paths, with one line more and maybe more paths
pub numbered_more : (old new : List Path) (lines : List StackLine) (line : StackLine) → length old ≤ length new → PathIndicesInRange old lines → line.path < length new → PathIndicesInRange new (lines ++ line ∷ [])
numbered_more old new [] line le all here = (here, tt)
numbered_more old new (l ∷ lines) line le all here = let lt = all.0 in (omega arith, numbered_more old new lines line le all.1 here)

-- a path that is read on a line
pub path_good : (number : ℕ) (text : List ℕ) (path : Path) → path_of text ≡ Ok path → path_on number text ≡ Ok path
unfolding path_on
path_good number text path e = ap (path_or_error number) e
