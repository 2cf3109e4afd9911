-- Paths that are given by their indices, one after another.
use Rattle.std.proofs.Common.{◌≡◌, ℕ, suc, ◌+◌, ◌<◌, List, ◌∷◌, ◌++◌, length, get_or, drop, drop-cons, map, sym, ap, ◌∙◌, append_assoc, arith}
use Rattle.std.specs.List.{AllByRecursion, flat_map}
use Rattle.json.specs.Token.{Token}
use Rattle.serde_json.specs.Data.{Data}
use Rattle.call_path.specs.Path.{Path}
use Rattle.stat_plan.proofs.Elements.{all_element}
use Rattle.equiv_class.specs.ClassList.{path_of}
use Rattle.equiv_class.specs.SeenPaths.{entries_view}
use Rattle.equiv_class.specs.declared.SeenPath.{SeenPath}
use Rattle.equiv_class.proofs.IndexPaths.{path_of-index}
use Rattle.front_end.specs.ClassText.{path_line}
use Rattle.json_text.specs.Tokens.{rest_tokens, value_tokens}

-- the paths of some indices
abbrev pub paths_of_indices : List SeenPath → List ℕ → List Path
paths_of_indices seen indices = map (path_of (entries_view seen)) indices

-- the next path, and those after it
next_path : (seen : List SeenPath) (indices : List ℕ) (k : ℕ) (x : SeenPath) → k < length indices → get_or indices k 0 < length seen
    → paths_of_indices seen (drop k indices) ≡ (get_or seen (get_or indices k 0) x).path ∷ paths_of_indices seen (drop (k + 1) indices)
next_path seen indices k x lt inside =
    let n : suc k ≡ k + 1 = omega arith in
    ap (paths_of_indices seen) (drop-cons indices k 0 lt) ∙ ap (λ p. p ∷ paths_of_indices seen (drop (suc k) indices)) (path_of-index seen (get_or indices k 0) x inside)
    ∙ ap (λ m. (get_or seen (get_or indices k 0) x).path ∷ paths_of_indices seen (drop m indices)) n

-- the line of the next path is written
pub next_line : (seen : List SeenPath) (indices : List ℕ) (k : ℕ) (x : SeenPath) (out out' total : List ℕ) → k < length indices → AllByRecursion (λ i. i < length seen) indices
    → out' ≡ out ++ path_line (get_or seen (get_or indices k 0) x).path → out ++ flat_map path_line (paths_of_indices seen (drop k indices)) ≡ total
    → out' ++ flat_map path_line (paths_of_indices seen (drop (k + 1) indices)) ≡ total
next_line seen indices k x out out' total lt all written so_far =
    let path : Path = (get_or seen (get_or indices k 0) x).path in
    let later : List ℕ = flat_map path_line (paths_of_indices seen (drop (k + 1) indices)) in
    ap (λ ys. ys ++ later) written ∙ append_assoc out (path_line path) later
    ∙ sym (ap (λ ps. out ++ flat_map path_line ps) (next_path seen indices k x lt (all_element (λ i. i < length seen) indices k 0 all lt))) ∙ so_far

-- the value of the next path is written
pub next_value : (f : Path → Data) (seen : List SeenPath) (indices : List ℕ) (k : ℕ) (x : SeenPath) (out out' total : List Token) → k < length indices → AllByRecursion (λ i. i < length seen) indices
    → out' ≡ out ++ value_tokens (f (get_or seen (get_or indices k 0) x).path) → out ++ rest_tokens (map f (paths_of_indices seen (drop k indices))) ≡ total
    → out' ++ rest_tokens (map f (paths_of_indices seen (drop (k + 1) indices))) ≡ total
next_value f seen indices k x out out' total lt all written so_far =
    let path : Path = (get_or seen (get_or indices k 0) x).path in
    let later : List Token = rest_tokens (map f (paths_of_indices seen (drop (k + 1) indices))) in
    ap (λ ts. ts ++ later) written ∙ append_assoc out (value_tokens (f path)) later
    ∙ sym (ap (λ ps. out ++ rest_tokens (map f ps)) (next_path seen indices k x lt (all_element (λ i. i < length seen) indices k 0 all lt))) ∙ so_far
