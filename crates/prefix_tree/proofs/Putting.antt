-- One row after another put in its place.
use Rattle.std.proofs.Common.{◌≡◌, ℕ, ◌<◌, ◌≤◌, List, ◌∷◌, Ok, Err, sym, ap, ◌∙◌, subst, T, length, set, arith}
use Rattle.std.specs.List.{insert}
use Rattle.std.specs.FinMap as finmap
use Rattle.std.proofs.lemmas.List.{length-map}
use Rattle.std.proofs.lemmas.List.Edits.{length-insert}
use Rattle.call_path.specs.Path.{path_cmp}
use Rattle.prefix_tree.specs.declared.owned.TreeRow.{TreeRow}
use Rattle.prefix_tree.specs.Owned.{place_of, entry_of, entries_view, HasIncreasingPaths}
use Rattle.prefix_tree.specs.Changes.{inserted}
use Rattle.prefix_tree.proofs.Edits.{put_sorted, put_present, put_absent}
use Rattle.prefix_tree.proofs.ChangeLemmas.{puts_longer}

-- after a row is put, what is left to put makes the same rows
pub record PutsOn (rows new left rest : List TreeRow) (capacity : ℕ) : Type 0 where
  pub in_order : HasIncreasingPaths new
  pub room : length (inserted (entries_view new) (entries_view rest)) ≤ capacity
  pub put : inserted (entries_view new) (entries_view rest) ≡ inserted (entries_view rows) (entries_view left)

module _ (rows shown left rest : List TreeRow) (row : TreeRow) (capacity i : ℕ) (up : HasIncreasingPaths rows) (is : shown ≡ rows) (first : left ≡ row ∷ rest) (room : length (inserted (entries_view rows) (entries_view left)) ≤ capacity) where
  puts_on : (new : List TreeRow) → entries_view new ≡ finmap.put path_cmp row.path (row.label, row.ends) (entries_view rows) → PutsOn rows new left rest capacity
  puts_on new put =
      let same : inserted (entries_view new) (entries_view rest) ≡ inserted (entries_view rows) (entries_view left) = ap (λ es. inserted es (entries_view rest)) put ∙ ap (λ rs. inserted (entries_view rows) (entries_view rs)) (sym first) in
      record {
        in_order = subst (λ es. T (finmap.is_sorted path_cmp es)) (sym put) (put_sorted row.path (row.label, row.ends) (entries_view rows) up);
        room = let e = ap length same in omega (arith, e, room);
        put = same;
      }

  -- a row in the place of another
  pub put_over : place_of row.path (entries_view shown) ≡ Ok i → i < length shown → PutsOn rows (set rows i row) left rest capacity
  put_over at lt =
      puts_on (set rows i row) (put_present rows row i (ap (λ rs. place_of row.path (entries_view rs)) (sym is) ∙ at) (let e = ap length is in omega (arith, e, lt)))

  module _ (at : place_of row.path (entries_view shown) ≡ Err i) (le : i ≤ length shown) where
    put_there : entries_view (insert rows i row) ≡ finmap.put path_cmp row.path (row.label, row.ends) (entries_view rows)
    put_there = put_absent rows row i (ap (λ rs. place_of row.path (entries_view rs)) (sym is) ∙ at)

    -- there is room for a new row
    pub put_fits : length rows < capacity
    put_fits =
        let grown = ap length put_there ∙ ap (λ es. length es) (sym put_there) in
        let new = length-map (insert rows i row) entry_of in
        let long = length-insert rows i row (let e = ap length is in omega (arith, e, le)) in
        let all = puts_longer (finmap.put path_cmp row.path (row.label, row.ends) (entries_view rows)) (entries_view rest) in
        let same = ap (λ rs. length (inserted (entries_view rows) (entries_view rs))) first in
        let put = ap length put_there in
        omega (arith, new, long, all, same, put, room)

    -- a new row
    pub put_in : (new : List TreeRow) → new ≡ insert rows i row → PutsOn rows new left rest capacity
    put_in new e = puts_on new (ap entries_view e ∙ put_there)
