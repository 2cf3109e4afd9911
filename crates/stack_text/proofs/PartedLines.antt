-- Lines that are parted at those that begin a thread, by their first line and by their last.
use Rattle.std.proofs.Common.{◌≡◌, ◌∙◌, ℕ, Bool, List, [], ◌∷◌, ◌++◌, Option, None, Some, true, false, not, refl, ap, sym}
use Rattle.std.specs.Prelude.{◌||◌}
use Rattle.stack_text.specs.Lines.{LineView, read_line}
use Rattle.stack_text.specs.Processes.{Parted, thread_number, with_first, parted, with_last, is_head_of, has_odd_head}

-- lines whose first is known
module _ (all : List (List ℕ)) (line : List ℕ) (rest : List (List ℕ)) (view : LineView) (next : all ≡ line ∷ rest)
    (is : view ≡ read_line line) where
  -- it begins a thread
  pub thread_begins : (number : ℕ) → Some number ≡ thread_number view →
      parted all ≡ record { head = []; threads = (number, (parted rest).head) ∷ (parted rest).threads }
  unfolding parted
  thread_begins number h =
      ap parted next ∙ ap (λ v. with_first (thread_number v) line (parted rest)) (sym is)
      ∙ ap (λ o. with_first o line (parted rest)) (sym h)

  -- it belongs to what stands above
  pub line_above : None ≡ thread_number view →
      parted all ≡ record { head = line ∷ (parted rest).head; threads = (parted rest).threads }
  unfolding parted
  line_above h =
      ap parted next ∙ ap (λ v. with_first (thread_number v) line (parted rest)) (sym is)
      ∙ ap (λ o. with_first o line (parted rest)) (sym h)

-- there is no line
pub no_parts : (all : List (List ℕ)) → all ≡ [] → parted all ≡ record { head = []; threads = [] }
unfolding parted
no_parts all none = ap parted none

abbrev parts_of : List (List ℕ) → List (ℕ × List (List ℕ)) → Parted
parts_of head threads = record { head = head; threads = threads }

-- a line in front and one at the end, in either order
turned_by : (first line : List ℕ) (head : List (List ℕ)) (threads : List (ℕ × List (List ℕ))) →
    with_first None first (with_last None line (parts_of head threads))
    ≡ with_last None line (with_first None first (parts_of head threads))
turned_by first line head [] = refl
turned_by first line head (t ∷ threads) = refl

turned_below : (number : ℕ) (line : List ℕ) (head : List (List ℕ)) (threads : List (ℕ × List (List ℕ))) →
    with_first (Some number) line (with_last None line (parts_of head threads))
    ≡ with_last None line (with_first (Some number) line (parts_of head threads))
turned_below number line head [] = refl
turned_below number line head (t ∷ threads) = refl

-- one line more at the end
pub parted_push : (ls : List (List ℕ)) (line : List ℕ) →
    parted (ls ++ line ∷ []) ≡ with_last (thread_number (read_line line)) line (parted ls)
unfolding parted
parted_push [] line = by (thread_number (read_line line))
  where
    by : (o : Option ℕ) → with_first o line (record { head = []; threads = [] }) ≡ with_last o line (record { head = []; threads = [] })
    by None = refl
    by (Some number) = refl
parted_push (first ∷ ls) line =
    ap (with_first (thread_number (read_line first)) first) (parted_push ls line)
    ∙ turned (thread_number (read_line first)) (thread_number (read_line line)) first line (parted ls)
  where
    turned : (o p : Option ℕ) (first line : List ℕ) (parts : Parted) →
        with_first o first (with_last p line parts) ≡ with_last p line (with_first o first parts)
    turned None None first line parts = turned_by first line parts.head parts.threads
    turned None (Some number) first line parts = refl
    turned (Some number) None first line parts = turned_below number line parts.head parts.threads
    turned (Some number) (Some next) first line parts = refl

or_false : (b : Bool) → (b || false) ≡ b
or_false true = refl
or_false false = refl

or_assoc : (a b c : Bool) → ((a || b) || c) ≡ (a || (b || c))
or_assoc true b c = refl
or_assoc false b c = refl

-- whether a line above the first thread is odd, where no line is left above it
pub head_ends : (is_odd whole : Bool) (pid : ℕ) (head : List (List ℕ)) → (is_odd || has_odd_head pid head) ≡ whole →
    head ≡ [] → is_odd ≡ whole
head_ends is_odd whole pid head so_far none =
    sym (or_false is_odd) ∙ ap (λ h. is_odd || has_odd_head pid h) (sym none) ∙ so_far

-- and where one is taken
pub head_taken : (is_odd new whole : Bool) (pid : ℕ) (head rest : List (List ℕ)) (line : List ℕ) (view : LineView) →
    (is_odd || has_odd_head pid head) ≡ whole → head ≡ line ∷ rest → view ≡ read_line line →
    new ≡ (is_odd || not (is_head_of pid view)) → (new || has_odd_head pid rest) ≡ whole
head_taken is_odd new whole pid head rest line view so_far next is taken =
    ap (λ b. b || has_odd_head pid rest) (taken ∙ ap (λ v. is_odd || not (is_head_of pid v)) is)
    ∙ or_assoc is_odd (not (is_head_of pid (read_line line))) (has_odd_head pid rest)
    ∙ ap (λ h. is_odd || has_odd_head pid h) (sym next) ∙ so_far

-- one that is odd stays so
pub odd_stays : (is_odd other : Bool) → is_odd ≡ true → is_odd ≡ (is_odd || other)
odd_stays is_odd other h = rw h refl

pub odd_by_this : (is_odd other this : Bool) → is_odd ≡ false → this ≡ other → not this ≡ (is_odd || not other)
odd_by_this is_odd other this h e = rw (h, e) refl
