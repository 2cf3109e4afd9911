-- Words of a set, one after another.
use Rattle.std.proofs.Common.{◌≡◌, ℕ, suc, ◌+◌, ◌-◌, ◌<◌, Bool, true, false, ◌&&◌, ◌||◌, nat_eq, List, [], ◌∷◌, ◌++◌, length, Option, None, refl, sym, ap, ◌∙◌, arith, append_assoc, length-append}
use Rattle.std.proofs.lemmas.List.{append-nil}
use Rattle.std.proofs.Math.Seq.{get_or-append_seam}
use Rattle.std.specs.List.{list_all}
use Rattle.std.proofs.Common.{subst, get_or, not, take, cond, nat_lt, inl, inr, ◌≤◌}
use Rattle.std.proofs.lemmas.Bool.{ltb-true, or_cases, and_parts, true≢false}
use Rattle.rank_set.specs.Ranks.{Ranks, Has, has, none, same_ranks, has-those, has-union, has-none, has-in_order, in_order, all_have, size, is_subset, subset_has, subset_from}
use Rattle.rank_places.specs.Places.{place, from_places}
use Rattle.rank_set.proofs.WordSets.{ranks_in-none}
use Rattle.rank_set.proofs.WordLists.{ranks_in-push}
use Rattle.rank_set.specs.Words.{ranks_in}
use Rattle.packet_frame.specs.declared.error.FrameReason.{FrameReason}
use Rattle.packet_frame.specs.declared.error.FrameReason.TheVariants.{NotCanonical}
use Rattle.packet_frame.specs.Fields.{Form, whole, ◌>>=◌, list_form, Rules, broken}
use Rattle.packet_frame.specs.Frame.{word_form, next_word, after_word, words_form, offset_form, word_count_form, set_form, word_limit, is_first, ends_rule, ranks_at}
use Rattle.call_path.specs.Path.{Path}
use Rattle.packet_frame.specs.declared.scan.Scan.{Scan}
use Rattle.prefix_tree.specs.Tree.{Tree}
use Rattle.packet_frame.specs.FrameRows.{HasGrown}
use Rattle.packet_frame.specs.declared.scan.Part.{Part}
use Rattle.packet_frame.specs.declared.scan.Part.TheVariants as parts
use Rattle.packet_frame.specs.Scanning.{words_left, word_rule, IsInPart, IsInSet, MayEnd}
use Rattle.packet_frame.proofs.Binding.{bind_assoc, bind_same, first_and_rest}

module _ {B : Type 0} (of_word : ℕ → ℕ → Rules) (k : Ranks → Form B) where
  none_read : (offset count : ℕ) → words_form of_word offset count >>= (λ ws. whole (ranks_in offset ws)) ≡ words_left of_word offset [] count
  unfolding words_form
  none_read offset count = ap (λ (n : ℕ). list_form (next_word of_word) after_word (n, true) count >>= λ ws. whole (ranks_in offset ws)) (let e : offset ≡ offset + 0 = omega arith in e)

  -- offset and count come first
  pub set_follows : (limit : ℕ) (needed : Option FrameReason) → set_form limit needed of_word >>= k ≡ offset_form limit >>= λ offset. word_count_form limit needed offset >>= λ count. words_left of_word offset [] count >>= k
  unfolding set_form
  set_follows limit needed =
      bind_assoc (offset_form limit) (λ offset. word_count_form limit needed offset >>= λ count. words_form of_word offset count >>= λ ws. whole (ranks_in offset ws)) k
      ∙ bind_same (offset_form limit) _ _ (λ offset.
      bind_assoc (word_count_form limit needed offset) (λ count. words_form of_word offset count >>= λ ws. whole (ranks_in offset ws)) k
      ∙ bind_same (word_count_form limit needed offset) _ _ (λ count. ap (λ form. form >>= k) (none_read offset count)))

  as_list : (offset : ℕ) (ws : List ℕ) (count : ℕ) → words_left of_word offset ws count >>= k ≡ list_form (next_word of_word) after_word (offset + length ws, nat_eq (length ws) 0) count >>= λ rest. k (ranks_in offset (ws ++ rest))
  as_list offset ws count = bind_assoc (list_form (next_word of_word) after_word (offset + length ws, nat_eq (length ws) 0) count) (λ rest. whole (ranks_in offset (ws ++ rest))) k

  -- a word follows
  pub word_follows : (offset : ℕ) (ws : List ℕ) (count left : ℕ) → count ≡ suc left → words_left of_word offset ws count >>= k ≡ word_form of_word (offset + length ws) (nat_eq (length ws) 0 || nat_eq left 0) >>= λ w. words_left of_word offset (ws ++ w ∷ []) left >>= k
  word_follows offset ws count left e =
      ap (λ (n : ℕ). words_left of_word offset ws n >>= k) e
      ∙ as_list offset ws (suc left)
      ∙ first_and_rest (next_word of_word) after_word (offset + length ws, nat_eq (length ws) 0) left (λ rest. k (ranks_in offset (ws ++ rest)))
      ∙ bind_same (word_form of_word (offset + length ws) (nat_eq (length ws) 0 || nat_eq left 0)) _ _ (λ w.
      bind_same (list_form (next_word of_word) after_word (suc (offset + length ws), false) left) _ _ (λ rest. ap (λ all. k (ranks_in offset all)) (sym (append_assoc ws (w ∷ []) rest)))
      ∙ ap (λ (state : ℕ × Bool). list_form (next_word of_word) after_word state left >>= λ rest. k (ranks_in offset ((ws ++ w ∷ []) ++ rest))) (more w)
      ∙ sym (as_list offset (ws ++ w ∷ []) left))
    where
      more : (w : ℕ) → ◌≡◌ {A = ℕ × Bool} (suc (offset + length ws), false) (offset + length (ws ++ w ∷ []), nat_eq (length (ws ++ w ∷ [])) 0)
      more w =
          let len : length (ws ++ w ∷ []) ≡ suc (length ws) = length-append ws (w ∷ []) ∙ (let e : length ws + 1 ≡ suc (length ws) = omega arith in e) in
          let place : suc (offset + length ws) ≡ offset + length (ws ++ w ∷ []) = omega (arith, len) in
          let some : false ≡ nat_eq (length (ws ++ w ∷ [])) 0 = sym (ap (λ (n : ℕ). nat_eq n 0) len ∙ (let f : nat_eq (suc (length ws)) 0 ≡ false = grind arith in f)) in
          (λ i. (place i, some i))

  -- no word is left
  pub words_end : (offset : ℕ) (ws : List ℕ) (count : ℕ) → count ≡ 0 → words_left of_word offset ws count >>= k ≡ k (ranks_in offset ws)
  words_end offset ws count e = ap (λ (n : ℕ). words_left of_word offset ws n >>= k) e ∙ ap (λ all. k (ranks_in offset all)) (append-nil ws)

-- the places of more words stay below the number of covered ranks
pub places_below : (offset : ℕ) (ws : List ℕ) (w count : ℕ) → ((p : ℕ) → Has p (ranks_in offset ws) → p < count) → list_all (λ p. nat_lt p count) (in_order (ranks_in (offset + length ws) (w ∷ []))) ≡ true → (p : ℕ) → Has p (ranks_in offset (ws ++ w ∷ [])) → p < count
places_below offset ws w count before fine p member =
    let one = ranks_in (offset + length ws) (w ∷ []) in
    let either : (has (ranks_in offset ws) p || has one p) ≡ true = sym (has-union (ranks_in offset ws) one p) ∙ ap (λ s. has s p) (sym (ranks_in-push offset ws w)) ∙ member in
    elim (or_cases (has (ranks_in offset ws) p) (has one p) either) [
      | inl h ↦ before p h
      | inr h ↦ ltb-true p count (all_have (λ q. nat_lt q count) (in_order one) p fine (sym (has-in_order one p) ∙ h))
    ]

-- one more word of covered ranks
subset_more : (offset : ℕ) (ws : List ℕ) (w : ℕ) (cover : Ranks) → is_subset (ranks_in offset ws) cover ≡ true → is_subset (ranks_in (offset + length ws) (w ∷ [])) cover ≡ true → is_subset (ranks_in offset (ws ++ w ∷ [])) cover ≡ true
subset_more offset ws w cover before fine = subset_from _ cover (λ r member.
    let one = ranks_in (offset + length ws) (w ∷ []) in
    let either : (has (ranks_in offset ws) r || has one r) ≡ true = sym (has-union (ranks_in offset ws) one r) ∙ ap (λ s. has s r) (sym (ranks_in-push offset ws w)) ∙ member in
    elim (or_cases (has (ranks_in offset ws) r) (has one r) either) [
      | inl h ↦ subset_has _ cover before r h
      | inr h ↦ subset_has _ cover fine r h
    ])

-- what the rule says of a word of a row's ends
abbrev pub ObeysEnds : (version index w : ℕ) → Ranks → Type 0
ObeysEnds version index w cover = (is_first version ≡ true → is_subset (ranks_in index (w ∷ [])) cover ≡ true) × (is_first version ≡ false → list_all (λ p. nat_lt p (size cover)) (in_order (ranks_in index (w ∷ []))) ≡ true)

may_end_more : (version offset : ℕ) (ws : List ℕ) (w : ℕ) (cover : Ranks) → MayEnd version cover (ranks_in offset ws) → ObeysEnds version (offset + length ws) w cover → MayEnd version cover (ranks_in offset (ws ++ w ∷ []))
may_end_more version offset ws w cover before fine = (
  λ first. subset_more offset ws w cover (before.0 first) (fine.0 first),
  λ second. places_below offset ws w (size cover) (before.1 second) (fine.1 second),
)

-- no word gives no number
pub no_numbers : (version offset : ℕ) (cover : Ranks) (ws : List ℕ) → ws ≡ [] → MayEnd version cover (ranks_in offset ws)
no_numbers version offset cover ws e =
    let nothing : (p : ℕ) → Has p (ranks_in offset ws) → ⊥ = λ p member. true≢false (sym member ∙ ap (λ s. has s p) (ap (ranks_in offset) e ∙ ranks_in-none offset) ∙ has-none p) in
    (λ _. subset_from _ cover (λ p member. absurd (nothing p member)), λ _ p member. absurd (nothing p member))

-- the ranks of such numbers are covered
pub ends_covered : (version : ℕ) (cover numbers : Ranks) → MayEnd version cover numbers → is_subset (ranks_at version cover numbers) cover ≡ true
unfolding from_places
ends_covered version cover numbers may = by_case (is_first version) refl
  where
    by_case : (first : Bool) → is_first version ≡ first → is_subset (cond first numbers (from_places cover numbers)) cover ≡ true
    by_case true e = may.0 e
    by_case false e = subset_from _ cover (λ r member. (and_parts _ _ (sym (has-those (λ q. has numbers (place cover q)) cover r) ∙ member)).0)

-- ---- the first and the last word are not 0

edge_some : (a b : Bool) (w : ℕ) → (not (a || b) || not (nat_eq w 0)) ≡ true → (a || b) ≡ true → 0 < w
edge_some a b w fine edge = let one : not (nat_eq w 0) ≡ true = ap (λ c. not c || not (nat_eq w 0)) (sym edge) ∙ fine in grind (arith, one)

module _ (ws : List ℕ) (w left : ℕ) (fine : (not (nat_eq (length ws) 0 || nat_eq left 0) || not (nat_eq w 0)) ≡ true) where
  pub first_word : (0 < length ws → 0 < get_or ws 0 0) → 0 < get_or (ws ++ w ∷ []) 0 0
  first_word before = by_case ws refl
    where
      by_case : (xs : List ℕ) → ws ≡ xs → 0 < get_or (xs ++ w ∷ []) 0 0
      by_case [] e = edge_some (nat_eq (length ws) 0) (nat_eq left 0) w fine (ap (λ xs. nat_eq (length xs) 0 || nat_eq left 0) e)
      by_case (x ∷ xs) e = subst (λ ys. 0 < get_or ys 0 0) e (before (subst (λ ys. 0 < length ys) (sym e) (let some : 0 < suc (length xs) = omega arith in some)))

  pub last_word : left ≡ 0 → 0 < get_or (ws ++ w ∷ []) (length (ws ++ w ∷ []) - 1) 0
  last_word e =
      let some = edge_some (nat_eq (length ws) 0) (nat_eq left 0) w fine (ap (λ (n : ℕ). nat_eq (length ws) 0 || nat_eq n 0) e ∙ or_true (nat_eq (length ws) 0)) in
      subst (λ (n : ℕ). 0 < n) (sym (last_is ws)) some
    where
      or_true : (b : Bool) → (b || true) ≡ true
      or_true true = refl
      or_true false = refl

      last_is : (xs : List ℕ) → get_or (xs ++ w ∷ []) (length (xs ++ w ∷ []) - 1) 0 ≡ w
      last_is xs = ap (λ (n : ℕ). get_or (xs ++ w ∷ []) n 0) (let e : length (xs ++ w ∷ []) - 1 ≡ length xs = omega (arith, length-append xs (w ∷ [])) in e) ∙ get_or-append_seam xs w [] 0

-- what the rule of a word says
pub obeyed : (part : Part) (version index w : ℕ) (cover : Ranks) → broken (word_rule part version cover index w) ≡ None → part ≡ parts.Ends → ObeysEnds version index w cover
unfolding ends_rule
obeyed parts.Coverage version index w cover fine ends = absurd cc
obeyed parts.Ends version index w cover fine ends =
    let numbers = ranks_in index (w ∷ []) in
    let below = list_all (λ p. nat_lt p (size cover)) (in_order numbers) in (
      λ first. kept (is_subset numbers cover) (ap (λ (b : Bool). broken ((cond b (is_subset numbers cover) below, NotCanonical) ∷ [])) (sym first) ∙ fine),
      λ second. kept below (ap (λ (b : Bool). broken ((cond b (is_subset numbers cover) below, NotCanonical) ∷ [])) (sym second) ∙ fine),
    )
  where
    kept : (b : Bool) → broken ((b, NotCanonical) ∷ []) ≡ None → b ≡ true
    kept true h = refl
    kept false h = absurd cc

-- a word more of a set
pub with_word : {X : Type 0} (s t : Scan X) (w : ℕ) → IsInSet s → 0 < s.left → t.left ≡ s.left - 1 → t.set.words.items ≡ s.set.words.items ++ w ∷ [] → t.set.offset ≡ s.set.offset → t.set.part ≡ s.set.part → IsInPart t.set.part t → t.version ≡ s.version → t.cover.ranks ≡ s.cover.ranks → (not (nat_eq (length s.set.words.items) 0 || nat_eq (s.left - 1) 0) || not (nat_eq w 0)) ≡ true → (s.set.part ≡ parts.Ends → ObeysEnds s.version (s.set.offset + length s.set.words.items) w s.cover.ranks) → IsInSet t
with_word s t w is some left words offset part ready version cover fine obeys =
    let len : length t.set.words.items ≡ length s.set.words.items + 1 = ap length words ∙ length-append s.set.words.items (w ∷ []) in
    record {
      part = ready;
      fits = omega (arith, len, left, offset, some, is.fits);
      first = λ _. subst (λ (ws : List ℕ). 0 < get_or ws 0 0) (sym words) (first_word s.set.words.items w (s.left - 1) fine is.first);
      last = λ none _. subst (λ (ws : List ℕ). 0 < get_or ws (length ws - 1) 0) (sym words) (last_word s.set.words.items w (s.left - 1) fine (sym left ∙ none));
      nothing = λ _ none. absurd (omega (arith, len, none));
      ends = λ here.
          subst (λ (c : Ranks). MayEnd t.version c (ranks_in t.set.offset t.set.words.items)) (sym cover) (
          subst (λ (v : ℕ). MayEnd v s.cover.ranks (ranks_in t.set.offset t.set.words.items)) (sym version) (
          subst (λ (ws : List ℕ). MayEnd s.version s.cover.ranks (ranks_in t.set.offset ws)) (sym words) (
          subst (λ (o : ℕ). MayEnd s.version s.cover.ranks (ranks_in o (s.set.words.items ++ w ∷ []))) (sym offset) (
          may_end_more s.version s.set.offset s.set.words.items w s.cover.ranks (is.ends (sym part ∙ here)) (obeys (sym part ∙ here))))));
    }

-- the part stays ready where nothing of it changes
pub part_kept : {X : Type 0} (part : Part) (s t : Scan X) → s.kind ≡ t.kind → s.version ≡ t.version → s.cover.count ≡ t.cover.count → s.cover.places ≡ t.cover.places → s.cover.ranks ≡ t.cover.ranks → s.row.left ≡ t.row.left → s.row.depth ≡ t.row.depth → s.row.path ≡ t.row.path → s.tree ≡ t.tree → IsInPart part s → IsInPart part t
part_kept parts.Coverage s t kind version covered places cover count depth path tree h = (sym kind ∙ h.0, sym version ∙ h.1)
part_kept parts.Ends s t kind version covered places cover count depth path tree h = record {
  kind = sym kind ∙ h.kind;
  covered = (sym covered ∙ h.covered.0 ∙ ap size cover, sym places ∙ h.covered.1 ∙ cover);
  some = subst (λ (n : ℕ). 0 < n) count h.some;
  depth = subst (λ (n : ℕ). 1 ≤ n) depth h.depth;
  depth_limit = subst (λ (n : ℕ). n ≤ 128) depth h.depth_limit;
  len = ap length (sym path) ∙ h.len ∙ depth;
  before = h.before;
  grown = subst (λ (n : ℕ). HasGrown t.cover.ranks t.tree h.before n) count (subst (λ (u : Tree). HasGrown t.cover.ranks u h.before s.row.left) tree (subst (λ (c : Ranks). HasGrown c s.tree h.before s.row.left) cover h.grown));
  kept = subst (λ (d : ℕ). take (d - 1) t.row.path ≡ take (d - 1) h.before) depth (subst (λ (p : Path). take (s.row.depth - 1) p ≡ take (s.row.depth - 1) h.before) path h.kept);
}

-- the limit of words of either version
pub within_words : (version n : ℕ) → n ≤ word_limit version → n ≤ 16384
within_words version n = by_case (is_first version)
  where
    by_case : (b : Bool) → n ≤ cond b 256 16384 → n ≤ 16384
    by_case true h = omega (arith, h)
    by_case false h = h

-- ---- a row with no ends

from_no_places : (cover : Ranks) → from_places cover none ≡ none
unfolding from_places
from_no_places cover = same_ranks _ _ (λ r. has-those (λ q. has none (place cover q)) cover r ∙ ap (λ b. has cover r && b) (has-none (place cover r)) ∙ never (has cover r) ∙ sym (has-none r))
  where
    never : (b : Bool) → (b && false) ≡ false
    never true = refl
    never false = refl

pub ranks_at_none : (version : ℕ) (cover : Ranks) → ranks_at version cover none ≡ none
ranks_at_none version cover = by_case (is_first version)
  where
    by_case : (first : Bool) → cond first none (from_places cover none) ≡ none
    by_case true = refl
    by_case false = from_no_places cover
