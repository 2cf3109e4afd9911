-- A row up to its ends, and a row's ends where there are none, read in one go.
use Rattle.std.proofs.Common.{◌≡◌, ℕ, ◌+◌, ◌-◌, ◌≤◌, ◌<◌, Bool, true, false, ◌&&◌, ◌||◌, not, cond, nat_eq, nat_le, nat_lt, List, [], ◌∷◌, ◌++◌, length, take, drop, slice_get, None, Some, refl, sym, ap, subst, ◌∙◌, arith}
use Rattle.std.proofs.lemmas.Bool.{ne_eqb, le-leb}
use Rattle.std.proofs.lemmas.List.{drop-drop, length-take-le, length-drop, take-append-le, take-take, length-append}
use Rattle.std.specs.Int.{w8, w16, from_be_bytes}
use Rattle.rank_set.specs.Ranks.{Ranks, none, size}
use Rattle.rank_set.proofs.WordSets.{ranks_in-none}
use Rattle.call_path.specs.Path.{Path}
use Rattle.prefix_tree.specs.Tree.{Tree}
use Rattle.packet_frame.specs.declared.error.FrameReason.TheVariants.{BadLength, NotCanonical, OverLimit}
use Rattle.packet_frame.specs.declared.packet.Packet.{Packet}
use Rattle.packet_frame.specs.declared.scan.Field.{Field}
use Rattle.packet_frame.specs.declared.scan.Field.TheVariants as fields
use Rattle.packet_frame.specs.declared.scan.Scan.{Scan}
use Rattle.packet_frame.specs.Fields.{Form, ◌>>=◌, broken, piece, read}
use Rattle.packet_frame.specs.Frame.{depth_form, name_length_form, name_form, ends_form, offset_form, word_count_form, set_form, word_limit, is_first, is_name, is_after, ends_needed, if_needed, ends_rule, ranks_at, path_at}
use Rattle.packet_frame.specs.Scanning.{rows_left, after_ends, words_left, left, left_at, is_last, IsBeforeRow, IsNamed, MayHaveDepth, FollowsRow, BeginsWithHead, ReadsOn}
use Rattle.packet_frame.specs.FrameRows.{HasGrown}
use Rattle.packet_frame.proofs.Binding.{take_field, take_number}
use Rattle.packet_frame.proofs.Rowing.{row_follows, depth_then, ends_follow}
use Rattle.packet_frame.proofs.Setting.{set_follows, words_end, ranks_at_none}
use Rattle.packet_frame.proofs.Names.{good}
use Rattle.packet_frame.proofs.Steps.{field_taken}
use Rattle.packet_frame.proofs.Growing.{named_more}

-- ---- the rules of a depth, a length and a name hold

both : (a b : Bool) → a ≡ true → b ≡ true → (a && b) ≡ true
both true b p q = q
both false b p q = absurd cc

either : (a : Bool) (n m : ℕ) → (a ≡ false → n ≡ m) → (a || nat_eq n m) ≡ true
either true n m h = refl
either false n m h = let e : n ≡ m = h refl in grind (arith, e)

three_hold : (a b c : Bool) → a ≡ true → b ≡ true → c ≡ true → broken ((a, OverLimit) ∷ (b, NotCanonical) ∷ (c, NotCanonical) ∷ []) ≡ None
three_hold true true true p q r = refl
three_hold true true false p q r = absurd cc
three_hold true false c p q r = absurd cc
three_hold false b c p q r = absurd cc

two_hold : (a b : Bool) → a ≡ true → b ≡ true → broken ((a, BadLength) ∷ (b, OverLimit) ∷ []) ≡ None
two_hold true true p q = refl
two_hold true false p q = absurd cc
two_hold false b p q = absurd cc

name_holds : (a b : Bool) → a ≡ true → b ≡ true → broken ((a, NotCanonical) ∷ (b, NotCanonical) ∷ []) ≡ None
name_holds true true p q = refl
name_holds true false p q = absurd cc
name_holds false b p q = absurd cc

depth_fine : (before : Path) (ended : Bool) (n : ℕ) → MayHaveDepth before ended n → broken ((nat_le n 128, OverLimit) ∷ (nat_le 1 n && nat_le n (length before + 1), NotCanonical) ∷ (ended || nat_eq n (length before + 1), NotCanonical) ∷ []) ≡ None
depth_fine before ended n may =
    let a : nat_le n 128 ≡ true = le-leb n 128 may.limit in
    let b : nat_le 1 n ≡ true = le-leb 1 n may.some in
    let c : nat_le n (length before + 1) ≡ true = le-leb n (length before + 1) may.near in
    three_hold _ _ _ a (both _ _ b c) (either ended n (length before + 1) may.next)

length_fine : (n : ℕ) → 0 < n → n ≤ 1023 → broken ((not (nat_eq n 0), BadLength) ∷ (nat_le n 1023, OverLimit) ∷ []) ≡ None
length_fine n some most =
    let a : not (nat_eq n 0) ≡ true = grind (arith, some) in
    let b : nat_le n 1023 ≡ true = le-leb n 1023 most in
    two_hold _ _ a b

-- ---- a row up to its ends

-- what is behind so many bytes of the rest is behind so many more of all
cut_off : (bytes rest : List ℕ) (at n : ℕ) → rest ≡ drop at bytes → drop n rest ≡ drop (at + n) bytes
cut_off bytes rest at n e = ap (drop n) e ∙ drop-drop n at bytes

module _ (version stream wave : ℕ) (cover : Ranks) (t : Tree) (count : ℕ) where
  -- the ends of a row are left, and the rows behind it
  abbrev pub ends_left : Path → ℕ → Form (Packet Tree)
  ends_left p depth = set_form (word_limit version) (ends_needed depth (is_last count)) (ends_rule version cover) >>= λ numbers. after_ends version stream wave cover t p count (ranks_at version cover numbers)

  -- depth, length and name are read, and the ends are left
  pub head_read : (path : Path) (ended : Bool) (bytes : List ℕ) (at depth len : ℕ) (name : List ℕ) → 0 < count → MayHaveDepth path ended depth → 0 < len → len ≤ 1023 → is_name name ≡ true → is_after (slice_get path (depth - 1)) name ≡ true → at + 1 + 2 + len ≤ length bytes → depth ≡ from_be_bytes w8 (piece bytes at 1) → len ≡ from_be_bytes w16 (piece bytes (at + 1) 2) → name ≡ piece bytes (at + 1 + 2) len → ReadsOn bytes (rows_left version stream wave cover t path ended count) at (ends_left (path_at path depth name) depth) (at + 1 + 2 + len)
  unfolding depth_form name_length_form name_form
  head_read path ended bytes at depth len name some may len_some len_most good after within depth_is len_is name_is more =
      let next : ℕ → Form (Packet Tree) = depth_then version stream wave cover t path count (count - 1) in
      let named : List ℕ → Form (Packet Tree) = λ name. ends_form version cover depth (nat_eq (count - 1) 0) >>= after_ends version stream wave cover t (path_at path depth name) count in
      let first = take_number w8 (λ n. (nat_le n 128, OverLimit) ∷ (nat_le 1 n && nat_le n (length path + 1), NotCanonical) ∷ (ended || nat_eq n (length path + 1), NotCanonical) ∷ []) next (piece bytes at 1) depth depth_is (depth_fine path ended depth may) in
      let second = take_number w16 (λ n. (not (nat_eq n 0), BadLength) ∷ (nat_le n 1023, OverLimit) ∷ []) (λ len. name_form path depth len >>= named) (piece bytes (at + 1) 2) len len_is (length_fine len len_some len_most) in
      let fine : broken ((is_name (piece bytes (at + 1 + 2) len), NotCanonical) ∷ (is_after (slice_get path (depth - 1)) (piece bytes (at + 1 + 2) len), NotCanonical) ∷ []) ≡ None = name_holds _ _ (ap is_name (sym name_is) ∙ good) (ap (is_after (slice_get path (depth - 1))) (sym name_is) ∙ after) in
      let third = take_field len (λ bytes. broken ((is_name bytes, NotCanonical) ∷ (is_after (slice_get path (depth - 1)) bytes, NotCanonical) ∷ [])) named (piece bytes (at + 1 + 2) len) fine in
      ap (λ form. read form (bytes ++ more) at) (row_follows version stream wave cover t path ended count (count - 1) (omega (arith, some)))
      ∙ field_taken (depth_form path ended >>= next) (next depth) bytes more at (omega (arith, within)) first
      ∙ field_taken (name_length_form >>= λ len. name_form path depth len >>= named) (name_form path depth len >>= named) bytes more (at + 1) (omega (arith, within)) second
      ∙ field_taken (name_form path depth len >>= named) (named (piece bytes (at + 1 + 2) len)) bytes more (at + 1 + 2) within third
      ∙ ap (λ form. read form (bytes ++ more) (at + 1 + 2 + len)) (ap named (sym name_is) ∙ ends_follow version stream wave cover t depth count (is_last count) (path_at path depth name))

  -- no words are within the limit of either version
  no_words : (b : Bool) → nat_lt 0 (cond b 256 16384) ≡ true
  no_words true = refl
  no_words false = refl

  no_words_either : (b : Bool) → nat_le 0 (cond b 256 16384) ≡ true
  no_words_either true = refl
  no_words_either false = refl

  one_holds : (a : Bool) → a ≡ true → broken ((a, OverLimit) ∷ []) ≡ None
  one_holds true p = refl
  one_holds false p = absurd cc

  count_holds : (a : Bool) → a ≡ true → broken ((a, OverLimit) ∷ (true, NotCanonical) ∷ []) ≡ None
  count_holds true p = refl
  count_holds false p = absurd cc

  -- no offset and no words are read, and no ends follow
  pub ends_read : (p : Path) (depth : ℕ) (bytes : List ℕ) (at : ℕ) → ends_needed depth (is_last count) ≡ None → at + 2 + 2 ≤ length bytes → 0 ≡ from_be_bytes w16 (piece bytes at 2) → 0 ≡ from_be_bytes w16 (piece bytes (at + 2) 2) → ReadsOn bytes (ends_left p depth) at (after_ends version stream wave cover t p count none) (at + 2 + 2)
  unfolding offset_form word_count_form
  ends_read p depth bytes at none_needed within offset_is count_is more =
      let rule = ends_rule version cover in
      let limit = word_limit version in
      let then : Ranks → Form (Packet Tree) = λ numbers. after_ends version stream wave cover t p count (ranks_at version cover numbers) in
      let words : ℕ → ℕ → Form (Packet Tree) = λ offset count. words_left rule offset [] count >>= then in
      let counted : ℕ → Form (Packet Tree) = λ offset. word_count_form limit None offset >>= words offset in
      let first = take_number w16 (λ n. (nat_lt n limit, OverLimit) ∷ []) counted (piece bytes at 2) 0 offset_is (one_holds _ (no_words (is_first version))) in
      let second = take_number w16 (λ n. (nat_le (0 + n) limit, OverLimit) ∷ (nat_eq 0 0 || not (nat_eq n 0), NotCanonical) ∷ if_needed None n) (words 0) (piece bytes (at + 2) 2) 0 count_is (count_holds _ (no_words_either (is_first version))) in
      ap (λ o. read (set_form limit o rule >>= then) (bytes ++ more) at) none_needed
      ∙ ap (λ form. read form (bytes ++ more) at) (set_follows rule then limit None)
      ∙ field_taken (offset_form limit >>= counted) (counted 0) bytes more at (omega (arith, within)) first
      ∙ field_taken (counted 0) (words 0 0) bytes more (at + 2) within second
      ∙ ap (λ form. read form (bytes ++ more) (at + 2 + 2)) (words_end rule then 0 [] 0 refl ∙ ap then (ranks_in-none 0) ∙ ap (after_ends version stream wave cover t p count) (ranks_at_none version cover))

-- a row that isn't the last, and not at the greatest depth, needs no ends
needs_none : (depth count : ℕ) → 1 < count → (depth ≡ 128 → ⊥) → ends_needed depth (is_last count) ≡ None
needs_none depth count some less =
    let a : nat_eq (count - 1) 0 ≡ false = grind (arith, some) in
    let b : nat_eq depth 128 ≡ false = ne_eqb depth 128 less in
    neither _ _ a b
  where
    neither : (a b : Bool) → a ≡ false → b ≡ false → cond (a || b) (Some NotCanonical) None ≡ None
    neither false false p q = refl
    neither false true p q = absurd cc
    neither true b p q = absurd cc

-- ---- the same of a scan, and of the pieces that its code cuts

module _ {X : Type 0} (s : Scan X) (bytes : List ℕ) (at : ℕ) where
  -- a row is read up to its ends
  pub reads_head : (depth len : ℕ) (rest one first two second name : List ℕ) → s.field ≡ fields.Depth → 0 < s.row.left → MayHaveDepth s.row.path s.row.ended depth → 0 < len → len ≤ 1023 → is_name name ≡ true → is_after (slice_get s.row.path (depth - 1)) name ≡ true → at + 3 + len ≤ length bytes → rest ≡ drop at bytes → one ≡ take 1 rest → first ≡ drop 1 rest → two ≡ take 2 first → second ≡ drop 2 first → name ≡ take len second → depth ≡ from_be_bytes w8 one → len ≡ from_be_bytes w16 two → ReadsOn bytes (left s) at (ends_left s.version s.stream s.wave s.cover.ranks s.tree s.row.left (path_at s.row.path depth name) depth) (at + 3 + len)
  reads_head depth len rest one first two second name field some may len_some len_most good after within rest_is one_is first_is two_is second_is name_is depth_of len_of more =
      let behind_one : first ≡ drop (at + 1) bytes = first_is ∙ cut_off bytes rest at 1 rest_is in
      let behind_two : second ≡ drop (at + 1 + 2) bytes = second_is ∙ cut_off bytes first (at + 1) 2 behind_one in
      let next : at + 1 + 2 + len ≡ at + 3 + len = omega arith in
      let end = ends_left s.version s.stream s.wave s.cover.ranks s.tree s.row.left (path_at s.row.path depth name) depth in
      ap (λ f. read (left_at f s) (bytes ++ more) at) field
      ∙ head_read s.version s.stream s.wave s.cover.ranks s.tree s.row.left s.row.path s.row.ended bytes at depth len name some may len_some len_most good after (omega (arith, within)) (depth_of ∙ ap (from_be_bytes w8) (one_is ∙ ap (take 1) rest_is)) (len_of ∙ ap (from_be_bytes w16) (two_is ∙ ap (take 2) behind_one)) (name_is ∙ ap (take len) behind_two) more
      ∙ ap (read end (bytes ++ more)) next

-- the row that was named is whole, and has no ends
pub passed : {X : Type 0} (s : Scan X) → IsNamed s → HasGrown s.cover.ranks s.tree s.row.path (s.row.left - 1)
passed s named = named_more s named none

-- the path of a row has its depth, and begins with frames of the path before
path_length : (before : Path) (d : ℕ) (name : List ℕ) → 1 ≤ d → d ≤ length before + 1 → length (path_at before d name) ≡ d
path_length before d name some near =
    let le : d - 1 ≤ length before = omega (arith, near) in
    let front : length (take (d - 1) before) ≡ d - 1 = length-take-le (d - 1) before le in
    let all : length (path_at before d name) ≡ length (take (d - 1) before) + 1 = length-append (take (d - 1) before) (name ∷ []) in
    omega (arith, front, all, some)

path_kept : (before : Path) (d : ℕ) (name : List ℕ) → d ≤ length before + 1 → take (d - 1) (path_at before d name) ≡ take (d - 1) before
path_kept before d name near =
    let le : d - 1 ≤ length before = omega (arith, near) in
    let front : length (take (d - 1) before) ≡ d - 1 = length-take-le (d - 1) before le in
    let within : d - 1 ≤ length (take (d - 1) before) = omega (arith, front) in
    take-append-le (d - 1) (take (d - 1) before) (name ∷ []) within ∙ take-take (d - 1) (d - 1) before (omega arith)

-- a row is named, behind another
pub row_is_named : {X : Type 0} (s t : Scan X) (name : List ℕ) → IsBeforeRow s → 0 < s.row.left → MayHaveDepth s.row.path s.row.ended t.row.depth → t.row.path ≡ path_at s.row.path t.row.depth name → t.kind ≡ s.kind → t.cover.count ≡ s.cover.count → t.cover.places ≡ s.cover.places → t.cover.ranks ≡ s.cover.ranks → t.tree ≡ s.tree → t.row.left ≡ s.row.left → IsNamed t
row_is_named s t name before some may path kind covered places cover tree count = record {
  kind = kind ∙ before.kind;
  covered = (covered ∙ before.covered.0 ∙ ap size (sym cover), places ∙ before.covered.1 ∙ sym cover);
  some = subst (λ (n : ℕ). 0 < n) (sym count) some;
  depth = may.some;
  depth_limit = may.limit;
  len = ap length path ∙ path_length s.row.path t.row.depth name may.some may.near;
  before = s.row.path;
  grown = subst (λ (n : ℕ). HasGrown t.cover.ranks t.tree s.row.path n) (sym count) (subst (λ (u : Tree). HasGrown t.cover.ranks u s.row.path s.row.left) (sym tree) (subst (λ (c : Ranks). HasGrown c s.tree s.row.path s.row.left) (sym cover) before.grown));
  kept = ap (take (t.row.depth - 1)) path ∙ path_kept s.row.path t.row.depth name may.near;
}

-- ---- rows of the bytes behind an offset

zeros_first : (xs : List ℕ) → take 4 xs ≡ 0 ∷ 0 ∷ 0 ∷ 0 ∷ [] → 0 ≡ from_be_bytes w16 (take 2 xs)
zeros_first xs e = ap (λ (ys : List ℕ). from_be_bytes w16 (take 2 ys)) (sym e) ∙ ap (from_be_bytes w16) (take-take 2 4 xs (omega arith))

zeros_second : (xs : List ℕ) → take 4 xs ≡ 0 ∷ 0 ∷ 0 ∷ 0 ∷ [] → 0 ≡ from_be_bytes w16 (take 2 (drop 2 xs))
zeros_second [] e = absurd cc
zeros_second (a ∷ []) e = absurd cc
zeros_second (a ∷ b ∷ xs) e = ap (λ (ys : List ℕ). from_be_bytes w16 (drop 2 ys)) (sym e)

module _ {X : Type 0} (s : Scan X) (bytes : List ℕ) (at depth : ℕ) (name : List ℕ) (path : Path) (next : ℕ) (field : s.field ≡ fields.Depth) (ready : IsBeforeRow s × (0 < s.row.left)) (within : at ≤ length bytes) (head : BeginsWithHead (drop at bytes) depth name) (row : FollowsRow s.row.path s.row.ended depth name path) (to : next ≡ at + (3 + length name)) where
  -- the name ends within the bytes
  pub head_within : next ≤ length bytes
  head_within = let left_over = length-drop at bytes in omega (arith, left_over, within, head.within, to)

  -- a row is read up to its ends
  pub head_passed : ReadsOn bytes (left s) at (ends_left s.version s.stream s.wave s.cover.ranks s.tree s.row.left path depth) next
  head_passed =
      let rest : List ℕ = drop at bytes in
      let first : List ℕ = drop 1 rest in
      let at_next : at + 3 + length name ≡ next = omega (arith, to) in
      let enough : at + 3 + length name ≤ length bytes = omega (arith, at_next, head_within) in
      subst (λ (p : Path). ReadsOn bytes (left s) at (ends_left s.version s.stream s.wave s.cover.ranks s.tree s.row.left p depth) next) (sym row.path_is)
      (subst (ReadsOn bytes (left s) at (ends_left s.version s.stream s.wave s.cover.ranks s.tree s.row.left (path_at s.row.path depth name) depth)) at_next
      (reads_head s bytes at depth (length name) rest (take 1 rest) first (take 2 first) (drop 2 first) name field ready.1 row.may head.some head.most (good name head.plain) row.after enough refl refl refl refl refl head.name_is head.depth_is head.len_is))

  -- the row is named
  pub head_named : IsNamed (record s { row = record s.row { path = path; depth = depth } })
  head_named = row_is_named s (record s { row = record s.row { path = path; depth = depth } }) name ready.0 ready.1 row.may row.path_is refl refl refl refl refl refl

  -- the scan behind the row, where it has no ends
  abbrev pub passed_row : Scan X
  passed_row = record s { row = record s.row { path = path; ended = false; left = s.row.left - 1 } }

  module _ (some : 1 < s.row.left) where
    -- the row is read with its ends
    pub row_passed : next + 4 ≤ length bytes → take 4 (drop next bytes) ≡ 0 ∷ 0 ∷ 0 ∷ 0 ∷ [] → ReadsOn bytes (left s) at (left passed_row) (next + 4)
    row_passed enough zeros more =
        let two : next + 2 + 2 ≡ next + 4 = omega arith in
        let limit = head.limit in
        head_passed more
        ∙ ends_read s.version s.stream s.wave s.cover.ranks s.tree s.row.left path depth bytes next (needs_none depth s.row.left some (λ e. omega (arith, e, limit))) (omega (arith, enough)) (zeros_first (drop next bytes) zeros) (zeros_second (drop next bytes) zeros ∙ ap (λ (ys : List ℕ). from_be_bytes w16 (take 2 ys)) (drop-drop 2 next bytes)) more
        ∙ ap (read (rows_left s.version s.stream s.wave s.cover.ranks s.tree path false (s.row.left - 1)) (bytes ++ more)) two
        ∙ ap (λ (f : Field). read (left_at f passed_row) (bytes ++ more) (next + 4)) (sym field)

    -- and another follows
    pub row_ready : IsBeforeRow passed_row × (0 < s.row.left - 1)
    row_ready = (record { kind = ready.0.kind; covered = ready.0.covered; grown = passed (record s { row = record s.row { path = path; depth = depth } }) head_named }, omega (arith, some))
