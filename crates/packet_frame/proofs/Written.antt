-- What is written of a tree, piece by piece.
use Rattle.std.proofs.Common.{◌≡◌, ℕ, zero, suc, ◌+◌, ◌-◌, ◌^◌, ◌<◌, ◌≤◌, Bool, true, false, Some, ◌&&◌, ◌||◌, nat_eq, List, [], ◌∷◌, ◌++◌, length, map, drop, Ok, refl, sym, ap, subst, ◌∙◌, arith, append_assoc}
use Rattle.std.specs.Prelude.{All}
use Rattle.std.specs.List.{flat_map, list_any, slice_get}
use Rattle.std.specs.FinMap as finmap
use Rattle.std.specs.Int.{w16, w32, to_be_bytes}
use Rattle.std.specs.Str.{is_utf8}
use Rattle.std.proofs.lemmas.List.{length-map, length-drop, drop-map, append-nil}
use Rattle.std.proofs.lemmas.List.Folds.{flat_map-map}
use Rattle.std.proofs.lemmas.Grind.{flat_map-append}
use Rattle.std.proofs.lemmas.List.Elements.{All-cons, All-nil, All-head, All-tail, All-append, All-drop}
use Rattle.rank_set.specs.declared.TheConstants.{RANK_LIMIT}
use Rattle.rank_set.specs.declared.Run.{Run}
use Rattle.rank_set.specs.Ranks.{Ranks, none, Has, has, in_order, size, is_subset, subset_from, none_from_size}
use Rattle.rank_set.specs.Runs.{runs_of}
use Rattle.rank_set.specs.Words.{offset_of, ranks_in, AreWords}
use Rattle.rank_set.specs.WordLists.{words_of}
use Rattle.rank_set.proofs.WordLists.{ranks_small}
use Rattle.rank_set.proofs.RunLists.{runs_of_count}
use Rattle.rank_places.specs.Places.{to_places}
use Rattle.call_path.specs.Path.{Path, is_path}
use Rattle.call_path.specs.Pairs.{pairs_at}
use Rattle.call_path.proofs.PathLemmas.{is_path-itself}
use Rattle.call_path.proofs.Orders.{from_frame}
use Rattle.prefix_tree.specs.declared.Chain.{Chain}
use Rattle.prefix_tree.specs.Tree.{Marks, Tree, IsTree, IsLawful, pairs_of, frame_of, rows_of}
use Rattle.prefix_tree.specs.Chains.{shown, rows_shown, chained, chain_rows, IsGoodChain}
use Rattle.prefix_tree.proofs.PairLemmas.{any-flat_map, any-pairs_of_set}
use Rattle.prefix_tree.proofs.TreeLemmas.{IsTreeOf-from_equal, pairs_of_within}
use Rattle.packet_frame.specs.declared.packet.Packet.{Packet}
use Rattle.packet_frame.specs.Fields.{read}
use Rattle.packet_frame.specs.Frame.{row_of, frame_form}
use Rattle.packet_frame.specs.Sent.{sent_from, as_packet}
use Rattle.packet_frame.specs.Spelling.{set_bytes, run_bytes, runs_bytes, coverage_bytes, row_bytes, sent_bytes}
use Rattle.packet_frame.specs.Sending.{MayBePacket, spelling_of}
use Rattle.packet_frame.specs.Writing.{name_bytes, no_ends, below_bytes, seen_bytes, chain_bytes, entry_bytes, rows_bytes, AreText}
use Rattle.packet_frame.proofs.SpelledRows.{is_spelled_out}
use Rattle.packet_frame.proofs.SentTrees.{trees_sent}

-- ---- the coverage

abbrev pub pair_of : Run → ℕ × ℕ
pair_of run = (run.first, run.last)

pub few_runs : (s : Ranks) (runs : List Run) (n : ℕ) → ((r : ℕ) → Has r s → r < RANK_LIMIT) → map pair_of runs ≡ runs_of (in_order s) → n ≡ length runs → n < 2 ^ 32
few_runs s runs n small is len =
    let same : length (map pair_of runs) ≡ length runs = length-map runs pair_of in
    omega (arith, len, same, ap length is, runs_of_count s small)

pub cover_written : (s : Ranks) (runs : List Run) (old new : List ℕ) → map pair_of runs ≡ runs_of (in_order s)
    → new ≡ old ++ (to_be_bytes w32 (length runs) ++ flat_map (λ run. run_bytes (pair_of run)) runs) → new ≡ old ++ coverage_bytes 2 s
cover_written s runs old new is written =
    written
    ∙ ap (λ ys. old ++ (to_be_bytes w32 (length runs) ++ ys)) (sym (flat_map-map run_bytes pair_of runs))
    ∙ ap (λ n. old ++ (to_be_bytes w32 n ++ flat_map run_bytes (map pair_of runs))) (sym (length-map runs pair_of))
    ∙ ap (λ rs. old ++ runs_bytes rs) is

-- ---- rows

abbrev IsText : Path × Marks → Type 0
IsText e = is_utf8 (frame_of e.0) ≡ true

-- rows as a reader sees them, and those behind them
pub rows_from : (cover : Ranks) (es : List (Path × Marks)) (k n : ℕ) (rows : List (ℕ × List ℕ × Marks)) → drop k (map shown es) ≡ rows ++ drop n (map shown es)
    → flat_map (seen_bytes cover) rows ++ flat_map (entry_bytes cover) (drop n es) ≡ flat_map (entry_bytes cover) (drop k es)
rows_from cover es k n rows is =
    ap (λ ys. flat_map (seen_bytes cover) rows ++ ys) (seen n)
    ∙ sym (flat_map-append (seen_bytes cover) rows (drop n (map shown es)))
    ∙ ap (flat_map (seen_bytes cover)) (sym is) ∙ sym (seen k)
  where
    seen : (i : ℕ) → flat_map (entry_bytes cover) (drop i es) ≡ flat_map (seen_bytes cover) (drop i (map shown es))
    seen i = sym (flat_map-map (seen_bytes cover) shown (drop i es)) ∙ ap (flat_map (seen_bytes cover)) (sym (drop-map shown i es))

pub rows_end : (cover : Ranks) (es : List (Path × Marks)) (k : ℕ) → length es ≤ k → flat_map (entry_bytes cover) (drop k es) ≡ []
rows_end cover [] zero le = refl
rows_end cover [] (suc k) le = refl
rows_end cover (e ∷ es) zero le = absurd (omega arith)
rows_end cover (e ∷ es) (suc k) le = rows_end cover es k (omega arith)

-- the last frames of the rows of a chain are text
abbrev IsSeenText : ℕ × List ℕ × Marks → Type 0
IsSeenText x = is_utf8 x.1 ≡ true

chain_text : (d : ℕ) (fs : Path) (m : Marks) → AreText fs → All IsSeenText (chained d fs m)
chain_text d [] m h = All-nil IsSeenText
chain_text d (f ∷ []) m h = All-cons IsSeenText (d, f, m) [] (All-head (λ f. is_utf8 f ≡ true) f [] h) (All-nil IsSeenText)
chain_text d (f ∷ g ∷ fs) m h =
    All-cons IsSeenText (d, f, (m.0, none)) (chained (suc d) (g ∷ fs) m) (All-head (λ f. is_utf8 f ≡ true) f (g ∷ fs) h) (chain_text (suc d) (g ∷ fs) m (All-tail (λ f. is_utf8 f ≡ true) f (g ∷ fs) h))

text_seen : (es : List (Path × Marks)) → All IsText es → All IsSeenText (map shown es)
text_seen [] h = All-nil IsSeenText
text_seen (e ∷ es) h = All-cons IsSeenText (shown e) (map shown es) (All-head IsText e es h) (text_seen es (All-tail IsText e es h))

text_unseen : (es : List (Path × Marks)) → All IsSeenText (map shown es) → All IsText es
text_unseen [] h = All-nil IsText
text_unseen (e ∷ es) h = All-cons IsText e es (All-head IsSeenText (shown e) (map shown es) h) (text_unseen es (All-tail IsSeenText (shown e) (map shown es) h))

pub text_from : (chain : Chain) (es : List (Path × Marks)) (k n : ℕ) → drop k (map shown es) ≡ chain_rows chain ++ drop n (map shown es) → AreText (drop chain.skip chain.frames.now) → All IsText (drop n es) → All IsText (drop k es)
text_from chain es k n is text rest =
    let more = subst (All IsSeenText) (sym (drop-map shown n es)) (text_seen (drop n es) rest) in
    let all = All-append IsSeenText (chain_rows chain) (drop n (map shown es)) (chain_text chain.depth (drop chain.skip chain.frames.now) (chain.label.now, chain.ends.now) text) more in
    text_unseen (drop k es) (subst (All IsSeenText) (sym is ∙ drop-map shown k es) all)

pub text_end : (es : List (Path × Marks)) (k : ℕ) → length es ≤ k → All IsText (drop k es)
text_end [] zero le = All-nil IsText
text_end [] (suc k) le = All-nil IsText
text_end (e ∷ es) zero le = absurd (omega arith)
text_end (e ∷ es) (suc k) le = text_end es k (omega arith)

-- a rank that ends at a row was seen in some path
or_true : (a : Bool) → (a || true) ≡ true
or_true true = refl
or_true false = refl

abbrev EndsAt : ℕ → Path → Path × Marks → Bool
EndsAt r p e = list_any (λ x. nat_eq x.0 r && is_path p x.1) (pairs_at (in_order e.1.1) e.0)

any_behind : (test : Path × Marks → Bool) (front : List (Path × Marks)) (e : Path × Marks) (es : List (Path × Marks)) → test e ≡ true → list_any test (front ++ e ∷ es) ≡ true
any_behind test [] e es here = ap (λ b. b || list_any test es) here
any_behind test (x ∷ front) e es here = ap (λ b. test x || b) (any_behind test front e es here) ∙ or_true (test x)

-- the ends of a row besides the root are covered
abbrev HasCoveredEnds : Ranks → ℕ × List ℕ × Marks → Type 0
HasCoveredEnds cover x = is_subset x.2.1 cover ≡ true

module _ (t : Tree) (is : IsTree t) where
  ends_in : (front : List (Path × Marks)) (e : Path × Marks) (es : List (Path × Marks)) → finmap.entries t.below ≡ front ++ e ∷ es → (r : ℕ) → Has r e.1.1 → Has r t.coverage
  ends_in front e es rows r one =
      let here : EndsAt r e.0 e ≡ true = any-pairs_of_set (is_path e.0) e.1.1 e.0 r ∙ ap (λ b. b && is_path e.0 e.0) one ∙ is_path-itself e.0 in
      pairs_of_within (pairs_of t) t.coverage t (IsTreeOf-from_equal (pairs_of t) t.coverage t is) r e.0
      (any-flat_map _ (λ e. pairs_at (in_order e.1.1) e.0) (finmap.entries t.below) ∙ ap (list_any (EndsAt r e.0)) rows ∙ any_behind (EndsAt r e.0) front e es here)

  all_covered : (front es : List (Path × Marks)) → finmap.entries t.below ≡ front ++ es → All (HasCoveredEnds t.coverage) (map shown es)
  all_covered front [] rows = All-nil (HasCoveredEnds t.coverage)
  all_covered front (e ∷ es) rows =
      All-cons (HasCoveredEnds t.coverage) (shown e) (map shown es) (subset_from e.1.1 t.coverage (ends_in front e es rows))
      (all_covered (front ++ e ∷ []) es (rows ∙ sym (append_assoc front (e ∷ []) es)))

last_covered : (cover : Ranks) (d : ℕ) (fs : Path) (m : Marks) (more : List (ℕ × List ℕ × Marks)) → 0 < length fs → All (HasCoveredEnds cover) (chained d fs m ++ more) → is_subset m.1 cover ≡ true
last_covered cover d [] m more some h = absurd (omega (arith, some))
last_covered cover d (f ∷ []) m more some h = All-head (HasCoveredEnds cover) (d, f, m) more h
last_covered cover d (f ∷ g ∷ fs) m more some h = last_covered cover (suc d) (g ∷ fs) m more (omega arith) (All-tail (HasCoveredEnds cover) (d, f, (m.0, none)) (chained (suc d) (g ∷ fs) m ++ more) h)

pub ends_covered : (t : Tree) → IsTree t → (cover : Ranks) → cover ≡ t.coverage → (chain : Chain) → IsGoodChain chain → (k n : ℕ) → 0 < k → drop k (rows_shown t) ≡ chain_rows chain ++ drop n (rows_shown t) → is_subset chain.ends.now cover ≡ true
ends_covered t is cover same chain good zero n some rows = absurd (omega (arith, some))
ends_covered t is cover same chain good (suc k) n some rows =
    let own = good.not_empty in
    let left = length-drop chain.skip chain.frames.now in
    ap (is_subset chain.ends.now) same
    ∙ last_covered t.coverage chain.depth (drop chain.skip chain.frames.now) (chain.label.now, chain.ends.now) (drop n (rows_shown t)) (omega (arith, own, left))
    (subst (All (HasCoveredEnds t.coverage)) rows (All-drop (HasCoveredEnds t.coverage) k (map shown (finmap.entries t.below)) (all_covered t is [] (finmap.entries t.below) refl)))

-- ---- a chain

no_numbers : (cover : Ranks) → set_bytes (to_places cover none) ≡ no_ends
unfolding to_places words_of
no_numbers cover = refl

chained_bytes : (cover : Ranks) (d : ℕ) (f : List ℕ) (fs : Path) (m : Marks) → flat_map (seen_bytes cover) (chained d (f ∷ fs) m) ≡ name_bytes d f ++ (below_bytes (suc d) fs ++ set_bytes (to_places cover m.1))
chained_bytes cover d f [] m = append-nil (name_bytes d f ++ set_bytes (to_places cover m.1))
chained_bytes cover d f (g ∷ fs) m =
    let ends = set_bytes (to_places cover m.1) in
    let below = below_bytes (suc (suc d)) fs in
    (λ i. (name_bytes d f ++ no_numbers cover i) ++ chained_bytes cover (suc d) g fs m i)
    ∙ append_assoc (name_bytes d f) no_ends (name_bytes (suc d) g ++ (below ++ ends))
    ∙ ap (λ ys. name_bytes d f ++ (no_ends ++ ys)) (sym (append_assoc (name_bytes (suc d) g) below ends))

pub chain_written : (cover : Ranks) (chain : Chain) (f : List ℕ) (old a b c : List ℕ) → slice_get chain.frames.now chain.skip ≡ Some f
    → a ≡ old ++ name_bytes chain.depth f → b ≡ a ++ below_bytes (chain.depth + 1) (drop (chain.skip + 1) chain.frames.now) → c ≡ b ++ set_bytes (to_places cover chain.ends.now) → c ≡ old ++ chain_bytes cover chain
chain_written cover chain f old a b c is first then last =
    let d : chain.depth + 1 ≡ suc chain.depth = omega arith in
    let fs = drop (chain.skip + 1) chain.frames.now in
    let ends = set_bytes (to_places cover chain.ends.now) in
    let m : Marks = (chain.label.now, chain.ends.now) in
    last ∙ ap (λ ys. ys ++ ends) (then ∙ (λ i. first i ++ below_bytes (d i) fs))
    ∙ append_assoc (old ++ name_bytes chain.depth f) (below_bytes (suc chain.depth) fs) ends
    ∙ append_assoc old (name_bytes chain.depth f) (below_bytes (suc chain.depth) fs ++ ends)
    ∙ ap (λ ys. old ++ ys) (sym (chained_bytes cover chain.depth f fs m) ∙ ap (λ p. flat_map (seen_bytes cover) (chained chain.depth p m)) (sym (from_frame chain.frames.now chain.skip f is)))

pub all_text : (p : Path) (i : ℕ) (f : List ℕ) → slice_get p i ≡ Some f → is_utf8 f ≡ true → AreText (drop (i + 1) p) → AreText (drop i p)
all_text p i f is text rest = subst AreText (sym (from_frame p i f is)) (All-cons (λ f. is_utf8 f ≡ true) f (drop (i + 1) p) text rest)

-- a row more below those of a chain that are written
pub below_more : (p : Path) (d skip i : ℕ) (f all out new : List ℕ) → skip ≤ i → slice_get p i ≡ Some f
    → new ≡ out ++ (no_ends ++ name_bytes (d + (i - skip)) f) → out ++ below_bytes (d + (i - skip)) (drop i p) ≡ all → new ++ below_bytes (d + (i + 1 - skip)) (drop (i + 1) p) ≡ all
below_more p d skip i f all out new le is more left =
    let n : d + (i + 1 - skip) ≡ suc (d + (i - skip)) = omega (arith, le) in
    let row = no_ends ++ name_bytes (d + (i - skip)) f in
    (λ j. more j ++ below_bytes (n j) (drop (i + 1) p))
    ∙ append_assoc out row (below_bytes (suc (d + (i - skip))) (drop (i + 1) p))
    ∙ ap (λ q. out ++ below_bytes (d + (i - skip)) q) (sym (from_frame p i f is))
    ∙ left

-- ---- a tree

pub few_entries : (t : Tree) (n : ℕ) → n ≡ length (rows_of t) → IsLawful t → n - 1 < 2 ^ 16
few_entries t n e lawful = omega (arith, e, lawful.within_limit, finmap.len-entries t.below)

mapped : (cover : Ranks) (es : List (Path × Marks)) → flat_map (entry_bytes cover) es ≡ flat_map (row_bytes 2 cover) (map (λ e. row_of e.0 e.1.1) es)
mapped cover es = sym (flat_map-map (row_bytes 2 cover) (λ e. row_of e.0 e.1.1) es)

pub tree_written : (t : Tree) (label : Ranks) (old a b c : List ℕ) (n : ℕ) → label ≡ t.coverage → n ≡ length (rows_of t) → a ≡ old ++ coverage_bytes 2 label → b ≡ a ++ to_be_bytes w16 (n - 1) → c ≡ b ++ rows_bytes t → c ≡ old ++ sent_bytes 2 (sent_from t)
tree_written t label old a b c n l e p q r =
    let cover = coverage_bytes 2 t.coverage in
    let rows = map (λ (e : Path × Marks). row_of e.0 e.1.1) (finmap.entries t.below) in
    let count : n - 1 ≡ length rows = omega (arith, e, length-map (finmap.entries t.below) (λ (e : Path × Marks). row_of e.0 e.1.1)) in
    let head : a ≡ old ++ cover = p ∙ ap (λ s. old ++ coverage_bytes 2 s) l in
    r ∙ ap (λ ys. b ++ ys) (mapped t.coverage (finmap.entries t.below))
    ∙ ap (λ ys. ys ++ flat_map (row_bytes 2 t.coverage) rows) (q ∙ ap (λ k. a ++ to_be_bytes w16 k) count ∙ ap (λ ys. ys ++ to_be_bytes w16 (length rows)) head)
    ∙ append_assoc (old ++ cover) (to_be_bytes w16 (length rows)) (flat_map (row_bytes 2 t.coverage) rows)
    ∙ append_assoc old cover (to_be_bytes w16 (length rows) ++ flat_map (row_bytes 2 t.coverage) rows)

-- ---- a packet

pub read_back : (p : Packet Tree) (frame more : List ℕ) → MayBePacket 2 p → frame ≡ spelling_of 2 p → as_packet (read frame_form (frame ++ more) 0) ≡ Ok (p, length frame)
read_back p frame more may is =
    let again : as_packet (read frame_form (spelling_of 2 p ++ more) 0) ≡ Ok (p, 0 + length (spelling_of 2 p)) = (trees_sent 2 (is_spelled_out 2 refl)).again p may [] more in
    let zero_more : 0 + length (spelling_of 2 p) ≡ length frame = omega (arith, ap length is) in
    ap (λ bytes. as_packet (read frame_form (bytes ++ more) 0)) is ∙ again ∙ ap (λ n. Ok (p, n)) zero_more

-- the ranks of words within the limit are below the limit of ranks
pub small_ranks : (set : Ranks) (ws : List ℕ) → AreWords (offset_of set) ws → ranks_in (offset_of set) ws ≡ set → (r : ℕ) → Has r set → r < RANK_LIMIT
small_ranks set ws trimmed is r one = ranks_small (offset_of set) ws trimmed r (subst (λ s. has s r ≡ true) (sym is) one)

-- the ends of a row that has none
pub no_ends_bytes : (cover ends : Ranks) → size ends ≡ 0 → set_bytes (to_places cover ends) ≡ 0 ∷ 0 ∷ 0 ∷ 0 ∷ []
no_ends_bytes cover ends e = ap (λ s. set_bytes (to_places cover s)) (none_from_size ends e) ∙ no_numbers cover
