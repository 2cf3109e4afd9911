-- Paths in the order of their texts, with the `;` before each byte of a frame.
use Rattle.std.proofs.Common.{◌≡◌, ◌≢◌, ℕ, zero, suc, ◌+◌, ◌<◌, ◌≤◌, Bool, true, false, cond, List, [], ◌∷◌, ◌++◌, length, map, take, drop, get_or, refl, sym, ap, ◌∙◌, arith}
use Rattle.std.specs.Prelude.{All, IsTrue, nat_eq, nat_le}
use Rattle.std.specs.List.{list_all}
use Rattle.std.specs.Ordering.{nat_cmp, is_eq, ordering_then}
use Rattle.std.specs.declared.cmp.Ordering.{Ordering}
use Rattle.std.specs.declared.cmp.Ordering.TheVariants.{Less, Equal, Greater}
use Rattle.std.specs.Cmp.{unsigned_tied}
use Rattle.std.specs.Cmp.Lexicographic.{slice_cmp}
use Rattle.std.proofs.lemmas.Bool.{lt-ltb, le-ltb, leb-true, ne_eqb, eq-eqb, eqb-true, and_parts, and_from}
use Rattle.std.proofs.lemmas.List.{map-append, length-map, length-append}
use Rattle.std.proofs.lemmas.List.Elements.{All-head, All-tail}
use Rattle.std.proofs.lemmas.List.Folds.{list_all-append}
use Rattle.call_path.specs.Path.{Path, path_cmp, path_text}
use Rattle.call_path.specs.Good.{is_plain, is_good_frame, AreGoodFrames}
use Rattle.call_path.specs.TextOrder.{byte_rank, text_cmp, rank_at}
use Rattle.call_path.proofs.Texts.{tail_text, text_first}
use Rattle.call_path.proofs.ReadBack.{good_parts, plain_mark}

-- an order that isn't a tie decides, and a tie leaves it to the rest
decided : (o rest : Ordering) → is_eq o ≡ false → ordering_then o rest ≡ o
decided Less rest e = refl
decided Equal rest e = absurd (cc)
decided Greater rest e = refl

left_open : (o rest : Ordering) → is_eq o ≡ true → ordering_then o rest ≡ rest
left_open Less rest e = absurd (cc)
left_open Equal rest e = refl
left_open Greater rest e = absurd (cc)

then_then : (a b c : Ordering) → ordering_then (ordering_then a b) c ≡ ordering_then a (ordering_then b c)
then_then Less b c = refl
then_then Equal b c = refl
then_then Greater b c = refl

less : (x y : ℕ) → x < y → nat_cmp x y ≡ Less
less x y lt = ap (λ t. cond t Less (cond (nat_eq x y) Equal Greater)) (lt-ltb x y lt)

greater : (x y : ℕ) → y < x → nat_cmp x y ≡ Greater
greater x y gt =
    ap (λ t. cond t Less (cond (nat_eq x y) Equal Greater)) (le-ltb x y (omega arith))
    ∙ ap (λ t. cond t Equal Greater) (ne_eqb x y (λ e. omega arith))

tied : (x y : ℕ) → x ≡ y → is_eq (nat_cmp x y) ≡ true
tied x y e = unsigned_tied x y ∙ eq-eqb x y e

untied : (x y : ℕ) → x ≢ y → is_eq (nat_cmp x y) ≡ false
untied x y ne = unsigned_tied x y ∙ ne_eqb x y ne

-- the bytes of a path's text are no control bytes below the space
abbrev is_high : ℕ → Bool
is_high b = nat_le 32 b

-- their ranks are above that of a text's end, and tell them apart
rank_high : (b : ℕ) → is_high b ≡ true → 0 < byte_rank b
rank_high b h = by_test (nat_eq b 59)
  where
    by_test : (t : Bool) → 0 < cond t 1 b
    by_test true = omega arith
    by_test false = let le = leb-true 32 b h in omega arith

rank_apart : (a b : ℕ) → is_high a ≡ true → is_high b ≡ true → a ≢ b → byte_rank a ≢ byte_rank b
rank_apart a b h k ne = by_test (nat_eq a 59) refl (nat_eq b 59) refl
  where
    by_test : (s : Bool) → nat_eq a 59 ≡ s → (t : Bool) → nat_eq b 59 ≡ t → cond s 1 a ≢ cond t 1 b
    by_test true e true f = λ same. ne (eqb-true a 59 e ∙ sym (eqb-true b 59 f))
    by_test true e false f = let le = leb-true 32 b k in λ same. omega arith
    by_test false e true f = let le = leb-true 32 a h in λ same. omega arith
    by_test false e false f = ne

high_frame : (f : List ℕ) → list_all is_plain f ≡ true → list_all is_high f ≡ true
high_frame [] h = refl
high_frame (b ∷ f) h =
    let parts = and_parts (is_plain b) (list_all is_plain f) h in
    and_from (is_high b) (list_all is_high f) (and_parts (nat_le 32 b) _ parts.0).0 (high_frame f parts.1)

high_text : (p : Path) → All (λ f. IsTrue (is_good_frame f)) p → list_all is_high (path_text p) ≡ true
high_text [] h = refl
high_text (f ∷ []) h = high_frame f (good_parts f (All-head (λ f. IsTrue (is_good_frame f)) f [] h)).plain
high_text (f ∷ g ∷ p) h =
    list_all-append is_high f (59 ∷ path_text (g ∷ p))
    ∙ and_from (list_all is_high f) (list_all is_high (path_text (g ∷ p))) (high_frame f (good_parts f (All-head (λ f. IsTrue (is_good_frame f)) f (g ∷ p) h)).plain) (high_text (g ∷ p) (All-tail (λ f. IsTrue (is_good_frame f)) f (g ∷ p) h))

-- the ranks of a frame's bytes are the bytes
frame_ranks : (f : List ℕ) → list_all is_plain f ≡ true → map byte_rank f ≡ f
frame_ranks [] h = refl
frame_ranks (b ∷ f) h =
    let parts = and_parts (is_plain b) (list_all is_plain f) h in
    (λ k. cond (plain_mark b parts.0 k) 1 b ∷ frame_ranks f parts.1 k)

-- what follows a frame in a text: nothing, or the rank of a `;`
abbrev IsTail : List ℕ → Type 0
IsTail [] = Unit {0}
IsTail (b ∷ t) = b ≡ 1

-- two frames and what follows them: the frames decide where they differ, and else the rest does
frames_first : (f g s t : List ℕ) → list_all is_plain f ≡ true → list_all is_plain g ≡ true → IsTail s → IsTail t
    → slice_cmp nat_cmp (f ++ s) (g ++ t) ≡ ordering_then (slice_cmp nat_cmp f g) (slice_cmp nat_cmp s t)
frames_first [] [] s t h k u v = refl
frames_first [] (b ∷ g) [] t h k u v = refl
frames_first [] (b ∷ g) (x ∷ s) t h k u v =
    let le = leb-true 32 b (and_parts (nat_le 32 b) _ (and_parts (is_plain b) (list_all is_plain g) k).0).0 in
    ap (λ o. ordering_then o (slice_cmp nat_cmp s (g ++ t))) (less x b (omega (arith, le, u)))
frames_first (a ∷ f) [] s [] h k u v = refl
frames_first (a ∷ f) [] s (x ∷ t) h k u v =
    let le = leb-true 32 a (and_parts (nat_le 32 a) _ (and_parts (is_plain a) (list_all is_plain f) h).0).0 in
    ap (λ o. ordering_then o (slice_cmp nat_cmp (f ++ s) t)) (greater a x (omega (arith, le, v)))
frames_first (a ∷ f) (b ∷ g) s t h k u v =
    ap (ordering_then (nat_cmp a b)) (frames_first f g s t (and_parts (is_plain a) (list_all is_plain f) h).1 (and_parts (is_plain b) (list_all is_plain g) k).1 u v)
    ∙ sym (then_then (nat_cmp a b) (slice_cmp nat_cmp f g) (slice_cmp nat_cmp s t))

abbrev tail_ranks : Path → List ℕ
tail_ranks p = map byte_rank (tail_text p)

is_tail : (p : Path) → IsTail (tail_ranks p)
is_tail [] = tt
is_tail (f ∷ p) = refl

text_ranks : (f : List ℕ) (p : Path) → list_all is_plain f ≡ true → map byte_rank (path_text (f ∷ p)) ≡ f ++ tail_ranks p
text_ranks f p h = ap (map byte_rank) (text_first f p) ∙ map-append byte_rank f (tail_text p) ∙ ap (λ t. t ++ tail_ranks p) (frame_ranks f h)

-- what follows in the texts is in the order of the paths that follow
tails_order : (p q : Path) → All (λ f. IsTrue (is_good_frame f)) p → All (λ f. IsTrue (is_good_frame f)) q → slice_cmp nat_cmp (tail_ranks p) (tail_ranks q) ≡ path_cmp p q
tails_order [] [] h k = refl
tails_order [] (g ∷ q) h k = refl
tails_order (f ∷ p) [] h k = refl
tails_order (f ∷ p) (g ∷ q) h k =
    let left = (good_parts f (All-head (λ f. IsTrue (is_good_frame f)) f p h)).plain in
    let right = (good_parts g (All-head (λ f. IsTrue (is_good_frame f)) g q k)).plain in
    (λ j. slice_cmp nat_cmp (text_ranks f p left j) (text_ranks g q right j))
    ∙ frames_first f g (tail_ranks p) (tail_ranks q) left right (is_tail p) (is_tail q)
    ∙ ap (ordering_then (slice_cmp nat_cmp f g)) (tails_order p q (All-tail (λ f. IsTrue (is_good_frame f)) f p h) (All-tail (λ f. IsTrue (is_good_frame f)) g q k))

-- good frames have a text that is not empty
some_text : (f : List ℕ) (p : Path) → All (λ f. IsTrue (is_good_frame f)) (f ∷ p) → 0 < length (map byte_rank (path_text (f ∷ p)))
some_text f p h =
    let some = (good_parts f (All-head (λ f. IsTrue (is_good_frame f)) f p h)).some in
    let text = ap length (text_first f p) in
    let long = length-append f (tail_text p) in
    let same = length-map (path_text (f ∷ p)) byte_rank in
    omega (arith, some, text, long, same)

before_some : (t : List ℕ) → 0 < length t → slice_cmp nat_cmp [] t ≡ Less
before_some [] lt = absurd (omega arith)
before_some (b ∷ t) lt = refl

after_some : (t : List ℕ) → 0 < length t → slice_cmp nat_cmp t [] ≡ Greater
after_some [] lt = absurd (omega arith)
after_some (b ∷ t) lt = refl

-- the order of paths is that of their texts
pub text_order : (p q : Path) → AreGoodFrames p → AreGoodFrames q → path_cmp p q ≡ text_cmp (path_text p) (path_text q)
text_order [] [] h k = refl
text_order [] (g ∷ q) h k = sym (before_some (map byte_rank (path_text (g ∷ q))) (some_text g q k.good))
text_order (f ∷ p) [] h k = sym (after_some (map byte_rank (path_text (f ∷ p))) (some_text f p h.good))
text_order (f ∷ p) (g ∷ q) h k = sym (tails_order (f ∷ p) (g ∷ q) h.good k.good)

-- texts that agree up to an offset, and differ there or end, are ordered by the ranks there
cmp_at : (a b : List ℕ) (i : ℕ) → list_all is_high a ≡ true → list_all is_high b ≡ true → i ≤ length a → i ≤ length b → take i a ≡ take i b
    → (i < length a → i < length b → get_or a i 0 ≢ get_or b i 0) → text_cmp a b ≡ nat_cmp (rank_at a i) (rank_at b i)
cmp_at [] [] zero h k l r same differ = refl
cmp_at [] (y ∷ b) zero h k l r same differ = sym (less 0 (byte_rank y) (rank_high y (and_parts (is_high y) (list_all is_high b) k).0))
cmp_at (x ∷ a) [] zero h k l r same differ = sym (greater (byte_rank x) 0 (rank_high x (and_parts (is_high x) (list_all is_high a) h).0))
cmp_at (x ∷ a) (y ∷ b) zero h k l r same differ =
    decided (nat_cmp (byte_rank x) (byte_rank y)) (text_cmp a b)
    (untied (byte_rank x) (byte_rank y) (rank_apart x y (and_parts (is_high x) (list_all is_high a) h).0 (and_parts (is_high y) (list_all is_high b) k).0 (differ (omega arith) (omega arith))))
cmp_at [] b (suc i) h k l r same differ = absurd (omega arith)
cmp_at (x ∷ a) [] (suc i) h k l r same differ = absurd (omega arith)
cmp_at (x ∷ a) (y ∷ b) (suc i) h k l r same differ =
    let head : x ≡ y = ap (λ (t : List ℕ). get_or t 0 0) same in
    left_open (nat_cmp (byte_rank x) (byte_rank y)) (text_cmp a b) (tied (byte_rank x) (byte_rank y) (ap byte_rank head))
    ∙ cmp_at a b i (and_parts (is_high x) (list_all is_high a) h).1 (and_parts (is_high y) (list_all is_high b) k).1 (omega arith) (omega arith) (ap (drop 1) same) (λ lt gt. differ (omega arith) (omega arith))

-- so are paths
pub path_cmp_at : (p q : Path) → AreGoodFrames p → AreGoodFrames q → (a b : List ℕ) → a ≡ path_text p → b ≡ path_text q → (i : ℕ) → i ≤ length a → i ≤ length b → take i a ≡ take i b
    → (i < length a → i < length b → get_or a i 0 ≢ get_or b i 0) → nat_cmp (rank_at a i) (rank_at b i) ≡ path_cmp p q
path_cmp_at p q h k a b left right i l r same differ =
    sym (text_order p q h k ∙ (λ j. text_cmp (sym left j) (sym right j))
    ∙ cmp_at a b i (ap (list_all is_high) left ∙ high_text p h.good) (ap (list_all is_high) right ∙ high_text q k.good) l r same differ)

-- lists that agree up to an offset, and on the next elements, agree behind these
pub agree_more : (a b : List ℕ) (i n : ℕ) → take i a ≡ take i b → take n (drop i a) ≡ take n (drop i b) → take (i + n) a ≡ take (i + n) b
agree_more a b zero n same next = let e : 0 + n ≡ n = omega arith in ap (λ k. take k a) e ∙ next ∙ ap (λ k. take k b) (sym e)
agree_more [] [] (suc i) n same next = refl
agree_more [] (y ∷ b) (suc i) n same next = absurd (let e = ap length same in omega (arith, e))
agree_more (x ∷ a) [] (suc i) n same next = absurd (let e = ap length same in omega (arith, e))
agree_more (x ∷ a) (y ∷ b) (suc i) n same next =
    let e : suc i + n ≡ suc (i + n) = omega arith in
    let head : x ≡ y = ap (λ (t : List ℕ). get_or t 0 0) same in
    let rest = agree_more a b i n (ap (drop 1) same) next in
    ap (λ k. take k (x ∷ a)) e ∙ (λ j. head j ∷ rest j) ∙ ap (λ k. take k (y ∷ b)) (sym e)
