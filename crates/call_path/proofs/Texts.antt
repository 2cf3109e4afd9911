-- A path's text, and the places where its frames end.
use Rattle.std.proofs.Common.{◌≡◌, ℕ, zero, suc, ◌+◌, ◌-◌, ◌*◌, ◌<◌, ◌≤◌, List, [], ◌∷◌, ◌++◌, length, map, take, drop, get_or, refl, sym, ap, ◌∙◌, arith}
use Rattle.std.proofs.lemmas.List.{append-nil, append_assoc, take-append-drop, length-append, length-drop, take_at, drop_at, take_more}
use Rattle.std.proofs.lemmas.List.Elements.{All-head, All-tail}
use Rattle.std.proofs.lemmas.Bool.{and_parts, leb-true}
use Rattle.std.specs.Prelude.{All, IsTrue, ◌&&◌, nat_lt, nat_le, slice_range}
use Rattle.std.specs.List.{list_all}
use Rattle.call_path.specs.Path.{Path, path_text}
use Rattle.call_path.specs.Good.{is_plain, is_good_frame}
use Rattle.call_path.specs.Cuts.{ends_from, cut_from, start_in, end_in}

-- what follows some frames in a text, if these are the frames that follow
abbrev pub tail_text : Path → List ℕ
tail_text [] = []
tail_text (f ∷ p) = 59 ∷ path_text (f ∷ p)

-- a text is its first frame and what follows
pub text_first : (f : List ℕ) (p : Path) → path_text (f ∷ p) ≡ f ++ tail_text p
text_first f [] = sym (append-nil f)
text_first f (g ∷ p) = refl

-- a text is that of its first frames and what follows them
pub text_parts : (f : List ℕ) (p q : Path) → path_text ((f ∷ p) ++ q) ≡ path_text (f ∷ p) ++ tail_text q
text_parts f [] q = text_first f q
text_parts f (g ∷ p) q = ap (λ t. f ++ (59 ∷ t)) (text_parts g p q) ∙ sym (append_assoc f (59 ∷ path_text (g ∷ p)) (tail_text q))

-- the same, cut after frame k
pub text_at : (p : Path) (k : ℕ) → k < length p → path_text p ≡ path_text (take (suc k) p) ++ tail_text (drop (suc k) p)
text_at [] k lt = absurd (omega arith)
text_at (f ∷ p) k lt = ap (λ q. path_text (f ∷ q)) (sym (take-append-drop k p)) ∙ text_parts f (take k p) (drop k p)

take_suc : (p : Path) (k : ℕ) → k < length p → take (suc k) p ≡ take k p ++ get_or p k [] ∷ []
take_suc p k lt = let e : suc k ≡ k + 1 = omega arith in ap (λ n. take n p) e ∙ take_more p k [] lt

-- one more frame of the text
pub text_next : (p : Path) (k : ℕ) → suc k < length p → path_text (take (suc (suc k)) p) ≡ path_text (take (suc k) p) ++ 59 ∷ get_or p (suc k) []
text_next [] k lt = absurd (omega arith)
text_next (f ∷ p) k lt = ap (λ q. path_text (f ∷ q)) (take_suc p k (omega arith)) ∙ text_parts f (take k p) (get_or p k [] ∷ [])

-- frame k ends where the text of the frames up to it ends
pub ends_at : (n : ℕ) (p : Path) (k : ℕ) → k < length p → get_or (ends_from n p) k 0 ≡ n + length (path_text (take (suc k) p))
ends_at n [] k lt = absurd (omega arith)
ends_at n (f ∷ p) zero lt = refl
ends_at n (f ∷ []) (suc k) lt = absurd (omega arith)
ends_at n (f ∷ g ∷ p) (suc k) lt =
    ends_at (suc (n + length f)) (g ∷ p) k (omega arith)
    ∙ (let e = length-append f (59 ∷ path_text (g ∷ take k p)) in omega (arith, e))

-- as many ends as frames
pub length-ends : (n : ℕ) (p : Path) → length (ends_from n p) ≡ length p
length-ends n [] = refl
length-ends n (f ∷ p) = ap suc (length-ends (suc (n + length f)) p)

-- as many frames as ends
pub length-cut : (n : ℕ) (ends text : List ℕ) → length (cut_from n ends text) ≡ length ends
length-cut n [] text = refl
length-cut n (e ∷ ends) text = ap suc (length-cut (suc e) ends text)

-- the ends of the first frames
pub ends-take : (n d : ℕ) (p : Path) → ends_from n (take d p) ≡ take d (ends_from n p)
ends-take n zero p = refl
ends-take n (suc d) [] = refl
ends-take n (suc d) (f ∷ p) = ap (λ es. (n + length f) ∷ es) (ends-take (suc (n + length f)) d p)

-- where the frames from one on begin, if the first of all begins at a offset
abbrev begin : ℕ → List ℕ → ℕ → ℕ
begin n ends zero = n
begin n ends (suc k) = suc (get_or ends k 0)

-- their ends are those of a path that begins there
ends-drop : (n d : ℕ) (p : Path) → d < length p → drop d (ends_from n p) ≡ ends_from (begin n (ends_from n p) d) (drop d p)
ends-drop n zero p lt = refl
ends-drop n (suc d) [] lt = absurd (omega arith)
ends-drop n (suc zero) (f ∷ p) lt = refl
ends-drop n (suc (suc d)) (f ∷ p) lt = ends-drop (suc (n + length f)) (suc d) p (omega arith)

-- the ends of a path that begins elsewhere, counted from there
ends-shift : (s n : ℕ) (p : Path) → map (λ end. end - s) (ends_from (s + n) p) ≡ ends_from n p
ends-shift s n [] = refl
ends-shift s n (f ∷ p) =
    let here : s + n + length f - s ≡ n + length f = omega arith in
    let next : suc (s + n + length f) ≡ s + suc (n + length f) = omega arith in
    (λ k. here k ∷ map (λ end. end - s) (ends_from (next k) p)) ∙ ap (λ es. (n + length f) ∷ es) (ends-shift s (suc (n + length f)) p)

-- the ends of the frames from one on, counted from where it begins
pub ends_behind : (p : Path) (d : ℕ) → d < length p → map (λ end. end - start_in (ends_from 0 p) d) (drop d (ends_from 0 p)) ≡ ends_from 0 (drop d p)
ends_behind p d lt =
    let s = start_in (ends_from 0 p) d in
    let e : begin 0 (ends_from 0 p) d ≡ s + 0 = begin_start (ends_from 0 p) d in
    ap (map (λ end. end - s)) (ends-drop 0 d p lt ∙ ap (λ n. ends_from n (drop d p)) e) ∙ ends-shift s 0 (drop d p)
  where
    begin_start : (ends : List ℕ) (d : ℕ) → begin 0 ends d ≡ start_in ends d + 0
    begin_start ends zero = refl
    begin_start ends (suc k) = omega arith

-- the text of the first frames
pub text-take : (d : ℕ) (p : Path) → d ≤ length p → path_text (take d p) ≡ take (end_in (ends_from 0 p) d) (path_text p)
text-take zero p le = refl
text-take (suc k) p le =
    sym (ap (take (end_in (ends_from 0 p) (suc k))) (text_at p k (omega arith))
    ∙ take_at (path_text (take (suc k) p)) (tail_text (drop (suc k) p)) (end_in (ends_from 0 p) (suc k)) (let e = ends_at 0 p k (omega arith) in omega (arith, e)))

-- what follows some frames in a text is a `;` and the text of the other frames
tail_some : (p : Path) → 0 < length p → tail_text p ≡ 59 ∷ path_text p
tail_some [] lt = absurd (omega arith)
tail_some (f ∷ p) lt = refl

-- the text of the frames from one on
pub text-drop : (d : ℕ) (p : Path) → d < length p → path_text (drop d p) ≡ drop (start_in (ends_from 0 p) d) (path_text p)
text-drop zero p lt = refl
text-drop (suc k) p lt =
    let prefix = path_text (take (suc k) p) in
    let rest = path_text (drop (suc k) p) in
    let some : 0 < length (drop (suc k) p) = omega (arith, length-drop (suc k) p, lt) in
    let cut : path_text p ≡ (prefix ++ 59 ∷ []) ++ rest =
    text_at p k (omega arith) ∙ ap (λ t. prefix ++ t) (tail_some (drop (suc k) p) some) ∙ sym (append_assoc prefix (59 ∷ []) rest) in
    let at : length (prefix ++ 59 ∷ []) ≡ start_in (ends_from 0 p) (suc k) = omega (arith, length-append prefix (59 ∷ []), ends_at 0 p k (omega arith)) in
    sym (ap (drop (start_in (ends_from 0 p) (suc k))) cut ∙ drop_at (prefix ++ 59 ∷ []) rest (start_in (ends_from 0 p) (suc k)) at)

-- the text of one more frame
pub text_push : (g : List ℕ) (p : Path) (f : List ℕ) → path_text ((g ∷ p) ++ f ∷ []) ≡ path_text (g ∷ p) ++ 59 ∷ f
text_push g p f = text_parts g p (f ∷ [])

-- and its end
pub ends_push : (n : ℕ) (p : Path) (f : List ℕ) → ends_from n (p ++ f ∷ []) ≡ ends_from n p ++ (n + length (path_text (p ++ f ∷ []))) ∷ []
ends_push n [] f = refl
ends_push n (g ∷ p) f =
    ap (λ es. (n + length g) ∷ es) (ends_push (suc (n + length g)) p f)
    ∙ (let e : suc (n + length g) + length (path_text (p ++ f ∷ [])) ≡ n + length (path_text (g ∷ (p ++ f ∷ []))) = longer n g p f in ap (λ k. (n + length g) ∷ (ends_from (suc (n + length g)) p ++ k ∷ [])) e)
  where
    longer : (n : ℕ) (g : List ℕ) (p : Path) (f : List ℕ) → suc (n + length g) + length (path_text (p ++ f ∷ [])) ≡ n + length (path_text (g ∷ (p ++ f ∷ [])))
    longer n g [] f = let e = length-append g (59 ∷ f) in omega (arith, e)
    longer n g (h ∷ p) f = let e = length-append g (59 ∷ path_text (h ∷ (p ++ f ∷ []))) in omega (arith, e)

module _ (f : List ℕ) (rest prefix text : List ℕ) (n : ℕ) (at : length prefix ≡ n) (is : text ≡ prefix ++ (f ++ rest)) where
  -- a frame stands between its places
  pub frame_at : slice_range text n (n + length f) ≡ f
  frame_at =
      ap (λ t. take (n + length f - n) (drop n t)) is
      ∙ ap (take (n + length f - n)) (drop_at prefix (f ++ rest) n at)
      ∙ take_at f rest (n + length f - n) (omega arith)

-- the frames that are cut out of their text are the frames
pub cut_from_ends : (p : Path) (n : ℕ) (prefix text : List ℕ) → length prefix ≡ n → text ≡ prefix ++ path_text p → cut_from n (ends_from n p) text ≡ p
cut_from_ends [] n prefix text at is = refl
cut_from_ends (f ∷ []) n prefix text at is = ap (λ g. g ∷ []) (frame_at f [] prefix text n at (is ∙ ap (λ t. prefix ++ t) (text_first f [])))
cut_from_ends (f ∷ g ∷ p) n prefix text at is =
    let first = frame_at f (59 ∷ path_text (g ∷ p)) prefix text n at is in
    let long : length (prefix ++ (f ++ 59 ∷ [])) ≡ suc (n + length f) = omega (arith, length-append prefix (f ++ 59 ∷ []), length-append f (59 ∷ [])) in
    let there : text ≡ (prefix ++ (f ++ 59 ∷ [])) ++ path_text (g ∷ p) = is ∙ ap (λ t. prefix ++ t) (sym (append_assoc f (59 ∷ []) (path_text (g ∷ p)))) ∙ sym (append_assoc prefix (f ++ 59 ∷ []) (path_text (g ∷ p))) in
    let rest = cut_from_ends (g ∷ p) (suc (n + length f)) (prefix ++ (f ++ 59 ∷ [])) text long there in
    (λ i. first i ∷ rest i)

-- a good frame is short
pub good_short : (f : List ℕ) → IsTrue (is_good_frame f) → length f ≤ 1023
good_short f h =
    leb-true (length f) 1023 (and_parts (nat_le (length f) 1023) (list_all is_plain f) (and_parts (nat_lt 0 (length f)) (nat_le (length f) 1023 && list_all is_plain f) h).1).0

-- the text of good frames is not long
pub text_short : (p : Path) → All (λ f. IsTrue (is_good_frame f)) p → length (path_text p) ≤ 1024 * length p
text_short [] h = omega arith
text_short (f ∷ []) h = let s = good_short f (All-head (λ f. IsTrue (is_good_frame f)) f [] h) in omega (arith, s)
text_short (f ∷ g ∷ p) h =
    let s = good_short f (All-head (λ f. IsTrue (is_good_frame f)) f (g ∷ p) h) in
    let t = text_short (g ∷ p) (All-tail (λ f. IsTrue (is_good_frame f)) f (g ∷ p) h) in
    let e = length-append f (59 ∷ path_text (g ∷ p)) in
    omega (arith, s, t, e)
