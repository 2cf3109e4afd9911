-- A path that is held as its text and its ends: what is read off it, and what makes one.
use Rattle.std.proofs.Common.{◌≡◌, ℕ, zero, suc, ◌+◌, ◌-◌, ◌<◌, ◌≤◌, ◌^◌, Bool, true, false, List, [], ◌∷◌, ◌++◌, length, map, take, drop, get_or, refl, sym, ap, subst, ◌∙◌, arith}
use Rattle.std.proofs.lemmas.List.{append_assoc, length-append, length-take, length-drop, get_or-take, get_or_at}
use Rattle.std.proofs.lemmas.List.Elements.{All-take, All-drop, All-push}
use Rattle.std.proofs.lemmas.Bool.{ne_eqb}
use Rattle.std.proofs.lemmas.Str.{IsCharBoundary-after_ascii, IsCharBoundary-before_ascii, IsCharBoundary-end, IsCharBoundary-start}
use Rattle.std.specs.Str.{IsUtf8, IsCharBoundary}
use Rattle.std.specs.Prelude.{IsTrue, ◌==◌, slice_range}
use Rattle.call_path.specs.Path.{Path, path_text}
use Rattle.call_path.specs.Good.{is_good_frame, AreGoodFrames}
use Rattle.call_path.specs.Cuts.{ends_from, cut_from, start_in, end_in, AreCuts}
use Rattle.call_path.proofs.Texts.{tail_text, text_at, text_first, text_next, ends_at, length-ends, ends-take, text-take, text-drop, text_push, ends_push, ends_behind, frame_at, cut_from_ends, text_short}

-- a text and ends that are a path's show that path
pub cut_is : (p : Path) (text ends : List ℕ) → text ≡ path_text p → ends ≡ ends_from 0 p → cut_from 0 ends text ≡ p
cut_is p text ends is places = ap (λ es. cut_from 0 es text) places ∙ cut_from_ends p 0 [] text refl is

-- and are held well
pub cuts_of : (p : Path) (text ends : List ℕ) → text ≡ path_text p → ends ≡ ends_from 0 p → AreGoodFrames p → AreCuts (cut_from 0 ends text) text ends
cuts_of p text ends is places good = subst (λ q. AreCuts q text ends) (sym (cut_is p text ends is places)) (record { joined = is; places = places; good = good })

module _ (p : Path) (text ends : List ℕ) (h : AreCuts p text ends) (k : ℕ) (lt : k < length p) where
  here : path_text (take (suc k) p) ++ tail_text (drop (suc k) p) ≡ text
  here = sym (h.joined ∙ text_at p k lt)

  -- frame k ends where the text of the frames up to it ends
  pub end_is : get_or ends k 0 ≡ length (path_text (take (suc k) p))
  end_is = let e = ap (λ es. get_or es k 0) h.places in let f = ends_at 0 p k lt in omega (arith, e, f)

  -- no end is past the text
  pub end_inside : get_or ends k 0 ≤ length text
  end_inside = let e = ap length here in let f = length-append (path_text (take (suc k) p)) (tail_text (drop (suc k) p)) in omega (arith, e, f, end_is)

-- a text may be cut before a `;`, and at its end
before_tail : (prefix : List ℕ) (q : Path) (text : List ℕ) → text ≡ prefix ++ tail_text q → IsCharBoundary text (length prefix)
before_tail prefix [] text is = subst (λ t. IsCharBoundary t (length prefix)) (sym is) (subst (λ t. IsCharBoundary (prefix ++ []) t) (let e = length-append prefix [] in omega (arith, e)) (IsCharBoundary-end (prefix ++ [])))
before_tail prefix (f ∷ q) text is =
    let byte : get_or text (length prefix) 0 ≡ 59 = ap (λ t. get_or t (length prefix) 0) is ∙ get_or_at prefix 59 (path_text (f ∷ q)) 0 (length prefix) refl in
    let long = ap length is in
    let more = length-append prefix (59 ∷ path_text (f ∷ q)) in
    IsCharBoundary-before_ascii text (length prefix) (omega (arith, long, more)) (omega (arith, byte))

-- a text may be cut where a frame ends
pub end_boundary : (p : Path) (text ends : List ℕ) → AreCuts p text ends → (k : ℕ) → k < length p → IsCharBoundary text (get_or ends k 0)
end_boundary p text ends h k lt =
    subst (IsCharBoundary text) (sym (end_is p text ends h k lt)) (before_tail (path_text (take (suc k) p)) (drop (suc k) p) text (sym (here p text ends h k lt)))

-- and where the first frames end
pub depth_boundary : (p : Path) (text ends : List ℕ) → IsUtf8 text → AreCuts p text ends → (d : ℕ) → d ≤ length p → IsCharBoundary text (end_in ends d)
depth_boundary p text ends u h zero le = IsCharBoundary-start text u
depth_boundary p text ends u h (suc k) le = end_boundary p text ends h k (omega arith)

-- where frame i stands in the text
pub record StandsAt (text f : List ℕ) (start end : ℕ) : Type 0 where
  pub order : start ≤ end
  pub inside : end ≤ length text
  pub is : slice_range text start end ≡ f
  pub from : IsUtf8 text → 0 < start → IsCharBoundary text start
  pub to : IsCharBoundary text end

-- each frame stands from its start up to its end
pub stands : (p : Path) (text ends : List ℕ) → AreCuts p text ends → (i : ℕ) → i < length p → StandsAt text (get_or p i []) (start_in ends i) (get_or ends i 0)
stands [] text ends h i lt = absurd (omega arith)
stands (f ∷ p) text ends h zero lt =
    let e = end_is (f ∷ p) text ends h 0 lt in
    let offset : get_or ends 0 0 ≡ 0 + length f = omega (arith, e) in
    record {
      order = omega arith;
      inside = end_inside (f ∷ p) text ends h 0 lt;
      is = ap (slice_range text 0) offset ∙ frame_at f (tail_text p) [] text 0 refl (h.joined ∙ text_first f p);
      from = λ u lt. absurd (omega arith);
      to = end_boundary (f ∷ p) text ends h 0 lt;
    }
stands (f ∷ p) text ends h (suc j) lt =
    let q : Path = f ∷ p in
    let g = get_or q (suc j) [] in
    let prefix = path_text (take (suc j) q) in
    let rest = tail_text (drop (suc (suc j)) q) in
    let start : get_or ends j 0 ≡ length prefix = end_is q text ends h j (omega arith) in
    let end = end_is q text ends h (suc j) lt in
    let next = text_next q j lt in
    let long = ap length next ∙ length-append prefix (59 ∷ g) in
    let whole : text ≡ (prefix ++ 59 ∷ []) ++ (g ++ rest) =
    sym (here q text ends h (suc j) lt) ∙ ap (λ t. t ++ rest) next ∙ append_assoc prefix (59 ∷ g) rest ∙ sym (append_assoc prefix (59 ∷ []) (g ++ rest)) in
    let at : length (prefix ++ 59 ∷ []) ≡ suc (get_or ends j 0) = omega (arith, length-append prefix (59 ∷ []), start) in
    let offset : get_or ends (suc j) 0 ≡ suc (get_or ends j 0) + length g = omega (arith, start, end, long) in
    let inside = end_inside q text ends h (suc j) lt in
    record {
      order = omega (arith, offset);
      inside = inside;
      is = ap (slice_range text (suc (get_or ends j 0))) offset ∙ frame_at g rest (prefix ++ 59 ∷ []) text (suc (get_or ends j 0)) at whole;
      from = λ u _.
          let byte : get_or text (get_or ends j 0) 0 ≡ 59 = ap (λ t. get_or t (get_or ends j 0) 0) (whole ∙ append_assoc prefix (59 ∷ []) (g ++ rest)) ∙ get_or_at prefix 59 (g ++ rest) 0 (get_or ends j 0) (sym start) in
          let past : get_or ends j 0 + 1 ≡ suc (get_or ends j 0) = omega arith in
          subst (IsCharBoundary text) past (IsCharBoundary-after_ascii text (get_or ends j 0) u (omega (arith, offset, inside)) (omega (arith, byte)));
      to = end_boundary q text ends h (suc j) lt;
    }

-- what is held shows a path, and its text and ends are that path's
pub cuts_shown : (self : Path) (text ends : List ℕ) → cut_from 0 ends text ≡ self → AreCuts (cut_from 0 ends text) text ends → AreCuts self text ends
cuts_shown self text ends view h = subst (λ p. AreCuts p text ends) view h

module _ (self : Path) (text ends : List ℕ) (view : cut_from 0 ends text ≡ self) (h : AreCuts (cut_from 0 ends text) text ends) where
  -- where a frame stands, by the numbers that a reader finds
  pub stands_read : (i : ℕ) → i < length self → (shown bytes : List ℕ) (start end : ℕ) → shown ≡ ends → start ≡ start_in shown i → end ≡ get_or shown i 0 → bytes ≡ text → StandsAt bytes (get_or self i []) start end
  stands_read i lt shown bytes start end is from to same =
      let held = cuts_shown self text ends view h in
      let s : start ≡ start_in ends i = from ∙ ap (λ es. start_in es i) is in
      let e : end ≡ get_or ends i 0 = to ∙ ap (λ es. get_or es i 0) is in
      subst (λ t. StandsAt t (get_or self i []) start end) (sym same)
      (subst (λ a. StandsAt text (get_or self i []) a end) (sym s)
      (subst (λ b. StandsAt text (get_or self i []) (start_in ends i) b) (sym e) (stands self text ends held i lt)))

  -- each frame is good
  pub good_at : (i : ℕ) → i < length self → IsTrue (is_good_frame (get_or self i []))
  good_at i lt = (cuts_shown self text ends view h).good.good i [] lt

  module _ (d : ℕ) (le : d ≤ length self) where
    -- the first frames are good
    pub front_good : AreGoodFrames (take d self)
    front_good =
        let held = cuts_shown self text ends view h in
        let e = length-take d self in
        let within_limit = held.good.within_limit in
        record { within_limit = omega (arith, e, within_limit); good = All-take (λ f. IsTrue (is_good_frame f)) d self held.good.good }

    module _ (shown : List ℕ) (end : ℕ) (is : shown ≡ ends) (to : end ≡ end_in shown d) where
      -- the text may be cut where its first frames end
      pub front_boundary : IsUtf8 text → IsCharBoundary text end
      front_boundary u = subst (IsCharBoundary text) (sym (to ∙ ap (λ es. end_in es d) is)) (depth_boundary self text ends u (cuts_shown self text ends view h) d le)

      -- up to there it is their text
      pub front_text : take end text ≡ path_text (take d self)
      front_text =
          let held = cuts_shown self text ends view h in
          (λ i. take (to i) (held.joined i)) ∙ (λ i. take (end_in ((is ∙ held.places) i) d) (path_text self)) ∙ sym (text-take d self le)

    module _ (new_text new_ends : List ℕ) (prefix : new_text ≡ path_text (take d self)) (within_limit : new_ends ≡ take d ends) where
      first_ends : new_ends ≡ ends_from 0 (take d self)
      first_ends = within_limit ∙ ap (take d) (cuts_shown self text ends view h).places ∙ sym (ends-take 0 d self)

      -- the text of the first frames, with the first ends, holds the first frames
      pub first_cuts : AreCuts (cut_from 0 new_ends new_text) new_text new_ends
      first_cuts = cuts_of (take d self) new_text new_ends prefix first_ends front_good

      -- and shows them
      pub first_is : cut_from 0 new_ends new_text ≡ take d self
      first_is = cut_is (take d self) new_text new_ends prefix first_ends

-- where a frame begins is told by the ends of the first frames, if it is one of these
pub start_in-take : (self : Path) (text ends : List ℕ) → cut_from 0 ends text ≡ self → AreCuts (cut_from 0 ends text) text ends → (i d : ℕ) → i < d → (shown : List ℕ) → shown ≡ ends → start_in shown i ≡ start_in (ends_from 0 (take d self)) i
start_in-take self text ends view h zero d lt shown is = refl
start_in-take self text ends view h (suc j) d lt shown is =
    let held = cuts_shown self text ends view h in
    ap suc (ap (λ es. get_or es j 0) (is ∙ held.places) ∙ sym (get_or-take d (ends_from 0 self) j 0 (omega arith)) ∙ ap (λ es. get_or es j 0) (sym (ends-take 0 d self)))

-- a part of a path, which is its frames from one on, in the text of the first frames
module _ (p : Path) (from : ℕ) (lt : from < length p) (good : AreGoodFrames p) where
  whole : AreCuts p (path_text p) (ends_from 0 p)
  whole = record { joined = refl; places = refl; good = good }

  -- its frames are good
  pub rest_good : AreGoodFrames (drop from p)
  rest_good =
      let e = length-drop from p in
      let within_limit = good.within_limit in
      record { within_limit = omega (arith, e, within_limit); good = All-drop (λ f. IsTrue (is_good_frame f)) from p good.good }

  module _ (text : List ℕ) (is : text ≡ path_text p) (start : ℕ) (at : start ≡ start_in (ends_from 0 p) from) where
    -- the text may be cut where it begins
    pub rest_boundary : IsUtf8 text → 0 < start → IsCharBoundary text start
    rest_boundary u pos =
        let h = stands p (path_text p) (ends_from 0 p) whole from lt in
        subst (λ t. IsCharBoundary t start) (sym is)
        (subst (IsCharBoundary (path_text p)) (sym at) (h.from (subst IsUtf8 is u) (omega (arith, at, pos))))

    -- from there on it is its text
    pub rest_text : drop start text ≡ path_text (drop from p)
    rest_text = (λ k. drop (at k) (is k)) ∙ sym (text-drop from p lt)

-- the text of the frames from one on, with their ends counted from where it begins, holds these frames
module _ (self : Path) (text ends : List ℕ) (view : cut_from 0 ends text ≡ self) (h : AreCuts (cut_from 0 ends text) text ends)
    (d : ℕ) (lt : d < length self) (new_text new_ends : List ℕ) (rest : new_text ≡ path_text (drop d self)) (counted : new_ends ≡ map (λ end. end - start_in ends d) (drop d ends)) where
  behind_ends : new_ends ≡ ends_from 0 (drop d self)
  behind_ends =
      let held = cuts_shown self text ends view h in
      counted ∙ ap (λ es. map (λ end. end - start_in es d) (drop d es)) held.places ∙ ends_behind self d lt

  pub behind_cuts : AreCuts (cut_from 0 new_ends new_text) new_text new_ends
  behind_cuts = cuts_of (drop d self) new_text new_ends rest behind_ends (rest_good self d lt (cuts_shown self text ends view h).good)

  -- and shows them
  pub behind_is : cut_from 0 new_ends new_text ≡ drop d self
  behind_is = cut_is (drop d self) new_text new_ends rest behind_ends

-- the text with one more frame: past a `;`, if there are frames
abbrev pub longer : Bool → List ℕ → List ℕ → List ℕ
longer true text f = text ++ f
longer false text f = (text ++ 59 ∷ []) ++ f

longer_text : (p : Path) (text f : List ℕ) → text ≡ path_text p → longer (length p == 0) text f ≡ path_text (p ++ f ∷ [])
longer_text [] text f is = ap (λ t. t ++ f) is
longer_text (g ∷ p) text f is = ap (λ b. longer b text f) (ne_eqb (suc (length p)) 0 (λ e. omega arith)) ∙ ap (λ t. (t ++ 59 ∷ []) ++ f) is ∙ append_assoc (path_text (g ∷ p)) (59 ∷ []) f ∙ sym (text_push g p f)

module _ (self : Path) (text ends : List ℕ) (view : cut_from 0 ends text ≡ self) (h : AreCuts (cut_from 0 ends text) text ends)
    (f new_text : List ℕ) (within_limit : length self < 128) (good : IsTrue (is_good_frame f)) (is : new_text ≡ longer (length ends == 0) text f) where
  pushed_text : new_text ≡ path_text (self ++ f ∷ [])
  pushed_text =
      let held = cuts_shown self text ends view h in
      is ∙ ap (λ n. longer (n == 0) text f) (ap length held.places ∙ length-ends 0 self) ∙ longer_text self text f held.joined

  pushed_good : AreGoodFrames (self ++ f ∷ [])
  pushed_good =
      let held = cuts_shown self text ends view h in
      let e = length-append self (f ∷ []) in
      record { within_limit = omega (arith, e, within_limit); good = All-push (λ f. IsTrue (is_good_frame f)) self f held.good.good good }

  -- the length of the text with one more frame fits 32 bits
  pub push_short : length new_text < 2 ^ 32
  push_short = let e = ap length pushed_text in let s = text_short (self ++ f ∷ []) pushed_good.good in let n = pushed_good.within_limit in omega (arith, e, s, n)

  module _ (end : ℕ) (new_ends : List ℕ) (to : end ≡ length new_text) (more : new_ends ≡ ends ++ end ∷ []) where
    pushed_ends : new_ends ≡ ends_from 0 (self ++ f ∷ [])
    pushed_ends =
        let e : end ≡ 0 + length (path_text (self ++ f ∷ [])) = omega (arith, to, ap length pushed_text) in
        more ∙ (λ i. (cuts_shown self text ends view h).places i ++ e i ∷ []) ∙ sym (ends_push 0 self f)

    -- it holds one more frame
    pub push_cuts : AreCuts (cut_from 0 new_ends new_text) new_text new_ends
    push_cuts = cuts_of (self ++ f ∷ []) new_text new_ends pushed_text pushed_ends pushed_good

    -- and shows it
    pub push_is : cut_from 0 new_ends new_text ≡ self ++ f ∷ []
    push_is = cut_is (self ++ f ∷ []) new_text new_ends pushed_text pushed_ends
