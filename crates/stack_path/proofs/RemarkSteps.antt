-- Paths with a remark behind them.
use Rattle.std.proofs.Common.{◌≡◌, ◌∙◌, ℕ, ◌+◌, ◌-◌, ◌≤◌, ◌<◌, List, [], ◌∷◌, ◌++◌, Some, ap, sym, take, drop, length, get_or, arith, append_assoc}
use Rattle.std.specs.Prelude.{slice_get}
use Rattle.std.proofs.lemmas.List.{take_more, get_or-drop, length-append, length-drop, length-take, take_all, take-append-le, drop-append-le}
use Rattle.std.proofs.lemmas.Option.{get_or_from_slice_get}
use Rattle.call_path.specs.Path.{Path}
use Rattle.stack_path.specs.Ends.{both_ends, with_remark, left_out}
use Rattle.stack_path.proofs.EndViews.{short_path, long_path}

-- one frame more of a range
pub range_more : (path p q r : Path) (start i : ℕ) (f : List ℕ) → start ≤ i → slice_get path i ≡ Some f → i < length path →
    q ≡ p ++ take (i - start) (drop start path) → r ≡ q ++ f ∷ [] → r ≡ p ++ take (i + 1 - start) (drop start path)
range_more path p q r start i f from_start at within so_far next =
    let rest = drop start path in
    let size = length-drop start path in
    let lt : i - start < length rest = omega (arith, size) in
    let item : get_or rest (i - start) f ≡ f =
    get_or-drop start path (i - start) f
    ∙ (let e : start + (i - start) ≡ i = omega arith in ap (λ k. get_or path k f) e)
    ∙ get_or_from_slice_get path i f f at in
    let count : i - start + 1 ≡ i + 1 - start = omega arith in
    next ∙ ap (λ t. t ++ f ∷ []) so_far ∙ append_assoc p (take (i - start) rest) (f ∷ [])
    ∙ ap (λ g. p ++ (take (i - start) rest ++ g ∷ [])) (sym item)
    ∙ ap (λ t. p ++ t) (sym (take_more rest (i - start) f lt))
    ∙ ap (λ k. p ++ take k rest) count

-- how long a path is with more frames
pub no_longer : (p q more : Path) (n : ℕ) → q ≡ p ++ take n more → length q ≤ length p + n
no_longer p q more n is = omega (arith, ap length is, length-append p (take n more), take_len n more)
  where
    take_len : (n : ℕ) (xs : Path) → length (take n xs) ≤ n
    take_len n xs = omega (arith, length-take n xs)

pub fits_with : (p q : Path) (remark : List ℕ) → length p < 128 → q ≡ p ++ remark ∷ [] → q ≡ with_remark p remark
fits_with p q remark fits is =
    is ∙ sym (short_path (p ++ remark ∷ []) (omega (arith, length-append p (remark ∷ []), fits)))

pub ends_with : (p a b c d e : Path) (remark : List ℕ) → length p ≡ 128 → a ≡ [] → b ≡ a ++ take 63 p →
    c ≡ b ++ left_out ∷ [] → d ≡ c ++ take 63 (drop 65 p) → e ≡ d ++ remark ∷ [] → e ≡ with_remark p remark
ends_with p a b c d e remark full begins first middle last end =
    let all = p ++ remark ∷ [] in
    let size : length all ≡ 129 = omega (arith, length-append p (remark ∷ []), full) in
    let inner : take 63 (drop 65 p) ≡ drop 65 p = take_all 63 (drop 65 p) (omega (arith, length-drop 65 p, full)) in
    let long : both_ends all ≡ take 63 all ++ left_out ∷ drop (length all - 64) all = long_path all (omega (arith, size)) in
    let outer : take 63 all ≡ take 63 p = take-append-le 63 p (remark ∷ []) (omega (arith, full)) in
    let rest : drop (length all - 64) all ≡ drop 65 p ++ remark ∷ [] =
    ap (λ n. drop (n - 64) all) size ∙ drop-append-le 65 p (remark ∷ []) (omega (arith, full)) in
    end ∙ ap (λ t. t ++ remark ∷ []) (last ∙ ap (λ t. t ++ take 63 (drop 65 p)) (middle ∙ ap (λ t. t ++ left_out ∷ []) (first ∙ ap (λ t. t ++ take 63 p) begins)))
    ∙ ap (λ t. take 63 p ++ left_out ∷ [] ++ t ++ remark ∷ []) inner
    ∙ append_assoc (take 63 p ++ left_out ∷ []) (drop 65 p) (remark ∷ [])
    ∙ append_assoc (take 63 p) (left_out ∷ []) (drop 65 p ++ remark ∷ [])
    ∙ ap (λ t. t ++ left_out ∷ (drop 65 p ++ remark ∷ [])) (sym outer)
    ∙ ap (λ t. take 63 all ++ left_out ∷ t) (sym rest)
    ∙ sym long
