-- What recursion shows of a stack rests on the names of its frames alone.
use Rattle.std.proofs.Common.{◌≡◌, ◌∙◌, ℕ, zero, suc, ◌+◌, ◌-◌, ◌&&◌, not, cond, List, [], ◌∷◌, ◌++◌, refl, ap, sym, map, take, drop, length}
use Rattle.std.specs.Prelude.{nat_le}
use Rattle.std.specs.Str.{bytes_eq}
use Rattle.std.proofs.lemmas.List.{take-map, drop-map, map-append, length-map}
use Rattle.frame_name.specs.Frames.{FrameView}
use Rattle.stack_path.specs.Beginnings.{Stack}
use Rattle.stack_path.specs.Recursion.{RecursionView, Cycles, Loops, Each, are_same, ends_twice, cycle_from, cycle_len, without_before, len_before, with_call, with_calls, once}
use Rattle.stack_path.proofs.Cycles.{search_begins}

-- frames are changed, but for their names
module _ (g : FrameView → FrameView) (same : (f : FrameView) → (g f).name ≡ f.name) where
  same_calls : (s t : Stack) → are_same (map g s) (map g t) ≡ are_same s t
  same_calls [] [] = refl
  same_calls [] (h ∷ t) = refl
  same_calls (f ∷ s) [] = refl
  same_calls (f ∷ s) (h ∷ t) = (λ i. bytes_eq (same f i) (same h i) && same_calls s t i)

  part : (n m : ℕ) (s : Stack) → take n (drop m (map g s)) ≡ map g (take n (drop m s))
  part n m s = ap (take n) (drop-map g m s) ∙ take-map g n (drop m s)

  twice : (n : ℕ) (s : Stack) → ends_twice n (map g s) ≡ ends_twice n s
  twice n s =
      ap (λ l. nat_le (n + n) l && are_same (take n (drop (l - (n + n)) (map g s))) (drop (l - n) (map g s))) (length-map s g)
      ∙ ap (λ t. nat_le (n + n) (length s) && are_same t (drop (length s - n) (map g s))) (part n (length s - (n + n)) s)
      ∙ ap (λ t. nat_le (n + n) (length s) && are_same (map g (take n (drop (length s - (n + n)) s))) t) (drop-map g (length s - n) s)
      ∙ ap (λ b. nat_le (n + n) (length s) && b) (same_calls (take n (drop (length s - (n + n)) s)) (drop (length s - n) s))

  search_same : (fuel n : ℕ) (s : Stack) → cycle_from fuel n (map g s) ≡ cycle_from fuel n s
  unfolding cycle_from
  search_same zero n s = refl
  search_same (suc fuel) n s = (λ i. cond (twice n s i) n (search_same fuel (suc n) s i))

  pub cycle_same : (s : Stack) → cycle_len (map g s) ≡ cycle_len s
  cycle_same s = search_begins (map g s) ∙ search_same 32 1 s ∙ sym (search_begins s)

  without_same : (n : ℕ) (s : Stack) → without_before n (map g s) ≡ map g (without_before n s)
  without_same n s =
      ap (λ l. take (l - (n + n)) (map g s) ++ drop (l - n) (map g s)) (length-map s g)
      ∙ ap (λ t. t ++ drop (length s - n) (map g s)) (take-map g (length s - (n + n)) s)
      ∙ ap (λ t. map g (take (length s - (n + n)) s) ++ t) (drop-map g (length s - n) s)
      ∙ sym (map-append g (take (length s - (n + n)) s) (drop (length s - n) s))

  before_same : (name : List ℕ) (s : Stack) → len_before name (map g s) ≡ len_before name s
  before_same name [] = refl
  before_same name (f ∷ s) = (λ i. cond (not (bytes_eq (same f i) name)) (1 + before_same name s i) 0)

  call_same : (how : RecursionView) (s : Stack) (f : FrameView) → with_call how (map g s) (g f) ≡ map g (with_call how s f)
  call_same Cycles s f =
      ap (λ t. without_before (cycle_len t) t) (sym (map-append g s (f ∷ [])))
      ∙ ap (λ n. without_before n (map g (s ++ f ∷ []))) (cycle_same (s ++ f ∷ []))
      ∙ without_same (cycle_len (s ++ f ∷ [])) (s ++ f ∷ [])
  call_same Loops s f =
      ap (λ name. take (len_before name (map g s)) (map g s) ++ g f ∷ []) (same f)
      ∙ ap (λ n. take n (map g s) ++ g f ∷ []) (before_same f.name s)
      ∙ ap (λ t. t ++ g f ∷ []) (take-map g (len_before f.name s) s)
      ∙ sym (map-append g (take (len_before f.name s) s) (f ∷ []))
  call_same Each s f = sym (map-append g s (f ∷ []))

  calls_same : (how : RecursionView) (s calls : Stack) → with_calls how (map g s) (map g calls) ≡ map g (with_calls how s calls)
  calls_same how s [] = refl
  calls_same how s (f ∷ calls) = ap (λ t. with_calls how t (map g calls)) (call_same how s f) ∙ calls_same how (with_call how s f) calls

  pub once_same : (how : RecursionView) (s : Stack) → once how (map g s) ≡ map g (once how s)
  once_same how s = calls_same how [] s
