-- The last bytes of a text that pass a test stand behind one that doesn't.
use Rattle.std.proofs.Common.{◌≡◌, ℕ, ◌-◌, Bool, true, false, List, [], ◌∷◌, ◌++◌, length, refl, ap, ◌∙◌, arith}
use Rattle.std.specs.List.{list_all, suffix_len}
use Rattle.std.proofs.lemmas.List.{length-append, length_push, get_or-append_right, get_or_append_left, get_or_push, take_at, drop_at}
use Rattle.std.proofs.lemmas.List.Sums.{suffix_len_is, AllPass-from_list_all}
use Rattle.frame_name.specs.Texts.{last_bytes, before_last_bytes}

pub last_len : (test : ℕ → Bool) (front : List ℕ) (b : ℕ) (back : List ℕ) → test b ≡ false → list_all test back ≡ true → suffix_len test ((front ++ b ∷ []) ++ back) ≡ length back
last_len test front b back fails all =
    let before = front ++ b ∷ [] in
    let whole = length-append before back in
    let push = length_push front b in
    suffix_len_is test (before ++ back) (length before) 0 (omega arith)
    (λ k low high. ap test (get_or-append_right before back (length before) k 0 refl low) ∙ AllPass-from_list_all test back all (k - length before) 0 (omega arith))
    (λ some. ap test (get_or_append_left before back 0 (length before - 1) (omega arith) ∙ get_or_push front b 0 (length before - 1) (omega arith)) ∙ fails)
    ∙ omega arith

pub last_are : (test : ℕ → Bool) (front : List ℕ) (b : ℕ) (back : List ℕ) → test b ≡ false → list_all test back ≡ true → last_bytes test ((front ++ b ∷ []) ++ back) ≡ back
last_are test front b back fails all =
    drop_at (front ++ b ∷ []) back (length ((front ++ b ∷ []) ++ back) - suffix_len test ((front ++ b ∷ []) ++ back))
    (omega (arith, last_len test front b back fails all, length-append (front ++ b ∷ []) back))

pub before_last_are : (test : ℕ → Bool) (front : List ℕ) (b : ℕ) (back : List ℕ) → test b ≡ false → list_all test back ≡ true → before_last_bytes test ((front ++ b ∷ []) ++ back) ≡ front ++ b ∷ []
before_last_are test front b back fails all =
    take_at (front ++ b ∷ []) back (length ((front ++ b ∷ []) ++ back) - suffix_len test ((front ++ b ∷ []) ++ back))
    (omega (arith, last_len test front b back fails all, length-append (front ++ b ∷ []) back))
