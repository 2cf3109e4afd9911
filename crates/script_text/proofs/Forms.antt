-- The forms of a line, one way out at a time.
use Rattle.std.proofs.Common.{◌≡◌, ℕ, ◌<◌, true, false, ◌&&◌, List, [], ◌∷◌, length, Option, None, Some, refl, sym, ap, ◌∙◌, arith, codes}
use Rattle.std.specs.Option.{MatchOption, is_some}
use Rattle.std.specs.Str.{bytes_eq}
use Rattle.overlay_setup.specs.declared.script.Grain.{Grain}
use Rattle.overlay_setup.specs.declared.script.Grain.TheVariants.{Line}
use Rattle.script_text.specs.Words.{ModeWords, WaitForAll, DontWait, are_names, after_by, after_grain, after_mode, after_samples, after_time_out, grain_of, stream_seen, stream_words, with_grain, lose_words}

-- a stream line from `on` on
pub no_on : (grain : Grain) (ws : List (List ℕ)) → ws ≡ [] → None ≡ after_grain grain ws
unfolding after_grain
no_on grain ws is = rw is refl

module _ (grain : Grain) (ws : List (List ℕ)) (on : List ℕ) (names : List (List ℕ)) (is : ws ≡ on ∷ names) where
  pub grain_good : (bytes_eq on (codes "on") && are_names names) ≡ true → Some (record { grain = grain; names = names }) ≡ after_grain grain ws
  unfolding after_grain
  grain_good good = rw is (rw (good, after_grain) refl)

  pub grain_bad : (bytes_eq on (codes "on") && are_names names) ≡ false → None ≡ after_grain grain ws
  unfolding after_grain
  grain_bad bad = rw is (rw (bad, after_grain) refl)

-- a stream line from the word after `by` on
pub no_grain : (ws : List (List ℕ)) → ws ≡ [] → None ≡ after_by ws
unfolding after_by
no_grain ws is = rw is refl

pub other_grain : (ws : List (List ℕ)) (word : List ℕ) (rest : List (List ℕ)) → ws ≡ word ∷ rest → None ≡ grain_of word → None ≡ after_by ws
unfolding after_by
other_grain ws word rest is none = ap (with_grain rest) none ∙ sym (ap after_by is)

pub some_grain : (ws : List (List ℕ)) (word : List ℕ) (rest : List (List ℕ)) (grain : Grain) → ws ≡ word ∷ rest → Some grain ≡ grain_of word → after_grain grain rest ≡ after_by ws
unfolding after_by
some_grain ws word rest grain is some = ap (with_grain rest) some ∙ sym (ap after_by is)

-- a stream line from the word after K on
pub no_seen : (ws : List (List ℕ)) → ws ≡ [] → None ≡ after_samples ws
unfolding after_samples
no_seen ws is = rw is refl

module _ (ws : List (List ℕ)) (word : List ℕ) (rest : List (List ℕ)) (is : ws ≡ word ∷ rest) where
  pub says_by : bytes_eq word (codes "by") ≡ true → after_by rest ≡ after_samples ws
  unfolding after_samples
  says_by e = rw is (rw (e, after_samples) refl)

  pub says_no_by : bytes_eq word (codes "by") ≡ false → after_grain Line ws ≡ after_samples ws
  unfolding after_samples
  says_no_by e = rw is (rw (e, after_samples) refl)

-- a stream line from `waves` on
module _ (number : List ℕ) (mode : ModeWords) (ws : List (List ℕ)) where
  pub mode_one : ws ≡ [] → None ≡ after_mode number mode ws
  unfolding after_mode
  mode_one is = rw is refl

  module _ (a : List ℕ) (r : List (List ℕ)) (one : ws ≡ a ∷ r) where
    pub mode_two : r ≡ [] → None ≡ after_mode number mode ws
    unfolding after_mode
    mode_two is = rw one (rw is refl)

    module _ (b : List ℕ) (s : List (List ℕ)) (two : r ≡ b ∷ s) where
      pub mode_three : s ≡ [] → None ≡ after_mode number mode ws
      unfolding after_mode
      mode_three is = rw one (rw two (rw is refl))

      module _ (c : List ℕ) (t : List (List ℕ)) (three : s ≡ c ∷ t) where
        pub mode_four : t ≡ [] → None ≡ after_mode number mode ws
        unfolding after_mode
        mode_four is = rw one (rw two (rw three (rw is refl)))

        module _ (d : List ℕ) (u : List (List ℕ)) (four : t ≡ d ∷ u) where
          pub mode_bad : (bytes_eq a (codes "waves") && bytes_eq c (codes "samples")) ≡ false → None ≡ after_mode number mode ws
          unfolding after_mode
          mode_bad bad = rw one (rw two (rw three (rw four (rw (bad, after_mode) refl))))

          pub mode_good : (bytes_eq a (codes "waves") && bytes_eq c (codes "samples")) ≡ true → stream_seen number mode b d (after_samples u) ≡ after_mode number mode ws
          unfolding after_mode
          mode_good good = rw one (rw two (rw three (rw four (rw (good, after_mode) refl))))

-- a stream line from S on
pub no_number : (ws : List (List ℕ)) → ws ≡ [] → None ≡ stream_words ws
unfolding stream_words
no_number ws is = rw is refl

pub no_mode : (ws : List (List ℕ)) (a : List ℕ) (rest : List (List ℕ)) → ws ≡ a ∷ rest → rest ≡ [] → None ≡ stream_words ws
unfolding stream_words
no_mode ws a rest is none = rw is (rw none refl)

module _ (ws : List (List ℕ)) (a m : List ℕ) (after rest : List (List ℕ)) (is : ws ≡ a ∷ after) (then : after ≡ m ∷ rest) where
  pub waits : bytes_eq m (codes "wait-for-all") ≡ true → stream_words ws ≡ after_mode a WaitForAll rest
  unfolding stream_words
  waits e = rw is (rw then (rw (e, stream_words) refl))

  pub times : bytes_eq m (codes "wait-for-all") ≡ false → bytes_eq m (codes "time-out") ≡ true → stream_words ws ≡ after_time_out a rest
  unfolding stream_words
  times e f = rw is (rw then (rw (e, f, stream_words) refl))

  pub passes : bytes_eq m (codes "wait-for-all") ≡ false → bytes_eq m (codes "time-out") ≡ false → bytes_eq m (codes "dont-wait") ≡ true → stream_words ws ≡ after_mode a DontWait rest
  unfolding stream_words
  passes e f g = rw is (rw then (rw (e, f, g, stream_words) refl))

  pub neither : bytes_eq m (codes "wait-for-all") ≡ false → bytes_eq m (codes "time-out") ≡ false → bytes_eq m (codes "dont-wait") ≡ false → stream_words ws ≡ None
  unfolding stream_words
  neither e f g = rw is (rw then (rw (e, f, g, stream_words) refl))

-- a lose line
pub lose_short : (ws : List (List ℕ)) → length ws < 5 → None ≡ lose_words ws
unfolding lose_words
lose_short [] few = refl
lose_short (a ∷ []) few = refl
lose_short (a ∷ b ∷ []) few = refl
lose_short (a ∷ b ∷ c ∷ []) few = refl
lose_short (a ∷ b ∷ c ∷ d ∷ []) few = refl
lose_short (a ∷ b ∷ c ∷ d ∷ e ∷ ws) few = absurd (omega arith)

module _ (ws : List (List ℕ)) (a b c d e : List ℕ) (rest : List (List ℕ)) (is : ws ≡ a ∷ b ∷ c ∷ d ∷ e ∷ rest) where
  pub lose_long : (f : List ℕ) (more : List (List ℕ)) → rest ≡ f ∷ more → None ≡ lose_words ws
  unfolding lose_words
  lose_long f more then = rw is (rw then refl)

  pub lose_bad : rest ≡ [] → (bytes_eq b (codes "after") && bytes_eq d (codes "keep")) ≡ false → None ≡ lose_words ws
  unfolding lose_words
  lose_bad none bad = rw is (rw none (rw (bad, lose_words) refl))

  pub lose_good : rest ≡ [] → (bytes_eq b (codes "after") && bytes_eq d (codes "keep")) ≡ true → Some (record { name = a; after = c; keep = e }) ≡ lose_words ws
  unfolding lose_words
  lose_good none good = rw is (rw none (rw (good, lose_words) refl))

-- whether words are left
module _ {A : Type 0} (first : A → List ℕ) (more : A → List (List ℕ)) (ws : List (List ℕ)) where
  pub some_left : (o : Option A) → MatchOption o (ws ≡ []) (λ x. ws ≡ first x ∷ more x) → is_some o ≡ true → (f : List ℕ) × (rest : List (List ℕ)) × (ws ≡ f ∷ rest)
  some_left None cases e = cc
  some_left (Some x) cases e = (first x, more x, cases)

  pub none_left : (o : Option A) → MatchOption o (ws ≡ []) (λ x. ws ≡ first x ∷ more x) → is_some o ≡ false → ws ≡ []
  none_left None cases e = cases
  none_left (Some x) cases e = cc
