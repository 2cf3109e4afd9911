-- What a node knows of its waves: the waves with their states as a list, and the book that it stands for.
use Rattle.std.specs.Prelude.{◌≡◌, ⊤, ℕ, zero, suc, Bool, true, ◌&&◌, ◌||◌, ◌==◌, nat_lt, cond, List, [], ◌∷◌, map, find, Option, Some, None, option_map}
use Rattle.std.specs.List.{AllByRecursion}
use Rattle.rank_set.specs.Ranks.{none}
use Rattle.overlay_setup.specs.NodeSets.{In, up_to}
use Rattle.stat_plan.specs.Machine.Waves.{Wave, Open, Closed, Book, set_wave, is_open, is_empty_open}
use Rattle.stat_plan.specs.declared.machine.Timer.TheVariants.{Off, Running}

-- a wave, by its stream and its number, and its state
pub record WaveAt : Type 0 where
  pub stream : ℕ
  pub wave : ℕ
  pub state : Wave

-- the wave with another state
abbrev pub with_state : Wave → WaveAt → WaveAt
with_state v e = record { stream = e.stream; wave = e.wave; state = v }

-- nothing of the wave has come in or was passed on, and its timer is off
abbrev pub untouched : Wave
untouched = Open none none Off

-- ---- a list of waves

-- a wave's stream and number
abbrev pub key_of : WaveAt → ℕ × ℕ
key_of e = (e.stream, e.wave)

-- the waves, by stream and number
abbrev pub keys_of : List WaveAt → List (ℕ × ℕ)
keys_of es = map key_of es

-- the list has the wave
abbrev pub IsIn : ℕ → ℕ → List WaveAt → Type 0
IsIn s w es = In {X = ℕ × ℕ} (s, w) (keys_of es)

-- whether it is this wave
abbrev pub is_at : ℕ → ℕ → WaveAt → Bool
is_at s w e = (e.stream == s) && (e.wave == w)

-- the book of the waves; a wave that isn't among them is untouched
abbrev pub book_of : List WaveAt → Book
book_of [] s w = untouched
book_of (e ∷ es) s w = cond (is_at s w e) e.state (book_of es s w)

-- the list has the wave, and it is open
abbrev pub HasOpen : ℕ → ℕ → List WaveAt → Type 0
HasOpen s w es = IsIn s w es × (is_open (book_of es s w) ≡ true)

-- the index of a wave, or the length of the list
abbrev pub index_of : ℕ → ℕ → List WaveAt → ℕ
index_of s w [] = zero
index_of s w (e ∷ es) = cond (is_at s w e) zero (suc (index_of s w es))

-- each wave is untouched
abbrev pub AreUntouched : List WaveAt → Type 0
AreUntouched es = AllByRecursion (λ e. e.state ≡ untouched) es

-- the first waves of a stream
abbrev pub first_waves : ℕ → ℕ → List (ℕ × ℕ)
first_waves s waves = map (λ w. (s, w)) (up_to waves)

-- ---- the order of waves

-- whether a wave comes before another: by stream, then by number
abbrev pub is_before : ℕ × ℕ → ℕ × ℕ → Bool
is_before a b = nat_lt a.0 b.0 || ((a.0 == b.0) && nat_lt a.1 b.1)

-- each wave comes before those behind it in the list
abbrev pub AreAscending : List (ℕ × ℕ) → Type 0
AreAscending [] = ⊤
AreAscending (k ∷ ks) = ((l : ℕ × ℕ) → In l ks → is_before k l ≡ true) × AreAscending ks

-- how many waves stand in front of the first that comes after a wave
abbrev pub count_to : ℕ × ℕ → List (ℕ × ℕ) → ℕ
count_to a [] = zero
count_to a (k ∷ ks) = cond (is_before a k) zero (suc (count_to a ks))

-- ---- what changes

-- all that has come in was passed on, and the timer is off
abbrev pub all_sent : Wave → Wave
all_sent (Open covered sent timer) = Open covered covered Off
all_sent Closed = Closed

-- the timer runs for so many ticks
abbrev pub armed : ℕ → Wave → Wave
armed t (Open covered sent timer) = Open covered sent (Running t)
armed t Closed = Closed

-- one wave has this state now, and the other waves are as before
pub record HasSet (s w : ℕ) (v : Wave) (old new : List WaveAt) : Type 0 where
  pub keys : keys_of new ≡ keys_of old
  pub book : ◌≡◌ {A = Book} (book_of new) (set_wave (book_of old) s w v)

-- each wave has changed so
pub record AllChange (f : Wave → Wave) (old new : List WaveAt) : Type 0 where
  pub keys : keys_of new ≡ keys_of old
  pub book : ◌≡◌ {A = Book} (book_of new) (λ s w. f (book_of old s w))

-- ---- what is looked for

-- whether a wave comes after another; each does where that is none
abbrev pub is_after : Option (ℕ × ℕ) → ℕ × ℕ → Bool
is_after None k = true
is_after (Some a) k = is_before a k

-- the first of the waves behind another that is open
abbrev pub next_open : Option (ℕ × ℕ) → List (ℕ × ℕ) → Book → Option (ℕ × ℕ)
next_open after keys book = find (λ k. is_after after k && is_open (book k.0 k.1)) keys

-- the first wave of a stream that is open and covers nothing yet
abbrev pub next_empty : ℕ → List (ℕ × ℕ) → Book → Option ℕ
next_empty s keys book = option_map (λ k. k.1) (find (λ k. (k.0 == s) && is_empty_open (book k.0 k.1)) keys)
