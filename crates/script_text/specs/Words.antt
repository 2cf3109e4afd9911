-- The words of a script's lines, by the fixed words among them.
use Rattle.std.specs.Prelude.{ℕ, Bool, false, ◌||◌, ◌&&◌, not, if◌then◌else◌, List, [], ◌∷◌, Option, None, Some, codes}
use Rattle.std.specs.Str.{bytes_eq}
use Rattle.overlay_setup.specs.declared.script.Grain.{Grain}
use Rattle.overlay_setup.specs.declared.script.Grain.TheVariants.{Line, Function}
use Rattle.text_lines.specs.Lines.{are_none}

-- how a mode is written: `wait-for-all`, `time-out T` or `dont-wait`
pub data ModeWords : Type 0 where
  WaitForAll : ModeWords
  TimeOut : List ℕ → ModeWords
  DontWait : ModeWords

-- the words of `stream S MODE waves W samples K by GRAIN on NAMES` that are not fixed; `by GRAIN` may be left out
pub record StreamWords : Type 0 where
  pub number : List ℕ
  pub mode : ModeWords
  pub waves : List ℕ
  pub samples : List ℕ
  pub grain : Grain
  pub names : List (List ℕ)  -- all that follows `on`

-- the words of `lose NAME after E keep K` that are not fixed
pub record LoseWords : Type 0 where
  pub name : List ℕ
  pub after : List ℕ
  pub keep : List ℕ

-- whether these words may stand after `on`: one or more, and nothing after `all` where that is the first
abbrev pub are_names : List (List ℕ) → Bool
are_names [] = false
are_names (name ∷ names) = not (bytes_eq name (codes "all")) || are_none names

-- a grain, and the names that stand after `on`
pub record Seen : Type 0 where
  pub grain : Grain
  pub names : List (List ℕ)

-- a stream line from `on` on, where the stream has this grain
unfoldable pub after_grain : Grain → List (List ℕ) → Option Seen
after_grain grain (on ∷ names) =
    if bytes_eq on (codes "on") && are_names names then Some (record { grain = grain; names = names }) else None
after_grain grain [] = None

-- a grain as it is written: `line` or `function`
unfoldable pub grain_of : List ℕ → Option Grain
grain_of word =
    if bytes_eq word (codes "line") then Some Line else if bytes_eq word (codes "function") then Some Function else None

-- a stream line from the word behind a grain on
abbrev pub with_grain : List (List ℕ) → Option Grain → Option Seen
with_grain rest None = None
with_grain rest (Some grain) = after_grain grain rest

-- a stream line from the word after `by` on
unfoldable pub after_by : List (List ℕ) → Option Seen
after_by [] = None
after_by (word ∷ rest) = with_grain rest (grain_of word)

-- a stream line from the word after K on: `by GRAIN on NAMES`, or `on NAMES`, which is by line
unfoldable pub after_samples : List (List ℕ) → Option Seen
after_samples [] = None
after_samples (word ∷ rest) = if bytes_eq word (codes "by") then after_by rest else after_grain Line (word ∷ rest)

-- the words of a stream line, with those after K
abbrev pub stream_seen : List ℕ → ModeWords → List ℕ → List ℕ → Option Seen → Option StreamWords
stream_seen number mode w k None = None
stream_seen number mode w k (Some seen) =
    Some (record { number = number; mode = mode; waves = w; samples = k; grain = seen.grain; names = seen.names })

-- a stream line from `waves` on
unfoldable pub after_mode : List ℕ → ModeWords → List (List ℕ) → Option StreamWords
after_mode number mode (waves ∷ w ∷ samples ∷ k ∷ rest) =
    if bytes_eq waves (codes "waves") && bytes_eq samples (codes "samples")
    then stream_seen number mode w k (after_samples rest)
    else None
after_mode number mode others = None

-- a stream line from T on
abbrev pub after_time_out : List ℕ → List (List ℕ) → Option StreamWords
after_time_out number [] = None
after_time_out number (ticks ∷ rest) = after_mode number (TimeOut ticks) rest

-- a stream line from S on
unfoldable pub stream_words : List (List ℕ) → Option StreamWords
stream_words (number ∷ mode ∷ rest) =
    if bytes_eq mode (codes "wait-for-all") then after_mode number WaitForAll rest
    else if bytes_eq mode (codes "time-out") then after_time_out number rest
    else if bytes_eq mode (codes "dont-wait") then after_mode number DontWait rest
    else None
stream_words others = None

-- a lose line from NAME on
unfoldable pub lose_words : List (List ℕ) → Option LoseWords
lose_words (name ∷ after ∷ e ∷ keep ∷ k ∷ []) =
    if bytes_eq after (codes "after") && bytes_eq keep (codes "keep")
    then Some (record { name = name; after = e; keep = k })
    else None
lose_words others = None
