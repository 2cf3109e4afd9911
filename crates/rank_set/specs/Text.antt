-- The text of a set of ranks, as `4:[0-2,7]`.
use Rattle.std.specs.Prelude.{◌≡◌, ℕ, nat_eq, cond, List, [], ◌∷◌, ◌++◌, codes}
use Rattle.std.specs.Fmt.{decimal}
use Rattle.rank_set.specs.Ranks.{Ranks, in_order, size}
use Rattle.rank_set.specs.Runs.{runs_of}

-- the byte `,`
abbrev pub comma : ℕ
comma = 44

-- the byte `-`
abbrev pub dash : ℕ
dash = 45

-- a number, or `a-b` for two or more
abbrev pub run_text : ℕ × ℕ → List ℕ
run_text r = cond (nat_eq r.0 r.1) (decimal r.0) (decimal r.0 ++ dash ∷ decimal r.1)

-- the runs, parted by commas
abbrev pub runs_text : List (ℕ × ℕ) → List ℕ
runs_text [] = []
runs_text (r ∷ []) = run_text r
runs_text (r ∷ s ∷ rs) = run_text r ++ comma ∷ runs_text (s ∷ rs)

-- the count, a colon, and the runs in brackets
abbrev pub text_of : Ranks → List ℕ
text_of s = decimal (size s) ++ (codes ":[" ++ (runs_text (runs_of (in_order s)) ++ codes "]"))

-- a text that begins with another
pub record BeginsWith (text front : List ℕ) : Type 0 where
  pub rest : List ℕ
  pub is : text ≡ front ++ rest
