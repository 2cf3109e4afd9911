-- A line in its usual form is read as its words.
use Rattle.std.proofs.Common.{◌≡◌, ◌∙◌, ℕ, ◌<◌, ◌≤◌, true, List, ◌∷◌, ◌++◌, length, take, drop, Ok, Some, refl, sym, ap, subst, codes}
use Rattle.std.specs.Str.{bytes_eq, IsUtf8}
use Rattle.std.proofs.lemmas.List.{take-append-drop}
use Rattle.std.proofs.lemmas.Slice.Eq.{bytes_eq-Decides}
use Rattle.rank_set.specs.Ranks.{none, union}
use Rattle.rank_set.specs.Runs.{ranks_between}
use Rattle.rank_set.specs.declared.TheConstants.{RANK_LIMIT}
use Rattle.stat_plan.specs.declared.samples.TheConstants.{TIME_LIMIT}
use Rattle.text_lines.specs.Lines.{words, word_len, after_blanks, after_word, is_comment, number_in}
use Rattle.text_lines.specs.Parsing.{and_then}
use Rattle.text_lines.proofs.Cuts.{word_here, blanks_past}
use Rattle.sample_text.specs.Words.{Stack, directive, read_line}
use Rattle.sample_text.specs.LineViews.{SamplesOneRank}
use Rattle.sample_text.specs.Steps.{if_room, with_sample, with_stack}
use Rattle.text_lines.specs.RanksWords.{ranks_on}
use Rattle.sample_text.proofs.LineWords.{line_of_words, says_words}
use Rattle.sample_text.proofs.Numbers.{one_rank, time_good}
use Rattle.text_lines.proofs.RanksWords.{ranks_good}
use Rattle.sample_text.proofs.Steps.{line_good}

-- what is left after two words is decided by what is left after the blanks
word_after : (one other : List ℕ) → after_blanks one ≡ after_blanks other → after_word one ≡ after_word other
word_after one other same = ap (λ t. drop (word_len t) t) same

-- a line that begins with `stack` and a blank
module _ (line bytes first second third : List ℕ) (value : bytes ≡ line) (begins : bytes_eq (take 6 bytes) (codes "stack ") ≡ true) (is : first ≡ drop 6 bytes) where
  whole : line ≡ codes "stack " ++ first
  whole = sym value ∙ sym (take-append-drop 6 bytes) ∙ (λ i. (bytes_eq-Decides (take 6 bytes) (codes "stack ")).0 begins i ++ sym is i)

  stack_first : words line ≡ codes "stack" ∷ words first
  unfolding words
  stack_first = ap words whole

  after_stack : after_blanks (after_word line) ≡ after_blanks first
  after_stack = ap (λ t. after_blanks (after_word t)) whole ∙ blanks_past 32 first refl

  module _ (time ranks path : List ℕ) (two : words first ≡ time ∷ words second) (three : words second ≡ ranks ∷ words third) (after_time : after_blanks (after_word first) ≡ after_blanks second) (after_ranks : after_blanks (after_word second) ≡ after_blanks third) (end : path ≡ after_blanks third) where
    -- the path is what is left after three words
    pub path_is : path ≡ after_blanks (after_word (after_word (after_word line)))
    path_is =
        let one : after_word (after_word line) ≡ after_word first = word_after (after_word line) first after_stack in
        let both : after_word (after_word (after_word line)) ≡ after_word second = ap after_word one ∙ word_after (after_word first) second after_time in
        end ∙ sym (ap after_blanks both ∙ after_ranks)

    -- such a line is read as these words
    pub usual_read : IsUtf8 line → 0 < length path → (n : ℕ) → read_line n line ≡ Ok (Stack time ranks path)
    usual_read utf8 some n =
        let fourth = word_here third (subst (λ t. 0 < length t) end some) in
        let ws = stack_first ∙ ap (λ ws. codes "stack" ∷ ws) (two ∙ ap (λ ws. time ∷ ws) (three ∙ ap (λ ws. ranks ∷ ws) fourth)) in
        line_of_words n line (says_words line (codes "stack") (words first) (ap is_comment whole) stack_first) utf8
        ∙ ap (directive n line) ws
        ∙ ap (λ p. Ok (Stack time ranks p)) (sym path_is)

    module _ (t n : ℕ) (low : t ≤ TIME_LIMIT) (below : n < RANK_LIMIT) (time_is : number_in time ≡ Some t) (rank_is : number_in ranks ≡ Some n) where
      -- a line of one rank is such a sample, whatever was parsed before it
      pub one_rank_read : IsUtf8 line → 0 < length path → SamplesOneRank line t n path
      unfolding with_stack
      one_rank_read utf8 some nodes s number =
          line_good nodes s number line (Stack time ranks path) (usual_read utf8 some number)
          ∙ ap (λ r. if_room s number (and_then r (λ time. and_then (ranks_on number ranks) (λ set. with_sample s number time set path)))) (time_good number time t time_is low)
          ∙ ap (λ r. if_room s number (and_then r (λ set. with_sample s number t set path))) (ranks_good number ranks (union none (ranks_between n n)) (one_rank ranks n rank_is below))
