-- The check of the whole text.
use Rattle.std.proofs.Common.{◌≡◌, ◌∙◌, ℕ, suc, ◌+◌, ◌<◌, ◌≤◌, Bool, true, false, ◌&&◌, ◌||◌, not, List, length, drop, drop-cons, get_or, Option, Ok, Err, refl, sym, ap, arith}
use Rattle.std.proofs.lemmas.List.{drop_all}
use Rattle.rank_set.specs.Ranks.{Ranks, is_empty}
use Rattle.stat_plan.specs.Plans.{Sampled}
use Rattle.overlay_setup.specs.Topologies.{Nodes}
use Rattle.overlay_setup.specs.Trees.{is_daemon}
use Rattle.text_lines.specs.declared.text_error.TextError.{TextError}
use Rattle.text_lines.specs.declared.text_error.TextError.TheVariants.{Bad}
use Rattle.text_lines.specs.declared.text_error.Reason.TheVariants.{DaemonWithoutRank}
use Rattle.sample_text.specs.Steps.{with_line}
use Rattle.sample_text.specs.Whole.{lacks_rank, whole, nothing_parsed, samples_of_text}
use Rattle.text_lines.specs.Lines.{lines}
use Rattle.text_lines.specs.Parsing.{and_then, parsed_lines, if_holds}

module _ (parents : List (Option ℕ)) (sets : List Ranks) (n : ℕ) where
  pub lacks_none_left : length sets ≤ n → lacks_rank parents n (drop n sets) ≡ false
  lacks_none_left le = ap (lacks_rank parents n) (drop_all n sets le)

  module _ (d : Ranks) (lt : n < length sets) where
    next_set : lacks_rank parents n (drop n sets) ≡ ((is_daemon parents n && is_empty (get_or sets n d)) || lacks_rank parents (suc n) (drop (suc n) sets))
    next_set = ap (lacks_rank parents n) (drop-cons sets n d lt)

    pub lacks_here : is_daemon parents n ≡ true → is_empty (get_or sets n d) ≡ true → lacks_rank parents n (drop n sets) ≡ true
    lacks_here daemon empty = next_set ∙ (λ i. (daemon i && empty i) || lacks_rank parents (suc n) (drop (suc n) sets))

    later : (is_daemon parents n && is_empty (get_or sets n d)) ≡ false → lacks_rank parents (n + 1) (drop (n + 1) sets) ≡ lacks_rank parents n (drop n sets)
    later none = (let e : n + 1 ≡ suc n = omega arith in ap (λ k. lacks_rank parents k (drop k sets)) e) ∙ sym (next_set ∙ ap (λ b. b || lacks_rank parents (suc n) (drop (suc n) sets)) none)

    and_false : (b : Bool) → (b && false) ≡ false
    and_false true = refl
    and_false false = refl

    -- a node that is no daemon
    pub no_daemon : is_daemon parents n ≡ false → lacks_rank parents (n + 1) (drop (n + 1) sets) ≡ lacks_rank parents n (drop n sets)
    no_daemon other = later (ap (λ b. b && is_empty (get_or sets n d)) other)

    -- a node that has a rank
    pub has_rank : is_empty (get_or sets n d) ≡ false → lacks_rank parents (n + 1) (drop (n + 1) sets) ≡ lacks_rank parents n (drop n sets)
    has_rank some = later (ap (λ b. is_daemon parents n && b) some ∙ and_false (is_daemon parents n))

-- the check of the whole text
pub whole_bad : (t : Nodes) (s : Sampled) → lacks_rank t.parents 0 s.placed ≡ true → whole t s ≡ Err (Bad 0 DaemonWithoutRank)
whole_bad t s e = ap (λ b. if_holds (not b) (Bad 0 DaemonWithoutRank) (Ok s)) e

pub whole_good : (t : Nodes) (s : Sampled) → lacks_rank t.parents 0 s.placed ≡ false → whole t s ≡ Ok s
whole_good t s e = ap (λ b. if_holds (not b) (Bad 0 DaemonWithoutRank) (Ok s)) e

-- a whole text, where its lines are parsed
module _ (t : Nodes) (text : List ℕ) where
  pub samples_bad : (e : TextError) → parsed_lines (with_line t) (nothing_parsed t) 1 (lines text) ≡ Err e → samples_of_text t text ≡ Err e
  samples_bad e bad = ap (λ r. and_then r (whole t)) bad

  pub samples_good : (s : Sampled) → parsed_lines (with_line t) (nothing_parsed t) 1 (lines text) ≡ Ok s → samples_of_text t text ≡ whole t s
  samples_good s good = ap (λ r. and_then r (whole t)) good
