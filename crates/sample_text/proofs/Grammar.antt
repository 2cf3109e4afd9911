-- An accepted text is written as samples.
use Rattle.std.proofs.Common.{◌≡◌, ◌∙◌, ◌⊎◌, inl, inr, ◌<◌, ℕ, zero, suc, Bool, true, false, cond, ◌||◌, ◌&&◌, not, List, [], ◌∷◌, ◌++◌, length, filter, get_or, Ok, refl, sym, ap, subst, arith, codes}
use Rattle.std.proofs.lemmas.Bool.{true≢false, not-true}
use Rattle.std.proofs.lemmas.List.{append-nil}
use Rattle.rank_set.specs.Ranks.{Ranks, none, has, Has, has-none, has-union}
use Rattle.rank_set.specs.RanksText.{ranks_text}
use Rattle.text_lines.specs.Lines.{lines, words, says_nothing, is_comment, are_none}
use Rattle.text_lines.specs.Directives.{first_is, is_line_of}
use Rattle.text_lines.specs.Parsing.{parsed_lines}
use Rattle.overlay_setup.specs.Daemons.{IsDaemonNamed}
use Rattle.overlay_setup.specs.Names.{name_of}
use Rattle.overlay_setup.specs.NodeSets.{In}
use Rattle.stat_plan.specs.Plans.{Sampled}
use Rattle.stat_plan.specs.Samples.{SampleLine}
use Rattle.overlay_setup.specs.Topologies.{Nodes, IsTopology}
use Rattle.overlay_setup.proofs.DaemonNames.{found_by_name, number_of_name}
use Rattle.sample_text.specs.Grammar.{IsDaemonLine, PlacesRank, SomePlacesRank, IsSampleOf, AreSamplesOf, IsWritten}
use Rattle.sample_text.specs.Steps.{add_at, with_line}
use Rattle.sample_text.specs.Whole.{nothing_parsed, lacks_rank, whole, samples_of_text}
use Rattle.sample_text.proofs.LineViews.{AddsRanks, Changes, changes}
use Rattle.text_lines.proofs.Errors.{then_inv, test_inv, ok_inj}
use Rattle.text_lines.proofs.Parsing.{append_one}
use Rattle.sample_text.proofs.Sets.{there_before, length-add_at, length-empty_sets, empty_sets_empty, or_first, or_second}

-- a set that gets more ranks has those it had, and those that it gets
there_after : (sets : List Ranks) (n m : ℕ) (ranks : Ranks) (r : ℕ) → Has r (get_or sets m none) → Has r (get_or (add_at sets n ranks) m none)
there_after [] n m ranks r there = there
there_after (set ∷ sets) zero zero ranks r there = has-union set ranks r ∙ or_first (has set r) (has ranks r) there
there_after (set ∷ sets) zero (suc m) ranks r there = there
there_after (set ∷ sets) (suc n) zero ranks r there = there
there_after (set ∷ sets) (suc n) (suc m) ranks r there = there_after sets n m ranks r there

there_now : (sets : List Ranks) (n : ℕ) (ranks : Ranks) (r : ℕ) → n < length sets → Has r ranks → Has r (get_or (add_at sets n ranks) n none)
there_now [] n ranks r lt new = absurd (omega arith)
there_now (set ∷ sets) zero ranks r lt new = has-union set ranks r ∙ or_second (has set r) (has ranks r) new
there_now (set ∷ sets) (suc n) ranks r lt new = there_now sets n ranks r (omega arith) new

-- lines of one kind are not of another
silent : (line word : List ℕ) (rest : List (List ℕ)) → says_nothing line ≡ true → is_comment line ≡ false → words line ≡ word ∷ rest → ⊥
silent line word rest quiet comment is = true≢false (sym quiet ∙ (λ i. comment i || are_none (is i)))

not_both : (line : List ℕ) (rest more : List (List ℕ)) → words line ≡ codes "daemon" ∷ rest → words line ≡ codes "stack" ∷ more → ⊥
not_both line rest more daemon stack = true≢false (sym (ap (first_is (codes "daemon")) daemon) ∙ ap (first_is (codes "daemon")) stack)

abbrev stack : List ℕ → Bool
stack line = is_line_of (codes "stack") line

quiet_no_stack : (line : List ℕ) → says_nothing line ≡ true → stack line ≡ false
quiet_no_stack line quiet = by (is_comment line) (words line) quiet
  where
    by : (c : Bool) (ws : List (List ℕ)) → (c || are_none ws) ≡ true → (not c && first_is (codes "stack") ws) ≡ false
    by true ws e = refl
    by false [] e = refl
    by false (word ∷ rest) e = cc

daemon_no_stack : (line name word : List ℕ) → IsDaemonLine line name word → stack line ≡ false
daemon_no_stack line name word is = (λ i. not (is.0 i) && first_is (codes "stack") (is.1 i))

pub sample_is_stack : (line : List ℕ) (x : SampleLine) → is_comment line ≡ false → IsSampleOf line x → stack line ≡ true
sample_is_stack line x comment is = (λ i. not (comment i) && first_is (codes "stack") (is.is i))

-- one line
module _ (t : Nodes) (is : IsTopology t) (s u : Sampled) (line : List ℕ) (paired : length s.placed ≡ length t.parents) where
  abbrev before : ℕ → ℕ → Type 0
  before n r = Has r (get_or s.placed n none) ⊎ PlacesRank t line n r

  abbrev after : ℕ → ℕ → Type 0
  after n r = Has r (get_or u.placed n none)

  same_names : (a b c d : List ℕ) → codes "daemon" ∷ a ∷ b ∷ [] ≡ codes "daemon" ∷ c ∷ d ∷ [] → (a ≡ c) × (b ≡ d)
  same_names a b c d e = (cc, cc)

  same_ranks : (a b : Ranks) (word other : List ℕ) → ranks_text word ≡ Ok a → ranks_text other ≡ Ok b → word ≡ other → a ≡ b
  same_ranks a b word other read again same = let h = sym read ∙ ap ranks_text same ∙ again in cc

  module _ (h : AddsRanks t s line u) (n r : ℕ) (lt : n < length t.parents) where
    at : IsDaemonNamed t h.name h.node
    at = (found_by_name t is h.name h.node).0 h.named

    ranks_to : after n r → before n r
    ranks_to there = by (there_before s.placed h.node n h.ranks r (subst (λ x. Has r (get_or x.placed n none)) (sym h.after) there))
      where
        by : Has r (get_or s.placed n none) ⊎ ((n ≡ h.node) × Has r h.ranks) → before n r
        by (inl old) = inl old
        by (inr new) = inr (record {
          word = h.word;
          is = subst (λ name. IsDaemonLine line name h.word) (sym at.1 ∙ ap (name_of t.names) (sym new.0)) h.is;
          ranks = h.ranks;
          read = h.read;
          has = new.1;
        })

    here : PlacesRank t line n r → h.node ≡ n
    here p =
        let same = same_names h.name h.word (name_of t.names n) p.word (sym h.is.1 ∙ p.is.1) in
        let found = sym (number_of_name t.names is.distinct h.name n (omega (arith, lt, is.paired)) (sym same.0)) ∙ number_of_name t.names is.distinct h.name h.node (let low = at.0 in omega (arith, low, is.paired)) at.1 in
        cc

    ranks_from : before n r → after n r
    ranks_from (inl old) = subst (λ x. Has r (get_or x.placed n none)) h.after (there_after s.placed h.node n h.ranks r old)
    ranks_from (inr p) =
        let same = same_names h.name h.word (name_of t.names n) p.word (sym h.is.1 ∙ p.is.1) in
        let ranks = same_ranks h.ranks p.ranks h.word p.word h.read p.read same.1 in
        let now = there_now s.placed h.node h.ranks r (let low = at.0 in omega (arith, low, paired)) (subst (Has r) (sym ranks) p.has) in
        subst (λ x. Has r (get_or x.placed n none)) h.after (subst (λ m. Has r (get_or (add_at s.placed h.node h.ranks) m none)) (here p) now)

  to : Changes t s line u → (n r : ℕ) → n < length t.parents → after n r → before n r
  to (inl quiet) n r lt there = inl (subst (λ x. Has r (get_or x.placed n none)) (sym quiet.1) there)
  to (inr (inl h)) n r lt there = ranks_to h n r lt there
  to (inr (inr h)) n r lt there = inl (subst (λ x. Has r (get_or x.placed n none)) (sym h.after) there)

  from : Changes t s line u → (n r : ℕ) → n < length t.parents → before n r → after n r
  from (inl quiet) n r lt (inl old) = subst (λ x. Has r (get_or x.placed n none)) quiet.1 old
  from (inl quiet) n r lt (inr p) = absurd (silent line _ _ quiet.0 p.is.0 p.is.1)
  from (inr (inl h)) n r lt b = ranks_from h n r lt b
  from (inr (inr h)) n r lt (inl old) = subst (λ x. Has r (get_or x.placed n none)) h.after old
  from (inr (inr h)) n r lt (inr p) = absurd (not_both line _ _ p.is.1 h.is.is)

  still_paired : Changes t s line u → length u.placed ≡ length t.parents
  still_paired (inl quiet) = ap (λ x. length x.placed) (sym quiet.1) ∙ paired
  still_paired (inr (inl h)) = ap (λ x. length x.placed) (sym h.after) ∙ length-add_at s.placed h.node h.ranks ∙ paired
  still_paired (inr (inr h)) = ap (λ x. length x.placed) (sym h.after) ∙ paired

-- lines one after another
pub record Written (t : Nodes) (ls : List (List ℕ)) (s u : Sampled) : Type 0 where
  pub placed_to : (n r : ℕ) → n < length t.parents → Has r (get_or u.placed n none) → Has r (get_or s.placed n none) ⊎ SomePlacesRank t ls n r
  pub placed_from : (n r : ℕ) → n < length t.parents → Has r (get_or s.placed n none) ⊎ SomePlacesRank t ls n r → Has r (get_or u.placed n none)
  pub samples : (xs : List SampleLine) × (s.lines ++ xs ≡ u.lines) × AreSamplesOf (filter stack ls) xs

module _ (t : Nodes) (is : IsTopology t) where
  module _ (s m u : Sampled) (line : List ℕ) (rest : List (List ℕ)) (paired : length s.placed ≡ length t.parents) (change : Changes t s line m) (later : Written t rest m u) where
    all_to : (n r : ℕ) → n < length t.parents → Has r (get_or u.placed n none) → Has r (get_or s.placed n none) ⊎ SomePlacesRank t (line ∷ rest) n r
    all_to n r lt there = by (later.placed_to n r lt there)
      where
        first : Has r (get_or s.placed n none) ⊎ PlacesRank t line n r → Has r (get_or s.placed n none) ⊎ SomePlacesRank t (line ∷ rest) n r
        first (inl old) = inl old
        first (inr p) = inr (line, inl refl, p)

        by : Has r (get_or m.placed n none) ⊎ SomePlacesRank t rest n r → Has r (get_or s.placed n none) ⊎ SomePlacesRank t (line ∷ rest) n r
        by (inl old) = first (to t is s m line paired change n r lt old)
        by (inr p) = inr (p.0, inr p.1, p.2)

    all_from : (n r : ℕ) → n < length t.parents → Has r (get_or s.placed n none) ⊎ SomePlacesRank t (line ∷ rest) n r → Has r (get_or u.placed n none)
    all_from n r lt (inl old) = later.placed_from n r lt (inl (from t is s m line paired change n r lt (inl old)))
    all_from n r lt (inr p) = by p.1
      where
        by : In p.0 (line ∷ rest) → Has r (get_or u.placed n none)
        by (inl first) = later.placed_from n r lt (inl (from t is s m line paired change n r lt (inr (subst (λ l. PlacesRank t l n r) first p.2))))
        by (inr more) = later.placed_from n r lt (inr (p.0, more, p.2))

    other : stack line ≡ false → s.lines ≡ m.lines → (xs : List SampleLine) × (s.lines ++ xs ≡ u.lines) × AreSamplesOf (filter stack (line ∷ rest)) xs
    other unlike same =
        let xs = later.samples in
        (xs.0, ap (λ ls. ls ++ xs.0) same ∙ xs.1, subst (λ b. AreSamplesOf (cond b (line ∷ filter stack rest) (filter stack rest)) xs.0) (sym unlike) xs.2)

    all_samples : Changes t s line m → (xs : List SampleLine) × (s.lines ++ xs ≡ u.lines) × AreSamplesOf (filter stack (line ∷ rest)) xs
    all_samples (inl quiet) = other (quiet_no_stack line quiet.0) (ap (λ x. x.lines) quiet.1)
    all_samples (inr (inl h)) = other (daemon_no_stack line h.name h.word h.is) (ap (λ x. x.lines) h.after)
    all_samples (inr (inr h)) =
        let xs = later.samples in (
          h.sample ∷ xs.0,
          append_one s.lines h.sample xs.0 ∙ ap (λ x. x.lines ++ xs.0) h.after ∙ xs.1,
          subst (λ b. AreSamplesOf (cond b (line ∷ filter stack rest) (filter stack rest)) (h.sample ∷ xs.0)) (sym (sample_is_stack line h.sample h.comment h.is)) (h.is, xs.2),
        )

    one_more : Written t (line ∷ rest) s u
    one_more = record { placed_to = all_to; placed_from = all_from; samples = all_samples change }

  pub written : (ls : List (List ℕ)) (s u : Sampled) (number : ℕ) → length s.placed ≡ length t.parents → parsed_lines (with_line t) s number ls ≡ Ok u → Written t ls s u
  unfolding parsed_lines
  written [] s u number paired h =
      let same : s ≡ u = cc in
      subst (Written t [] s) same (record {
        placed_to = λ n r lt there. inl there;
        placed_from = λ n r lt. elim [ (inl old) ↦ old | (inr p) ↦ absurd p.1 ];
        samples = ([], append-nil s.lines, tt);
      })
  written (line ∷ rest) s u number paired h =
      let a = then_inv (with_line t s number line) _ u h in
      let change = changes t s a.0 number line a.1 in
      one_more s a.0 u line rest paired change (written rest a.0 u (suc number) (still_paired t is s a.0 line paired change) a.2)

  -- lines that are parsed are written as what they say
  pub is_written : (text : List ℕ) (u : Sampled) → parsed_lines (with_line t) (nothing_parsed t) 1 (lines text) ≡ Ok u → IsWritten t text u
  is_written text u h =
      let w = written (lines text) (nothing_parsed t) u 1 (length-empty_sets (length t.parents)) h in
      record {
        placed = λ n r lt. (
          λ there. elim (w.placed_to n r lt there) [ (inl old) ↦ absurd (true≢false (sym old ∙ ap (λ x. has x r) (empty_sets_empty (length t.parents) n) ∙ has-none r)) | (inr p) ↦ p ],
          λ p. w.placed_from n r lt (inr p),
        );
        samples = (let xs = w.samples in subst (AreSamplesOf (filter stack (lines text))) xs.1 xs.2);
      }

-- an accepted text is parsed, and no daemon lacks a rank
pub accepted_parsed : (t : Nodes) (text : List ℕ) (u : Sampled) → samples_of_text t text ≡ Ok u → (parsed_lines (with_line t) (nothing_parsed t) 1 (lines text) ≡ Ok u) × (lacks_rank t.parents 0 u.placed ≡ false)
accepted_parsed t text u h =
    let a = then_inv (parsed_lines (with_line t) (nothing_parsed t) 1 (lines text)) (whole t) u h in
    let b = test_inv (not (lacks_rank t.parents 0 a.0.placed)) _ (Ok a.0) u a.2 in
    let same : a.0 ≡ u = ok_inj a.0 u b.1 in
    (a.1 ∙ ap Ok same, subst (λ (x : Sampled). lacks_rank t.parents 0 x.placed ≡ false) same (not-true _ b.0))
