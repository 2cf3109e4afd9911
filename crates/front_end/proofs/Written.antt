-- Texts that were written piece by piece.
use Rattle.std.proofs.Common.{◌≡◌, ℕ, Bool, false, cond, inl, inr, List, [], ◌∷◌, ◌++◌, ◌==◌, sym, ap, ◌∙◌, append_assoc, eqb-true}
use Rattle.std.specs.Prelude.{codes}
use Rattle.std.specs.List.{flat_map}
use Rattle.std.proofs.lemmas.Bool.{cases_Bool}
use Rattle.rank_set.specs.Ranks.{Ranks, size, is_empty}
use Rattle.rank_set.specs.Text.{text_of}
use Rattle.call_path.specs.Path.{Path}
use Rattle.overlay_setup.specs.Names.{name_of}
use Rattle.overlay_setup.specs.NodeSets.{member}
use Rattle.stat_plan.specs.Plans.{Plan, daemons}
use Rattle.overlay_setup.specs.declared.script.Fault.{Fault}
use Rattle.overlay_core.specs.TreeReleases.{TreeRelease}
use Rattle.prefix_tree.specs.Tree.{Tree}
use Rattle.tree_text.specs.TreeText.{tree_text}
use Rattle.front_end.specs.ClassText.{classes_text}
use Rattle.front_end.specs.ReleaseText.{classes_in, heading, missing, missing_line, missing_text, ranks_line, release_text, tree_and_classes}
use Rattle.front_end.specs.Report.{fate_text, fault_line, report_text}

-- which release it is
pub words_written : (out stream wave number kind a b c d e : List ℕ) → a ≡ out ++ codes "stream " ++ stream → b ≡ a ++ codes " wave " ++ wave → c ≡ b ++ codes " release " ++ number → d ≡ c ++ 32 ∷ [] → e ≡ d ++ kind
    → e ≡ out ++ (codes "stream " ++ stream ++ codes " wave " ++ wave ++ codes " release " ++ number ++ 32 ∷ [] ++ kind)
words_written out stream wave number kind a b c d e pa pb pc pd pe =
    pe ∙ ap (λ ys. ys ++ kind) (pd ∙ ap (λ ys. ys ++ 32 ∷ []) (pc ∙ ap (λ ys. ys ++ codes " release " ++ number) (pb ∙ ap (λ ys. ys ++ codes " wave " ++ wave) pa)))
    ∙ regroup out (codes "stream ") stream (codes " wave ") wave (codes " release ") number (32 ∷ []) kind
  where
    regroup : (out a b c d e f g h : List ℕ) → (((((((out ++ a) ++ b) ++ c) ++ d) ++ e) ++ f) ++ g) ++ h ≡ out ++ (((((((a ++ b) ++ c) ++ d) ++ e) ++ f) ++ g) ++ h)
    regroup out a b c d e f g h = simp append_assoc

-- with the end of its line
pub heading_written : (out words a b : List ℕ) → a ≡ out ++ words → b ≡ a ++ 10 ∷ [] → b ≡ out ++ (words ++ 10 ∷ [])
heading_written out words a b pa pb = pb ∙ ap (λ ys. ys ++ 10 ∷ []) pa ∙ append_assoc out words (10 ∷ [])

-- ranks of which there are some are not empty
pub some_ranks : (s : Ranks) → (size s ≡ 0 → ⊥) → is_empty s ≡ false
some_ranks s some = elim (cases_Bool (size s == 0)) [ inl e ↦ absurd (some (eqb-true (size s) 0 e)) | inr e ↦ e ]

-- the line of a daemon with missing ranks
pub missing_written : (p : Plan) (covered : Ranks) (lost : List ℕ) (daemon : ℕ) (found : Ranks) (out a b c d e : List ℕ) → found ≡ missing p covered daemon → (size found ≡ 0 → ⊥)
    → a ≡ out ++ missing_text (member daemon lost) → b ≡ a ++ name_of p.names daemon → c ≡ b ++ 32 ∷ [] → d ≡ c ++ text_of found → e ≡ d ++ 10 ∷ [] → e ≡ out ++ missing_line p covered lost daemon
missing_written p covered lost daemon found out a b c d e is some pa pb pc pd pe =
    let line : Ranks → List ℕ = λ s. missing_text (member daemon lost) ++ name_of p.names daemon ++ 32 ∷ [] ++ text_of s ++ 10 ∷ [] in
    pe ∙ ap (λ ys. ys ++ 10 ∷ []) (pd ∙ ap (λ ys. ys ++ text_of found) (pc ∙ ap (λ ys. ys ++ 32 ∷ []) (pb ∙ ap (λ ys. ys ++ name_of p.names daemon) pa)))
    ∙ regroup out (missing_text (member daemon lost)) (name_of p.names daemon) (32 ∷ []) (text_of found) (10 ∷ [])
    ∙ ap (λ b. out ++ cond b [] (line found)) (sym (some_ranks found some)) ∙ ap (λ s. out ++ cond (is_empty s) [] (line s)) is
  where
    regroup : (out a b c d e : List ℕ) → ((((out ++ a) ++ b) ++ c) ++ d) ++ e ≡ out ++ ((((a ++ b) ++ c) ++ d) ++ e)
    regroup out a b c d e = simp append_assoc

-- the line of a fault
pub fault_written : (p : Plan) (lost : List ℕ) (fault : Fault) (b : Bool) (out a d e f : List ℕ) → b ≡ member fault.node lost → a ≡ out ++ codes "fault " → d ≡ a ++ name_of p.names fault.node → e ≡ d ++ fate_text b fault → f ≡ e ++ 10 ∷ []
    → f ≡ out ++ fault_line p lost fault
fault_written p lost fault b out a d e f is pa pd pe pf =
    pf ∙ ap (λ ys. ys ++ 10 ∷ []) (pe ∙ ap (λ ys. ys ++ fate_text b fault) (pd ∙ ap (λ ys. ys ++ name_of p.names fault.node) pa))
    ∙ regroup out (codes "fault ") (name_of p.names fault.node) (fate_text b fault) (10 ∷ [])
    ∙ ap (λ b. out ++ (codes "fault " ++ name_of p.names fault.node ++ fate_text b fault ++ 10 ∷ [])) is
  where
    regroup : (out a b c d : List ℕ) → (((out ++ a) ++ b) ++ c) ++ d ≡ out ++ (a ++ b ++ c ++ d)
    regroup out a b c d = simp append_assoc

-- a tree and its classes
pub tree_written : (t : Tree) (blocks : List (Ranks × List Path)) (out a b c : List ℕ) → blocks ≡ classes_in t → a ≡ out ++ codes "tree\n" → b ≡ a ++ tree_text t → c ≡ b ++ codes "classes\n"
    → c ++ classes_text blocks ≡ out ++ tree_and_classes t (classes_in t)
tree_written t blocks out a b c is pa pb pc =
    let tree : List ℕ = tree_text t in
    ap (λ ys. ys ++ classes_text blocks) (pc ∙ ap (λ ys. ys ++ codes "classes\n") (pb ∙ ap (λ ys. ys ++ tree) pa))
    ∙ regroup out (codes "tree\n") tree (codes "classes\n") (classes_text blocks)
    ∙ ap (λ ks. out ++ tree_and_classes t ks) is
  where
    regroup : (out a b c d : List ℕ) → (((out ++ a) ++ b) ++ c) ++ d ≡ out ++ (a ++ b ++ c ++ d)
    regroup out a b c d = simp append_assoc

-- all that a release says
pub release_written : (p : Plan) (r : TreeRelease) (covered : Ranks) (lost out a b c : List ℕ) → covered ≡ r.tree.coverage → lost ≡ r.lost → a ≡ out ++ heading r → b ≡ a ++ ranks_line (codes "covered ") covered
    → c ≡ b ++ flat_map (missing_line p covered lost) (daemons p r.stream) → c ++ tree_and_classes r.tree (classes_in r.tree) ≡ out ++ release_text p r
unfolding release_text
release_written p r covered lost out a b c is_covered is_lost pa pb pc =
    let lines : Ranks → List ℕ → List ℕ = λ covered lost. flat_map (missing_line p covered lost) (daemons p r.stream) in
    let rest : List ℕ = tree_and_classes r.tree (classes_in r.tree) in
    ap (λ ys. ys ++ rest) (pc ∙ ap (λ ys. ys ++ lines covered lost) (pb ∙ ap (λ ys. ys ++ ranks_line (codes "covered ") covered) pa))
    ∙ regroup out (heading r) (ranks_line (codes "covered ") covered) (lines covered lost) rest
    ∙ (λ i. out ++ (heading r ++ ranks_line (codes "covered ") (is_covered i) ++ lines (is_covered i) (is_lost i) ++ rest))
  where
    regroup : (out a b c d : List ℕ) → (((out ++ a) ++ b) ++ c) ++ d ≡ out ++ (a ++ b ++ c ++ d)
    regroup out a b c d = simp append_assoc

-- the whole report
pub report_written : (p : Plan) (faults : List Fault) (lost : List ℕ) (ordered : List TreeRelease) (a b c d : List ℕ) → a ≡ [] → b ≡ a ++ flat_map (release_text p) ordered → c ≡ b ++ flat_map (fault_line p lost) faults → d ≡ c ++ codes "end\n" → d ≡ report_text p faults lost ordered
unfolding report_text
report_written p faults lost ordered a b c d pa pb pc pd =
    pd ∙ ap (λ ys. ys ++ codes "end\n") (pc ∙ ap (λ ys. ys ++ flat_map (fault_line p lost) faults) (pb ∙ ap (λ ys. ys ++ flat_map (release_text p) ordered) pa))
