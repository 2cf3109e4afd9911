-- One form after another.
use Rattle.std.proofs.Common.{◌≡◌, ℕ, suc, nat_eq, cond, true, false, Bool, List, [], ◌∷◌, Option, Some, None, Result, Ok, Err, OnOk, IfErr, refl, sym, ap, ◌∙◌}
use Rattle.std.specs.Int.{Width, byte_len, from_be_bytes}
use Rattle.rank_set.specs.Runs.{ranks_of_runs}
use Rattle.packet_frame.specs.declared.error.FrameReason.{FrameReason}
use Rattle.packet_frame.specs.declared.error.FieldError.{FieldError}
use Rattle.packet_frame.specs.declared.error.FieldError.TheVariants as errors
use Rattle.rank_set.specs.Ranks.{none, union-none}
use Rattle.packet_frame.specs.declared.error.FrameReason.TheVariants.{BadLength}
use Rattle.packet_frame.specs.declared.packet.Packet.{Packet}
use Rattle.packet_frame.specs.declared.packet.Packet.TheVariants.{Up, Done}
use Rattle.prefix_tree.specs.Tree.{Tree}
use Rattle.packet_frame.specs.Fields.{Form, whole, field, ◌>>=◌, list_form, Rules, broken, number, after_field}
use Rattle.packet_frame.specs.Frame.{sent_of, content_form, coverage_form, set_form, runs_form, run_count_form, row_count_form, tree_form, next_run, after_run, next_row, after_row, is_first, word_limit, no_rules}
use Rattle.packet_frame.specs.Scanning.{after_cover, runs_left, with_tree, Takes}
use Rattle.packet_frame.proofs.RowTrees.{all_rows}

pub bind_assoc : {A B C : Type 0} (f : Form A) (g : A → Form B) (h : B → Form C) → (f >>= g) >>= h ≡ f >>= (λ x. g x >>= h)
bind_assoc (whole a) g h = refl
bind_assoc (field width rule next) g h = λ i. field width rule (λ bytes. bind_assoc (next bytes) g h i)

pub bind_same : {A B : Type 0} (f : Form A) (g h : A → Form B) → ((x : A) → g x ≡ h x) → f >>= g ≡ f >>= h
bind_same f g h e = λ i. f >>= (λ x. e x i)

-- a list of values is the first and those behind it
pub first_and_rest : {S A B : Type 0} (form : ℕ → S → Form A) (after : S → A → S) (s : S) (left : ℕ) (k : List A → Form B) → list_form form after s (suc left) >>= k ≡ form left s >>= λ x. list_form form after (after s x) left >>= λ xs. k (x ∷ xs)
first_and_rest form after s left k =
    bind_assoc (form left s) (λ x. list_form form after (after s x) left >>= λ xs. whole (x ∷ xs)) k
    ∙ bind_same (form left s) _ _ (λ x. bind_assoc (list_form form after (after s x) left) (λ xs. whole (x ∷ xs)) k)

module _ (version kind stream wave : ℕ) (has_tree : kind ≡ 1) where
  tree_follows : content_form version kind stream wave >>= with_tree ≡ coverage_form version >>= after_cover version stream wave
  unfolding content_form tree_form
  tree_follows =
      ap (λ (n : ℕ). cond (nat_eq n 1) (tree_form version stream wave) (whole (Done stream wave)) >>= with_tree) has_tree
      ∙ bind_assoc (coverage_form version) _ with_tree
      ∙ bind_same (coverage_form version) _ _ (λ cover.
      bind_assoc row_count_form _ with_tree
      ∙ bind_same row_count_form _ _ (λ count.
      bind_assoc (list_form (next_row version cover) after_row ([], true) count) (λ rows. whole (Up stream wave (sent_of cover rows))) with_tree
      ∙ bind_same (list_form (next_row version cover) after_row ([], true) count) _ _ (λ rows. ap (λ t. whole (Up stream wave t)) (all_rows cover rows))))

  -- version 1 has a coverage of words
  pub words_follow : is_first version ≡ true → content_form version kind stream wave >>= with_tree ≡ set_form (word_limit version) (Some BadLength) no_rules >>= after_cover version stream wave
  unfolding coverage_form
  words_follow first =
      tree_follows
      ∙ ap (λ (b : Bool). cond b (set_form 256 (Some BadLength) no_rules) runs_form >>= after_cover version stream wave) first
      ∙ ap (λ (b : Bool). set_form (cond b 256 16384) (Some BadLength) no_rules >>= after_cover version stream wave) (sym first)

  -- version 2 has one of runs
  pub runs_follow : is_first version ≡ false → content_form version kind stream wave >>= with_tree ≡ run_count_form >>= runs_left version stream wave none 0
  unfolding coverage_form runs_form
  runs_follow second =
      tree_follows
      ∙ ap (λ (b : Bool). cond b (set_form 256 (Some BadLength) no_rules) runs_form >>= after_cover version stream wave) second
      ∙ bind_assoc run_count_form (λ count. list_form next_run after_run 0 count >>= λ runs. whole (ranks_of_runs runs)) (after_cover version stream wave)
      ∙ bind_same run_count_form _ _ (λ count. bind_assoc (list_form next_run after_run 0 count) (λ runs. whole (ranks_of_runs runs)) (after_cover version stream wave) ∙ bind_same (list_form next_run after_run 0 count) _ _ (λ runs. ap (after_cover version stream wave) (sym (union-none (ranks_of_runs runs)))))

-- ---- a number taken

pub take_field : {A : Type 0} (width : ℕ) (rule : List ℕ → Option FrameReason) (next : List ℕ → Form A) (bytes : List ℕ) → rule bytes ≡ None → after_field (field width rule next) bytes ≡ Ok (next bytes)
take_field width rule next bytes h = ap (λ (o : Option FrameReason). elim o as (λ _. Result (Form _) FrameReason) [
  | Some reason ↦ Err reason
  | None ↦ Ok (next bytes)
]) h

pub take_number : {A : Type 0} (w : Width) (rules : ℕ → Rules) (k : ℕ → Form A) (bytes : List ℕ) (n : ℕ) → n ≡ from_be_bytes w bytes → broken (rules n) ≡ None → after_field (number w rules >>= k) bytes ≡ Ok (k n)
take_number w rules k bytes n e h = take_field (byte_len w) (λ b. broken (rules (from_be_bytes w b))) (λ b. k (from_be_bytes w b)) bytes (ap (λ (m : ℕ). broken (rules m)) (sym e) ∙ h) ∙ ap (λ (m : ℕ). Ok (k m)) (sym e)

-- the rest is done by a call whose only error is out of memory
pub takes_by : (old mid new : Form (Packet Tree)) (bytes : List ℕ) (r : Result (Unit {0}) FieldError) → after_field old bytes ≡ Ok mid → OnOk r (mid ≡ new) → IfErr r (λ e. e ≡ errors.OutOfMemory) → Takes old bytes r new
takes_by old mid new bytes (Ok x) taken left fails = taken ∙ ap Ok left
takes_by old mid new bytes (Err (errors.Broken reason)) taken left fails = absurd cc
takes_by old mid new bytes (Err errors.OutOfMemory) taken left fails = tt

pub refuse_number : {A : Type 0} (w : Width) (rules : ℕ → Rules) (k : ℕ → Form A) (bytes : List ℕ) (n : ℕ) (reason : FrameReason) → n ≡ from_be_bytes w bytes → broken (rules n) ≡ Some reason → after_field (number w rules >>= k) bytes ≡ Err reason
refuse_number w rules k bytes n reason e h = ap (λ (o : Option FrameReason). elim o as (λ _. Result (Form _) FrameReason) [
  | Some reason ↦ Err reason
  | None ↦ Ok (k (from_be_bytes w bytes))
]) (ap (λ (m : ℕ). broken (rules m)) (sym e) ∙ h)
