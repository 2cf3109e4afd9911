-- The one name for a function is its own one name.
use Rattle.std.proofs.Common.{◌≡◌, ◌∙◌, ◌⊎◌, inl, inr, ℕ, Bool, true, false, cond, List, ◌∷◌, ◌++◌, drop, refl, sym, ap, subst}
use Rattle.std.specs.Prelude.{Option, None, Some, ◌||◌, nat_eq, codes}
use Rattle.std.specs.List.{list_all}
use Rattle.std.specs.Option.{option_and_then}
use Rattle.std.specs.Str.{bytes_eq}
use Rattle.std.proofs.lemmas.Bool.{and_parts, false≢true}
use Rattle.std.proofs.lemmas.List.Folds.{list_all-append}
use Rattle.std.proofs.lemmas.Slice.Eq.{bytes_eq-Decides}
use Rattle.symbol_name.specs.Texts.{behind, cut_at, is_word, is_word_byte, is_one_of}
use Rattle.symbol_name.specs.Repeats.{repeat, settled}
use Rattle.symbol_name.specs.Copies.{without_mark, without_copies}
use Rattle.symbol_name.specs.Modules.{both_pass, module_parts, in_module, module_name}
use Rattle.symbol_name.specs.Mpi.{upper_follows, upper_behind, is_profiled, without_profiling, fortran_word, capitalized, in_c, c_name, mpi_name}
use Rattle.symbol_name.specs.Symbols.{signal_mark, is_signal, original_symbol, symbol}
use Rattle.symbol_name.proofs.Ends.{behind_is}
use Rattle.symbol_name.proofs.Repeating.{settled_none, settled_stays}
use Rattle.symbol_name.proofs.Shorter.{mark_shortens}
use Rattle.symbol_name.proofs.WordTexts.{AreWords, implied, all_of_both, module_words, parts_words}
use Rattle.symbol_name.proofs.NoMarks.{is_name_byte, no_marks}
use Rattle.symbol_name.proofs.Letters.{letter, no_mark_behind}
use Rattle.symbol_name.proofs.CNames.{written, c_words, c_no_low, c_no_fortran}
use Rattle.symbol_name.proofs.ModuleLetters.{no_module, no_module_behind}

-- a name without the marks of copies, that is no signal's and says no module
pub record IsPlain (name : List ℕ) : Type 0 where
  pub no_mark : without_mark name ≡ None
  pub no_signal : is_signal name ≡ false
  pub no_parts : module_parts name ≡ None

-- and that is not in the interface for profilers, nor Fortran's where that counts
pub record IsFinal (in_mpi : Bool) (name : List ℕ) : Type 0 where
  pub is_plain : IsPlain name
  pub no_profiling : is_profiled name ≡ false
  pub no_word : in_mpi ≡ true → fortran_word name ≡ None

profiling_off : (name : List ℕ) → is_profiled name ≡ false → without_profiling name ≡ name
profiling_off name e = ap (λ b. cond b (drop 1 name) name) e

mpi_stays : (in_mpi : Bool) (name : List ℕ) → is_profiled name ≡ false → (in_mpi ≡ true → fortran_word name ≡ None) → mpi_name in_mpi name ≡ name
mpi_stays false name p w = profiling_off name p
mpi_stays true name p w = ap c_name (profiling_off name p) ∙ ap (in_c name) (w refl)

-- such a name stays
final_stays : (in_mpi : Bool) (name : List ℕ) → IsFinal in_mpi name → symbol in_mpi name ≡ name
final_stays in_mpi name f =
    ap (original_symbol in_mpi) (settled_none without_mark mark_shortens name f.is_plain.no_mark)
    ∙ ap (λ b. cond b signal_mark (mpi_name in_mpi (module_name name))) f.is_plain.no_signal
    ∙ ap (λ o. mpi_name in_mpi (in_module name o)) f.is_plain.no_parts
    ∙ mpi_stays in_mpi name f.no_profiling f.no_word

word_is_name : (b : ℕ) → is_word_byte b ≡ true → is_name_byte b ≡ true
word_is_name b h = ap (λ t. t || nat_eq b 58) h

-- the name in C of a word of Fortran's is final
c_final : (in_mpi : Bool) (name word : List ℕ) → fortran_word name ≡ Some word → IsFinal in_mpi (codes "MPI_" ++ capitalized word)
c_final in_mpi name word e =
    let is = written name word e in
    record {
      is_plain = record {
        no_mark = no_marks (codes "MPI_" ++ capitalized word) (implied is_word_byte is_name_byte word_is_name (codes "MPI_" ++ capitalized word) (c_words word is));
        no_signal = refl;
        no_parts = no_module (80 ∷ 73 ∷ 95 ∷ capitalized word)
            (ap (λ o. option_and_then (both_pass is_word) (option_and_then (cut_at (codes "_mp_")) o)) (c_no_low word is));
      };
      no_profiling = refl;
      no_word = λ _. c_no_fortran word;
    }

either_true : (x y : Bool) → (x || y) ≡ true → (x ≡ true) ⊎ (y ≡ true)
either_true true y e = inl refl
either_true false y e = inr e

-- a name in the interface for profilers begins with `PM`
upper_is : (start name : List ℕ) (o : Option (List ℕ)) → behind start name ≡ o → upper_follows o ≡ true →
    (rest : List ℕ) × (name ≡ start ++ rest)
upper_is start name None e u = absurd (false≢true u)
upper_is start name (Some rest) e u = (rest, behind_is start name rest e)

profiled_is : (name : List ℕ) → is_profiled name ≡ true → (rest : List ℕ) × (name ≡ letter ∷ 77 ∷ rest)
profiled_is name e =
    elim (either_true (upper_behind (codes "PMPI_") name) (upper_behind (codes "PMPIX_") name) e) [
      | inl call ↦ (let u = upper_is (codes "PMPI_") name (behind (codes "PMPI_") name) refl call in (80 ∷ 73 ∷ 95 ∷ u.0, u.1))
      | inr extension ↦ (let u = upper_is (codes "PMPIX_") name (behind (codes "PMPIX_") name) refl extension in (80 ∷ 73 ∷ 88 ∷ 95 ∷ u.0, u.1))
    ]

-- a plain name that isn't in that interface
pub record IsCall (name : List ℕ) : Type 0 where
  pub is_plain : IsPlain name
  pub no_profiling : is_profiled name ≡ false

behind_letter : (rest : List ℕ) → IsPlain (letter ∷ 77 ∷ rest) → IsCall (77 ∷ rest)
behind_letter rest p = record {
  is_plain = record { no_mark = no_mark_behind (77 ∷ rest) p.no_mark; no_signal = refl; no_parts = no_module_behind rest p.no_parts };
  no_profiling = refl;
}

call_of : (name : List ℕ) (t : Bool) → is_profiled name ≡ t → IsPlain name → IsCall (without_profiling name)
call_of name false e p = subst IsCall (sym (profiling_off name e)) (record { is_plain = p; no_profiling = e })
call_of name true e p =
    let front = profiled_is name e in
    subst IsCall (sym (ap (λ b. cond b (drop 1 name) name) e ∙ ap (drop 1) front.1)) (behind_letter front.0 (subst IsPlain front.1 p))

-- what is made of a plain name is final
final_of : (name : List ℕ) (o : Option (List ℕ)) → fortran_word name ≡ o → IsCall name → IsFinal true (c_name name)
final_of name None e c =
    subst (IsFinal true) (sym (ap (in_c name) e)) (record { is_plain = c.is_plain; no_profiling = c.no_profiling; no_word = λ _. e })
final_of name (Some word) e c = subst (IsFinal true) (sym (ap (in_c name) e)) (c_final true name word e)

mpi_final : (in_mpi : Bool) (name : List ℕ) → IsPlain name → IsFinal in_mpi (mpi_name in_mpi name)
mpi_final false name p =
    let c = call_of name (is_profiled name) refl p in
    record { is_plain = c.is_plain; no_profiling = c.no_profiling; no_word = λ e. absurd (false≢true e) }
mpi_final true name p = final_of (without_profiling name) (fortran_word (without_profiling name)) refl (call_of name (is_profiled name) refl p)

-- the function of a module
abbrev full : List ℕ × List ℕ → List ℕ
full parts = parts.0 ++ codes "::" ++ parts.1

full_names : (parts : List ℕ × List ℕ) → AreWords parts.0 × AreWords parts.1 → list_all is_name_byte (full parts) ≡ true
full_names parts words =
    all_of_both is_name_byte (parts.0 ++ codes "::") parts.1
    (all_of_both is_name_byte parts.0 (codes "::") (implied is_word_byte is_name_byte word_is_name parts.0 words.0) refl)
    (implied is_word_byte is_name_byte word_is_name parts.1 words.1)

full_not_words : (parts : List ℕ × List ℕ) → AreWords (full parts) → ⊥
full_not_words parts w =
    let front = (and_parts _ _ (sym (list_all-append is_word_byte (parts.0 ++ codes "::") parts.1) ∙ w)).0 in
    false≢true (and_parts (list_all is_word_byte parts.0) false (sym (list_all-append is_word_byte parts.0 (codes "::")) ∙ front)).1

not_signal : (name : List ℕ) → (AreWords name → ⊥) → list_all is_name_byte name ≡ true → (t : Bool) → is_signal name ≡ t → t ≡ false
not_signal name odd names false e = refl
not_signal name odd names true e =
    elim (either_true (is_one_of (codes "__restore_rt __kernel_rt_sigreturn") name) (bytes_eq name signal_mark) e) [
      | inl one ↦ elim (either_true (bytes_eq (codes "__restore_rt") name) (bytes_eq (codes "__kernel_rt_sigreturn") name || false) one) [
        | inl first ↦ absurd (odd (ap (list_all is_word_byte) (sym ((bytes_eq-Decides (codes "__restore_rt") name).0 first))))
        | inr other ↦ elim (either_true (bytes_eq (codes "__kernel_rt_sigreturn") name) false other) [
          | inl second ↦ absurd (odd (ap (list_all is_word_byte) (sym ((bytes_eq-Decides (codes "__kernel_rt_sigreturn") name).0 second))))
          | inr none ↦ absurd (false≢true none)
        ]
      ]
      | inr mark ↦ absurd (false≢true (sym (ap (list_all is_name_byte) ((bytes_eq-Decides name signal_mark).0 mark)) ∙ names))
    ]

no_more_parts : (name : List ℕ) → (AreWords name → ⊥) → (o : Option (List ℕ × List ℕ)) → module_parts name ≡ o → o ≡ None
no_more_parts name odd None e = refl
no_more_parts name odd (Some parts) e = absurd (odd (module_words name parts e))

full_plain : (parts : List ℕ × List ℕ) → AreWords parts.0 × AreWords parts.1 → IsPlain (full parts)
full_plain parts words =
    let names = full_names parts words in
    let odd : AreWords (full parts) → ⊥ = full_not_words parts in
    record {
      no_mark = no_marks (full parts) names;
      no_signal = not_signal (full parts) odd names (is_signal (full parts)) refl;
      no_parts = no_more_parts (full parts) odd (module_parts (full parts)) refl;
    }

module_plain : (name : List ℕ) (o : Option (List ℕ × List ℕ)) → module_parts name ≡ o → without_mark name ≡ None → is_signal name ≡ false →
    IsPlain (module_name name)
module_plain name None e mark signal =
    subst IsPlain (sym (ap (in_module name) e)) (record { no_mark = mark; no_signal = signal; no_parts = e })
module_plain name (Some parts) e mark signal =
    subst IsPlain (sym (ap (in_module name) e)) (full_plain parts (parts_words name parts e))

-- the one name for a name without marks is the signal's mark, or final
final_name : (in_mpi : Bool) (name : List ℕ) → without_mark name ≡ None → (t : Bool) → is_signal name ≡ t →
    (original_symbol in_mpi name ≡ signal_mark) ⊎ IsFinal in_mpi (original_symbol in_mpi name)
final_name in_mpi name mark true e = inl (ap (λ b. cond b signal_mark (mpi_name in_mpi (module_name name))) e)
final_name in_mpi name mark false e =
    inr (subst (IsFinal in_mpi) (sym (ap (λ b. cond b signal_mark (mpi_name in_mpi (module_name name))) e))
    (mpi_final in_mpi (module_name name) (module_plain name (module_parts name) refl mark e)))

signal_stays : (in_mpi : Bool) → symbol in_mpi signal_mark ≡ signal_mark
unfolding repeat settled
signal_stays false = refl
signal_stays true = refl

pub symbol_stays : (in_mpi : Bool) (name : List ℕ) → symbol in_mpi (symbol in_mpi name) ≡ symbol in_mpi name
symbol_stays in_mpi name =
    elim (final_name in_mpi (without_copies name) (settled_stays without_mark mark_shortens name) (is_signal (without_copies name)) refl) [
      | inl mark ↦ ap (symbol in_mpi) mark ∙ signal_stays in_mpi ∙ sym mark
      | inr final ↦ final_stays in_mpi (symbol in_mpi name) final
    ]
