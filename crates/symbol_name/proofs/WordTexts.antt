-- Texts of letters, digits and `_` alone: no others say a module of Fortran, or a function of MPI in Fortran.
use Rattle.std.proofs.Common.{◌≡◌, ◌∙◌, ℕ, Bool, true, false, List, [], ◌∷◌, ◌++◌, refl, sym, ap, inl, inr}
use Rattle.std.specs.Prelude.{Option, None, Some, ◌||◌, unwrap_or, nat_eq, codes}
use Rattle.std.specs.Char.{is_ascii_digit, is_ascii_uppercase, is_ascii_lowercase}
use Rattle.std.specs.List.{list_all}
use Rattle.std.specs.Option.{option_and_then, option_or}
use Rattle.std.proofs.lemmas.Bool.{and_parts, and_from}
use Rattle.std.proofs.lemmas.List.Folds.{list_all-append}
use Rattle.std.proofs.lemmas.Option.{option_and_then_some, same_Some}
use Rattle.symbol_name.specs.Texts.{behind, before, cut_at, is_word_byte, is_word}
use Rattle.symbol_name.specs.Modules.{is_lower_byte, is_lower, both_pass, gfortran_parts, ifort_parts, flang_parts, module_parts}
use Rattle.symbol_name.specs.Mpi.{is_lower_word, is_upper_byte, is_upper_word, kept, before_f08, without_f08, without_underscores, mangled_word, tail_word, open_mpi_word, capital_word, plain_word, fortran_word}
use Rattle.symbol_name.proofs.Ends.{let_through, passed, behind_is, before_is, cut_is}
use Rattle.symbol_name.proofs.Shorter.{either_some}

abbrev pub AreWords : List ℕ → Type 0
AreWords text = list_all is_word_byte text ≡ true

-- bytes that pass one test pass another
pub implied : (p q : ℕ → Bool) → ((b : ℕ) → p b ≡ true → q b ≡ true) → (text : List ℕ) → list_all p text ≡ true → list_all q text ≡ true
implied p q h [] e = refl
implied p q h (b ∷ text) e =
    let parts = and_parts (p b) (list_all p text) e in and_from _ _ (h b parts.0) (implied p q h text parts.1)

pub all_of_both : (p : ℕ → Bool) (front end : List ℕ) → list_all p front ≡ true → list_all p end ≡ true → list_all p (front ++ end) ≡ true
all_of_both p front end f e = list_all-append p front end ∙ and_from _ _ f e

words_behind : (start text rest : List ℕ) → AreWords start → behind start text ≡ Some rest → AreWords rest → AreWords text
words_behind start text rest s e w = ap (list_all is_word_byte) (behind_is start text rest e) ∙ all_of_both is_word_byte start rest s w

words_before : (end text left : List ℕ) → AreWords end → before end text ≡ Some left → AreWords left → AreWords text
words_before end text left s e w = ap (list_all is_word_byte) (before_is end text left e) ∙ all_of_both is_word_byte left end w s

words_cut : (part text : List ℕ) (cut : List ℕ × List ℕ) → AreWords part → cut_at part text ≡ Some cut → AreWords cut.0 → AreWords cut.1 → AreWords text
words_cut part text cut s e a b =
    ap (list_all is_word_byte) (cut_is part text cut.0 cut.1 e)
    ∙ all_of_both is_word_byte cut.0 (part ++ cut.1) a (all_of_both is_word_byte part cut.1 s b)

-- other bytes of names
upper_first : (u d l e : Bool) → (u || d || e) ≡ true → (d || u || l || e) ≡ true
upper_first true true l e h = refl
upper_first true false l e h = refl
upper_first false true l e h = refl
upper_first false false true e h = refl
upper_first false false false e h = h

upper_is_word : (b : ℕ) → is_upper_byte b ≡ true → is_word_byte b ≡ true
upper_is_word b h = upper_first (is_ascii_uppercase b) (is_ascii_digit b) (is_ascii_lowercase b) (nat_eq b 95) h

lower_first : (l d u e : Bool) → (l || d || e) ≡ true → (d || u || l || e) ≡ true
lower_first true true u e h = refl
lower_first true false true e h = refl
lower_first true false false e h = refl
lower_first false true u e h = refl
lower_first false false true e h = refl
lower_first false false false e h = h

lower_is_word : (b : ℕ) → is_lower_byte b ≡ true → is_word_byte b ≡ true
lower_is_word b h = lower_first (is_ascii_lowercase b) (is_ascii_digit b) (is_ascii_uppercase b) (nat_eq b 95) h

-- modules
both_words : (passes : List ℕ → Bool) → ((text : List ℕ) → passes text ≡ true → AreWords text) → (cut parts : List ℕ × List ℕ) →
    both_pass passes cut ≡ Some parts → AreWords cut.0 × AreWords cut.1
both_words passes words cut parts e =
    let two = and_parts (passes cut.0) (passes cut.1) (passed _ _ parts e) in (words cut.0 two.0, words cut.1 two.1)

pub word_words : (text : List ℕ) → is_word text ≡ true → AreWords text
word_words text e = (and_parts _ _ e).1

lower_words : (text : List ℕ) → is_lower text ≡ true → AreWords text
lower_words text e = implied is_lower_byte is_word_byte lower_is_word text (and_parts _ _ e).1

gfortran_words : (name : List ℕ) (parts : List ℕ × List ℕ) → gfortran_parts name ≡ Some parts → AreWords name
gfortran_words name parts e =
    option_and_then_some (both_pass is_word) _ parts e (λ cut is pass.
    option_and_then_some (cut_at (codes "_MOD_")) _ cut is (λ rest begins cuts.
    let two = both_words is_word word_words cut parts pass in
    words_behind (codes "__") name rest refl begins (words_cut (codes "_MOD_") rest cut refl cuts two.0 two.1)))

ifort_words : (name : List ℕ) (parts : List ℕ × List ℕ) → ifort_parts name ≡ Some parts → AreWords name
ifort_words name parts e =
    option_and_then_some (both_pass is_word) _ parts e (λ cut is pass.
    option_and_then_some (cut_at (codes "_mp_")) _ cut is (λ rest ends cuts.
    let two = both_words is_word word_words cut parts pass in
    words_before (codes "_") name rest refl ends (words_cut (codes "_mp_") rest cut refl cuts two.0 two.1)))

flang_words : (name : List ℕ) (parts : List ℕ × List ℕ) → flang_parts name ≡ Some parts → AreWords name
flang_words name parts e =
    option_and_then_some (both_pass is_lower) _ parts e (λ cut is pass.
    option_and_then_some (cut_at (codes "P")) _ cut is (λ rest begins cuts.
    let two = both_words is_lower lower_words cut parts pass in
    words_behind (codes "_QM") name rest refl begins (words_cut (codes "P") rest cut refl cuts two.0 two.1)))

pub module_words : (name : List ℕ) (parts : List ℕ × List ℕ) → module_parts name ≡ Some parts → AreWords name
module_words name parts e =
    elim (either_some _ _ parts e) [
      | inl gfortran ↦ gfortran_words name parts gfortran
      | inr other ↦ elim (either_some _ _ parts other) [
        | inl ifort ↦ ifort_words name parts ifort
        | inr flang ↦ flang_words name parts flang
      ]
    ]

-- what both parts of a module's name are
both_parts : (passes : List ℕ → Bool) → ((text : List ℕ) → passes text ≡ true → AreWords text) → (cut parts : List ℕ × List ℕ) →
    both_pass passes cut ≡ Some parts → AreWords parts.0 × AreWords parts.1
both_parts passes words cut parts e =
    let same : cut ≡ parts = same_Some cut parts (let_through _ _ parts e) in
    let two = both_words passes words cut parts e in
    (ap (λ p. list_all is_word_byte p.0) (sym same) ∙ two.0, ap (λ p. list_all is_word_byte p.1) (sym same) ∙ two.1)

gfortran_both : (name : List ℕ) (parts : List ℕ × List ℕ) → gfortran_parts name ≡ Some parts → AreWords parts.0 × AreWords parts.1
gfortran_both name parts e =
    option_and_then_some (both_pass is_word) (option_and_then (cut_at (codes "_MOD_")) (behind (codes "__") name)) parts e
    (λ cut is pass. both_parts is_word word_words cut parts pass)

ifort_both : (name : List ℕ) (parts : List ℕ × List ℕ) → ifort_parts name ≡ Some parts → AreWords parts.0 × AreWords parts.1
ifort_both name parts e =
    option_and_then_some (both_pass is_word) (option_and_then (cut_at (codes "_mp_")) (before (codes "_") name)) parts e
    (λ cut is pass. both_parts is_word word_words cut parts pass)

flang_both : (name : List ℕ) (parts : List ℕ × List ℕ) → flang_parts name ≡ Some parts → AreWords parts.0 × AreWords parts.1
flang_both name parts e =
    option_and_then_some (both_pass is_lower) (option_and_then (cut_at (codes "P")) (behind (codes "_QM") name)) parts e
    (λ cut is pass. both_parts is_lower lower_words cut parts pass)

pub parts_words : (name : List ℕ) (parts : List ℕ × List ℕ) → module_parts name ≡ Some parts → AreWords parts.0 × AreWords parts.1
parts_words name parts e =
    elim (either_some (gfortran_parts name) (option_or (ifort_parts name) (flang_parts name)) parts e) [
      | inl gfortran ↦ gfortran_both name parts gfortran
      | inr other ↦ elim (either_some (ifort_parts name) (flang_parts name) parts other) [
        | inl ifort ↦ ifort_both name parts ifort
        | inr flang ↦ flang_both name parts flang
      ]
    ]

-- functions of MPI
pub small_words : (word : List ℕ) → is_lower_word word ≡ true → AreWords word
small_words word e = (and_parts _ _ (and_parts _ _ e).0).1

pub capital_words : (word : List ℕ) → is_upper_word word ≡ true → AreWords word
capital_words word e = implied is_upper_byte is_word_byte upper_is_word word (and_parts _ _ (and_parts _ _ e).0).1

unwrapped : (name : List ℕ) (o : Option (List ℕ)) → ((left : List ℕ) → o ≡ Some left → AreWords left → AreWords name) →
    AreWords (unwrap_or o name) → AreWords name
unwrapped name None h w = w
unwrapped name (Some left) h w = h left refl w

lows_words : (name : List ℕ) → AreWords (without_underscores name) → AreWords name
lows_words name w =
    unwrapped name (option_or (before (codes "__") name) (before (codes "_") name)) (λ left e v.
    elim (either_some _ _ left e) [
      | inl two ↦ words_before (codes "__") name left refl two v
      | inr one ↦ words_before (codes "_") name left refl one v
    ]) w

-- the mark of `mpi_f08` that a name ends with
pub record EndsBehind (name left : List ℕ) : Type 0 where
  pub end : List ℕ
  pub words : AreWords end
  pub ends : before end name ≡ Some left

ends_behind : (name left end : List ℕ) → AreWords end → before end name ≡ Some left → EndsBehind name left
ends_behind name left end w e = record { end = end; words = w; ends = e }

pub f08_end : (name left : List ℕ) → before_f08 name ≡ Some left → EndsBehind name left
f08_end name left e =
    elim (either_some (before (codes "_f08") name) _ left e) [
      | inl a ↦ ends_behind name left (codes "_f08") refl a
      | inr rest ↦ elim (either_some (before (codes "_f08_") name) _ left rest) [
        | inl b ↦ ends_behind name left (codes "_f08_") refl b
        | inr more ↦ elim (either_some (before (codes "_f08ts") name) _ left more) [
          | inl c ↦ ends_behind name left (codes "_f08ts") refl c
          | inr d ↦ ends_behind name left (codes "_f08ts_") refl d
        ]
      ]
    ]

f08_words : (name : List ℕ) → AreWords (without_f08 name) → AreWords name
f08_words name w =
    unwrapped name (before_f08 name) (λ left e v.
    let cut = f08_end name left e in words_before cut.end name left cut.words cut.ends v) w

mangled_words : (name word : List ℕ) → mangled_word name ≡ Some word → AreWords name
mangled_words name word e =
    option_and_then_some (λ rest. kept is_lower_word (without_underscores rest)) _ word e (λ rest is keeps.
    let w = lows_words rest (small_words (without_underscores rest) (passed _ _ word keeps)) in
    elim (either_some _ _ rest is) [
      | inl mpi ↦ words_behind (codes "mpi_") name rest refl mpi w
      | inr pmpi ↦ words_behind (codes "pmpi_") name rest refl pmpi w
    ])

tail_words : (name word : List ℕ) → tail_word name ≡ Some word → AreWords name
tail_words name word e =
    option_and_then_some (kept is_lower_word) _ word e (λ rest is keeps.
    words_behind (codes "ompi_mpi_") name rest refl is (small_words rest (passed _ _ word keeps)))

open_mpi_words : (name word : List ℕ) → open_mpi_word name ≡ Some word → AreWords name
open_mpi_words name word e =
    option_and_then_some (kept is_lower_word) _ word e (λ left is keeps.
    option_and_then_some (before (codes "_f")) _ left is (λ rest begins ends.
    words_behind (codes "ompi_") name rest refl begins
    (words_before (codes "_f") rest left refl ends (small_words left (passed _ _ word keeps)))))

capital_word_words : (name word : List ℕ) → capital_word name ≡ Some word → AreWords name
capital_word_words name word e =
    option_and_then_some (kept is_upper_word) _ word e (λ rest is keeps.
    words_behind (codes "MPI_") name rest refl is (capital_words rest (passed _ _ word keeps)))

plain_words : (name word : List ℕ) → plain_word name ≡ Some word → AreWords name
plain_words name word e =
    elim (either_some _ _ word e) [
      | inl mangled ↦ mangled_words name word mangled
      | inr other ↦ elim (either_some _ _ word other) [
        | inl tail ↦ tail_words name word tail
        | inr more ↦ elim (either_some _ _ word more) [
          | inl open_mpi ↦ open_mpi_words name word open_mpi
          | inr capital ↦ capital_word_words name word capital
        ]
      ]
    ]

pub fortran_words : (name word : List ℕ) → fortran_word name ≡ Some word → AreWords name
fortran_words name word e = f08_words name (plain_words (without_f08 name) word e)
