use Rattle.std.proofs.Common.{◌≡◌, ℕ, ◌<◌, ◌≤◌, ◌+◌, ◌-◌, ◌++◌, List, length, get_or, take, drop, sym, ap, ◌∙◌, subst, arith}
use Rattle.smallvec.specs.SmallVec.{with_items}
use Rattle.smallvec.proofs.SmallVecLemmas.{items-with_items}
use Rattle.rank_set.specs.Words.{ranks_in}
use Rattle.rank_set.proofs.WordSets.{ranks_in-none, all_zeros}
use Rattle.rank_set.proofs.Trimming.{MakesSet, IsPart, part_words}
use Rattle.rank_set.proofs.words.trim.Goals as goal

pub returns-then-end-eq0-clause-ranks : goal.returns-then-end-eq0-clause-ranks
returns-then-end-eq0-clause-ranks c =
    ap (ranks_in 0) c.clear.ensures.items ∙ ranks_in-none 0
    ∙ sym (all_zeros c.args.offset.now c.args.words.now.items (λ j. ap (λ ws. get_or ws j 0) (sym c.as_slice-2.ensures) ∙ c.without_zeros_at_end-end.ensures.zeros j (omega (arith, c.if-end-eq0.true))))

-- what the scans tell
part_of : (ws seen seen_2 turned new : List ℕ) (front end : ℕ) → seen ≡ ws → seen_2 ≡ ws → ((j : ℕ) → j < front → get_or seen j 0 ≡ 0) → (front < length seen → 0 < get_or seen front 0)
    → end ≤ length seen_2 → ((j : ℕ) → end ≤ j → get_or seen_2 j 0 ≡ 0) → (0 < end → 0 < get_or seen_2 (end - 1) 0) → turned ≡ drop front ws ++ take front ws → new ≡ take (end - front) turned → IsPart ws new front end
part_of ws seen seen_2 turned new front end same same_2 b d e f g moved is =
    let P : List ℕ → Type 0 = λ xs. (front < length xs → 0 < get_or xs front 0) in
    let Q : List ℕ → Type 0 = λ xs. (0 < end → 0 < get_or xs (end - 1) 0) in
    record {
      within = subst (λ xs. end ≤ length xs) same_2 e;
      front_zeros = λ k lt. ap (λ xs. get_or xs k 0) (sym same) ∙ b k lt;
      end_zeros = λ k le. ap (λ xs. get_or xs k 0) (sym same_2) ∙ f k le;
      begins = subst P same d;
      stops = subst Q same_2 g;
      is = is ∙ ap (take (end - front)) moved;
    }

made : (c : goal.After-row_known-1) → MakesSet (c.args.offset.now + c.zeros_in_front-front.result) c.truncate.new.self.items (ranks_in c.args.offset.now c.args.words.now.items)
made c =
    let ws : List ℕ = c.args.words.now.items in
    let front : ℕ = c.zeros_in_front-front.result in
    let turned : List ℕ = (with_items c.args.words.now c.rotate_left.new.self).items in
    let moved : turned ≡ drop front ws ++ take front ws =
    items-with_items c.args.words.now c.rotate_left.new.self (c.rotate_left.ensures.len ∙ ap length c.as_mut_slice.ensures.value) ∙ c.rotate_left.ensures.after ∙ ap (λ xs. drop front xs ++ take front xs) c.as_mut_slice.ensures.value in
    part_words c.args.offset.now ws c.truncate.new.self.items front c.without_zeros_at_end-end.result c.requires (omega (arith, c.if-end-eq0.false))
    (part_of ws c.as_slice.result.now c.as_slice-2.result.now turned c.truncate.new.self.items front c.without_zeros_at_end-end.result c.as_slice.ensures c.as_slice-2.ensures
    c.zeros_in_front-front.ensures.zeros c.zeros_in_front-front.ensures.word c.without_zeros_at_end-end.ensures.within c.without_zeros_at_end-end.ensures.zeros c.without_zeros_at_end-end.ensures.word moved c.truncate.ensures.items)

pub returns-clause-trimmed : goal.returns-clause-trimmed
returns-clause-trimmed c = (made c).words

pub returns-clause-ranks : goal.returns-clause-ranks
returns-clause-ranks c = (made c).is
