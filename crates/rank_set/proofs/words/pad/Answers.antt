use Rattle.std.proofs.Common.{◌≡◌, ◌≤◌, ◌+◌, ◌-◌, ◌++◌, ℕ, List, length, replicate, ap, sym, ◌∙◌, append_assoc, arith}
use Rattle.std.proofs.lemmas.Bool.{true≢false}
use Rattle.std.proofs.lemmas.List.{append-nil, length-append, length-replicate, replicate-append-replicate}
use Rattle.rank_set.proofs.words.pad.Goals as goal

-- words that are the same have no zeros more
none_more : (xs ys : List ℕ) → ys ≡ xs → ys ≡ xs ++ replicate (length ys - length xs) 0
none_more xs ys is = is ∙ sym (append-nil xs) ∙ ap (λ n. xs ++ replicate n 0) (let e : 0 ≡ length ys - length xs = omega (arith, ap length is) in e)

-- some zeros more
some_more : (xs ys zs : List ℕ) (count : ℕ) → length xs ≤ length ys → ys ≡ xs ++ replicate (length ys - length xs) 0 → zs ≡ ys ++ replicate count 0
    → (length zs ≡ length ys + count) × (zs ≡ xs ++ replicate (length zs - length xs) 0)
some_more xs ys zs count longer is_ys is_zs =
    let long : length zs ≡ length ys + count = omega (arith, ap length is_zs, length-append ys (replicate count 0), length-replicate {A = ℕ} count 0) in (
      long,
      is_zs ∙ ap (λ ws. ws ++ replicate count 0) is_ys ∙ append_assoc xs (replicate (length ys - length xs) 0) (replicate count 0)
          ∙ ap (λ ws. xs ++ ws) (replicate-append-replicate (length ys - length xs) count 0) ∙ ap (λ n. xs ++ replicate n 0) (let e : length ys - length xs + count ≡ length zs - length xs = omega (arith, long, longer) in e),
    )

pub loop-words-init : goal.loop-words-init
loop-words-init c =
    let same = c.in_ok-reserve.ensures.items in
    record {
      room = omega (arith, c.in_ok-reserve.ensures.ok, c.requires, ap length same, c.len.ensures.value);
      longer = omega (arith, ap length same);
      within = omega (arith, c.requires, ap length same);
      items = none_more c.args.words.now.items c.reserve.new.self.items same;
    }

pub unreachable-requires : goal.unreachable-requires
unreachable-requires c =
    let h = c.loop-words.invariant in
    true≢false (sym (c.in_default.ensures.succeeds (omega (arith, c.loop-words-test.true, c.len-in-loop-words.ensures.value, h.room, h.within))))

pub loop-words-preserved : goal.loop-words-preserved
loop-words-preserved c =
    let h = c.loop-words.invariant in
    let more = some_more c.args.words.now.items c.loop-words.words.items c.extend_from_slice.new.self.items 16 h.longer h.items c.in-Ok.ensures.ok in
    record {
      room = omega (arith, h.room, c.in-Ok.ensures.capacity);
      longer = omega (arith, h.longer, more.0);
      within = omega (arith, more.0, c.loop-words-test.true, c.len-in-loop-words.ensures.value, h.within);
      items = more.1;
    }

pub loop-words-2-preserved : goal.loop-words-2-preserved
loop-words-2-preserved c =
    let h = c.loop-words-2.invariant in
    let more = some_more c.args.words.now.items c.loop-words-2.words.items c.push_reserved.new.self.items 1 h.longer h.items c.push_reserved.ensures.items in
    record {
      room = omega (arith, h.room, c.push_reserved.ensures.capacity);
      longer = omega (arith, h.longer, more.0);
      within = omega (arith, more.0, c.loop-words-2-test.true, c.len-in-loop-words-2.ensures.value);
      items = more.1;
    }
