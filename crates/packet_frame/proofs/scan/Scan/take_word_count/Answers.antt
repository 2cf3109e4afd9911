use Rattle.std.proofs.Common.{◌≡◌, ◌+◌, ◌≤◌, refl, sym, ap, ◌∙◌, arith, length}
use Rattle.packet_frame.specs.Frame.{word_limit}
use Rattle.packet_frame.proofs.Setting.{no_numbers, part_kept, within_words}
use Rattle.packet_frame.proofs.scan.Scan.take_word_count.Given as given
use Rattle.packet_frame.proofs.scan.Scan.take_word_count.Goals as goal

no_offset : (g : given.Over) (c : goal.After-next_word-arg-1 g) → c.from-self.result ≡ 0 → c.args.self.now.set.offset ≡ 0
no_offset g c zero = elim c.else-self-ne0.branch [
  | goal.else-self-ne0-via-then-self-ne0+else-count-eq0 w ↦ absurd (w.if-count-eq0.false (sym c.from-self.ensures ∙ zero))
  | goal.else-self-ne0-via-else-self-ne0 w ↦ w.if-self-ne0.false
]

pub next_word-requires-after_bounds : goal.next_word-requires-after_bounds
next_word-requires-after_bounds g c κs within =
    let s = c.args.self.now in
    let none : length c.clear.new.self.items ≡ 0 = ap length c.clear.ensures.items in
    record {
      part = part_kept s.set.part s _ refl refl refl refl refl refl refl refl refl c.requires.ready;
      fits =
          let within : s.set.offset + c.u16_of-count.result ≤ word_limit s.version = omega (arith, c.from.ensures, c.from-2.ensures, c.word_limit.ensures, c.if-from-word_limit.false) in
          omega (arith, none, within_words s.version (s.set.offset + c.u16_of-count.result) within, c.from-self.ensures);
      first = λ some. absurd (omega (arith, none, some));
      last = λ _ some. absurd (omega (arith, none, some));
      nothing = λ zero _. no_offset g c zero;
      ends = λ _. no_numbers s.version s.set.offset s.cover.ranks c.clear.new.self.items c.clear.ensures.items;
    }
