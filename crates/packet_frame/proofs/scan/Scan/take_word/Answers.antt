use Rattle.std.proofs.Common.{rules, ◌≡◌, ◌+◌, ◌-◌, nat_eq, ◌||◌, not, true, refl, sym, ap, ◌∙◌, arith, length, [], ◌∷◌, ◌++◌, None, Some, cond, Bool, Ok}
use Rattle.std.specs.Int.{w64}
use Rattle.packet_frame.specs.declared.error.FrameReason.TheVariants.{NotCanonical}
use Rattle.packet_frame.specs.Fields.{broken, ◌>>=◌, after_field}
use Rattle.packet_frame.specs.Frame.{word_form}
use Rattle.packet_frame.specs.Scanning.{set_then, set_left, word_rule, words_left}
use Rattle.packet_frame.proofs.Binding.{take_number, takes_by}
use Rattle.packet_frame.proofs.Setting.{part_kept, with_word, word_follows, obeyed}
use Rattle.packet_frame.proofs.scan.Scan.take_word.Goals as goal

pub next_word-requires-after_bounds : goal.next_word-requires-after_bounds
next_word-requires-after_bounds g c κs within =
    let s = c.args.self.now in
    let w = c.u64_of-word.result in
    let fine : (not (nat_eq (length s.set.words.items) 0 || nat_eq (s.left - 1) 0) || not (nat_eq w 0)) ≡ true = search rules in
    let none : broken (word_rule s.set.part s.version s.cover.ranks (s.set.offset + length s.set.words.items) w) ≡ None = c.obeys.ensures ∙ ap (λ (b : Bool). cond b None (Some NotCanonical)) c.if-not-obeys.false in
    with_word s _ w c.requires.ready.0 c.requires.ready.1 refl c.in_ok-push.ensures.items refl refl (part_kept s.set.part s _ refl refl refl refl refl refl refl refl refl c.requires.ready.0.part) refl refl fine (obeyed s.set.part s.version (s.set.offset + length s.set.words.items) w s.cover.ranks none)

pub returns-clause-takes : goal.returns-clause-takes
unfolding word_form
returns-clause-takes g c =
    let s = c.args.self.now in
    let w = c.u64_of-word.result in
    let fine : (not (nat_eq (length s.set.words.items) 0 || nat_eq (s.left - 1) 0) || not (nat_eq w 0)) ≡ true = search rules in
    let none : broken (word_rule s.set.part s.version s.cover.ranks (s.set.offset + length s.set.words.items) w) ≡ None = c.obeys.ensures ∙ ap (λ (b : Bool). cond b None (Some NotCanonical)) c.if-not-obeys.false in
    let rule = word_rule s.set.part s.version s.cover.ranks in
    let index = s.set.offset + length s.set.words.items in
    let edge = nat_eq (length s.set.words.items) 0 || nat_eq (s.left - 1) 0 in
    let follows = word_follows rule (set_then s) s.set.offset s.set.words.items s.left (s.left - 1) (omega (arith, c.requires.ready.1)) in
    let taken = ap (λ form. after_field form c.args.field.now) follows
    ∙ take_number w64 (λ n. (not edge || not (nat_eq n 0), NotCanonical) ∷ rule index n) (λ w. words_left rule s.set.offset (s.set.words.items ++ w ∷ []) (s.left - 1) >>= set_then s) c.args.field.now w c.u64_of-word.ensures (ap (λ (b : Bool). cond b (broken (rule index w)) (Some NotCanonical)) fine ∙ none) in
    takes_by (set_left s) _ _ c.args.field.now c.next_word.result (taken ∙ ap (λ ws. Ok (words_left rule s.set.offset ws (s.left - 1) >>= set_then s)) (sym c.in_ok-push.ensures.items)) c.next_word.ensures.left c.next_word.ensures.err
