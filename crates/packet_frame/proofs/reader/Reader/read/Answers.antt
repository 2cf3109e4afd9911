use Rattle.std.proofs.Common.{◌≡◌, ℕ, ◌+◌, ◌≤◌, ◌<◌, length, take, sym, ap, subst, ◌∙◌, arith, Ok, Err}
use Rattle.packet_frame.specs.Reading.{Fails, IsOn, refusal_at}
use Rattle.packet_frame.specs.Scanning.{field_width, Takes, left, left_at}
use Rattle.packet_frame.specs.Fields.{piece}
use Rattle.packet_frame.proofs.Steps.{goes_on, waits, fails_at}
use Rattle.packet_frame.proofs.reader.Reader.read.Goals as goal

pub returns-then-rest-width-clause-waits : goal.returns-then-rest-width-clause-waits
returns-then-rest-width-clause-waits g c =
    let r = c.args.self.now in
    let less : length c.args.bytes.now < r.at + field_width r.scan.field r.scan = omega (arith, c.if-rest-width.true, c.width-width.ensures, c.split_at.ensures.back_len) in
    λ _. waits r c.args.bytes.now c.requires less

pub returns-in-Err-Broken-clause-refused : goal.returns-in-Err-Broken-clause-refused
returns-in-Err-Broken-clause-refused g c =
    let r = c.args.self.now in
    let f = r.scan.field in
    let w = field_width f r.scan in
    let within : r.at + w ≤ length c.args.bytes.now = omega (arith, c.if-rest-width.false, c.width-width.ensures, c.split_at.ensures.back_len, c.requires.within) in
    let is : c.split_at-2.result.0.now ≡ piece c.args.bytes.now r.at w = c.split_at-2.ensures.front ∙ ap (take c.width-width.result) c.split_at.ensures.back ∙ ap (piece c.args.bytes.now r.at) c.width-width.ensures in
    let taken : Takes (left_at f r.scan) (piece c.args.bytes.now r.at w) (Err c.in-Err-Broken.field-0) (left c.take.new.self) = subst (λ res. Takes (left_at f r.scan) (piece c.args.bytes.now r.at w) res (left c.take.new.self)) c.in-Err-Broken.is (subst (λ front. Takes (left_at f r.scan) front c.take.result (left c.take.new.self)) is c.take.ensures.takes) in
    subst (λ e. Fails c.args.bytes.now (refusal_at r.at e)) c.in-Err-Broken.field-0-is (fails_at r c.args.bytes.now c.in-Err-Broken.field-0 c.take.new.self c.requires within taken)

pub returns-in-Ok-clause-on : goal.returns-in-Ok-clause-on
returns-in-Ok-clause-on g c =
    let r = c.args.self.now in
    let f = r.scan.field in
    let w = field_width f r.scan in
    let within : r.at + w ≤ length c.args.bytes.now = omega (arith, c.if-rest-width.false, c.width-width.ensures, c.split_at.ensures.back_len, c.requires.within) in
    let is : c.split_at-2.result.0.now ≡ piece c.args.bytes.now r.at w = c.split_at-2.ensures.front ∙ ap (take c.width-width.result) c.split_at.ensures.back ∙ ap (piece c.args.bytes.now r.at) c.width-width.ensures in
    let taken : Takes (left_at f r.scan) (piece c.args.bytes.now r.at w) (Ok c.in-Ok.field-0) (left c.take.new.self) = subst (λ res. Takes (left_at f r.scan) (piece c.args.bytes.now r.at w) res (left c.take.new.self)) c.in-Ok.is (subst (λ front. Takes (left_at f r.scan) front c.take.result (left c.take.new.self)) is c.take.ensures.takes) in
    subst (λ (n : ℕ). IsOn (record { at = r.at + n; scan = c.take.new.self }) c.args.bytes.now) (sym c.width-width.ensures) (goes_on r c.take.new.self c.args.bytes.now c.requires within taken c.in-Ok.ensures.ready)
