use Rattle.std.proofs.Common.{◌≡◌, Bool, true, false, ◌&&◌, refl}
use Rattle.std.specs.List.{list_all}
use Rattle.std.specs.Str.{is_utf8}
use Rattle.std.proofs.lemmas.Str.{IsUtf8-from_is_utf8, is_utf8-from_IsUtf8}
use Rattle.std.proofs.lemmas.Bool.{false_from_ne_true}
use Rattle.call_path.specs.Good.{is_plain}
use Rattle.packet_frame.proofs.rows.name_of.Goals as goal

both : (a b : Bool) → a ≡ true → b ≡ true → (a && b) ≡ true
both true true p q = refl
both true false p q = q
both false b p q = p

second_fails : (a b : Bool) → b ≡ false → (a && b) ≡ false
second_fails true b q = q
second_fails false b q = refl

first_fails : (a b : Bool) → a ≡ false → (a && b) ≡ false
first_fails true b q = absurd cc
first_fails false b q = refl

pub returns-then-not-are_plain-clause-none : goal.returns-then-not-are_plain-clause-none
returns-then-not-are_plain-clause-none c = let h : list_all is_plain c.args.field.now ≡ false = cc in second_fails (is_utf8 c.args.field.now) _ h

pub returns-in-Ok-clause-good : goal.returns-in-Ok-clause-good
returns-in-Ok-clause-good c = let h : list_all is_plain c.args.field.now ≡ true = cc in both (is_utf8 c.args.field.now) _ (is_utf8-from_IsUtf8 _ c.in-Ok.ensures.cases.1) h

pub returns-in-Err-clause-none : goal.returns-in-Err-clause-none
returns-in-Err-clause-none c = first_fails (is_utf8 c.args.field.now) _ (false_from_ne_true _ (λ h. c.in-Err.ensures.cases.0 (IsUtf8-from_is_utf8 _ h)))
