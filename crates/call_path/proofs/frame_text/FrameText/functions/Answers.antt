use Rattle.std.proofs.Common.{◌≡◌, ◌∙◌, ◌++◌, ℕ, false, List, [], ◌∷◌, Option, None, Some, take, sym, subst, arith}
use Rattle.std.specs.Prelude.{IfOk}
use Rattle.std.specs.Option.{is_some}
use Rattle.std.proofs.lemmas.Bool.{eq-eqb, true≢false}
use Rattle.std.proofs.lemmas.List.{take_all}
use Rattle.memchr.specs.Find.{IsFirstByte, is_byte}
use Rattle.call_path.specs.Path.{path_text}
use Rattle.call_path.proofs.Functions.{HasNoMark, functions_more, unmarked_path}
use Rattle.call_path.proofs.frame_text.FrameText.functions.Goals as goal

-- a search that finds no `@`
not_found : (text : List ℕ) (found : Option ℕ) → is_some found ≡ false → IsFirstByte (is_byte 64) text found → HasNoMark text
not_found text None is nowhere = λ k lt at. nowhere k (omega arith) lt (eq-eqb _ _ at)
not_found text (Some k) is first = absurd (true≢false is)

pub returns-then-is_none : goal.returns-then-is_none
returns-then-is_none c =
    let p = c.args.self.now in
    let text : c.as_bytes.result.now ≡ path_text p = c.as_bytes.ensures.value ∙ c.text.ensures.text in
    let none : HasNoMark (path_text p) = subst HasNoMark text (not_found c.as_bytes.result.now c.memchr.result c.if-is_none.ensures c.memchr.ensures) in
    let all : take c.len.result p ≡ p = take_all c.len.result p (omega (arith, c.len.ensures.len)) in
    subst (λ q. IfOk c.first.result (λ first. first ≡ q)) (all ∙ sym (unmarked_path p none)) c.first.ensures

pub loop-i-preserved : goal.loop-i-preserved
loop-i-preserved c =
    c.in_ok-push.ensures.ok
    ∙ (λ k. c.loop-i.invariant k ++ c.function_of.ensures.function k ∷ [])
    ∙ sym (functions_more c.args.self.now c.loop-i.i c.frame.result.now c.frame.ensures.frame)
