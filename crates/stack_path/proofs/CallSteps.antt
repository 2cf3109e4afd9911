-- The frame of the outermost call that is left.
use Rattle.std.proofs.Common.{◌≡◌, ◌∙◌, Bool, List, [], ◌∷◌, ◌++◌, ap, sym, map, length}
use Rattle.std.specs.Prelude.{reverse, ◌==◌}
use Rattle.std.proofs.lemmas.List.{map-append, length-map, reverse-append, length-reverse}
use Rattle.std.proofs.Math.Dec.{eqb-suc-zero}
use Rattle.frame_name.specs.declared.call.Call.{Call}
use Rattle.frame_name.specs.Calls.{CallView}
use Rattle.frame_name.specs.CallViews.{call_view}
use Rattle.frame_name.specs.FrameRules.{RulesView, frame_of}
use Rattle.stack_path.specs.Stacks.{frames_of}

outermost : (rules : RulesView) (c : CallView) (calls : List CallView) (is_innermost : Bool) →
    is_innermost ≡ (length calls == 0) → frames_of rules (c ∷ calls) ≡ frame_of rules is_innermost c ∷ frames_of rules calls
outermost rules c [] is_innermost h = ap (λ b. frame_of rules b c ∷ []) (sym h)
outermost rules c (d ∷ calls) is_innermost h = ap (λ b. frame_of rules b c ∷ frames_of rules (d ∷ calls)) (sym (h ∙ eqb-suc-zero (length calls)))

pub outermost_view : (rules : RulesView) (calls inner : List Call) (call : Call) (is_innermost : Bool) →
    calls ≡ inner ++ call ∷ [] → is_innermost ≡ (length inner == 0) →
    frames_of rules (reverse (map call_view calls))
    ≡ frame_of rules is_innermost (call_view call) ∷ frames_of rules (reverse (map call_view inner))
outermost_view rules calls inner call is_innermost parts h =
    ap (λ cs. frames_of rules (reverse (map call_view cs))) parts
    ∙ ap (λ cs. frames_of rules (reverse cs)) (map-append call_view inner (call ∷ []))
    ∙ ap (frames_of rules) (reverse-append (map call_view inner) (call_view call ∷ []))
    ∙ outermost rules (call_view call) (reverse (map call_view inner)) is_innermost
    (h ∙ ap (λ n. n == 0) (sym (length-reverse (map call_view inner) ∙ length-map inner call_view)))
