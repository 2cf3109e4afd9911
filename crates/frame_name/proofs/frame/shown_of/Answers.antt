use Rattle.std.proofs.Common.{◌≡◌, cond, [], ◌++◌, List, ℕ, Bool, sym, ap, ◌∙◌, subst, Vec, Global, length, arith}
use Rattle.std.specs.Str.{IsUtf8}
use Rattle.std.proofs.lemmas.Bool.{false≢true}
use Rattle.frame_name.specs.CallViews.{call_view}
use Rattle.frame_name.specs.Calls.{CallView}
use Rattle.frame_name.specs.Names.{shown_name, name_of, function_of}
use Rattle.frame_name.specs.SourceLines.{line_of}
use Rattle.frame_name.proofs.GoodFrames.{frame_is}
use Rattle.frame_name.proofs.frame.shown_of.Goals as goal

named : (function name : List ℕ) (is_innermost : Bool) (call : CallView) → function ≡ function_of call → name ≡ shown_name function is_innermost call → name ≡ name_of is_innermost call
unfolding name_of
named function name is_innermost call e f = f ∙ ap (λ t. shown_name t is_innermost call) e

-- the text, if its name is that of the function's call
text_is : (function name bytes : List ℕ) (keeps_lines is_innermost : Bool) (call : CallView) → function ≡ function_of call → name ≡ shown_name function is_innermost call → bytes ≡ name ++ cond keeps_lines (line_of call) [] → bytes ≡ name_of is_innermost call ++ cond keeps_lines (line_of call) []
text_is function name bytes keeps_lines is_innermost call e f g = g ∙ ap (λ t. t ++ cond keeps_lines (line_of call) []) (named function name is_innermost call e f)

pub unreachable-requires : goal.unreachable-requires
unreachable-requires c =
    let call = call_view c.args.call.now in
    let e = text_is c.args.function.now c.in_ok-bytes.bytes.items c.push_kept_line.new.out.items c.args.keeps_lines c.args.is_innermost call c.requires c.in_ok-bytes.ensures c.in_ok-push_kept_line.ensures in
    false≢true (c.in-Err.ensures.succeeds (subst IsUtf8 (sym e) (frame_is c.args.keeps_lines c.args.is_innermost call).text_is.utf8))

pub returns-clause-text : goal.returns-clause-text
returns-clause-text c =
    ap (λ (v : Vec ℕ Global). v.items) c.in-Ok.ensures.ok
    ∙ text_is c.args.function.now c.in_ok-bytes.bytes.items c.push_kept_line.new.out.items c.args.keeps_lines c.args.is_innermost (call_view c.args.call.now) c.requires c.in_ok-bytes.ensures c.in_ok-push_kept_line.ensures

pub returns-clause-len : goal.returns-clause-len
returns-clause-len c =
    let e = named c.args.function.now c.in_ok-bytes.bytes.items c.args.is_innermost (call_view c.args.call.now) c.requires c.in_ok-bytes.ensures in
    let len : c.len-name_len.result ≡ length c.in_ok-bytes.bytes.items = omega (arith, c.in_ok-bytes.bytes.ok.0) in
    len ∙ ap length e
