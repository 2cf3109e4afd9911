-- The frame of a call is good: 1 to 1,023 plain bytes, in UTF-8.
use Rattle.std.proofs.Common.{◌≡◌, ℕ, ◌<◌, ◌≤◌, Bool, true, false, cond, List, [], ◌++◌, length, take, refl, sym, ap, ◌∙◌, subst, arith}
use Rattle.std.specs.Prelude.{◌&&◌, nat_lt, nat_le, IsTrue}
use Rattle.std.specs.List.{list_all}
use Rattle.std.proofs.lemmas.Bool.{and_from, lt-ltb, le-leb}
use Rattle.std.proofs.lemmas.List.{length-append, take_at}
use Rattle.std.proofs.lemmas.Str.{IsCharBoundary-from_take}
use Rattle.std.specs.Str.{IsUtf8}
use Rattle.call_path.specs.Good.{is_plain, is_good_frame}
use Rattle.frame_name.specs.FrameCuts.{IsFrameCut}
use Rattle.frame_name.specs.Calls.{CallView}
use Rattle.frame_name.specs.Plain.{plain}
use Rattle.frame_name.specs.Names.{name_text, function_of, name_of}
use Rattle.frame_name.specs.SourceLines.{line_of}
use Rattle.frame_name.proofs.FrameTexts.{IsFrameText, ascii_text, append_text}
use Rattle.frame_name.proofs.PlainTexts.{plain_text}
use Rattle.frame_name.proofs.ShortTexts.{within_text, within_len, within_some}
use Rattle.frame_name.proofs.SourceTexts.{IsLineText, line_text}

pub record IsName (name : List ℕ) : Type 0 where
  pub text_is : IsFrameText name
  pub not_empty : 0 < length name
  pub within_limit : length name ≤ 740

pub name_is : (is_innermost : Bool) (call : CallView) → IsName (name_of is_innermost call)
unfolding name_of
name_is is_innermost call =
    let text = plain (name_text (function_of call) is_innermost call) in
    let known = plain_text (name_text (function_of call) is_innermost call) in
    record {
      text_is = within_text 740 320 text (omega arith) known.text_is;
      not_empty = within_some 740 320 text (omega arith) known.text_is.utf8 known.not_empty;
      within_limit = within_len 740 320 text (omega arith) known.text_is.utf8;
    }

-- a name, and what is shown behind it
pub record IsFrame (name line : List ℕ) : Type 0 where
  pub name_is : IsName name
  pub text_is : IsFrameText (name ++ line)
  pub good : IsTrue (is_good_frame (name ++ line))

joined : (name line : List ℕ) → IsName name → IsLineText line → IsFrame name line
joined name line n l =
    let text = append_text name line n.text_is l.text_is in
    let len = length-append name line in
    record {
      name_is = n;
      text_is = text;
      good = and_from (nat_lt 0 (length (name ++ line))) (nat_le (length (name ++ line)) 1023 && list_all is_plain (name ++ line))
          (lt-ltb 0 (length (name ++ line)) (omega (arith, n.not_empty)))
          (and_from (nat_le (length (name ++ line)) 1023) (list_all is_plain (name ++ line))
          (le-leb (length (name ++ line)) 1023 (omega (arith, n.within_limit, l.within_limit))) text.plain);
    }

pub frame_is : (keeps_lines is_innermost : Bool) (call : CallView) → IsFrame (name_of is_innermost call) (cond keeps_lines (line_of call) [])
frame_is true is_innermost call = joined (name_of is_innermost call) (line_of call) (name_is is_innermost call) (line_text call)
frame_is false is_innermost call = joined (name_of is_innermost call) [] (name_is is_innermost call) (record { text_is = ascii_text [] refl refl; within_limit = omega arith })

-- and is held as one text
pub cut_is : (keeps_lines is_innermost : Bool) (call : CallView) (n : ℕ) (text : List ℕ) → text ≡ name_of is_innermost call ++ cond keeps_lines (line_of call) [] → n ≡ length (name_of is_innermost call) → IsFrameCut n text
cut_is keeps_lines is_innermost call n text e f =
    let name = name_of is_innermost call in
    let line = cond keeps_lines (line_of call) [] in
    let is = frame_is keeps_lines is_innermost call in
    record {
      boundary = IsCharBoundary-from_take text n (subst IsUtf8 (sym e) is.text_is.utf8)
          (omega (arith, f, ap length e, length-append name line))
          (subst IsUtf8 (sym (ap (take n) e ∙ take_at name line n (sym f))) is.name_is.text_is.utf8);
      good = subst (λ t. IsTrue (is_good_frame t)) (sym e) is.good;
    }
