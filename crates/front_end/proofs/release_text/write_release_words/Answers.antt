use Rattle.std.proofs.Common.{◌≡◌, ◌∙◌, ◌++◌, ap, subst}
use Rattle.std.specs.Prelude.{OnOk, codes}
use Rattle.std.specs.Fmt.{decimal}
use Rattle.front_end.specs.ReleaseText.{kind_text}
use Rattle.front_end.proofs.Written.{words_written}
use Rattle.front_end.proofs.release_text.write_release_words.Goals as goal

pub returns : goal.returns
returns g c =
    let r = c.args.release.now in
    let out = c.args.out.now.items in
    let stream = c.write_numbered.new.out.items in
    let wave = c.write_numbered-2.new.out.items in
    let number = c.write_numbered-3.new.out.items in
    let space = c.push.new.self.items in
    words_written out (decimal r.stream) (decimal r.wave) (decimal r.number) (kind_text r.kind) stream wave number space c.extend_from_slice.new.self.items
    (c.in_ok-write_numbered.ensures.ok ∙ ap (λ n. out ++ codes "stream " ++ decimal n) c.from.ensures)
    (c.in_ok-write_numbered-2.ensures.ok ∙ ap (λ n. stream ++ codes " wave " ++ decimal n) c.from-2.ensures)
    c.in_ok-write_numbered-3.ensures.ok c.in_ok-push.ensures.items (c.in_ok-extend_from_slice.ensures.items ∙ ap (λ ys. space ++ ys) (c.as_bytes.ensures.value ∙ c.kind_word.ensures))
