use Rattle.std.proofs.Common.{◌∙◌, sym}
use Rattle.std.proofs.lemmas.Slice.Eq.{bytes_eq-Decides}
use Rattle.sample_text.proofs.Texts.{read_as}
use Rattle.sample_text.proofs.paths.Paths.is_last.Goals as goal

pub returns-in-Some : goal.returns-in-Some
returns-in-Some c = λ same.
    read_as c.args.text.now c.in-Some.last.now c.args.self.now.texts.keys c.args.self.now.paths.items c.args.self.now.last c.requires c.in-Some.ensures.key
    (sym c.as_str.ensures.value ∙ (bytes_eq-Decides _ _).0 (sym c.eq.ensures ∙ same))
