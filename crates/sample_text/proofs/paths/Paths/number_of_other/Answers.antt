use Rattle.std.proofs.Common.{◌∙◌, ◌++◌, ◌∷◌, [], sym, ap, subst, arith}
use Rattle.call_path.specs.Reading.{path_of}
use Rattle.sample_text.specs.ParserViews.{AreRead}
use Rattle.sample_text.proofs.Texts.{found, path_good, read_more, inserted}
use Rattle.sample_text.proofs.paths.Paths.number_of_other.Goals as goal

pub overflow_cast-self : goal.overflow_cast-self
overflow_cast-self c =
    let lt = (found c.args.text.now c.args.self.now.texts.keys c.args.self.now.paths.items c.in-Some.number c.requires.holds c.in-Some.ensures.index).1 in
    omega (arith, lt, c.requires.within_limit)

pub returns-in-Some-clause-ok : goal.returns-in-Some-clause-ok
returns-in-Some-clause-ok c = path_good c.args.line_number c.args.text.now _ (found c.args.text.now c.args.self.now.texts.keys c.args.self.now.paths.items c.in-Some.number c.requires.holds c.in-Some.ensures.index).0

pub returns-in-Some-clause-within : goal.returns-in-Some-clause-within
returns-in-Some-clause-within c = (found c.args.text.now c.args.self.now.texts.keys c.args.self.now.paths.items c.in-Some.number c.requires.holds c.in-Some.ensures.index).1

pub returns-clause-holds : goal.returns-clause-holds
returns-clause-holds c =
    let texts = c.args.self.now.texts.keys in
    let paths = c.args.self.now.paths.items in
    let text = c.in_ok-from_str.field-0 in
    subst (AreRead c.insert_full.new.self.keys) (sym c.in_ok-push.ensures.items)
    (subst (λ ts. AreRead ts (paths ++ c.in_ok-path.path ∷ [])) (sym (c.in_ok-insert_full.ensures.keys ∙ inserted texts text c.args.text.now c.in_ok-from_str.ensures.ok (sym c.in_default.ensures.found)))
    (read_more texts paths text c.in_ok-path.path c.requires.holds (ap path_of c.in_ok-from_str.ensures.ok ∙ c.in_ok-path.ensures.path)))
