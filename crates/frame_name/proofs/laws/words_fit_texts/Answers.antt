use Rattle.frame_name.proofs.Contains.{contained, contained_from}
use Rattle.frame_name.proofs.laws.words_fit_texts.Goals as goal

pub returns-clause-found : goal.returns-clause-found
returns-clause-found c = contained

pub returns-clause-there : goal.returns-clause-there
returns-clause-there c = contained_from
