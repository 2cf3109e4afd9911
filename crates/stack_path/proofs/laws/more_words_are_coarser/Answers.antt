use Rattle.stack_path.proofs.CutsTwice.{cut_more, cut_again, cut_by_more}
use Rattle.stack_path.proofs.laws.more_words_are_coarser.Goals as goal

pub returns-clause-more : goal.returns-clause-more
returns-clause-more c = cut_more

pub returns-clause-again : goal.returns-clause-again
returns-clause-again c = cut_again

pub returns-clause-words : goal.returns-clause-words
returns-clause-words c = cut_by_more
