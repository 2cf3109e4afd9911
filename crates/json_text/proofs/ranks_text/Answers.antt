use Rattle.std.proofs.Common.{◌∙◌, ◌++◌, ap, subst, sym}
use Rattle.std.specs.Str.{IsUtf8}
use Rattle.rank_set.specs.Text.{text_of}
use Rattle.json_text.proofs.Ascii.{ranks_utf8}
use Rattle.json_text.proofs.ranks_text.Goals as goal

pub from_utf8_unchecked-requires : goal.from_utf8_unchecked-requires
from_utf8_unchecked-requires c = subst IsUtf8 (sym (c.in_ok-write_text.ensures.ok ∙ ap (λ ys. ys ++ text_of c.args.ranks.now) c.new-text.ensures.items)) (ranks_utf8 c.args.ranks.now)
