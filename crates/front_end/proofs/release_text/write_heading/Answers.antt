use Rattle.overlay_core.specs.TreeReleases.{release_view}
use Rattle.front_end.specs.ReleaseText.{release_words}
use Rattle.front_end.proofs.Written.{heading_written}
use Rattle.front_end.proofs.release_text.write_heading.Goals as goal

pub returns : goal.returns
returns g c =
    heading_written c.args.out.now.items (release_words (release_view g.T.PrefixTree.tree c.args.release.now)) c.write_release_words.new.out.items c.push.new.self.items
    c.in_ok-write_release_words.ensures c.in_ok-push.ensures.items
