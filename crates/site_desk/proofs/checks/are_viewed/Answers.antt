use Rattle.std.proofs.Common.{◌<◌, arith}
use Rattle.site_book.specs.Book.{Known}
use Rattle.site_desk.proofs.Comparisons.{each_all}
use Rattle.site_desk.proofs.checks.are_viewed.Goals as goal

pub returns : goal.returns
returns g c = λ _. each_all (λ k (v : Known). v.site < c.args.sites) c.args.viewers.now c.loop-viewer.viewer-index (omega arith) c.loop-viewer.invariant
