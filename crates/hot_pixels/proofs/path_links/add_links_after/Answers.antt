use Rattle.std.proofs.Common.{◌++◌, ◌∷◌, arith}
use Rattle.hot_pixels.specs.Links.{path_links}
use Rattle.hot_pixels.proofs.PathLinkLemmas.{links_more, links_all}
use Rattle.hot_pixels.proofs.path_links.add_links_after.Goals as goal

pub loop-p-preserved : goal.loop-p-preserved
loop-p-preserved c = links_more (c.args.links.now.items ++ path_links (c.args.from ∷ c.args.rest.now)) c.loop-p.links.items c.push_link.new.links.items c.loop-p.last c.p-item.result c.args.rest.now c.loop-p.p-index (omega arith) c.p-item.is c.loop-p.invariant c.in_ok-push_link.ensures.added

pub returns : goal.returns
returns c = record { added = links_all (c.args.links.now.items ++ path_links (c.args.from ∷ c.args.rest.now)) c.loop-p.links.items c.loop-p.last c.args.rest.now c.loop-p.p-index (omega arith) c.loop-p.invariant }
