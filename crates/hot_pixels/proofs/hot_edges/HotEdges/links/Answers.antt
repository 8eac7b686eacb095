use Rattle.std.proofs.Common.{rules, ◌<◌, length}
use Rattle.hot_pixels.specs.Links.{links_of_chains}
use Rattle.hot_pixels.proofs.PathLinkLemmas.{edges_more}
use Rattle.hot_pixels.proofs.hot_edges.HotEdges.links.Goals as goal

pub loop-i-preserved : goal.loop-i-preserved
loop-i-preserved c =
    let points = c.args.self.now.points in
    let edges = c.args.self.now.edges in
    let within : c.loop-i.i < length edges = search rules in
    edges_more points (links_of_chains points edges) c.loop-i.links.items c.add_links.new.links.items edges c.loop-i.i within c.loop-i.invariant c.in_ok-add_links.ensures.added
