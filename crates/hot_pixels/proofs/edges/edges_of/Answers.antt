use Rattle.hot_pixels.proofs.EdgeLemmas.{edges_more}
use Rattle.hot_pixels.proofs.edges.edges_of.Goals as goal

pub loop-s-preserved : goal.loop-s-preserved
loop-s-preserved c = edges_more c.args.segments.now c.loop-s.edges.items c.add_edge.new.edges.items c.loop-s.s-index c.s-item.result c.loop-s-test.true c.s-item.is c.in_ok-last.ensures.ok c.loop-s.invariant
