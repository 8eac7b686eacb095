use Rattle.region_ops.proofs.ExplodedLemmas.{exploded_more}
use Rattle.region_ops.proofs.exploded_sets.explode_sets.Goals as goal

pub loop-n-preserved : goal.loop-n-preserved
loop-n-preserved c =
    let made = c.in_ok-push_pieces.ensures in
    (made.parts, exploded_more c.args.f.now c.args.old.now c.loop-n.n c.loop-n.items c.push_pieces.new.items c.loop-n.invariant.1 made.exact)
