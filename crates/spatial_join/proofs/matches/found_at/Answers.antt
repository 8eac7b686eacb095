use Rattle.spatial_join.proofs.MatchLemmas.{along_more}
use Rattle.spatial_join.proofs.matches.found_at.Goals as goal

pub loop-p-preserved : goal.loop-p-preserved
loop-p-preserved c =
    along_more c.args.t.now c.args.f.now c.args.owners.now c.args.points.now c.loop-p.p-index c.p-item.result c.p-item.result c.loop-p.found.items c.push_sets_at.new.found.items c.loop-p-test.true c.p-item.is
    c.loop-p.invariant c.in_ok-push_sets_at.ensures.found
