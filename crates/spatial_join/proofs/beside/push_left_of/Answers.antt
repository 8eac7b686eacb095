use Rattle.spatial_join.proofs.BesideLemmas.{left_more, left_there_more}
use Rattle.spatial_join.proofs.beside.push_left_of.Goals as goal

pub loop-a-preserved : goal.loop-a-preserved
loop-a-preserved c =
    let f = c.args.f.now in
    let arcs = c.args.arcs.now in
    let i = c.loop-a.a-index in
    let a = c.a-item.result in
    let so_far = c.loop-a.invariant in
    record {
      found = left_more f arcs i a a c.left_of.result c.loop-a-test.true c.a-item.is c.left_of.ensures.exact c.args.owners.now c.args.found.now.items c.loop-a.found.items c.push_sets_of.new.found.items so_far.found
          c.in_ok-push_sets_of.ensures.found;
      there = left_there_more f arcs i a a c.left_of.result c.loop-a-test.true c.a-item.is c.left_of.ensures.exact c.left_of.ensures.there so_far.there;
    }
