use Rattle.std.proofs.Common.{refl}
use Rattle.arc_table.specs.Nodes.{turns_of_ring}
use Rattle.arc_table.proofs.FlatMore.{one_list_more}
use Rattle.arc_table.proofs.nodes.mark_boxes.Goals as goal

pub loop-b-preserved : goal.loop-b-preserved
loop-b-preserved c =
    one_list_more turns_of_ring c.args.s.now.boxes c.loop-b.b c.loop-b.b c.box_of.result.now c.as_slice.result.now
    c.args.turns.now.items c.loop-b.turns.items c.mark_ring.new.turns.items c.box_of.ensures.found refl c.as_slice.ensures.all c.loop-b.invariant c.in_ok-mark_ring.ensures.added
