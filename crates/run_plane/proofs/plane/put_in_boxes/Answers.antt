use Rattle.std.proofs.Common.{arith, get_or}
use Rattle.std.proofs.lemmas.List.{get_or_default}
use Rattle.run_plane.proofs.FacesHeld.{puts_more, puts_none}
use Rattle.run_plane.proofs.plane.put_in_boxes.Goals as goal

pub loop-number-init : goal.loop-number-init
loop-number-init c = puts_none c.args.face c.args.sets.now.items

pub loop-number-preserved : goal.loop-number-preserved
loop-number-preserved c =
    let number = get_or c.args.boxes.now c.loop-number.number-index 0 in
    let is = get_or_default c.args.boxes.now c.loop-number.number-index 0 number (omega arith) in
    puts_more c.args.boxes.now c.args.face c.args.sets.now.items c.loop-number.sets.items c.put_face.new.sets.items c.loop-number.number-index number (omega arith) is c.loop-number.invariant c.in_ok-put_face.ensures.put
