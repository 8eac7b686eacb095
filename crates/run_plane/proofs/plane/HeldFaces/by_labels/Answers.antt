use Rattle.run_plane.proofs.FacesHeld.{faces_more, no_faces}
use Rattle.run_plane.proofs.plane.HeldFaces.by_labels.Goals as goal

pub loop-number-init : goal.loop-number-init
loop-number-init c =
    let labels = c.args.labels.now in
    record {
      features = no_faces labels.holders c.args.counts.polygons c.in_ok-features.features.items c.in_ok-features.ensures.empty;
      boxes = no_faces labels.boxes c.args.counts.boxes c.in_ok-boxes.boxes.items c.in_ok-boxes.ensures.empty;
    }

pub loop-number-preserved : goal.loop-number-preserved
loop-number-preserved c =
    let labels = c.args.labels.now in
    let number = c.loop-number.number in
    let face = c.new-face in
    record {
      features = faces_more labels.holders c.args.counts.polygons number c.loop-number.features.items c.put_in_features.new.sets.items c.holders.result.now face.result
          c.loop-number.invariant.features face.ensures.made c.holders.ensures.exact c.in_ok-put_in_features.ensures.put;
      boxes = faces_more labels.boxes c.args.counts.boxes number c.loop-number.boxes.items c.put_in_boxes.new.sets.items c.boxes.result.now face.result
          c.loop-number.invariant.boxes face.ensures.made c.boxes.ensures.exact c.in_ok-put_in_boxes.ensures.put;
    }
