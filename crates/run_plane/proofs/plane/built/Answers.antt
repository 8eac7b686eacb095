use Rattle.std.proofs.Common.{◌≡◌, ◌∙◌, List, ap, length, subst, sym}
use Rattle.std.specs.Prelude.{All}
use Rattle.std.specs.List.{AllZip}
use Rattle.plane_model.specs.Points.{Path}
use Rattle.plane_model.specs.Drawing.{Drawing}
use Rattle.arc_table.specs.Direction.{IsForward}
use Rattle.arc_table.specs.Order.{AreNumbered}
use Rattle.arc_table.specs.PathArcs.{AreArcsOf}
use Rattle.arc_table.specs.WholeArcs.{StartsAtLeast}
use Rattle.face_walk.specs.PathSteps.{AreAllStepsOf}
use Rattle.face_walk.specs.Places.{IsBuiltOf}
use Rattle.run_plane.specs.LineArcs.{AreLineArcs}
use Rattle.run_plane.proofs.plane.built.Goals as goal

pub returns : goal.returns
returns c =
    let s = c.args.snapped in
    let first = c.in_ok-drawn.drawn.arcs in
    let arcs = c.forget_order.new.self in
    let faces = c.in_ok-faces.faces in
    let along = c.in_ok-along.along in
    let kept : first ≡ arcs = sym c.forget_order.ensures.same in
    let same = c.in_ok-drawn.ensures.paths in
    let built : IsBuiltOf arcs faces = subst (λ (t : List Path). IsBuiltOf t faces) kept c.in_ok-faces.ensures.built in
    let steps : AreAllStepsOf arcs s along.steps = subst (λ (d : Drawing). AreAllStepsOf arcs d along.steps) same (subst (λ (t : List Path). AreAllStepsOf t c.in_ok-drawn.drawn.paths along.steps) kept c.in_ok-along.ensures.steps) in
    let features = c.in_ok-along.ensures.features ∙ ap (λ (d : Drawing). length d.polygons) same in
    let boxes = c.in_ok-along.ensures.boxes ∙ ap (λ (d : Drawing). length d.boxes) same in
    record {
      lines = subst (λ (t : List Path). AllZip (AreLineArcs t) s.lines along.lines.items) kept (subst (λ (d : Drawing). AllZip (AreLineArcs first) d.lines along.lines.items) same c.in_ok-along.ensures.lines);
      laid = record {
        paths = c.in_ok-drawn.ensures.kept;
        are_arcs = subst (λ (t : List Path). AreArcsOf s t) kept c.in_ok-drawn.ensures.exact;
        forward = subst (λ (t : List Path). All IsForward t) kept c.in_ok-drawn.ensures.forward;
        least = subst (λ (t : List Path). All (StartsAtLeast s) t) kept c.in_ok-drawn.ensures.least;
        numbered = subst (λ (t : List Path). AreNumbered s t) kept c.in_ok-drawn.ensures.numbered;
        are_faces = built;
        held = c.in_ok-held.ensures.held arcs s built steps features boxes;
      };
    }
