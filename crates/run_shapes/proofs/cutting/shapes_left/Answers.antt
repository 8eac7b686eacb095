use Rattle.std.proofs.Common.{◌≡◌, map, sym, subst}
use Rattle.std.proofs.lemmas.Result.{IfOk-weaker}
use Rattle.run_plane.specs.OnPlane.{AreOn}
use Rattle.run_shapes.specs.Cutting.{cut_faces}
use Rattle.run_state.specs.FaceSets.{face_shapes, sets_in}
use Rattle.run_shapes.proofs.OnPlane.{cuts_on}
use Rattle.run_shapes.proofs.cutting.shapes_left.Goals as goal

pub returns-in-Polygon-clause-on : goal.returns-in-Polygon-clause-on
returns-in-Polygon-clause-on c =
    let plane = c.args.plane.now in
    let keeps = c.args.keeps in
    let cut_set = c.args.cut_set.now in
    let shapes = c.deref.result.now in
    IfOk-weaker c.cut_polygons.result (λ left. left.items ≡ face_shapes (map (cut_faces keeps cut_set) (sets_in shapes))) (λ left. AreOn plane left.items)
    (λ left e. subst (AreOn plane) (sym e) (cuts_on plane keeps cut_set shapes (subst (AreOn plane) (sym c.deref.ensures.value) c.requires.on))) c.cut_polygons.ensures.exact
