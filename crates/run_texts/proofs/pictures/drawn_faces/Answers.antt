use Rattle.std.proofs.Common.{◌≡◌, ◌∙◌, ap, arith, length, map}
use Rattle.std.proofs.lemmas.Grind.{common_steps}
use Rattle.run_texts.specs.Pictures.{points_along}
use Rattle.run_texts.specs.Tracing.{AreRingsOf}
use Rattle.run_texts.proofs.Drawing.{faces_drawn}
use Rattle.run_texts.proofs.pictures.drawn_faces.Goals as goal

pub returns : goal.returns
returns c =
    let plane = c.args.plane.now in
    let set = c.args.faces.now in
    let polygons = c.in_ok-polygons.polygons in
    let found = c.in_ok-polygons.ensures in
    let some : length set ≡ 0 → ⊥ = λ none. grind (arith, common_steps) in
    let rings : AreRingsOf plane set polygons = record { boundary = found.boundary; simple = found.simple; least_first = found.least_first; in_order = found.in_order; of_parts = found.has_parts } in
    record { drawn = faces_drawn plane set polygons c.in_ok-drawn.drawn some rings (c.in_ok-drawn.ensures.exact ∙ ap (map (map (points_along plane.arcs))) c.as_slice.ensures.all) }
