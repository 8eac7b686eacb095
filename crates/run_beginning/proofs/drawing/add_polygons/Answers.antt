use Rattle.std.proofs.Common.{◌≡◌, ◌∙◌, ap, arith, rules, subst, sym, List, [], ◌∷◌, length, map}
use Rattle.std.specs.Prelude.{All, ◌<◌}
use Rattle.std.specs.Vec.Iter.{into_iter_items}
use Rattle.std.proofs.lemmas.List.{nil_from_length}
use Rattle.std.proofs.lemmas.List.Elements.{All-head, All-tail}
use Rattle.lists.specs.Lists.{last_of}
use Rattle.plane_model.specs.Drawing.{Drawing, Polygon}
use Rattle.grid_base.specs.Drawn.{add_polygon}
use Rattle.geojson_io.specs.Sound.{IsRing}
use Rattle.snap_round.specs.Paths.{with_polygons, with_rings}
use Rattle.run_beginning.specs.Drawing.{drawn_rings}
use Rattle.run_beginning.proofs.DrawingLemmas.{no_polygons, polygon_there, polygons_next, polygons_stay}
use Rattle.run_beginning.proofs.drawing.add_polygons.Goals as goal

pub add_rings-requires : goal.add_rings-requires
add_rings-requires c =
    let steps = c.in-Some.ensures.steps in
    let polygon = c.in-Some.polygon in
    let rest = into_iter_items c.next.new.self in
    let here : All IsRing polygon = All-head (All IsRing) polygon rest (subst (All (All IsRing)) steps.0 c.loop-polygon.invariant.sound) in
    record {
      polygon = subst (λ (d : Drawing). 0 < length (last_of [] d.polygons)) (sym c.in_ok-add_polygon.ensures.ok) (polygon_there c.loop-polygon.drawing c.loop-polygon.invariant.feature);
      rings = subst (All IsRing) (sym c.into_vec.ensures.all) here;
    }

pub loop-polygon-preserved : goal.loop-polygon-preserved
loop-polygon-preserved c =
    let steps = c.in-Some.ensures.steps in
    let polygon = c.in-Some.polygon in
    let rest = into_iter_items c.next.new.self in
    let before = c.loop-polygon.drawing in
    let so_far = c.loop-polygon.invariant in
    let grown : c.add_rings.new.drawing ≡ with_rings (drawn_rings polygon) (record before { polygons = add_polygon before.polygons }) =
    c.in_ok-add_rings.ensures.added ∙ (λ i. with_rings (drawn_rings (c.into_vec.ensures.all i)) (c.in_ok-add_polygon.ensures.ok i)) in
    let more = ap (with_polygons (map drawn_rings rest)) grown ∙ polygons_next before polygon rest in
    let stay : length (with_polygons (map drawn_rings rest) c.add_rings.new.drawing).polygons ≡ length c.add_rings.new.drawing.polygons = polygons_stay (map drawn_rings rest) c.add_rings.new.drawing in
    let same : length (with_polygons (map drawn_rings rest) c.add_rings.new.drawing).polygons ≡ length before.polygons =
    ap (λ (d : Drawing). length d.polygons) more ∙ polygons_stay (map drawn_rings (polygon ∷ rest)) before in
    let there = so_far.feature in
    record {
      added = more
          ∙ ap (λ (polygons : List Polygon). with_polygons (map drawn_rings polygons) before) (sym steps.0)
          ∙ so_far.added;
      feature = omega arith;
      sound = All-tail (All IsRing) polygon rest (subst (All (All IsRing)) steps.0 so_far.sound);
      count = search rules;
    }

pub returns : goal.returns
returns c =
    let left = c.loop-polygon.drawing in
    let none = nil_from_length (into_iter_items c.loop-polygon.polygon-iterator) (sym c.loop-polygon.invariant.count ∙ c.in-None.ensures.steps.0) in
    record { added = no_polygons left ∙ ap (λ (polygons : List Polygon). with_polygons (map drawn_rings polygons) left) (sym none) ∙ c.loop-polygon.invariant.added }
