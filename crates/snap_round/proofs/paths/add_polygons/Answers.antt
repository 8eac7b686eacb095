use Rattle.std.proofs.Common.{◌≡◌, ◌<◌, ◌++◌, ◌∙◌, sym, ap, arith, length, take, map, List, [], subst}
use Rattle.lists.specs.Lists.{last_of}
use Rattle.plane_model.specs.Drawing.{Drawing, Polygon}
use Rattle.plane_model.specs.Snapped.{snapped_path}
use Rattle.grid_base.specs.Drawn.{with_last, add_polygon}
use Rattle.snap_round.specs.Paths.{with_rings}
use Rattle.snap_round.proofs.LastLemmas.{nothing_added, new_more_in, new_there, last_length, mapped_more}
use Rattle.snap_round.proofs.paths.add_polygons.Goals as goal

pub loop-polygon-init : goal.loop-polygon-init
loop-polygon-init c = λ i. record c.args.out.now { polygons = sym (nothing_added c.args.out.now.polygons) i }

pub add_polygon-requires : goal.add_polygon-requires
add_polygon-requires c =
    let f = map (snapped_path c.args.hot.now.points) in
    let e : length c.loop-polygon.out.polygons ≡ length c.args.out.now.polygons =
    ap (λ (d : Drawing). length d.polygons) c.loop-polygon.invariant ∙ last_length (λ (ps : List Polygon). ps ++ map f (take c.loop-polygon.polygon-index c.args.polygons.now)) c.args.out.now.polygons in
    let l = c.requires.feature in
    omega arith

pub add_rings-requires-clause-polygon : goal.add_rings-requires-clause-polygon
add_rings-requires-clause-polygon c =
    let f = map (snapped_path c.args.hot.now.points) in
    let e : length c.loop-polygon.out.polygons ≡ length c.args.out.now.polygons =
    ap (λ (d : Drawing). length d.polygons) c.loop-polygon.invariant ∙ last_length (λ (ps : List Polygon). ps ++ map f (take c.loop-polygon.polygon-index c.args.polygons.now)) c.args.out.now.polygons in
    let l = c.requires.feature in
    subst (λ (d : Drawing). 0 < length (last_of [] d.polygons)) (sym c.in_ok-add_polygon.ensures.ok) (new_there [] c.loop-polygon.out.polygons (omega arith))

pub loop-polygon-preserved : goal.loop-polygon-preserved
loop-polygon-preserved c =
    let f = map (snapped_path c.args.hot.now.points) in
    let polygon = c.polygon-item.result in
    let done = map f (take c.loop-polygon.polygon-index c.args.polygons.now) in
    let before = c.args.out.now in
    c.in_ok-add_rings.ensures.ok
    ∙ (λ i. with_rings (f (c.as_slice.ensures.all i)) (c.in_ok-add_polygon.ensures.ok i))
    ∙ (λ i. with_rings (f polygon) (record (c.loop-polygon.invariant i) { polygons = add_polygon (c.loop-polygon.invariant i).polygons }))
    ∙ (λ i. record before { polygons = (new_more_in (f polygon) done before.polygons ∙ ap (λ (ps : List Polygon). with_last (λ (qs : List Polygon). qs ++ ps) before.polygons) (mapped_more f c.args.polygons.now c.loop-polygon.polygon-index polygon (omega arith) c.polygon-item.is)) i })
