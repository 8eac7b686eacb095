use Rattle.std.proofs.Common.{◌≡◌, ◌++◌, ◌∙◌, sym, ap, arith, length, take, map, [], ◌∷◌}
use Rattle.lists.specs.Lists.{last_of}
use Rattle.plane_model.specs.Drawing.{Drawing, Polygon}
use Rattle.plane_model.specs.Snapped.{snapped_path}
use Rattle.grid_base.specs.Drawn.{with_last, without_repeats}
use Rattle.snap_round.proofs.LastLemmas.{nothing_added_in, one_more_in, last_stays, mapped_more}
use Rattle.snap_round.proofs.paths.add_rings.Goals as goal

pub loop-ring-init : goal.loop-ring-init
loop-ring-init c = λ i. record c.args.out.now { polygons = sym (nothing_added_in c.args.out.now.polygons) i }

pub add_ring-requires-clause-polygon : goal.add_ring-requires-clause-polygon
add_ring-requires-clause-polygon c =
    let f = snapped_path c.args.hot.now.points in
    let e : length (last_of [] c.loop-ring.out.polygons) ≡ length (last_of [] c.args.out.now.polygons) =
    ap (λ (d : Drawing). length (last_of [] d.polygons)) c.loop-ring.invariant ∙ last_stays (λ (ps : Polygon). ps ++ map f (take c.loop-ring.ring-index c.args.rings.now)) c.args.out.now.polygons in
    let l = c.requires.polygon in
    omega arith

pub loop-ring-preserved : goal.loop-ring-preserved
loop-ring-preserved c =
    let f = snapped_path c.args.hot.now.points in
    let ring = c.ring-item.result in
    let done = map f (take c.loop-ring.ring-index c.args.rings.now) in
    let before = c.args.out.now in
    let snapped : without_repeats c.in_ok-joined.joined ≡ f ring = c.in_ok-joined.ensures.made.snapped ∙ ap f c.as_slice.ensures.all in
    c.in_ok-add_ring.ensures.ok
    ∙ (λ i. record (c.loop-ring.invariant i) { polygons = with_last (with_last (λ (ps : Polygon). ps ++ snapped i ∷ [])) (c.loop-ring.invariant i).polygons })
    ∙ (λ i. record before { polygons = (one_more_in (f ring) done before.polygons ∙ ap (λ (ps : Polygon). with_last (with_last (λ (qs : Polygon). qs ++ ps)) before.polygons) (mapped_more f c.args.rings.now c.loop-ring.ring-index ring (omega arith) c.ring-item.is)) i })
