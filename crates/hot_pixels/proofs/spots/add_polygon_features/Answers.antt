use Rattle.std.proofs.Common.{◌≡◌, ◌++◌, ◌∙◌, ap, subst, arith, ℕ, Some}
use Rattle.std.specs.List.{flat_map, slice_get}
use Rattle.hot_pixels.specs.Spots.{feature_spots}
use Rattle.hot_pixels.proofs.Appending.{appends_found, appends_all}
use Rattle.hot_pixels.proofs.spots.add_polygon_features.Goals as goal

pub loop-f-preserved : goal.loop-f-preserved
loop-f-preserved c =
    appends_found feature_spots (c.args.spots.now.items ++ flat_map feature_spots c.args.d.now.polygons) c.loop-f.spots.items c.add_polygons.new.spots.items c.rings_of-polygons.result.now c.args.d.now.polygons c.loop-f.f (subst (λ (n : ℕ). slice_get c.args.d.now.polygons n ≡ Some c.rings_of-polygons.result.now) c.new.ensures.made c.rings_of-polygons.ensures.found) c.loop-f.invariant
    (c.in_ok-add_polygons.ensures.added ∙ ap (λ xs. c.loop-f.spots.items ++ feature_spots xs) c.as_slice.ensures.all)

pub returns : goal.returns
returns c = record { added = let n = c.polygon_count-f-end.ensures.count in appends_all feature_spots (c.args.spots.now.items ++ flat_map feature_spots c.args.d.now.polygons) c.loop-f.spots.items c.args.d.now.polygons c.loop-f.f (omega arith) c.loop-f.invariant }
