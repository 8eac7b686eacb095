use Rattle.std.proofs.Common.{◌≡◌, ◌++◌, ◌∙◌, ap, subst, arith, ℕ, Some}
use Rattle.std.specs.List.{flat_map, slice_get}
use Rattle.hot_pixels.specs.Spots.{points_spots}
use Rattle.hot_pixels.proofs.Appending.{appends_found, appends_all}
use Rattle.hot_pixels.proofs.spots.add_point_features.Goals as goal

pub loop-f-preserved : goal.loop-f-preserved
loop-f-preserved c =
    appends_found points_spots (c.args.spots.now.items ++ flat_map points_spots c.args.d.now.points) c.loop-f.spots.items c.add_points.new.spots.items c.points_of-points.result.now c.args.d.now.points c.loop-f.f (subst (λ (n : ℕ). slice_get c.args.d.now.points n ≡ Some c.points_of-points.result.now) c.new.ensures.made c.points_of-points.ensures.found) c.loop-f.invariant
    (c.in_ok-add_points.ensures.added ∙ ap (λ xs. c.loop-f.spots.items ++ points_spots xs) c.as_slice.ensures.all)

pub returns : goal.returns
returns c = record { added = let n = c.point_count-f-end.ensures.count in appends_all points_spots (c.args.spots.now.items ++ flat_map points_spots c.args.d.now.points) c.loop-f.spots.items c.args.d.now.points c.loop-f.f (omega arith) c.loop-f.invariant }
