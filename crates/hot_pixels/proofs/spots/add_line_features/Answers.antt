use Rattle.std.proofs.Common.{◌≡◌, ◌++◌, ◌∙◌, ap, subst, arith, ℕ, Some}
use Rattle.std.specs.List.{flat_map, slice_get}
use Rattle.hot_pixels.specs.Spots.{rings_spots}
use Rattle.hot_pixels.proofs.Appending.{appends_found, appends_all}
use Rattle.hot_pixels.proofs.spots.add_line_features.Goals as goal

pub loop-f-preserved : goal.loop-f-preserved
loop-f-preserved c =
    appends_found rings_spots (c.args.spots.now.items ++ flat_map rings_spots c.args.d.now.lines) c.loop-f.spots.items c.add_rings.new.spots.items c.lines_of-lines.result.now c.args.d.now.lines c.loop-f.f (subst (λ (n : ℕ). slice_get c.args.d.now.lines n ≡ Some c.lines_of-lines.result.now) c.new.ensures.made c.lines_of-lines.ensures.found) c.loop-f.invariant
    (c.in_ok-add_rings.ensures.added ∙ ap (λ xs. c.loop-f.spots.items ++ rings_spots xs) c.as_slice.ensures.all)

pub returns : goal.returns
returns c = record { added = let n = c.line_count-f-end.ensures.count in appends_all rings_spots (c.args.spots.now.items ++ flat_map rings_spots c.args.d.now.lines) c.loop-f.spots.items c.args.d.now.lines c.loop-f.f (omega arith) c.loop-f.invariant }
