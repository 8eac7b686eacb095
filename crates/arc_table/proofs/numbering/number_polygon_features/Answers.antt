use Rattle.std.proofs.Common.{arith, ap}
use Rattle.std.specs.List.{flat_map}
use Rattle.plane_model.specs.Drawing.{rings_of}
use Rattle.arc_table.specs.Order.{links_stepped}
use Rattle.arc_table.proofs.Order.{along_lists}
use Rattle.arc_table.proofs.Numbered.{along_all, joined_flat}
use Rattle.arc_table.proofs.numbering.number_polygon_features.Goals as goal

pub loop-f-preserved : goal.loop-f-preserved
loop-f-preserved c = (
  c.in_ok-number_polygons.ensures.numbering,
  along_lists c.args.net.now rings_of c.args.numbering.now c.loop-f.numbering c.number_polygons.new.numbering c.args.s.now.polygons c.loop-f.f c.new.result c.rings_of.result.now
      (links_stepped (flat_map (λ polygon. polygon) c.rings_of.result.now)) c.rings_of.ensures.found c.new.ensures.made (ap links_stepped (joined_flat c.rings_of.result.now))
      c.loop-f.invariant.1 c.in_ok-number_polygons.ensures.along,
)

pub returns-clause-along : goal.returns-clause-along
returns-clause-along c = along_all c.args.net.now rings_of c.args.numbering.now c.loop-f.numbering c.args.s.now.polygons c.loop-f.f (omega arith) c.loop-f.invariant.1
