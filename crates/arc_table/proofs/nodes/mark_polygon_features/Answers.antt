use Rattle.std.proofs.Common.{refl}
use Rattle.std.specs.List.{flat_map}
use Rattle.arc_table.specs.Nodes.{turns_of_ring}
use Rattle.arc_table.proofs.FlatMore.{one_list_more}
use Rattle.arc_table.proofs.nodes.mark_polygon_features.Goals as goal

pub loop-f-preserved : goal.loop-f-preserved
loop-f-preserved c =
    one_list_more (λ feature. flat_map (λ polygon. flat_map turns_of_ring polygon) feature) c.args.s.now.polygons c.loop-f.f c.new.result c.rings_of.result.now c.rings_of.result.now
    c.args.turns.now.items c.loop-f.turns.items c.mark_polygons.new.turns.items c.rings_of.ensures.found c.new.ensures.made refl c.loop-f.invariant c.in_ok-mark_polygons.ensures.added
