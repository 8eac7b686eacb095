use Rattle.std.proofs.Common.{subst, sym}
use Rattle.std.specs.Prelude.{All}
use Rattle.geojson_io.specs.Sound.{IsRing, ShapeIsSound}
use Rattle.run_beginning.proofs.drawing.add_shape_polygons.Goals as goal

pub add_polygons-requires-clause-rings : goal.add_polygons-requires-clause-rings
add_polygons-requires-clause-rings c = subst (All (All IsRing)) (sym c.into_vec.ensures.all) (subst ShapeIsSound c.in-Polygons.is c.requires.sound)
