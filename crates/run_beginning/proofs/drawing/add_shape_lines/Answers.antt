use Rattle.std.proofs.Common.{subst, sym}
use Rattle.std.specs.Prelude.{All}
use Rattle.geojson_io.specs.Sound.{HasPoints, ShapeIsSound}
use Rattle.run_beginning.proofs.drawing.add_shape_lines.Goals as goal

pub add_lines-requires-clause-points : goal.add_lines-requires-clause-points
add_lines-requires-clause-points c = subst (All HasPoints) (sym c.into_vec.ensures.all) (subst ShapeIsSound c.in-Lines.is c.requires.sound)
