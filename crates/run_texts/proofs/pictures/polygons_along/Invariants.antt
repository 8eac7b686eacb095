use Rattle.std.proofs.Common.{◌≡◌, map, take}
use Rattle.run_texts.specs.Pictures.{points_along}
use Rattle.run_texts.proofs.pictures.polygons_along.Given as goal

abbrev pub invariant-loop-rings : goal.invariant-loop-rings
invariant-loop-rings l = l.drawn ≡ map (map (points_along l.arcs)) (take l.rings-index l.polygons)
