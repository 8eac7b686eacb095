use Rattle.std.proofs.Common.{◌≡◌, map, take}
use Rattle.run_texts.specs.Pictures.{points_along}
use Rattle.run_texts.proofs.pictures.lines_along.Given as goal

abbrev pub invariant-loop-path : goal.invariant-loop-path
invariant-loop-path l = l.drawn ≡ map (points_along l.arcs) (take l.path-index l.paths)
