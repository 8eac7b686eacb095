-- The draws of the generator, and the line of one cell.
use Rattle.std.proofs.Common.{◌≡◌, refl, [], ◌∷◌, map, codes}
use Rattle.std.specs.Fmt.{digits}
use Rattle.region_model.specs.Answers.{plane_of}
use Rattle.synth_model.specs.Draws.{draw}
use Rattle.synth_model.specs.Cells.{cells}
use Rattle.chain_model.specs.Synth.{synth_line}
use Rattle.model_cases.specs.Counted.{counted}

six_draws : map (draw 1) (1 ∷ 2 ∷ 3 ∷ 4 ∷ 5 ∷ 6 ∷ []) ≡ 28 ∷ 18 ∷ 27 ∷ 8 ∷ 14 ∷ 10 ∷ []
six_draws = refl

-- one cell: with its two faces, the line that is printed
one_cell : synth_line (plane_of (cells 1 1)) (counted (plane_of (cells 1 1))) 1 2 ≡ codes "cells 1 arcs 1 faces 2 features 1 twice-area 44836\n"
unfolding digits
one_cell = refl
