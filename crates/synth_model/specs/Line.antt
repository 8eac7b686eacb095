-- The line that tells of a made-up mosaic.
use Rattle.std.specs.Prelude.{ℕ, ℤ, List, ◌++◌, codes, decimal}
use Rattle.std.specs.Fmt.{signed_decimal}

-- a name, and its number in decimal
abbrev pub named : List ℕ → ℕ → List ℕ
named name n = name ++ decimal n

-- the numbers of cells, of arcs, of faces with the outer one, of features that keep a face, and twice the area of all
-- cells together
abbrev pub line_text : ℕ → ℕ → ℕ → ℕ → ℤ → List ℕ
line_text cells arcs faces features twice_area =
    named (codes "cells ") cells ++ named (codes " arcs ") arcs ++ named (codes " faces ") faces ++ named (codes " features ") features
    ++ (codes " twice-area " ++ signed_decimal twice_area) ++ codes "\n"
