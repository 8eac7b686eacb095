-- Rings through four corners.
use Rattle.std.specs.Prelude.{[], ◌∷◌}
use Rattle.plane_model.specs.Points.{GridPoint, Path}

-- the ring through four corners, which ends where it starts
abbrev pub ring_through : GridPoint → GridPoint → GridPoint → GridPoint → Path
ring_through first second third fourth = first ∷ second ∷ third ∷ fourth ∷ first ∷ []
