-- How many links the chain of a segment has.
use Rattle.std.specs.Prelude.{ℕ, ◌-◌, List, length}
use Rattle.plane_model.specs.Points.{GridPoint, Segment}
use Rattle.plane_model.specs.Hot.{chain_among}

abbrev pub links_along : List GridPoint → Segment → ℕ
links_along hot s = length (chain_among hot s) - 1
