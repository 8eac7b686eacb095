-- The links that arcs go along.
use Rattle.std.specs.Prelude.{◌≢◌, List, map, All, AllPairs, Contains}
use Rattle.plane_model.specs.Points.{Segment, Path, link_between}
use Rattle.plane_model.specs.Drawing.{steps_of_paths}

-- the link of each step of the arcs, one arc after another
abbrev pub links_of_arcs : List Path → List Segment
links_of_arcs arcs = map link_between (steps_of_paths arcs)

-- the arcs go along exactly the links of S, and along each once
pub record GoAlong (S : List Segment) (arcs : List Path) : Type 0 where
  pub once : AllPairs (λ k l. k ≢ l) (links_of_arcs arcs)
  pub all : (l : Segment) → Contains S l → Contains (links_of_arcs arcs) l
  pub others : All (Contains S) (links_of_arcs arcs)
