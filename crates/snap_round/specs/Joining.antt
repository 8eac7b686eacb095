-- Chains of a path's steps, joined end to end.
use Rattle.std.specs.Prelude.{◌≡◌, ◌≢◌, List, [], ◌∷◌, drop, Contains}
use Rattle.plane_model.specs.Points.{GridPoint, Path, Segment}
use Rattle.plane_model.specs.Hot.{chain_among}
use Rattle.plane_model.specs.Joined.{IsClosed}
use Rattle.plane_model.specs.Snapped.{snapped_path}
use Rattle.grid_base.specs.Drawn.{IsPath, without_repeats}

-- the steps from a point to the first of a path, and on
abbrev pub steps_after : GridPoint → Path → List Segment
steps_after from [] = []
steps_after from (p ∷ rest) = record { start = from; stop = p } ∷ steps_after p rest

-- the points of a segment's chain after the first
abbrev pub chain_after : List GridPoint → Segment → Path
chain_after hot s = drop 1 (chain_among hot s)

-- a path whose vertices are hot, and such a ring
pub record IsHotPath (hot : List GridPoint) (path : Path) : Type 0 where
  pub is_path : IsPath path
  pub all_hot : (p : GridPoint) → Contains path p → Contains hot p

pub record IsHotRing (hot : List GridPoint) (path : Path) : Type 0 where
  pub is_path : IsHotPath hot path
  pub closed : IsClosed path

-- the snapped path, where its equal neighbours count once
pub record AreChainsOf (hot : List GridPoint) (path joined : Path) : Type 0 where
  pub snapped : without_repeats joined ≡ snapped_path hot path
  pub some : joined ≢ []
  pub closed : IsClosed path → IsClosed joined
