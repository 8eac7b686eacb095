-- The direction of an arc: from its lesser end, or where its ends are one, towards the lesser neighbour.
use Rattle.std.specs.Prelude.{◌≡◌, ◌-◌, ℕ, pos, Bool, false, ◌&&◌, ◌||◌, if◌then◌else◌, length, reverse, slice_index_or}
use Rattle.plane_model.specs.Points.{GridPoint, Path, same_point, is_before}

-- point k of a path, with a point for a place past the end
abbrev pub point_at : Path → ℕ → GridPoint
point_at path k = slice_index_or path k (record { x = pos 0; y = pos 0 })

-- the path goes along an arc against its direction
abbrev pub is_backward : Path → Bool
is_backward path =
    let first = point_at path 0 in
    let last = point_at path (length path - 1) in
    is_before last first || (same_point last first && is_before (point_at path (length path - 2)) (point_at path 1))

-- the path, or the path reversed
abbrev pub in_direction : Path → Path
in_direction path = if is_backward path then reverse path else path

pub record IsForward (path : Path) : Type 0 where
  pub forward : is_backward path ≡ false
