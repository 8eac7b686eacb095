-- The ends of a path.
use Rattle.std.proofs.Common.{◌≡◌, ◌-◌, ◌≤◌, [], ◌∷◌, length, get_or, ap, ◌∙◌, arith}
use Rattle.plane_model.specs.Points.{GridPoint, Path, same_point}
use Rattle.grid_base.proofs.LastLemmas.{last_is}
use Rattle.geojson_io.specs.Positions.{is_closed}

-- a path of two or more points is closed where the first is the last
pub closed_by_ends : (path : Path) (first last : GridPoint) → 2 ≤ length path → first ≡ get_or path 0 first → last ≡ get_or path (length path - 1) last → same_point first last ≡ is_closed path
closed_by_ends [] first last l f g = absurd (omega arith)
closed_by_ends (p ∷ []) first last l f g = absurd (omega arith)
closed_by_ends (p ∷ q ∷ rest) first last l f g =
    (λ i. same_point (f i) (g i)) ∙ ap (same_point p) (last_is (p ∷ q ∷ rest) last p (omega arith))
