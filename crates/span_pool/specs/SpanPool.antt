-- A pool of points, cut into spans.
use Rattle.std.specs.Prelude.{◌≡◌, ℕ, ◌+◌, ◌<◌, ◌≤◌, zero, suc, List, [], ◌∷◌, length, map, sum_by, slice_range, slice_index, slice_index_or}
use Rattle.plane_model.specs.Points.{GridPoint}

-- what a pool shows: its spans, and how many spans and points can be pushed without taking memory
pub record Pool : Type 0 where
  pub spans : List (List GridPoint)
  pub spare_spans : ℕ
  pub spare_points : ℕ

-- how many points the spans have together
abbrev pub points_held : Pool → ℕ
points_held p = sum_by (λ (span : List GridPoint). length span) p.spans

-- the spans with these numbers, in the order of the numbers
abbrev pub picked : List (List GridPoint) → List ℕ → List (List GridPoint)
picked spans ids = map (λ (i : ℕ). slice_index_or spans i []) ids

-- the spans that end at these places, the first of them begun at `from`
abbrev pub cut : {A : Type 0} → ℕ → List ℕ → List A → List (List A)
cut from [] points = []
cut from (end ∷ ends) points = slice_range points from end ∷ cut end ends points

-- where span k begins
abbrev pub begin : ℕ → List ℕ → ℕ → ℕ
begin from ends zero = from
begin from ends (suc k) = slice_index ends k

-- the ends never fall, and the last is the number of points
abbrev pub CutsUp : ℕ → List ℕ → ℕ → Type 0
CutsUp from [] n = from ≡ n
CutsUp from (end ∷ ends) n = (from ≤ end) × CutsUp end ends n

-- what is there and what is reserved have room, and their numbers are told by 32 bits
pub record HasRoom (there spare capacity : ℕ) : Type 0 where
  pub fits : there + spare ≤ capacity
  pub counted : there + spare < 4294967295
