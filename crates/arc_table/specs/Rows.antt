-- Points in order as rows of equal ones: each point once, with the places of its row.
use Rattle.std.specs.Prelude.{◌≡◌, ◌+◌, ◌<◌, ◌≤◌, ℕ, true, List, All, AllPairs, Contains, length, slice_index}
use Rattle.plane_model.specs.Points.{GridPoint, is_before}
use Rattle.arc_table.specs.Direction.{point_at}

-- the places of p among points in order are those from `first` up to `stop`
pub record IsRow (points : List GridPoint) (p : GridPoint) (first stop : ℕ) : Type 0 where
  pub some : first < stop
  pub within : stop ≤ length points
  pub before : (i : ℕ) → i < first → is_before (point_at points i) p ≡ true
  pub here : (i : ℕ) → first ≤ i → i < stop → point_at points i ≡ p
  pub after : (i : ℕ) → stop ≤ i → i < length points → is_before p (point_at points i) ≡ true

-- the different points in order, and for each where its row begins, and then where the last row ends
pub record AreRows (points nodes : List GridPoint) (rows : List ℕ) : Type 0 where
  pub each : length rows ≡ length nodes + 1
  pub begins : slice_index rows 0 ≡ 0
  pub ends : length points ≤ slice_index rows (length nodes)
  pub ascending : AllPairs (λ p q. is_before p q ≡ true) nodes
  pub row : (k : ℕ) → k < length nodes → IsRow points (point_at nodes k) (slice_index rows k) (slice_index rows (k + 1))
  pub all : All (Contains nodes) points
