-- Slabs of a rectangle: parts of one width along an axis, of which the first and the last take in the rest.
use Rattle.std.specs.Prelude.{◌≡◌, ℕ, zero, suc, ◌+◌, ◌*◌, ◌/◌, min, ◌<◌, ◌≤◌, leb, eqb, ℤ, pos, ◌+ℤ◌, ◌-ℤ◌, ◌≤ℤ◌, int_lt, unsigned_abs, ◌&&◌, Bool, List, ◌++◌, ◌∷◌, [], length, filter, slice_index_or, if◌then◌else◌}
use Rattle.plane_model.specs.Points.{GridPoint}
use Rattle.grid_base.specs.Grid.{Corners}
use Rattle.bucket_grid.specs.declared.tree.Axis.{Axis}
use Rattle.bucket_grid.specs.declared.tree.Axis.TheVariants.{Across, Upward}
use Rattle.bucket_grid.specs.declared.tree.Slabs.{Slabs}
use Rattle.bucket_grid.specs.Rects.{whole}

-- the number of a point along an axis
abbrev pub along : Axis → GridPoint → ℤ
along Across g = g.x
along Upward g = g.y

-- the number where slab k begins
abbrev pub start_of : Slabs → ℕ → ℤ
start_of s k = s.first +ℤ pos (k * (s.reach + 1))

-- the slab in which a number lies
abbrev pub slab_at : Slabs → ℤ → ℕ
slab_at s z = if int_lt z s.first then 0 else min (unsigned_abs (z -ℤ s.first) / (s.reach + 1)) s.last

-- the slabs begin and end within the rectangle
pub record DividesRect (rect : Corners) (s : Slabs) : Type 0 where
  pub low : along s.axis rect.low ≤ℤ s.first
  pub high : start_of s s.last ≤ℤ along s.axis rect.high

-- the part of a rectangle between two numbers along an axis
abbrev pub strip : Axis → ℤ → ℤ → Corners → Corners
strip Across low high rect = record { low = record { x = low; y = rect.low.y }; high = record { x = high; y = rect.high.y } }
strip Upward low high rect = record { low = record { x = rect.low.x; y = low }; high = record { x = rect.high.x; y = high } }

-- the least and the greatest number along the axis in the part of a rectangle that lies in slab k
abbrev pub slab_low : Slabs → ℕ → Corners → ℤ
slab_low s zero rect = along s.axis rect.low
slab_low s (suc k) rect = start_of s (suc k)

abbrev pub slab_high : Slabs → ℕ → Corners → ℤ
slab_high s k rect = if eqb k s.last then along s.axis rect.high else start_of s (k + 1) -ℤ pos 1

-- that part
abbrev pub slab_part : Slabs → ℕ → Corners → Corners
slab_part s k rect = strip s.axis (slab_low s k rect) (slab_high s k rect) rect

-- ---- boxes in slabs

-- whether a box reaches into slab k
abbrev pub reaches : Slabs → ℕ → Corners → Bool
reaches s k b = leb (slab_at s (along s.axis b.low)) k && leb k (slab_at s (along s.axis b.high))

-- each slab's list has those of some boxes that reach into it
pub record AreListed (s : Slabs) (boxes : List Corners) (ids : List ℕ) (lists : List (List ℕ)) : Type 0 where
  pub count : length lists ≡ s.last + 1
  pub each : (k : ℕ) → k ≤ s.last → slice_index_or lists k [] ≡ filter (λ i. reaches s k (slice_index_or boxes i whole)) ids

-- one more number stands in each list from one to before another
pub record IsPutInto (from end id : ℕ) (lists new_lists : List (List ℕ)) : Type 0 where
  pub count : length new_lists ≡ length lists
  pub there : (k : ℕ) → from ≤ k → k < end → slice_index_or new_lists k [] ≡ slice_index_or lists k [] ++ id ∷ []
  pub before : (k : ℕ) → k < from → slice_index_or new_lists k [] ≡ slice_index_or lists k []
  pub past : (k : ℕ) → end ≤ k → slice_index_or new_lists k [] ≡ slice_index_or lists k []
