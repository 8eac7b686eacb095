-- Which drawings stay as they are, and when one is not snapped.
use Rattle.std.specs.Prelude.{◌≡◌, ◌<◌, ℕ, length, ⊤}
use Rattle.plane_model.specs.Drawing.{Drawing}
use Rattle.plane_model.specs.Snapped.{snapped, link_count}
use Rattle.snap_round.specs.declared.fault.SnapFault.{SnapFault}
use Rattle.snap_round.specs.declared.fault.SnapFault.TheVariants.{TooDense, Memory}

-- the most links that the snapped paths of a run may have together
abbrev pub most_links : ℕ
most_links = 8000000

-- Its snapped paths have that many links, repeats counted, and these are too many; or memory ran out.
abbrev pub FaultMeans : Drawing → SnapFault → Type 0
FaultMeans d (TooDense count) = (count ≡ link_count (snapped d)) × (most_links < count)
FaultMeans d Memory = ⊤

-- no path is drawn
pub record HasPointsAlone (d : Drawing) : Type 0 where
  pub no_polygons : length d.polygons ≡ 0
  pub no_lines : length d.lines ≡ 0
  pub no_boxes : length d.boxes ≡ 0
