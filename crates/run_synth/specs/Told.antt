-- The line that is told of a made-up mosaic, by the plane that is built of it.
use Rattle.std.specs.Prelude.{◌≡◌, ℕ, ◌==◌, not, nat_lt, List, count_by, length}
use Rattle.lists.specs.Lists.{ascending, joined_up}
use Rattle.plane_model.specs.Drawing.{Drawing}
use Rattle.plane_model.specs.Points.{Path}
use Rattle.plane_model.specs.Snapped.{snapped}
use Rattle.grid_base.specs.declared.kinds.OverlapRule.TheVariants.{MaxArea}
use Rattle.face_walk.specs.Places.{FaceTable}
use Rattle.face_sets.specs.Sets.{area_of}
use Rattle.region_ops.specs.Cleaned.{IsCleaned}
use Rattle.run_plane.specs.Begun.{IsFew}
use Rattle.run_plane.specs.LaidOut.{IsLaidOut}
use Rattle.synth_model.specs.Line.{line_text}
use Rattle.run_synth.specs.declared.synth.Numbers.{Numbers}

-- how many of the sets have a face
abbrev pub filled : List (List ℕ) → ℕ
filled sets = count_by (λ (set : List ℕ). not (length set == 0)) sets

-- the faces that any of the sets has, ascending
abbrev pub all_faces : List (List ℕ) → List ℕ
all_faces sets = ascending nat_lt (joined_up sets)

-- The line of a snapped mosaic of `cells` cells: the numbers of them, of the arcs and of all faces of its plane, of the
-- cells that keep a face when each face goes to the largest of its cells, and twice the area of the faces of all cells.
pub record IsLineOf (s : Drawing) (cells : ℕ) (line : List ℕ) : Type 0 where
  pub arcs : List Path
  pub faces : FaceTable
  pub boxes : List (List ℕ)
  pub features : List (List ℕ)
  pub laid : IsLaidOut s arcs faces boxes features
  pub cleaned : List (List ℕ)
  pub are_cleaned : IsCleaned MaxArea faces.areas features cleaned
  pub is : line ≡ line_text cells (length arcs) faces.count (filled cleaned) (area_of faces.areas (all_faces features))

-- the drawing isn't too dense, and the line is told of it
pub record IsToldOf (d : Drawing) (cells : ℕ) (line : List ℕ) : Type 0 where
  pub few : IsFew d
  pub told : IsLineOf (snapped d) cells line

-- ---- on the way

-- the numbers of a mosaic of `cells` cells that have these faces of a plane
pub record AreNumbersOf (arcs : List Path) (faces : FaceTable) (features : List (List ℕ)) (cells : ℕ) (numbers : Numbers) : Type 0 where
  pub cleaned : List (List ℕ)
  pub are_cleaned : IsCleaned MaxArea faces.areas features cleaned
  pub of_cells : numbers.cells ≡ cells
  pub of_arcs : numbers.arcs ≡ length arcs
  pub of_faces : numbers.faces ≡ faces.count
  pub of_features : numbers.features ≡ filled cleaned
  pub area : numbers.twice_area ≡ area_of faces.areas (all_faces features)
