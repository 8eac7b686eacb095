-- The plane of a snapped drawing: its arcs, its faces, and the faces that each feature and each box holds.
use Rattle.std.specs.Prelude.{◌≡◌, ◌<◌, ℕ, All, Bool, true, false, nat_eq, nat_lt, List, filter, length}
use Rattle.std.specs.List.{range_with_len}
use Rattle.lists.specs.Lists.{has, put_in_order}
use Rattle.plane_model.specs.Points.{Path}
use Rattle.plane_model.specs.Drawing.{Drawing}
use Rattle.grid_base.specs.Drawn.{HasPaths}
use Rattle.arc_table.specs.Direction.{IsForward}
use Rattle.arc_table.specs.Order.{AreNumbered}
use Rattle.arc_table.specs.PathArcs.{AreArcsOf}
use Rattle.arc_table.specs.WholeArcs.{StartsAtLeast}
use Rattle.face_walk.specs.Holders.{AreHolders, HolderTable, list_at}
use Rattle.face_walk.specs.Places.{FaceTable, IsBuiltOf}

-- the faces, below a count, whose list has n, ascending
abbrev pub held_faces : List (List ℕ) → ℕ → ℕ → List ℕ
held_faces lists count n = filter (λ (f : ℕ). has nat_eq (list_at lists f) n) (range_with_len 0 count)

-- for each of `items` items the faces whose list has it
pub record AreHeldFaces (lists : List (List ℕ)) (count items : ℕ) (sets : List (List ℕ)) : Type 0 where
  pub each : length sets ≡ items
  pub held : (n : ℕ) → n < items → list_at sets n ≡ held_faces lists count n

-- the faces that each polygon feature and each box of a snapped drawing holds
pub record AreHeld (s : Drawing) (arcs : List Path) (faces : FaceTable) (boxes features : List (List ℕ)) : Type 0 where
  pub labels : HolderTable
  pub are_holders : AreHolders arcs s faces labels
  pub of_features : AreHeldFaces labels.holders faces.count (length s.polygons) features
  pub of_boxes : AreHeldFaces labels.boxes faces.count (length s.boxes) boxes

-- the arcs and the faces of a snapped drawing, and what they hold
pub record IsLaidOut (s : Drawing) (arcs : List Path) (faces : FaceTable) (boxes features : List (List ℕ)) : Type 0 where
  pub paths : HasPaths s
  pub are_arcs : AreArcsOf s arcs
  -- an arc runs from its lesser end, or, where its ends are one, towards the lesser neighbour
  pub forward : All IsForward arcs
  -- a closed one without a node starts at its least vertex
  pub least : All (StartsAtLeast s) arcs
  -- arcs are numbered as the paths of the drawing come to them
  pub numbered : AreNumbered s arcs
  pub are_faces : IsBuiltOf arcs faces
  pub held : AreHeld s arcs faces boxes features

-- ---- one face more

-- the set with f, where it is to have it
abbrev pub put_where : Bool → ℕ → List ℕ → List ℕ
put_where true f set = put_in_order nat_lt f set
put_where false f set = set

-- f is put into the sets of these items
pub record PutsInto (items : List ℕ) (f : ℕ) (old new : List (List ℕ)) : Type 0 where
  pub each : length new ≡ length old
  pub put : (n : ℕ) → n < length old → list_at new n ≡ put_where (has nat_eq items n) f (list_at old n)
