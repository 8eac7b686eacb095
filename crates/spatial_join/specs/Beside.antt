-- The faces beside a vertex of the drawing, and the sets that have them.
use Rattle.std.specs.Prelude.{◌≡◌, ◌↔◌, ℕ, ◌<◌, List, [], ◌∷◌, ◌++◌, All, Contains, None, slice_index_or}
use Rattle.std.specs.List.{flat_map}
use Rattle.plane_model.specs.Points.{GridPoint, Path}
use Rattle.plane_model.specs.Arcs.{SignedArc, forward}
use Rattle.arc_table.specs.Lookup.{IsArcAt, IsLeastAt}
use Rattle.face_walk.specs.Places.{FaceTable, IsFaceOver}
use Rattle.line_ops.specs.Inside.{left_of, right_of}
use Rattle.line_ops.specs.Points.{Leaves, IsNode}

-- At a node, the faces on the left of the arcs that start there. At another vertex of the arcs, the two sides of the
-- least arc there. On no arc, the face over the point.
pub record AreBeside (arcs : List Path) (faces : FaceTable) (p : GridPoint) (beside : List ℕ) : Type 0 where
  pub at_node : IsNode arcs p → (k : ℕ) → Contains beside k ↔ ((a : SignedArc) × Leaves arcs p a × (left_of faces a ≡ k))
  pub on_arc : (n : ℕ) → (IsNode arcs p → ⊥) → IsLeastAt arcs p n → beside ≡ left_of faces (forward n) ∷ right_of faces (forward n) ∷ []
  pub alone : (IsNode arcs p → ⊥) → IsArcAt arcs p None → (k : ℕ) × IsFaceOver faces p k × (beside ≡ k ∷ [])

-- ---- on the way, by the lists of the sets that have each face

-- the lists of some faces, one after the other
abbrev pub lists_of : List (List ℕ) → List ℕ → List ℕ
lists_of owners beside = flat_map (λ (k : ℕ). slice_index_or owners k []) beside

-- the sets of the faces on the left of some arcs
abbrev pub lists_left_of : List (List ℕ) → FaceTable → List SignedArc → List ℕ
lists_left_of owners faces arcs = flat_map (λ (a : SignedArc). slice_index_or owners (left_of faces a) []) arcs

-- the sets of the faces beside a vertex, appended to others
pub record AreFoundAt (arcs : List Path) (faces : FaceTable) (owners : List (List ℕ)) (p : GridPoint) (old new : List ℕ) : Type 0 where
  pub beside : List ℕ
  pub are : AreBeside arcs faces p beside
  pub there : All (λ k. k < faces.count) beside
  pub found : new ≡ old ++ lists_of owners beside
