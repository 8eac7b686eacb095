-- Whether a set has a face next to a point.
use Rattle.std.specs.Prelude.{◌≡◌, ◌↔◌, ℕ, ◌<◌, Bool, true, nat_eq, List, Contains, None, length}
use Rattle.std.specs.List.{list_any}
use Rattle.lists.specs.Lists.{has}
use Rattle.plane_model.specs.Points.{GridPoint, Path}
use Rattle.plane_model.specs.Arcs.{SignedArc, forward}
use Rattle.arc_table.specs.Around.{start_of}
use Rattle.arc_table.specs.Lookup.{IsArcAt, IsLeastAt}
use Rattle.face_walk.specs.Places.{FaceTable, IsFaceOver}
use Rattle.line_ops.specs.Inside.{is_inside, left_of}

-- a signed arc of the table that starts at p
pub record Leaves (arcs : List Path) (p : GridPoint) (a : SignedArc) : Type 0 where
  pub there : a.arc < length arcs
  pub start : start_of arcs a ≡ p

-- p is a node: some signed arc starts there
abbrev pub IsNode : List Path → GridPoint → Type 0
IsNode arcs p = (a : SignedArc) × Leaves arcs p a

-- At a node, a point is inside a set that has the left of an arc that starts there. At another vertex of the arcs it is
-- inside a set that has a side of the least arc there. On no arc it is inside a set that has the face over it.
pub record IsInsideAt (arcs : List Path) (faces : FaceTable) (p : GridPoint) (set : List ℕ) (inside : Bool) : Type 0 where
  pub at_node : IsNode arcs p → (inside ≡ true) ↔ ((a : SignedArc) × Leaves arcs p a × Contains set (left_of faces a))
  pub on_arc : (n : ℕ) → (IsNode arcs p → ⊥) → IsLeastAt arcs p n → inside ≡ is_inside faces set (forward n)
  pub alone : (IsNode arcs p → ⊥) → IsArcAt arcs p None → (k : ℕ) × IsFaceOver faces p k × (inside ≡ has nat_eq set k)

-- the set has the face on the left of one of the arcs
abbrev pub has_some_left : FaceTable → List ℕ → List SignedArc → Bool
has_some_left faces set arcs = list_any (λ (a : SignedArc). has nat_eq set (left_of faces a)) arcs
