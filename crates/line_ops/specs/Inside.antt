-- Arcs by the faces at their two sides.
use Rattle.std.specs.Prelude.{ℕ, Bool, not, ◌||◌, nat_eq, List, slice_index}
use Rattle.lists.specs.Lists.{has}
use Rattle.plane_model.specs.Arcs.{SignedArc}
use Rattle.face_walk.specs.Places.{FaceTable, place_of}
use Rattle.line_ops.specs.declared.runs.Keeps.{Keeps}
use Rattle.line_ops.specs.declared.runs.Keeps.TheVariants.{Inside, Outside}

-- the face on the left of a signed arc
abbrev pub left_of : FaceTable → SignedArc → ℕ
left_of t a = slice_index t.places (place_of a)

-- the face on its right
abbrev pub right_of : FaceTable → SignedArc → ℕ
right_of t a = left_of t (record { arc = a.arc; is_reversed = not a.is_reversed })

-- the set has one of its sides
abbrev pub is_inside : FaceTable → List ℕ → SignedArc → Bool
is_inside t set a = has nat_eq set (left_of t a) || has nat_eq set (right_of t a)

abbrev pub is_outside : FaceTable → List ℕ → SignedArc → Bool
is_outside t set a = not (is_inside t set a)

-- a run takes in the arc
abbrev pub is_kept : Keeps → FaceTable → List ℕ → SignedArc → Bool
is_kept Inside t set a = is_inside t set a
is_kept Outside t set a = is_outside t set a
