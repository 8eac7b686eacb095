-- Arcs between different sets of a list, with the least set at each side.
use Rattle.std.specs.Prelude.{ℕ, Bool, true, false, ◌&&◌, if◌then◌else◌, nat_eq, List, Option, Some, None, is_some, filter_map, slice_get}
use Rattle.std.specs.List.{range_with_len}
use Rattle.lists.specs.Lists.{same_list}
use Rattle.face_walk.specs.Places.{FaceTable}
use Rattle.face_sets.specs.Owners.{owners_of}
use Rattle.line_ops.specs.Inside.{left_of}
use Rattle.line_ops.specs.declared.sides.SidedArc.{SidedArc}

-- the sets that have the left side of an arc, and those that have the right side
abbrev pub left_sets : FaceTable → List (List ℕ) → ℕ → List ℕ
left_sets t sets a = owners_of sets (left_of t (record { arc = a; is_reversed = false }))

abbrev pub right_sets : FaceTable → List (List ℕ) → ℕ → List ℕ
right_sets t sets a = owners_of sets (left_of t (record { arc = a; is_reversed = true }))

-- the arc with the first, and so the least, of each, where they differ
abbrev pub sided : FaceTable → List (List ℕ) → ℕ → Option SidedArc
sided t sets a =
    if same_list nat_eq (left_sets t sets a) (right_sets t sets a) then None
    else Some (record { arc = a; left = slice_get (left_sets t sets a) 0; right = slice_get (right_sets t sets a) 0 })

-- the sided arcs among the first `count` arcs, in order
abbrev pub sided_among : FaceTable → List (List ℕ) → ℕ → List SidedArc
sided_among t sets count = filter_map (sided t sets) (range_with_len 0 count)

-- a set has each of its sides
abbrev pub has_both : SidedArc → Bool
has_both s = is_some s.left && is_some s.right
