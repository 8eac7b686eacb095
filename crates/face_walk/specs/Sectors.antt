-- The sectors round the vertices where arcs start, as pairs of places: between an arc and the next counterclockwise.
use Rattle.std.specs.Prelude.{ℕ, zero, suc, ◌+◌, Bool, not, ◌&&◌, nat_lt, List, [], ◌∷◌, ◌++◌, length, slice_index_or, if◌then◌else◌}
use Rattle.plane_model.specs.Points.{GridPoint, same_point}
use Rattle.plane_model.specs.Arcs.{SignedArc, forward}
use Rattle.arc_table.specs.Direction.{point_at}
use Rattle.link_search.specs.PlaceNumbers.{place_of}

-- the place right of a signed arc
abbrev pub place_right_of : SignedArc → ℕ
place_right_of a = place_of (record { arc = a.arc; is_reversed = not a.is_reversed })

-- the arc at a place of a list
abbrev pub arc_at : List SignedArc → ℕ → SignedArc
arc_at arcs i = slice_index_or arcs i (forward 0)

-- the arc after the one at place i starts where that one does
abbrev pub goes_on : List GridPoint → ℕ → Bool
goes_on starts i = nat_lt (i + 1) (length starts) && same_point (point_at starts i) (point_at starts (i + 1))

-- the first place of the row of place i
abbrev pub first_in_row : List GridPoint → ℕ → ℕ
first_in_row starts zero = 0
first_in_row starts (suc i) = if goes_on starts i then first_in_row starts i else suc i

-- the next place round the row of place i: after the last comes the first
abbrev pub next_in_row : List GridPoint → ℕ → ℕ
next_in_row starts i = if goes_on starts i then i + 1 else first_in_row starts i

-- the sector between the arc at place i and the next round their start: left of the one, right of the other
abbrev pub sector_after : List GridPoint → List SignedArc → ℕ → ℕ × ℕ
sector_after starts outs i = (place_of (arc_at outs i), place_right_of (arc_at outs (next_in_row starts i)))

-- the sectors after the arcs at the first n places
abbrev pub sectors_below : List GridPoint → List SignedArc → ℕ → List (ℕ × ℕ)
sectors_below starts outs zero = []
sectors_below starts outs (suc n) = sectors_below starts outs n ++ sector_after starts outs n ∷ []

-- all sectors, of signed arcs by their starts
abbrev pub sectors : List GridPoint → List SignedArc → List (ℕ × ℕ)
sectors starts outs = sectors_below starts outs (length outs)
