-- The numbers of places beside arcs.
use Rattle.std.specs.Prelude.{ℕ, ◌+◌, ◌*◌, ◌<◌, if◌then◌else◌}
use Rattle.plane_model.specs.Arcs.{SignedArc}

-- the number of the place left of a signed arc; the outside has number 0
abbrev pub place_of : SignedArc → ℕ
place_of a = if a.is_reversed then 2 * a.arc + 2 else 2 * a.arc + 1

-- `places` places are enough for both sides of an arc
abbrev pub HasPlaces : ℕ → SignedArc → Type 0
HasPlaces places a = 2 * a.arc + 2 < places
