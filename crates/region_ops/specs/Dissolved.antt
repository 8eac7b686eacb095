-- The union of the members of a group.
use Rattle.std.specs.Prelude.{ℕ, nat_lt, List, [], slice_index_or}
use Rattle.std.specs.List.{flat_map}
use Rattle.lists.specs.Lists.{ascending}

-- set number n
abbrev pub set_at : List (List ℕ) → ℕ → List ℕ
set_at sets n = slice_index_or sets n []

-- the faces of any member, ascending
abbrev pub union_of : List (List ℕ) → List ℕ → List ℕ
union_of sets group = ascending nat_lt (flat_map (set_at sets) group)
