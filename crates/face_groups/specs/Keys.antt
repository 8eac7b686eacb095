-- The sets that have a face, as its key.
use Rattle.std.specs.Prelude.{ℕ, Bool, not, ◌==◌, List, length}
use Rattle.std.specs.Ordering.{nat_cmp, is_lt}
use Rattle.std.specs.Cmp.Lexicographic.{slice_cmp}
use Rattle.face_walk.specs.Holders.{list_at}

-- some set has the face
abbrev pub is_owned : List (List ℕ) → ℕ → Bool
is_owned owners k = not (length (list_at owners k) == 0)

-- the list of one face comes before that of another
abbrev pub owned_before : List (List ℕ) → ℕ → ℕ → Bool
owned_before owners j k = is_lt (slice_cmp nat_cmp (list_at owners j) (list_at owners k))
