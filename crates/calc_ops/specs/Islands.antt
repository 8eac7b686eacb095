-- Islands: the detached parts of a set of faces that are small, and what is left of the sets of a list without theirs.
use Rattle.std.specs.Prelude.{◌≡◌, ℕ, ◌-◌, ◌<◌, Bool, not, ◌&&◌, ◌||◌, ℤ, pos, int_lt, nat_lt, nat_eq, List, [], ◌∷◌, filter, length, slice_index_or}
use Rattle.std.specs.List.{list_all, flat_map, sum_by}
use Rattle.lists.specs.Lists.{ascending, joined_up, same_list}
use Rattle.plane_model.specs.Points.{Path}
use Rattle.plane_model.specs.Arcs.{SignedArc}
use Rattle.face_walk.specs.Places.{FaceTable, face_left_of}
use Rattle.face_sets.specs.Boundary.{face_right_of, outward_at}
use Rattle.face_sets.specs.Joined.{AreParts}
use Rattle.face_sets.specs.Owners.{owners_of}
use Rattle.face_sets.specs.Sets.{area_of}

abbrev pub set_at : List (List ℕ) → ℕ → List ℕ
set_at sets n = slice_index_or sets n []

-- the boundary of a set of faces, face by face, each arc with the set on its left
abbrev pub border : List Path → FaceTable → List ℕ → List SignedArc
border arcs faces piece = flat_map (outward_at faces.places (length arcs) piece) piece

-- set n alone has the left side of the arc, and no set has its right side
abbrev pub stands_alone : FaceTable → List (List ℕ) → ℕ → SignedArc → Bool
stands_alone faces sets n a =
    same_list nat_eq (owners_of sets (face_left_of faces.places a)) (n ∷ []) && same_list nat_eq (owners_of sets (face_right_of faces.places a)) []

-- all along its boundary set n stands alone
abbrev pub is_detached : FaceTable → List (List ℕ) → ℕ → List SignedArc → Bool
is_detached faces sets n around = list_all (stands_alone faces sets n) around

-- how many links an arc has, and a boundary
abbrev pub links_along : List Path → SignedArc → ℕ
links_along arcs a = length (slice_index_or arcs a.arc []) - 1

abbrev pub links_of : List Path → List SignedArc → ℕ
links_of arcs around = sum_by (links_along arcs) around

-- below an area, which is doubled, or below a number of links
abbrev pub is_small : ℕ → ℕ → ℤ → ℕ → Bool
is_small least_area least_links area links = int_lt area (pos least_area) || nat_lt links least_links

-- a part of set n is an island
abbrev pub is_island : List Path → FaceTable → List (List ℕ) → ℕ → ℕ → ℕ → List ℕ → Bool
is_island arcs faces sets least_area least_links n piece =
    is_detached faces sets n (border arcs faces piece) && is_small least_area least_links (area_of faces.areas piece) (links_of arcs (border arcs faces piece))

-- the faces of some parts that are no islands
abbrev pub mainland : List Path → FaceTable → List (List ℕ) → ℕ → ℕ → ℕ → List (List ℕ) → List ℕ
mainland arcs faces sets least_area least_links n pieces = joined_up (filter (λ (piece : List ℕ). not (is_island arcs faces sets least_area least_links n piece)) pieces)

-- what is left of set n: the faces of its parts that are no islands
pub record IsWithoutIslands (arcs : List Path) (faces : FaceTable) (sets : List (List ℕ)) (least_area least_links n : ℕ) (set left : List ℕ) : Type 0 where
  pub pieces : List (List ℕ)
  pub are : AreParts faces set pieces
  pub faces_left : left ≡ ascending nat_lt (mainland arcs faces sets least_area least_links n pieces)

-- what is left of each of the first `many` sets
pub record AreWithoutIslands (arcs : List Path) (faces : FaceTable) (sets : List (List ℕ)) (least_area least_links many : ℕ) (left : List (List ℕ)) : Type 0 where
  pub each : length left ≡ many
  pub exact : (n : ℕ) → n < many → IsWithoutIslands arcs faces sets least_area least_links n (set_at sets n) (set_at left n)
