-- Places beside arcs, the faces that they belong to, and the faces of a table of arcs.
use Rattle.std.specs.Prelude.{◌≡◌, ℕ, zero, suc, ◌+◌, ◌*◌, ℤ, Bool, nat_eq, List, [], ◌∷◌, ◌++◌, filter, length, map, slice_index, Option}
use Rattle.std.specs.List.{range_with_len}
use Rattle.plane_model.specs.Points.{GridPoint, Path}
use Rattle.plane_model.specs.Arcs.{SignedArc, forward, backward}
use Rattle.arc_table.specs.Around.{IsTurned}
use Rattle.face_walk.specs.Areas.{area_within}
pub use Rattle.link_search.specs.PlaceNumbers.{place_of, HasPlaces}
use Rattle.face_walk.specs.Joins.{AreJoinedBy}
use Rattle.face_walk.specs.Numbering.{AreAllBelow}
use Rattle.face_walk.specs.Sectors.{sectors}
use Rattle.face_walk.specs.Rays.{AreLinksOf, AreRays, IsTopmostBelow, place_met}
use Rattle.link_search.specs.declared.links.ArcLink.{ArcLink}

-- the first n arcs, each forward and then reversed
abbrev pub signed_below : ℕ → List SignedArc
signed_below zero = []
signed_below (suc n) = signed_below n ++ forward n ∷ backward n ∷ []

-- the face of the place left of a signed arc, and whether it is f
abbrev pub face_left_of : List ℕ → SignedArc → ℕ
face_left_of places a = slice_index places (place_of a)

abbrev pub has_left : List ℕ → ℕ → SignedArc → Bool
has_left places f a = nat_eq (face_left_of places a) f

-- the faces left of signed arcs
abbrev pub faces_left_of : List ℕ → List SignedArc → List ℕ
faces_left_of places arcs = map (face_left_of places) arcs

-- of the arcs below `many`, forward and reversed, those that the face f is left of
abbrev pub arcs_with_left : List ℕ → ℕ → ℕ → List SignedArc
arcs_with_left places many f = filter (has_left places f) (signed_below many)

-- twice the areas of the first faces: each by the steps of the signed arcs that it is left of
abbrev pub areas_of_faces : List Path → List ℕ → ℕ → List ℤ
areas_of_faces arcs places count = map (λ (f : ℕ). area_within arcs (arcs_with_left places (length arcs) f)) (range_with_len 0 count)

-- what faces show: the face of each place, the number of faces, twice the area of each, and the links that part them
pub record FaceTable : Type 0 where
  pub places : List ℕ
  pub count : ℕ
  pub areas : List ℤ
  pub links : List ArcLink

-- the faces have this arc
abbrev pub HasArc : FaceTable → SignedArc → Type 0
HasArc faces a = HasPlaces (length faces.places) a

-- Two places have one face exactly where a chain of joins connects them: of the sectors round the vertices where arcs start, and of the
-- rays that go straight down from the vertices that all their links leave.
pub record HasJoins (arcs : List Path) (links : List ArcLink) (places : List ℕ) : Type 0 where
  pub starts : List GridPoint
  pub outs : List SignedArc
  pub turned : IsTurned arcs starts outs
  pub rays : List (ℕ × ℕ)
  pub are_rays : AreRays links rays
  pub joined : AreJoinedBy (sectors starts outs ++ rays) places

-- the face f is that of the place left of the topmost link below p, or where there is none that of the outside
pub record IsFaceOver (faces : FaceTable) (p : GridPoint) (f : ℕ) : Type 0 where
  pub met : Option ArcLink
  pub is_met : IsTopmostBelow faces.links p met
  pub face : f ≡ slice_index faces.places (place_met met)

-- the faces were built of these arcs
pub record IsBuiltOf (arcs : List Path) (faces : FaceTable) : Type 0 where
  pub places_counted : length faces.places ≡ 2 * length arcs + 1
  pub all_links : ∥ AreLinksOf arcs faces.links ∥₁
  pub joined : ∥ HasJoins arcs faces.links faces.places ∥₁
  pub numbered : AreAllBelow faces.count faces.places
  pub areas_summed : faces.areas ≡ areas_of_faces arcs faces.places faces.count
