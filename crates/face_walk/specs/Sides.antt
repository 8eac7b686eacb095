-- The faces on the left of signed arcs.
use Rattle.std.specs.Prelude.{◌≡◌, ℕ, ◌+◌, ◌*◌, ◌<◌, ◌≤◌, true, false, List, All, Contains, filter, length, nat_lt, slice_index, slice_range}
use Rattle.std.specs.List.Sorted.{IsNonDecreasingBy, IsPartitionPoint}
use Rattle.plane_model.specs.Arcs.{SignedArc}
use Rattle.face_walk.specs.Places.{place_of, faces_left_of, has_left, arcs_with_left}
use Rattle.face_walk.specs.declared.numbering.FaceSide.{FaceSide}

-- the face of the place left of the arc
abbrev pub HasLeft : List ℕ → FaceSide → Type 0
HasLeft places s = s.face ≡ slice_index places (place_of s.arc)

-- the sides of `many` arcs: each signed arc has one, and no other has
pub record AreSides (places : List ℕ) (many : ℕ) (sides : List FaceSide) : Type 0 where
  pub there : All (λ s. s.arc.arc < many) sides
  pub left : All (HasLeft places) sides
  pub all : (a : SignedArc) → a.arc < many → (s : FaceSide) × Contains sides s × (s.arc ≡ a)

-- the faces do not fall
abbrev pub AreInOrder : List FaceSide → Type 0
AreInOrder sides = IsNonDecreasingBy (λ (s : FaceSide). s.face) sides

-- Faces that do not fall, beside signed arcs that they are left of: those of one face are all that it is left of, in the order of their numbers.
pub record AreListed (places faces : List ℕ) (arcs : List SignedArc) : Type 0 where
  pub left : faces ≡ faces_left_of places arcs
  pub in_order : IsNonDecreasingBy (λ (f : ℕ). f) faces
  pub each : (many f : ℕ) → length places ≡ 2 * many + 1 → filter (has_left places f) arcs ≡ arcs_with_left places many f

-- ---- where the sides of each face begin

-- of faces in order, those before this place are below f, and no others are
pub record IsStartOf (faces : List ℕ) (f place : ℕ) : Type 0 where
  pub within : place ≤ length faces
  pub point : IsPartitionPoint (λ (g : ℕ). nat_lt g f ≡ true) (λ (g : ℕ). nat_lt g f ≡ false) faces place

-- the places where the faces below `count` begin, and the one where all of them end
pub record AreStarts (faces : List ℕ) (count : ℕ) (starts : List ℕ) : Type 0 where
  pub number : length starts ≡ count + 1
  pub each : (f : ℕ) → f ≤ count → IsStartOf faces f (slice_index starts f)

-- signed arcs by the faces below `count` on their left, and where those of each face begin
pub record AreSplit (places : List ℕ) (count : ℕ) (arcs : List SignedArc) (starts : List ℕ) : Type 0 where
  pub listed : AreListed places (faces_left_of places arcs) arcs
  pub started : AreStarts (faces_left_of places arcs) count starts

-- the arcs from where a face begins to where the next one does
abbrev pub arcs_from : List SignedArc → List ℕ → ℕ → List SignedArc
arcs_from arcs starts f = slice_range arcs (slice_index starts f) (slice_index starts (f + 1))
