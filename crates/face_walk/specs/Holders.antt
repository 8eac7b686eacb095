-- Which polygon features, and which boxes, hold each face.
use Rattle.std.specs.Prelude.{◌≡◌, ◌⊎◌, ◌↔◌, ℕ, ◌<◌, Bool, nat_eq, List, [], ◌∷◌, All, Contains, Some, filter, map, slice_get, slice_index_or}
use Rattle.std.specs.List.Sorted.{IsStrictlyIncreasing}
use Rattle.lists.specs.Lists.{joined_up}
use Rattle.plane_model.specs.Points.{Path}
use Rattle.plane_model.specs.Drawing.{Drawing}
use Rattle.plane_model.specs.Parity.{xor, odd_count}
use Rattle.face_walk.specs.Places.{FaceTable}
use Rattle.face_walk.specs.Crossings.{AreCrossings, LeaveNone, outer_of}
use Rattle.face_walk.specs.RingSteps.{AreStepsOf, owners_from}
use Rattle.face_walk.specs.declared.crossings.Crossing.{Crossing}
use Rattle.face_walk.specs.declared.ring_steps.RingStep.{RingStep}

pub record HolderTable : Type 0 where
  pub holders : List (List ℕ)
  pub boxes : List (List ℕ)

-- n stands in the list an odd number of times; in a list that rises, that it is there
abbrev pub stands_oddly : List ℕ → ℕ → Bool
stands_oddly numbers n = odd_count (nat_eq n) numbers

-- the numbers that stand in a list an odd number of times, rising
pub record AreOddOnes (numbers odd : List ℕ) : Type 0 where
  pub rising : IsStrictlyIncreasing odd
  pub parity : (n : ℕ) → stands_oddly odd n ≡ stands_oddly numbers n

-- the list with n, or where it has n without it
pub record IsFlipped (old : List ℕ) (n : ℕ) (new : List ℕ) : Type 0 where
  pub rising : IsStrictlyIncreasing new
  pub parity : (m : ℕ) → stands_oddly new m ≡ xor (stands_oddly old m) (nat_eq m n)

-- the steps along an arc
abbrev pub steps_on : List RingStep → ℕ → List RingStep
steps_on steps arc = filter (λ (s : RingStep). nat_eq s.arc arc) steps

-- the items across an arc, rising: an item is in just one of the two lists exactly where it steps along the arc an odd number of times
pub record AreAcross (along : List RingStep) (from into : List ℕ) : Type 0 where
  pub rising : IsStrictlyIncreasing into
  pub parity : (i : ℕ) → stands_oddly into i ≡ xor (stands_oddly from i) (odd_count (λ (s : RingStep). nat_eq i s.item) along)

-- the list of a face
abbrev pub list_at : List (List ℕ) → ℕ → List ℕ
list_at lists f = slice_index_or lists f []

-- lists of items for faces: the outer face has none, and each crossing leads on by the steps along its arc
pub record AreHeldBy (steps : List RingStep) (outer : ℕ) (crossings : List Crossing) (held : List (List ℕ)) : Type 0 where
  pub outer_free : list_at held outer ≡ []
  pub across : All (λ (c : Crossing). AreAcross (steps_on steps c.arc) (list_at held c.from) (list_at held c.into)) crossings

-- the list with n in it
pub record IsPut (old : List ℕ) (n : ℕ) (new : List ℕ) : Type 0 where
  pub rising : IsStrictlyIncreasing new
  pub each : (m : ℕ) → Contains new m ↔ (Contains old m ⊎ (m ≡ n))

-- the features that own some item of a list, rising
pub record AreOwnersOf (owners items features : List ℕ) : Type 0 where
  pub rising : IsStrictlyIncreasing features
  pub each : (f : ℕ) → Contains features f ↔ ((i : ℕ) × Contains items i × (slice_get owners i ≡ Some f))

-- the same for each of the first n faces
abbrev pub AreOwnersOfEach : List ℕ → ℕ → List (List ℕ) → List (List ℕ) → Type 0
AreOwnersOfEach owners n items features = (f : ℕ) → f < n → AreOwnersOf owners (list_at items f) (list_at features f)

-- The holders of the faces of a table of arcs, by the polygons and boxes of a drawing: crossings lead from the outer face to all that arcs
-- lead to, the polygons and boxes of each face follow from those of the face before it, and its features are the owners of its polygons.
pub record AreHolders (arcs : List Path) (d : Drawing) (faces : FaceTable) (labels : HolderTable) : Type 0 where
  pub crossings : List Crossing
  pub crossed : AreCrossings faces crossings
  pub all : LeaveNone faces crossings
  pub polygon_steps : List RingStep
  pub of_polygons : AreStepsOf arcs (joined_up d.polygons) polygon_steps
  pub polygons : List (List ℕ)
  pub held : AreHeldBy polygon_steps (outer_of faces) crossings polygons
  pub owned : AreOwnersOfEach (owners_from 0 d.polygons) faces.count polygons labels.holders
  pub box_steps : List RingStep
  pub of_boxes : AreStepsOf arcs (map (λ (path : Path). path ∷ []) d.boxes) box_steps
  pub boxed : AreHeldBy box_steps (outer_of faces) crossings labels.boxes
