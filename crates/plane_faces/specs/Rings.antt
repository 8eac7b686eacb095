-- Rings, their darts, and the polygons that they make.
use Rattle.std.specs.Prelude.{◌≡◌, Bool, true, false, not, pos, ◌<ℤ◌, int_lt, List, [], ◌∷◌, ◌++◌, map, All, Contains}
use Rattle.plane_model.specs.Points.{GridPoint, RationalPoint, Segment, Path, is_before, link_between}
use Rattle.plane_model.specs.Arrangement.{IsBefore}
use Rattle.plane_model.specs.Drawing.{steps, steps_of_paths}
use Rattle.plane_model.specs.Parity.{odd}
use Rattle.plane_model.specs.Rotation.{Dart}
use Rattle.plane_model.specs.Joined.{IsClosed}
use Rattle.plane_model.specs.Rings.{IsSimple, turn_at_least}
use Rattle.plane_faces.specs.Places.{Place, IsPlaceOf}

-- a closed path of at least one step that passes each of its points once
abbrev pub IsRing : Path → Type 0
IsRing [] = ⊥
IsRing (p ∷ []) = ⊥
IsRing (p ∷ q ∷ rest) = IsClosed (p ∷ q ∷ rest) × IsSimple (p ∷ q ∷ rest)

-- the links of a path
abbrev pub links_of_path : Path → List Segment
links_of_path path = map link_between (steps path)

-- the link of a step, directed as the step
abbrev pub dart_of_step : Segment → Dart
dart_of_step s = record { link = link_between s; forward = is_before s.start s.stop }

-- the darts of a path, and of several
abbrev pub darts_of_path : Path → List Dart
darts_of_path path = map dart_of_step (steps path)

abbrev pub darts_of_paths : List Path → List Dart
darts_of_paths paths = map dart_of_step (steps_of_paths paths)

-- the closed path that goes from p by r, the points ps and q back to p
abbrev pub ring_by : GridPoint → GridPoint → List GridPoint → GridPoint → Path
ring_by p r ps q = p ∷ (r ∷ (ps ++ (q ∷ (p ∷ []))))

-- a closed path that starts at its least vertex, which it passes once: it goes by next and others and comes back from
-- last
pub record StartsLeast (ring : Path) : Type 0 where
  pub least : GridPoint
  pub next : GridPoint
  pub others : List GridPoint
  pub last : GridPoint
  pub is : ring ≡ ring_by least next others last
  pub next_after : IsBefore least next
  pub others_after : All (IsBefore least) others
  pub last_after : IsBefore least last

-- a ring turns left at its least vertex
abbrev pub turns_left : Path → Bool
turns_left ring = int_lt (pos 0) (turn_at_least ring)

-- of the rings one is the exterior, which turns left at its least vertex, the others are holes, which turn right, and a
-- point is where f holds just if it is inside the exterior and in no hole
pub record IsPolygon (S : List Segment) (f : Place → Bool) (rings : List Path) : Type 0 where
  pub before : List Path
  pub exterior : Path
  pub after : List Path
  pub are : rings ≡ before ++ (exterior ∷ after)
  pub exterior_turns_left : pos 0 <ℤ turn_at_least exterior
  pub holes_turn_right : All (λ hole. turn_at_least hole <ℤ pos 0) (before ++ after)
  pub inside : (z : RationalPoint) (a : Place) → IsPlaceOf S z a → f a ≡ true → (odd (links_of_path exterior) z ≡ true) × All (λ hole. odd (links_of_path hole) z ≡ false) (before ++ after)
  pub held : (z : RationalPoint) (a : Place) → IsPlaceOf S z a → odd (links_of_path exterior) z ≡ true → All (λ hole. odd (links_of_path hole) z ≡ false) (before ++ after) → f a ≡ true

-- a ring of links of T that is odd at one of z and z' and even at the other
abbrev pub IsSeparating : List Segment → RationalPoint → RationalPoint → Path → Type 0
IsSeparating T z z' ring = IsRing ring × All (Contains T) (links_of_path ring) × (odd (links_of_path ring) z ≡ not (odd (links_of_path ring) z'))
