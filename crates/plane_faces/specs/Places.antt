-- Places beside the links of an arrangement, how they meet, and borders between them.
use Rattle.std.specs.Prelude.{◌≡◌, ◌⊎◌, Bool, true, false, List, [], ◌∷◌, Contains, filter, map}
use Rattle.lists.specs.Lists.{last_of}
use Rattle.plane_model.specs.Points.{GridPoint, RationalPoint, Segment, at}
use Rattle.plane_model.specs.Arrangement.{IsBefore}
use Rattle.plane_model.specs.Parity.{xor, is_below}
use Rattle.plane_model.specs.Below.{IsTopmostBelow}
use Rattle.plane_model.specs.Rotation.{Dart, precedes, IsNext, odd_left_of}
use Rattle.plane_faces.specs.Around.{forward_dart, backward_dart, opposite}

-- where one can stand: outside of all links, or just left of a dart
pub data Place : Type 0 where
  outside : Place
  left_of : Dart → Place

-- just left of the link l, which is just above it unless it is vertical, and just right of it
abbrev pub left_side : Segment → Place
left_side l = left_of (forward_dart l)

abbrev pub right_side : Segment → Place
right_side l = left_of (backward_dart l)

-- a place at the links of S
abbrev pub IsBeside : List Segment → Place → Type 0
IsBeside S outside = Unit {0}
IsBeside S (left_of d) = Contains S d.link

-- the place of the rational point z: above the topmost link below it, or outside
abbrev pub IsPlaceOf : List Segment → RationalPoint → Place → Type 0
IsPlaceOf S z outside = (k : Segment) → Contains S k → is_below z k ≡ false
IsPlaceOf S z (left_of d) = (d.forward ≡ true) × Contains S d.link × IsTopmostBelow S z d.link

-- no link arrives at p from an earlier vertex
abbrev pub IsMinimum : List Segment → GridPoint → Type 0
IsMinimum S p = (k : Segment) → Contains S k → k.stop ≡ p → ⊥

-- of the links that leave its start, l is the first in rotation from straight down
abbrev pub IsFirst : List Segment → Segment → Type 0
IsFirst S l = (k : Segment) → Contains S k → k.start ≡ l.start → precedes (forward_dart k) (forward_dart l) ≡ false

-- f takes one value where places meet: in the sector between a dart and the next, and along the ray that goes straight
-- down from a vertex at which no link arrives
pub record AgreesWherePlacesMeet {A : Type 0} (S : List Segment) (f : Place → A) : Type 0 where
  pub sector : (d e : Dart) → Contains S d.link → Contains S e.link → IsNext S d e → f (left_of d) ≡ f (left_of (opposite e))
  pub ray : (l : Segment) → Contains S l → IsMinimum S l.start → IsFirst S l → (a : Place) → IsPlaceOf S (at l.start) a → f (right_side l) ≡ f a

-- R holds of each dart and the next
abbrev pub Consecutive : (Dart → Dart → Type 0) → Dart → List Dart → Type 0
Consecutive R d [] = Unit {0}
Consecutive R d (e ∷ ds) = R d e × Consecutive R e ds

-- in a row of darts in rotation f is one between each and the next, and between the last and the first
abbrev pub AgreesAround : {A : Type 0} → (Place → A) → List Dart → Type 0
AgreesAround f [] = Unit {0}
AgreesAround f (d ∷ ds) = Consecutive (λ x y. f (left_of x) ≡ f (left_of (opposite y))) d ds × (f (left_of (last_of d ds)) ≡ f (left_of (opposite d)))

-- ---- borders

-- the links whose two sides f tells apart
abbrev pub border : (Place → Bool) → List Segment → List Segment
border f S = filter (λ l. xor (f (left_side l)) (f (right_side l))) S

-- the links of the border of f, each directed so that f holds on its left
abbrev pub border_darts : (Place → Bool) → List Segment → List Dart
border_darts f S = map (λ l. record { link = l; forward = f (left_side l) }) (border f S)

-- the link k starts after a, or leaves the same vertex after a in rotation
abbrev pub IsLater : Segment → Segment → Type 0
IsLater a k = IsBefore a.start k.start ⊎ ((k.start ≡ a.start) × (precedes (forward_dart a) (forward_dart k) ≡ true))

-- no other link of L is as low as a: none starts before it, or leaves the same vertex before it in rotation
abbrev pub IsLowest : List Segment → Segment → Type 0
IsLowest L a = (k : Segment) → Contains L k → (k ≡ a) ⊎ IsLater a k

-- ---- parities and regions at places

-- the parity of L at a place
abbrev pub odd_at : List Segment → Place → Bool
odd_at L outside = false
odd_at L (left_of d) = odd_left_of L d

-- the region that f describes by the parities of the even lists Rs
abbrev pub in_region : (List Bool → Bool) → List (List Segment) → Place → Bool
in_region f Rs a = f (map (λ R. odd_at R a) Rs)
