-- The items of a union of layers are what the definition of a union makes of the regions of the layers.
use Rattle.std.specs.Prelude.{◌≡◌, ◌↔◌, ℕ, ◌<◌, List, All, AllPairs, Contains, map}
use Rattle.std.specs.List.{AllZip}
use Rattle.plane_model.specs.Points.{RationalPoint, Path}
use Rattle.plane_model.specs.Drawing.{Drawing}
use Rattle.plane_model.specs.Sees.{IsOffLinks}
use Rattle.plane_model.specs.Snapped.{links_of, snapped}
use Rattle.plane_faces.specs.Places.{Place}
use Rattle.face_walk.specs.Places.{FaceTable}
use Rattle.face_sets.specs.Sets.{IsSetOf}
use Rattle.union_ops.specs.Union.{IsUnion}
use Rattle.union_ops.specs.declared.union_lists.UnionItem.{UnionItem}
use Rattle.region_model.specs.Region.{Region, part}
use Rattle.region_model.specs.Answers.{Plane, Answers, HasSome, PointsOf}
use Rattle.region_model.specs.UnionCommand.{Choice, union_region, united}
use Rattle.region_laws.specs.Followed.{IsWalked}
use Rattle.region_laws.specs.Answered.{FollowInOrder, TellSides, plane_with}

-- the sets of each layer follow its regions in order
abbrev pub FollowLayers : Drawing → List Path → (Place → ℕ) → List (List (List ℕ)) → List (List Region) → Type 0
FollowLayers d arcs label layers regions = AllZip (FollowInOrder d arcs label) layers regions

-- the answers on sides and parts are right for what each choice leaves
pub record TellChoices (P : Plane) (A : Answers) (regions : List (List Region)) : Type 0 where
  pub sides : (c : Choice) → TellSides P A (union_region regions c)
  pub parts : (c : Choice) (j : ℕ) → (j < A.parts (union_region regions c)) ↔ HasSome P (part (union_region regions c) j)

-- no rational point is in both
abbrev pub AreApart : Plane → Region → Region → Type 0
AreApart P r s = (z : RationalPoint) → PointsOf P r z → PointsOf P s z → ⊥

-- ---- laws

-- the items of a union are in order, with their choices, what is made of the regions of the layers: each part of what
-- each choice leaves
abbrev pub UnionAsTold : Type 0
UnionAsTold = (d : Drawing) (arcs : List Path) (faces : FaceTable) (label : Place → ℕ) → IsWalked d arcs faces label → (layers : List (List (List ℕ))) → All (All (IsSetOf faces)) layers → (regions : List (List Region)) →
    FollowLayers (snapped d) arcs label layers regions → (A : Answers) → TellChoices (plane_with d arcs) A regions → (items : List UnionItem) → IsUnion faces layers items →
    (map (λ (item : UnionItem). item.choice) items ≡ map (λ (m : Choice × Region). m.0) (united (plane_with d arcs) A regions))
    × FollowInOrder (snapped d) arcs label (map (λ (item : UnionItem). item.set) items) (map (λ (m : Choice × Region). m.1) (united (plane_with d arcs) A regions))

-- no point is in two features of a union, of whatever regions, and whatever is answered
abbrev pub UnitedAreApart : Type 0
UnitedAreApart = (P : Plane) (A : Answers) (regions : List (List Region)) → AllPairs (AreApart P) (map (λ (m : Choice × Region). m.1) (united P A regions))

-- each point, on no link, of a region of a layer is in a feature of the union
abbrev pub UnitedCover : Type 0
UnitedCover = (d : Drawing) (arcs : List Path) (faces : FaceTable) (label : Place → ℕ) → IsWalked d arcs faces label → (layers : List (List (List ℕ))) → All (All (IsSetOf faces)) layers → (regions : List (List Region)) →
    FollowLayers (snapped d) arcs label layers regions → (A : Answers) → TellChoices (plane_with d arcs) A regions → (z : RationalPoint) → IsOffLinks (links_of (snapped d)) z →
    (layer : List Region) → Contains regions layer → (r : Region) → Contains layer r → PointsOf (plane_with d arcs) r z →
    (m : Choice × Region) × Contains (united (plane_with d arcs) A regions) m × PointsOf (plane_with d arcs) m.1 z
