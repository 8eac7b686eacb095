-- Steps of polygons and boxes along arcs, the items of a list known by their numbers.
use Rattle.std.specs.Prelude.{◌≡◌, ℕ, ◌+◌, List, [], ◌∷◌, ◌++◌, map}
use Rattle.std.specs.List.Sorted.{IsPermutation, IsNonDecreasingBy}
use Rattle.plane_model.specs.Points.{Path}
use Rattle.plane_model.specs.Arcs.{SignedArc}
use Rattle.plane_model.specs.Drawing.{Polygon}
use Rattle.arc_table.specs.PathArcs.{AreArcsAlong}
use Rattle.face_walk.specs.declared.ring_steps.RingStep.{RingStep}

-- the arcs along some paths, one path after another
abbrev pub AreArcsOfAll : List Path → List Path → List SignedArc → Type 0
AreArcsOfAll arcs [] named = named ≡ []
AreArcsOfAll arcs (path ∷ paths) named = (first : List SignedArc) × (rest : List SignedArc) × AreArcsAlong arcs path first × AreArcsOfAll arcs paths rest × (named ≡ first ++ rest)

-- the step of item i along an arc, whichever way
abbrev pub step_along : ℕ → SignedArc → RingStep
step_along i a = record { arc = a.arc; item = i }

-- the steps of item i along the arcs of some paths, put after others
abbrev pub AreAdded : List Path → ℕ → List Path → List RingStep → List RingStep → Type 0
AreAdded arcs i paths old new = (named : List SignedArc) × AreArcsOfAll arcs paths named × (new ≡ old ++ map (step_along i) named)

-- the steps of items, numbered from n on: each steps along the arcs of its paths
abbrev pub AreStepsFrom : List Path → ℕ → List (List Path) → List RingStep → Type 0
AreStepsFrom arcs n [] steps = steps ≡ []
AreStepsFrom arcs n (paths ∷ items) steps = (named : List SignedArc) × (rest : List RingStep) × AreArcsOfAll arcs paths named × AreStepsFrom arcs (n + 1) items rest × (steps ≡ map (step_along n) named ++ rest)

-- the same steps, in the order of their arcs
pub record AreStepsOf (arcs : List Path) (items : List (List Path)) (steps : List RingStep) : Type 0 where
  pub taken : List RingStep
  pub each : AreStepsFrom arcs 0 items taken
  pub moved : IsPermutation taken steps
  pub by_arc : IsNonDecreasingBy (λ (s : RingStep). s.arc) steps

-- the feature of each polygon, of features numbered from n on
abbrev pub owners_from : ℕ → List (List Polygon) → List ℕ
owners_from n [] = []
owners_from n (polygons ∷ features) = map (λ (p : Polygon). n) polygons ++ owners_from (n + 1) features
