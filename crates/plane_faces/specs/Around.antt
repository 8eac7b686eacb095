-- The links about a vertex, each directed away from it, in rotation.
use Rattle.std.specs.Prelude.{◌≡◌, true, false, not, cond, List, [], ◌∷◌, ◌++◌, All}
use Rattle.std.specs.List.Sorted.{IsPermutation}
use Rattle.plane_model.specs.Points.{GridPoint, Segment, same_point}
use Rattle.plane_model.specs.Rotation.{Dart, tail, head, precedes}
use Rattle.plane_model.specs.Arcs.{turns_before}

-- a link, directed from its start, or from its stop
abbrev pub forward_dart : Segment → Dart
forward_dart l = record { link = l; forward = true }

abbrev pub backward_dart : Segment → Dart
backward_dart l = record { link = l; forward = false }

-- the same link, from its other end
abbrev pub opposite : Dart → Dart
opposite d = record { link = d.link; forward = not d.forward }

-- the links of S that have p for an end, directed away from p
abbrev pub darts_at : GridPoint → List Segment → List Dart
darts_at p [] = []
darts_at p (l ∷ S) = cond (same_point p l.start) (forward_dart l ∷ []) [] ++ (cond (same_point p l.stop) (backward_dart l ∷ []) [] ++ darts_at p S)

-- each comes before all later ones in rotation
abbrev pub InRotation : List Dart → Type 0
InRotation [] = Unit {0}
InRotation (d ∷ ds) = All (λ e. precedes d e ≡ true) ds × InRotation ds

-- the darts at p, counterclockwise from straight down
pub record IsRotation (S : List Segment) (p : GridPoint) (ds : List Dart) : Type 0 where
  pub all : IsPermutation (darts_at p S) ds
  pub sorted : InRotation ds

-- the step along a dart
abbrev pub step_of_dart : Dart → Segment
step_of_dart d = record { start = tail d; stop = head d }

-- each turns before all later ones, counterclockwise from the positive x axis
abbrev pub InTurn : List Dart → Type 0
InTurn [] = Unit {0}
InTurn (d ∷ ds) = All (λ e. turns_before (step_of_dart d) (step_of_dart e) ≡ true) ds × InTurn ds

-- the darts at p, counterclockwise from the positive x axis
pub record IsTurn (S : List Segment) (p : GridPoint) (ds : List Dart) : Type 0 where
  pub all : IsPermutation (darts_at p S) ds
  pub sorted : InTurn ds
