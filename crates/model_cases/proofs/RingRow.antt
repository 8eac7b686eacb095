-- The printed ring of two dissolved squares fits its region.
use Rattle.std.proofs.Common.{◌≡◌, refl, pos, [], ◌∷◌, lit<, true}
use Rattle.std.specs.Prelude.{IsPermutation}
use Rattle.plane_model.specs.Drawing.{steps_of_paths}
use Rattle.plane_model.specs.Points.{Path}
use Rattle.plane_model.specs.Rings.{turn_at_least, least_arc}
use Rattle.plane_model.specs.Arcs.{begins_arc, forward, points_of}
use Rattle.region_model.specs.Answers.{boundary}
use Rattle.region_model.specs.Region.{feature, part}
use Rattle.region_model.specs.PolygonCommands.{dissolved}
use Rattle.model_cases.proofs.Drawings.{point, segment}
use Rattle.model_cases.proofs.PolygonRows.{overlapping, answers}

-- it begins at (2, 4), where its arc of least number does
abbrev pub dissolve_ring : Path
dissolve_ring = point 2 4 ∷ point 0 4 ∷ point 0 0 ∷ point 4 0 ∷ point 4 2 ∷ point 6 2 ∷ point 6 6 ∷ point 2 6 ∷ point 2 4 ∷ []

-- it turns counterclockwise at its least vertex (0, 0)
counterclockwise : turn_at_least dissolve_ring ≡ pos 16
counterclockwise = refl

least : least_arc overlapping.arcs dissolve_ring ≡ 0
least = refl

-- its first step begins this arc, in the arc's direction
begins : begins_arc (segment 2 4 0 4) (points_of overlapping.arcs (forward 0)) ≡ true
begins = refl

arcs : overlapping.arcs
    ≡ (point 2 4 ∷ point 0 4 ∷ point 0 0 ∷ point 4 0 ∷ point 4 2 ∷ []) ∷ (point 2 4 ∷ point 4 4 ∷ point 4 2 ∷ []) ∷ (point 2 4 ∷ point 2 2 ∷ point 4 2 ∷ []) ∷ (point 2 4 ∷ point 2 6 ∷ point 6 6 ∷ point 6 2 ∷ point 4 2 ∷ []) ∷ []
arcs = refl

-- its steps are the boundary of the dissolve, each once
steps_once : IsPermutation (boundary overlapping answers (dissolved feature (0 ∷ 1 ∷ []))) (steps_of_paths (dissolve_ring ∷ []))
steps_once = record { moves = (5, 7) ∷ (4, 6) ∷ (3, 5) ∷ (1, 2) ∷ (0, 2) ∷ []; below = (lit< tt, lit< tt, (lit< tt, lit< tt, (lit< tt, lit< tt, (lit< tt, lit< tt, (lit< tt, lit< tt, tt))))); is = refl }

-- and of its one part
one_part : answers.parts (dissolved feature (0 ∷ 1 ∷ [])) ≡ 1
one_part = refl

of_its_part : boundary overlapping answers (part (dissolved feature (0 ∷ 1 ∷ [])) 0) ≡ boundary overlapping answers (dissolved feature (0 ∷ 1 ∷ []))
of_its_part = refl
