-- The plane of a view is that of the model.
use Rattle.std.proofs.Common.{◌≡◌, ◌∙◌, subst}
use Rattle.plane_model.specs.Arcs.{arcs_of}
use Rattle.plane_model.specs.Snapped.{links_of, snapped}
use Rattle.arc_laws.proofs.Modelled.{arcs_are_modelled}
use Rattle.region_model.specs.Answers as model
use Rattle.region_model.specs.Answers.{AreRight, Plane}
use Rattle.region_laws.specs.Answered.{plane_with}
use Rattle.region_laws.proofs.Walked.{links_arranged}
use Rattle.layer_laws.specs.Shown.{plane_of}
use Rattle.picture_laws.specs.Planes.{ViewsAreModelled}

pub views_are_modelled : ViewsAreModelled
views_are_modelled d arcs faces boxes features laid v h =
    let taken : arcs ≡ arcs_of (snapped d) (links_of (snapped d)) = arcs_are_modelled (snapped d) arcs laid.paths laid.are_arcs laid.forward laid.least laid.numbered in
    let same : plane_of v ≡ model.plane_of d = (λ i. plane_with (h.of_drawing i) (h.of_arcs i)) ∙ (λ i. plane_with d (taken i)) in
    record {
      plane = same;
      right = subst (λ (P : Plane). AreRight P v.answers) same h.is_view.right;
      links_meet_at_ends = links_arranged d;
    }
