-- The line of what is laid out.
use Rattle.std.proofs.Common.{◌≡◌, ◌∙◌, subst, ℕ, List}
use Rattle.plane_model.specs.Points.{Path}
use Rattle.plane_model.specs.Drawing.{Drawing}
use Rattle.plane_model.specs.Snapped.{snapped}
use Rattle.face_walk.specs.Places.{FaceTable}
use Rattle.run_plane.specs.Begun.{IsFew}
use Rattle.run_plane.specs.LaidOut.{IsLaidOut}
use Rattle.synth_model.specs.Line.{line_text}
use Rattle.run_synth.specs.declared.synth.Numbers.{Numbers}
use Rattle.run_synth.specs.Told.{AreNumbersOf, IsLineOf, IsToldOf}

pub line_is : (s : Drawing) (cells : ℕ) (line : List ℕ) (arcs : List Path) (faces : FaceTable) (boxes features : List (List ℕ)) (numbers : Numbers) → IsLaidOut s arcs faces boxes features → AreNumbersOf arcs faces features cells numbers →
    line ≡ line_text numbers.cells numbers.arcs numbers.faces numbers.features numbers.twice_area → IsLineOf s cells line
line_is s cells line arcs faces boxes features numbers laid are is = record {
  arcs = arcs;
  faces = faces;
  boxes = boxes;
  features = features;
  laid = laid;
  cleaned = are.cleaned;
  are_cleaned = are.are_cleaned;
  is = is ∙ (λ i. line_text (are.of_cells i) (are.of_arcs i) (are.of_faces i) (are.of_features i) (are.area i));
}

-- of a drawing that is the mosaic, with its number of cells
pub told_is : (mosaic d : Drawing) (many count : ℕ) (line : List ℕ) → d ≡ mosaic → count ≡ many → IsFew d → IsLineOf (snapped d) count line → IsToldOf mosaic many line
told_is mosaic d many count line drawn counted few h = record {
  few = subst IsFew drawn few;
  told = subst (λ (e : Drawing). IsLineOf (snapped e) many line) drawn (subst (λ (k : ℕ). IsLineOf (snapped d) k line) counted h);
}
