-- Laws of planes: what a run's layers are seen in is the plane of the model.
use Rattle.std.specs.Prelude.{◌≡◌, ℕ, List}
use Rattle.plane_model.specs.Points.{Path}
use Rattle.plane_model.specs.Drawing.{Drawing}
use Rattle.plane_model.specs.Arrangement.{IsArrangement}
use Rattle.plane_model.specs.Snapped.{snapped}
use Rattle.face_walk.specs.Places.{FaceTable}
use Rattle.region_model.specs.Answers as model
use Rattle.region_model.specs.Answers.{AreRight}
use Rattle.run_plane.specs.LaidOut.{IsLaidOut}
use Rattle.layer_laws.specs.Shown.{View, plane_of}
use Rattle.layer_laws.specs.Views.{IsViewOf}

-- the plane of a view is that of the model for the drawing, by its right answers, and its links meet at their ends
-- alone
pub record IsModelled (d : Drawing) (v : View) : Type 0 where
  pub plane : plane_of v ≡ model.plane_of d
  pub right : AreRight (model.plane_of d) v.answers
  pub links_meet_at_ends : IsArrangement (model.plane_of d).links

-- so it is with each view of a drawing that is laid out
abbrev pub ViewsAreModelled : Type 0
ViewsAreModelled = (d : Drawing) (arcs : List Path) (faces : FaceTable) (boxes features : List (List ℕ)) → IsLaidOut (snapped d) arcs faces boxes features → (v : View) → IsViewOf d arcs faces boxes features v → IsModelled d v
