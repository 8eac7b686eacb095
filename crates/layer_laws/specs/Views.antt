-- What a run begins with can be seen: there are labels and right answers for its plane, and what features and boxes
-- hold follows them.
use Rattle.std.specs.Prelude.{◌≡◌, ℕ, ◌<◌, List, length}
use Rattle.plane_model.specs.Points.{Path}
use Rattle.plane_model.specs.Drawing.{Drawing}
use Rattle.plane_model.specs.Snapped.{snapped}
use Rattle.face_walk.specs.Holders.{list_at}
use Rattle.face_walk.specs.Places.{FaceTable}
use Rattle.region_model.specs.Region.{Region, box, feature}
use Rattle.run_plane.specs.LaidOut.{IsLaidOut}
use Rattle.layer_laws.specs.Shown.{FacesShow, IsView, View}

-- the sets of a list show the regions of their numbers
abbrev pub ShowEach : View → List (List ℕ) → (ℕ → Region) → Type 0
ShowEach v sets region = (n : ℕ) → n < length sets → FacesShow v (list_at sets n) (region n)

-- a view of the drawing with these arcs and faces, in which the sets of features and boxes show them
pub record IsViewOf (d : Drawing) (arcs : List Path) (faces : FaceTable) (boxes features : List (List ℕ)) (v : View) : Type 0 where
  pub of_drawing : v.drawing ≡ d
  pub of_arcs : v.arcs ≡ arcs
  pub of_faces : v.faces ≡ faces
  pub is_view : IsView v
  pub of_features : ShowEach v features feature
  pub of_boxes : ShowEach v boxes box

-- ---- law: a snapped drawing that is laid out has such a view
abbrev pub ViewsExist : Type 0
ViewsExist = (d : Drawing) (arcs : List Path) (faces : FaceTable) (boxes features : List (List ℕ)) → IsLaidOut (snapped d) arcs faces boxes features → (v : View) × IsViewOf d arcs faces boxes features v
