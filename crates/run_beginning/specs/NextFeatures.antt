-- The features of a drawing that are handed out next.
use Rattle.std.specs.Prelude.{◌≡◌, List, length}
use Rattle.std.specs.List.{AllZip}
use Rattle.std.specs.Vec.Iter.{into_iter_items, into_iter_len}
use Rattle.plane_model.specs.Points.{Path}
use Rattle.run_plane.specs.LineArcs.{AreLineArcs}
use Rattle.run_beginning.specs.BegunLayers.{Left}
use Rattle.run_beginning.specs.declared.beginning.Next.{Next}

-- they are those that are left, the paths as arcs
pub record IsLeft (arcs : List Path) (left : Left) (next : Next) : Type 0 where
  pub faces : into_iter_items next.faces ≡ left.faces
  pub lines : AllZip (AreLineArcs arcs) left.lines (into_iter_items next.lines)

-- as many come as are said to be left
pub record AreCounted (next : Next) : Type 0 where
  pub faces : into_iter_len next.faces ≡ length (into_iter_items next.faces)
  pub lines : into_iter_len next.lines ≡ length (into_iter_items next.lines)
