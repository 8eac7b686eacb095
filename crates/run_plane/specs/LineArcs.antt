-- Paths of line features as signed arcs of a plane.
use Rattle.std.specs.Prelude.{◌≡◌, ◌<◌, ◌++◌, Bool, nat_lt, All, List, [], ◌∷◌, filter, length, MatchBool}
use Rattle.std.specs.List.{AllZip}
use Rattle.plane_model.specs.Points.{Path}
use Rattle.plane_model.specs.Arcs.{SignedArc}
use Rattle.arc_table.specs.PathArcs.{AreArcsAlong}

abbrev pub has_links : Path → Bool
has_links path = nat_lt 1 (length path)

-- arcs of the plane that go along a path
pub record AreArcsOfPath (arcs : List Path) (path : Path) (named : List SignedArc) : Type 0 where
  pub along : AreArcsAlong arcs path named
  pub there : All (λ (a : SignedArc). a.arc < length arcs) named

-- the paths with links, each as arcs
abbrev pub AreLineArcs : List Path → List Path → List (List SignedArc) → Type 0
AreLineArcs arcs lines paths = AllZip (AreArcsOfPath arcs) (filter has_links lines) paths

-- the next path, where it has links, is appended to the others
abbrev pub GoesAlong : List Path → Path → List (List SignedArc) → List (List SignedArc) → Type 0
GoesAlong arcs path old new = MatchBool (has_links path) ((along : List SignedArc) × AreArcsOfPath arcs path along × (new ≡ old ++ along ∷ [])) (new ≡ old)
