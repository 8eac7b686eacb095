-- Inner faces put in order are a set, and arcs of a table have places.
use Rattle.std.proofs.Common.{◌<◌, ℕ, List, All, length, arith}
use Rattle.std.specs.Prelude.{nat_lt}
use Rattle.std.proofs.lemmas.List.Elements.{All-weaker}
use Rattle.lists.specs.Lists.{ascending}
use Rattle.plane_model.specs.Points.{Path}
use Rattle.plane_model.specs.Arcs.{SignedArc}
use Rattle.face_walk.specs.Places.{FaceTable, HasArc, IsBuiltOf}
use Rattle.face_sets.specs.Sets.{IsInnerFace, IsSetOf}
use Rattle.face_sets.proofs.SetLemmas.{All-ascending}

pub set_of_inner : (t : FaceTable) (faces : List ℕ) → All (IsInnerFace t) faces → IsSetOf t (ascending nat_lt faces)
set_of_inner t faces h = All-ascending (IsInnerFace t) faces h

has_place : (arcs : List Path) (faces : FaceTable) → IsBuiltOf arcs faces → (a : SignedArc) → a.arc < length arcs → HasArc faces a
has_place arcs faces built a h = let c = built.places_counted in omega (arith, h, c)

pub arcs_have_places : (arcs : List Path) (faces : FaceTable) → IsBuiltOf arcs faces → (path : List SignedArc) → All (λ (a : SignedArc). a.arc < length arcs) path → All (HasArc faces) path
arcs_have_places arcs faces built path h = All-weaker (λ (a : SignedArc). a.arc < length arcs) (HasArc faces) (has_place arcs faces built) path h
