-- What is traced for a set of faces prints the region that the set follows.
use Rattle.std.specs.Prelude.{◌≡◌, ◌↔◌, ℕ, ◌<◌, Bool, true, List, [], length, map, slice_index_or}
use Rattle.lists.specs.Lists.{joined_up}
use Rattle.plane_model.specs.Points.{RationalPoint, Segment, Path}
use Rattle.plane_model.specs.Arcs.{SignedArc}
use Rattle.plane_model.specs.Boundary.{boundary_by}
use Rattle.plane_model.specs.Drawing.{Drawing}
use Rattle.plane_model.specs.Parity.{rings_hold}
use Rattle.plane_model.specs.Rings.{UsesOnce}
use Rattle.plane_model.specs.Sees.{IsOffLinks}
use Rattle.plane_model.specs.Snapped.{links_of, snapped}
use Rattle.plane_faces.specs.Places.{Place}
use Rattle.face_walk.specs.Places.{FaceTable}
use Rattle.ring_trace.specs.Traced.{UsesBoundary}
use Rattle.ring_trace.specs.Turns.{round_of}
use Rattle.part_laws.specs.Parts.{AreTraced}
use Rattle.region_model.specs.Region.{Region, part, Has}
use Rattle.region_laws.specs.Regions.{Follows}
use Rattle.region_model.specs.Answers.{AreSides}
use Rattle.region_laws.specs.Followed.{IsWalked}

-- all rings of a trace together hold a point on no link exactly if the region has it
abbrev pub TracesPrintRegions : Type 0
TracesPrintRegions = (d : Drawing) (arcs : List Path) (faces : FaceTable) (label : Place → ℕ) → IsWalked d arcs faces label → (set : List ℕ) (parts : List (List ℕ)) (polygons : List (List (List SignedArc))) →
    AreTraced arcs faces set parts polygons → (r : Region) → Follows (snapped d) arcs label set r → (z : RationalPoint) → IsOffLinks (links_of (snapped d)) z →
    (rings_hold z (map (round_of arcs) (joined_up polygons)) ≡ true) ↔ Has (snapped d) arcs r z

-- there is one polygon for each part of the region, in order, and its rings hold the points of this part
abbrev pub PolygonsPrintParts : Type 0
PolygonsPrintParts = (d : Drawing) (arcs : List Path) (faces : FaceTable) (label : Place → ℕ) → IsWalked d arcs faces label → (set : List ℕ) (parts : List (List ℕ)) (polygons : List (List (List SignedArc))) →
    AreTraced arcs faces set parts polygons → (r : Region) → Follows (snapped d) arcs label set r →
    (length polygons ≡ length parts) × ((k : ℕ) → k < length polygons → (z : RationalPoint) → IsOffLinks (links_of (snapped d)) z →
    (rings_hold z (map (round_of arcs) (slice_index_or polygons k [])) ≡ true) ↔ Has (snapped d) arcs (part r k) z)

-- and all rings together use each step of the boundary of the region once, with the region on its left, and no other
abbrev pub TracesUseBoundaries : Type 0
TracesUseBoundaries = (d : Drawing) (arcs : List Path) (faces : FaceTable) (label : Place → ℕ) → IsWalked d arcs faces label → (set : List ℕ) (parts : List (List ℕ)) (polygons : List (List (List SignedArc))) →
    AreTraced arcs faces set parts polygons → UsesBoundary faces.places (length arcs) set polygons → (r : Region) → Follows (snapped d) arcs label set r → (left right : Segment → Bool) →
    AreSides (links_of (snapped d)) (Has (snapped d) arcs r) left right → UsesOnce (boundary_by left right (links_of (snapped d))) (map (round_of arcs) (joined_up polygons))

-- and so do the rings of one polygon those of the boundary of its part
abbrev pub PolygonsUseBoundaries : Type 0
PolygonsUseBoundaries = (d : Drawing) (arcs : List Path) (faces : FaceTable) (label : Place → ℕ) → IsWalked d arcs faces label → (set : List ℕ) (parts : List (List ℕ)) (polygons : List (List (List SignedArc))) →
    AreTraced arcs faces set parts polygons → (r : Region) → Follows (snapped d) arcs label set r → (k : ℕ) → k < length polygons → (left right : Segment → Bool) →
    AreSides (links_of (snapped d)) (Has (snapped d) arcs (part r k)) left right → UsesOnce (boundary_by left right (links_of (snapped d))) (map (round_of arcs) (slice_index_or polygons k []))
