-- The plane of a drawing: its links go from the lesser end to the greater, and its lines and arcs go along them.
use Rattle.std.proofs.Common.{◌≡◌, ◌⊎◌, inl, inr, refl, sym, subst, ◌++◌, Bool, true, false, List, map, Contains}
use Rattle.std.specs.Prelude.{if◌then◌else◌}
use Rattle.std.specs.List.{flat_map}
use Rattle.std.proofs.lemmas.List.Elements.{Contains-append_left, Contains-append_right}
use Rattle.lists.specs.Lists.{joined_up}
use Rattle.lists.proofs.Ascending.{Contains-ascending, ascending-Contains}
use Rattle.lists.proofs.Members.{Contains-flat_map, Contains-joined_up, Contains-map, map-Contains}
use Rattle.plane_model.specs.Points.{GridPoint, Path, Segment, is_before, link_before, link_between, reversed}
use Rattle.plane_model.specs.Drawing.{Drawing, paths_of, rings_of, steps, steps_of_paths, vertices_of}
use Rattle.plane_model.specs.Snapped.{links_of, snapped}
use Rattle.plane_model.proofs.PointOrder.{is_before-IsStrictOrder, link_before-IsStrictOrder}
use Rattle.region_model.specs.Answers.{Plane, plane_of}
use Rattle.outcome_laws.specs.Laws.{IsAlong}
use Rattle.outcome_laws.proofs.Every.{Every, every_from}
use Rattle.outcome_laws.proofs.ArcSteps.{Goes, arcs_go, from_to}

-- a link goes from its lesser end to its greater, or stands still
abbrev pub GoesUp : Segment → Type 0
GoesUp l = (is_before l.start l.stop ≡ true) ⊎ (reversed l ≡ l)

-- a vertex of the drawing, points included
abbrev pub IsVertex : Plane → GridPoint → Type 0
IsVertex P p = Contains (vertices_of P.drawing) p

-- links go up, and arcs and lines go along them
pub record IsWalked (P : Plane) : Type 0 where
  pub up : (l : Segment) → Contains P.links l → GoesUp l
  pub arcs : Every (Goes P.links) P.arcs
  pub lines : Every (Every (Goes P.links)) P.drawing.lines

link_goes_up : (s : Segment) → GoesUp (link_between s)
link_goes_up s = go (is_before s.start s.stop) (is_before s.stop s.start) refl refl
  where
    go : (b c : Bool) → is_before s.start s.stop ≡ b → is_before s.stop s.start ≡ c → GoesUp (if b then s else reversed s)
    go true c e f = inl e
    go false true e f = inl f
    go false false e f = inr (let same : s.start ≡ s.stop = is_before-IsStrictOrder.total s.start s.stop e f in λ i. from_to (same i) (sym same i))

module _ (s : Drawing) where
  abbrev S : List Segment
  S = links_of s

  link_up : (l : Segment) → Contains S l → GoesUp l
  link_up l c =
      let there : Contains (map link_between (steps_of_paths (paths_of s))) l = ascending-Contains link_before link_before-IsStrictOrder (map link_between (steps_of_paths (paths_of s))) l c in
      let (t, of_paths, is) = map-Contains link_between (steps_of_paths (paths_of s)) l there in
      subst GoesUp is (link_goes_up t)

  step_along : (t : Segment) → Contains (steps_of_paths (paths_of s)) t → IsAlong S t
  step_along t c = go (is_before t.start t.stop) (Contains-ascending link_before link_before-IsStrictOrder (map link_between (steps_of_paths (paths_of s))) (link_between t) (Contains-map link_between (steps_of_paths (paths_of s)) t c))
    where
      go : (b : Bool) → Contains S (if b then t else reversed t) → IsAlong S t
      go true d = inl d
      go false d = inr d

  -- each step of a path of the drawing is one of its steps
  path_goes : (path : Path) → Contains (paths_of s) path → Goes S path
  path_goes path c = every_from (IsAlong S) (steps path) (λ t d. step_along t (Contains-flat_map steps (paths_of s) path t c d))

  line_there : (line : List Path) (path : Path) → Contains s.lines line → Contains line path → Contains (paths_of s) path
  line_there line path c d = Contains-append_left (flat_map rings_of s.polygons ++ joined_up s.lines) s.boxes path (Contains-append_right (flat_map rings_of s.polygons) (joined_up s.lines) path (Contains-joined_up s.lines line path c d))

  lines_go : Every (Every (Goes S)) s.lines
  lines_go = every_from (Every (Goes S)) s.lines (λ line c. every_from (Goes S) line (λ path d. path_goes path (line_there line path c d)))

-- the plane of each drawing is walked along
pub plane_walked : (d : Drawing) → IsWalked (plane_of d)
plane_walked d = record {
  up = link_up (snapped d);
  arcs = arcs_go (snapped d) (links_of (snapped d)) (every_from (IsAlong (links_of (snapped d))) (steps_of_paths (paths_of (snapped d))) (step_along (snapped d)));
  lines = lines_go (snapped d);
}

-- the points of a feature are vertices
pub points_listed : (d : Drawing) (feature : List GridPoint) → Contains d.points feature → Every (IsVertex (plane_of d)) feature
points_listed d feature c = every_from (IsVertex (plane_of d)) feature
    (λ p e. Contains-append_right (joined_up (paths_of (snapped d))) (joined_up d.points) p (Contains-joined_up d.points feature p c e))
