-- A vertex of a snapped drawing is a node of its arcs, or inside an arc, or on no arc.
use Rattle.std.proofs.Common.{◌≡◌, ◌⊎◌, inl, inr, sym, subst, arith, ℕ, zero, suc, ◌<◌, ◌≤◌, Bool, true, false, ◌||◌, List, [], length, get_or, Option, Some, None}
use Rattle.std.specs.Prelude.{◌↔◌}
use Rattle.std.specs.List.{list_any}
use Rattle.std.proofs.lemmas.Bool.{cases_lt, or_cases, or_left, or_right}
use Rattle.std.proofs.lemmas.List.Folds.{list_any_at}
use Rattle.std.proofs.lemmas.Map.Views.{Contains-from_any}
use Rattle.plane_algebra.proofs.Tests.{by_test}
use Rattle.plane_model.specs.Points.{GridPoint, Path, same_point}
use Rattle.plane_model.specs.Arcs.{SignedArc, forward, backward}
use Rattle.plane_model.specs.Sides.{IsInside}
use Rattle.plane_model.specs.Snapped.{links_of, snapped}
use Rattle.plane_model.proofs.PointOrder.{clash, same_point_from, same_point_to}
use Rattle.plane_snapping.proofs.SnappedLinks.{snapped_links_are_an_arrangement}
use Rattle.arc_table.specs.Around.{start_of}
use Rattle.arc_table.specs.Lookup.{HasVertex, IsArcAt}
use Rattle.face_laws.proofs.PointLemmas.{whole_are_free}
use Rattle.line_ops.specs.Points.{IsNode}
use Rattle.point_laws.specs.Sight.{PointsOf, VerticesOfADrawing}
use Rattle.point_laws.proofs.FreePoints.{free_points_of_a_drawing}
use Rattle.point_laws.proofs.InnerVertices.{inner_vertices_are_inside}
use Rattle.point_laws.proofs.Nodes.{nodes_are_inside}

-- the least number below n that passes a test
record IsLeast (f : ℕ → Bool) (n m : ℕ) : Type 0 where
  below : m < n
  passes : f m ≡ true
  least : (j : ℕ) → j < n → f j ≡ true → m ≤ j

least_or_none : (f : ℕ → Bool) (n : ℕ) → ((m : ℕ) × IsLeast f n m) ⊎ ((j : ℕ) → j < n → f j ≡ true → ⊥)
least_or_none f zero = inr (λ j l e. absurd (omega arith))
least_or_none f (suc n) = elim (least_or_none f n) [
  | inl r ↦ inl (longer r.0 r.1)
  | inr none ↦ by_test (f n) (λ e. inl (n, last none e)) (λ e. inr (λ j l g. elim (cases_lt j n) [ inl k ↦ none j k g | inr k ↦ clash (f n) (subst (λ (i : ℕ). f i ≡ true) (let same : j ≡ n = omega arith in same) g) e ]))
]
  where
    longer : (m : ℕ) → IsLeast f n m → (m : ℕ) × IsLeast f (suc n) m
    longer m h =
        let l = h.below in
        (m, record { below = omega arith; passes = h.passes; least = λ j k e. elim (cases_lt j n) [ inl i ↦ h.least j i e | inr i ↦ omega arith ] })

    last : ((j : ℕ) → j < n → f j ≡ true → ⊥) → f n ≡ true → IsLeast f (suc n) n
    last none e = record { below = omega arith; passes = e; least = λ j k g. elim (cases_lt j n) [ inl i ↦ absurd (none j i g) | inr i ↦ i ] }

module _ (arcs : List Path) (p : GridPoint) where
  abbrev has_vertex : ℕ → Bool
  has_vertex n = list_any (same_point p) (get_or arcs n [])

  to_vertex : (n : ℕ) → has_vertex n ≡ true → HasVertex arcs n p
  to_vertex n e = Contains-from_any same_point_from p (get_or arcs n []) e

  from_vertex : (n : ℕ) → HasVertex arcs n p → has_vertex n ≡ true
  from_vertex n h = list_any_at (same_point p) (get_or arcs n []) h.0 p h.1 (same_point_to p (get_or (get_or arcs n []) h.0 p) (sym h.2))

  -- the least arc at p, if there is one
  arc_at_exists : (o : Option ℕ) × IsArcAt arcs p o
  arc_at_exists = elim (least_or_none has_vertex (length arcs)) [
    | inl r ↦ (Some r.0, record { there = r.1.below; on = to_vertex r.0 r.1.passes; least = λ m l h. r.1.least m l (from_vertex m h) })
    | inr none ↦ (None, λ n l h. none n l (from_vertex n h))
  ]

  abbrev starts_here : SignedArc → Bool
  starts_here a = same_point (start_of arcs a) p

  -- whether p is a node
  node_or_none : IsNode arcs p ⊎ (IsNode arcs p → ⊥)
  node_or_none = elim (least_or_none (λ n. starts_here (forward n) || starts_here (backward n)) (length arcs)) [
    | inl r ↦ inl (elim (or_cases (starts_here (forward r.0)) (starts_here (backward r.0)) r.1.passes) [
      | inl e ↦ (forward r.0, record { there = r.1.below; start = same_point_from (start_of arcs (forward r.0)) p e })
      | inr e ↦ (backward r.0, record { there = r.1.below; start = same_point_from (start_of arcs (backward r.0)) p e })
    ])
    | inr none ↦ inr (λ node. none node.0.arc node.1.there (either node.0.arc node.0.is_reversed (same_point_to (start_of arcs node.0) p node.1.start)))
  ]
    where
      either : (n : ℕ) (b : Bool) → starts_here (record { arc = n; is_reversed = b }) ≡ true → (starts_here (forward n) || starts_here (backward n)) ≡ true
      either n true e = or_right (starts_here (forward n)) (starts_here (backward n)) e
      either n false e = or_left (starts_here (forward n)) (starts_here (backward n)) e

pub vertices_of_a_drawing : VerticesOfADrawing
vertices_of_a_drawing d arcs long along whole faces built label by set p vertex inside is =
    let s = snapped_links_are_an_arrangement d in
    elim (node_or_none arcs p) [
      | inl node ↦ nodes_are_inside (links_of (snapped d)) s.0 s.1 arcs long along (whole_are_free (snapped d) arcs whole) faces built label by set p node inside is
      | inr none ↦ off_nodes none (arc_at_exists arcs p).0 (arc_at_exists arcs p).1
    ]
  where
    off_nodes : (IsNode arcs p → ⊥) → (o : Option ℕ) → IsArcAt arcs p o → (inside ≡ true) ↔ IsInside (links_of (snapped d)) (PointsOf (links_of (snapped d)) label set) p
    off_nodes none None h = free_points_of_a_drawing d arcs long along whole faces built label by set p vertex h inside is
    off_nodes none (Some n) h =
        let s = snapped_links_are_an_arrangement d in
        inner_vertices_are_inside (links_of (snapped d)) s.0 s.1 arcs long along (whole_are_free (snapped d) arcs whole) faces built label by set p none n h inside is
