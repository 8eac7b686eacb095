-- The ends of the edges, with all their crossings added, are the hot points.
use Rattle.std.proofs.Common.{◌≡◌, inl, inr, sym, ◌∙◌, subst, List, Contains, Some}
use Rattle.lists.specs.Lists.{ascending}
use Rattle.lists.proofs.Ascending.{IsAscending, one_ascending, ascending-IsAscending, ascending-Contains, Contains-ascending}
use Rattle.plane_model.specs.Points.{GridPoint, Segment, at, is_before}
use Rattle.plane_model.specs.Drawing.{Drawing, vertices_of}
use Rattle.plane_model.specs.Pixel.{crossing_pixel}
use Rattle.plane_model.specs.Hot.{hot_points}
use Rattle.plane_algebra.proofs.Tests.{by_test}
use Rattle.plane_model.proofs.PointOrder.{is_before-IsStrictOrder}
use Rattle.plane_snapping.proofs.CrossingComputed.{crossing_is_computed}
use Rattle.plane_snapping.proofs.HotComputed.{vertex_is_hot, listed_is_hot, hot_is_listed}
use Rattle.plane_snapping.proofs.SnappedPaths.{ends_are_vertices}
use Rattle.plane_snapping.proofs.PixelOf.{one_pixel, in_own_pixel}
use Rattle.hot_pixels.specs.Spots.{share_end, spots_of}
use Rattle.hot_pixels.specs.Found.{HasAllCrossings}
use Rattle.hot_pixels.specs.Marking.{IsEndOf}
use Rattle.hot_pixels.specs.HotEnds.{HaveHotEnds, AreEndsOf}
use Rattle.hot_pixels.proofs.CrossingLemmas.{crossing_turned, common_end, short_meets_none}
use Rattle.hot_pixels.specs.Edges.{AreEdgesOf}
use Rattle.hot_pixels.proofs.EdgeLemmas.{crossing_along_both, end_along}
use Rattle.hot_pixels.proofs.SpotLemmas.{spot_is_segment, spot_stops, segment_is_spot, vertex_is_stop}

module _ (d : Drawing) (edges : List Segment) (k : AreEdgesOf (spots_of d) edges) (stops points : List GridPoint) (ends : AreEndsOf edges stops) (h : HasAllCrossings edges stops points) where
  start_is_vertex : (e : Segment) → Contains edges e → Contains (vertices_of d) e.start
  start_is_vertex e c = elim (spot_is_segment d e (k.from e c)) [
    | inl s ↦ (ends_are_vertices d e s).0
    | inr same ↦ subst (Contains (vertices_of d)) (sym same) (spot_stops d e (k.from e c))
  ]

  end_is_vertex : (e : Segment) (g : GridPoint) → Contains edges e → IsEndOf e g → Contains (vertices_of d) g
  end_is_vertex e g c (inl is) = subst (Contains (vertices_of d)) (sym is) (start_is_vertex e c)
  end_is_vertex e g c (inr is) = subst (Contains (vertices_of d)) (sym is) (spot_stops d e (k.from e c))

  pub point_is_hot : (g : GridPoint) → Contains points g → Contains (hot_points d) g
  point_is_hot g c = hot_is_listed d g (elim (h.adds.from g c) [
    | inl l ↦ (let e = ends.from g l in vertex_is_hot d g (end_is_vertex e.0 g e.1 e.2))
    | inr m ↦
        elim (spot_is_segment d m.s (k.from m.s m.s_there)) [
          | inr e ↦ short_meets_none m.s m.t g e m.crosses
          | inl s_drawn ↦ elim (spot_is_segment d m.t (k.from m.t m.t_there)) [
            | inr e ↦ short_meets_none m.t m.s g e (crossing_turned m.s m.t g m.crosses)
            | inl t_drawn ↦ inr (record { s = m.s; t = m.t; s_drawn = s_drawn; t_drawn = t_drawn; meet = (crossing_is_computed m.s m.t g).0 m.crosses })
          ]
        ]
  ])

  vertex_is_point : (g : GridPoint) → Contains (vertices_of d) g → Contains points g
  vertex_is_point g c =
      let m = vertex_is_stop d g c in
      let e = k.to m.0 m.1 in
      h.adds.kept g (elim e.2 [
        | inl same ↦ subst (Contains stops) ((λ i. (same i).stop) ∙ m.2) (ends.ends.stop e.0 e.1)
        | inr back ↦ subst (Contains stops) ((λ i. (back i).start) ∙ m.2) (ends.ends.start e.0 e.1)
      ])

  pub hot_is_point : (g : GridPoint) → Contains (hot_points d) g → Contains points g
  hot_is_point g c = elim (listed_is_hot d g c) [
    | inl v ↦
        let same : v.vertex ≡ g = one_pixel (at v.vertex) v.vertex g (in_own_pixel v.vertex) v.held in
        vertex_is_point g (subst (Contains (vertices_of d)) same v.listed)
    | inr m ↦
        let e : crossing_pixel m.s m.t ≡ Some g = (crossing_is_computed m.s m.t g).1 m.meet in
        let a = k.to m.s (segment_is_spot d m.s m.s_drawn) in
        let b = k.to m.t (segment_is_spot d m.t m.t_drawn) in
        let f : crossing_pixel a.0 b.0 ≡ Some g = crossing_along_both m.s a.0 m.t b.0 g a.2 b.2 e in
        by_test (share_end a.0 b.0)
        (λ common. let v = ends_are_vertices d m.s m.s_drawn in
        elim (end_along m.s a.0 g a.2 (common_end a.0 b.0 g f common)) [
          | inl same ↦ vertex_is_point g (subst (Contains (vertices_of d)) (sym same) v.0)
          | inr same ↦ vertex_is_point g (subst (Contains (vertices_of d)) (sym same) v.1)
        ])
        (λ apart. h.all a.0 b.0 g a.1 b.1 apart f)
  ]

  -- an ascending list with the same elements is the list of the hot points in order
  ascending_is_hot : (sorted : List GridPoint) → IsAscending is_before sorted → ((g : GridPoint) → Contains sorted g → Contains points g) → ((g : GridPoint) → Contains points g → Contains sorted g) → sorted ≡ ascending is_before (hot_points d)
  ascending_is_hot sorted a from to = one_ascending is_before is_before-IsStrictOrder sorted (ascending is_before (hot_points d)) a (ascending-IsAscending is_before is_before-IsStrictOrder (hot_points d))
      (λ g c. Contains-ascending is_before is_before-IsStrictOrder (hot_points d) g (point_is_hot g (from g c)))
      (λ g c. to g (hot_is_point g (ascending-Contains is_before is_before-IsStrictOrder (hot_points d) g c)))

  pub found_is_hot : (sorted : List GridPoint) → sorted ≡ ascending is_before points → sorted ≡ ascending is_before (hot_points d)
  found_is_hot sorted is =
      is ∙ ascending_is_hot (ascending is_before points)
      (ascending-IsAscending is_before is_before-IsStrictOrder points)
      (ascending-Contains is_before is_before-IsStrictOrder points)
      (Contains-ascending is_before is_before-IsStrictOrder points)

  vertex_is_found : (sorted : List GridPoint) → sorted ≡ ascending is_before points → (p : GridPoint) → Contains (vertices_of d) p → Contains sorted p
  vertex_is_found sorted is p c = subst (λ (xs : List GridPoint). Contains xs p) (sym is) (Contains-ascending is_before is_before-IsStrictOrder points p (vertex_is_point p c))

  -- the edges end at vertices
  pub edges_end_hot : (sorted : List GridPoint) → sorted ≡ ascending is_before points → HaveHotEnds sorted edges
  edges_end_hot sorted is = record {
    start = λ e c. vertex_is_found sorted is e.start (start_is_vertex e c);
    stop = λ e c. vertex_is_found sorted is e.stop (spot_stops d e (k.from e c));
  }
