-- The spots of a drawing are its segments, and segments of no length; they stop at the vertices.
use Rattle.std.proofs.Common.{◌≡◌, ◌⊎◌, inl, inr, refl, sym, ap, ◌∙◌, subst, List, [], ◌∷◌, ◌++◌, map, Contains}
use Rattle.std.specs.List.{flat_map}
use Rattle.std.proofs.lemmas.List.Elements.{Contains-append_left, Contains-append_right, Contains-append_cases}
use Rattle.lists.specs.Lists.{joined_up}
use Rattle.lists.proofs.Members.{Contains-head, Contains-nil, Contains-cases, Contains-later, Contains-flat_map, flat_map-Contains, Contains-map, map-Contains, Contains-joined_up, joined_up-Contains}
use Rattle.plane_model.specs.Points.{GridPoint, Path, Segment}
use Rattle.plane_model.specs.Drawing.{Drawing, steps, steps_of_paths, rings_of, paths_of, point_segment, segments_of, vertices_of}
use Rattle.plane_snapping.proofs.Steps.{step_of_each, each_step_between}
use Rattle.hot_pixels.specs.Spots.{spots_after, path_spots, rings_spots, feature_spots, points_spots, spots_of}

-- ---- of a path

pub spots_are_steps : (p : GridPoint) (rest : Path) → spots_after p rest ≡ steps (p ∷ rest)
spots_are_steps p [] = refl
spots_are_steps p (q ∷ rest) = ap (λ (t : List Segment). record { start = p; stop = q } ∷ t) (spots_are_steps q rest)

path_spots_are : (p : GridPoint) (rest : Path) → path_spots (p ∷ rest) ≡ point_segment p ∷ steps (p ∷ rest)
path_spots_are p rest = ap (λ (t : List Segment). point_segment p ∷ t) (spots_are_steps p rest)

-- a spot of a path is a step, or has no length; it stops at a vertex
IsSpot : Path → Segment → Type 0
IsSpot path s = (Contains (steps path) s ⊎ (s.start ≡ s.stop)) × Contains path s.stop

path_spot : (path : Path) (s : Segment) → Contains (path_spots path) s → IsSpot path s
unfolding IsSpot
path_spot [] s c = Contains-nil s c
path_spot (p ∷ rest) s c = elim (Contains-cases (point_segment p) (steps (p ∷ rest)) s (subst (λ (t : List Segment). Contains t s) (path_spots_are p rest) c)) [
  | inl e ↦ (inr ((λ i. (sym e i).start) ∙ (λ i. (e i).stop)), subst (Contains (p ∷ rest)) (λ i. (e i).stop) (Contains-head p rest))
  | inr d ↦ (inl d, (step_of_each (λ u v. Contains (p ∷ rest) u × Contains (p ∷ rest) v) (p ∷ rest) (each_step_between (p ∷ rest)) s d).1)
]

step_spot : (path : Path) (s : Segment) → Contains (steps path) s → Contains (path_spots path) s
step_spot [] s c = Contains-nil s c
step_spot (p ∷ rest) s c = subst (λ (t : List Segment). Contains t s) (sym (path_spots_are p rest)) (Contains-later (point_segment p) (steps (p ∷ rest)) s c)

after_stops : (from : GridPoint) (rest : Path) (p : GridPoint) → Contains rest p → (s : Segment) × Contains (spots_after from rest) s × (s.stop ≡ p)
after_stops from [] p c = Contains-nil p c
after_stops from (q ∷ rest) p c = elim (Contains-cases q rest p c) [
  | inl e ↦ (record { start = from; stop = q }, Contains-head (record { start = from; stop = q }) (spots_after q rest), e)
  | inr d ↦ (let h = after_stops q rest p d in (h.0, Contains-later (record { start = from; stop = q }) (spots_after q rest) h.0 h.1, h.2))
]

vertex_spot : (path : Path) (p : GridPoint) → Contains path p → (s : Segment) × Contains (path_spots path) s × (s.stop ≡ p)
vertex_spot [] p c = Contains-nil p c
vertex_spot (q ∷ rest) p c = after_stops q (q ∷ rest) p c

-- ---- of a drawing: the spots of its paths, and its points

-- a spot of a path of d, or a point of d
IsDrawn : Drawing → Segment → Type 0
IsDrawn d s = ((path : Path) × Contains (paths_of d) path × Contains (path_spots path) s) ⊎ ((p : GridPoint) × Contains (joined_up d.points) p × (point_segment p ≡ s))

module _ (d : Drawing) where
  abbrev A : List Segment
  A = flat_map feature_spots d.polygons

  abbrev B : List Segment
  B = flat_map rings_spots d.lines

  abbrev C : List Segment
  C = flat_map points_spots d.points

  abbrev D : List Segment
  D = flat_map path_spots d.boxes

  abbrev P : List Path
  P = flat_map rings_of d.polygons

  drawn : (s : Segment) → Contains (spots_of d) s → IsDrawn d s
  unfolding IsDrawn
  drawn s c = elim (Contains-append_cases (A ++ B ++ C) D s c) [
    | inr k ↦ (let h = flat_map-Contains path_spots d.boxes s k in inl (h.0, Contains-append_right (P ++ joined_up d.lines) d.boxes h.0 h.1, h.2))
    | inl k ↦ elim (Contains-append_cases (A ++ B) C s k) [
      | inr m ↦ (let h = flat_map-Contains points_spots d.points s m in
          let n = map-Contains point_segment h.0 s h.2 in
          inr (n.0, Contains-joined_up d.points h.0 n.0 h.1 n.1, n.2))
      | inl m ↦ elim (Contains-append_cases A B s m) [
        | inr n ↦ (let h = flat_map-Contains rings_spots d.lines s n in
            let o = flat_map-Contains path_spots h.0 s h.2 in
            inl (o.0, Contains-append_left (P ++ joined_up d.lines) d.boxes o.0 (Contains-append_right P (joined_up d.lines) o.0 (Contains-joined_up d.lines h.0 o.0 h.1 o.1)), o.2))
        | inl n ↦ (let h = flat_map-Contains feature_spots d.polygons s n in
            let o = flat_map-Contains rings_spots h.0 s h.2 in
            let q = flat_map-Contains path_spots o.0 s o.2 in
            inl (q.0, Contains-append_left (P ++ joined_up d.lines) d.boxes q.0 (Contains-append_left P (joined_up d.lines) q.0 (Contains-flat_map rings_of d.polygons h.0 q.0 h.1 (Contains-joined_up h.0 o.0 q.0 o.1 q.1))), q.2))
      ]
    ]
  ]

  path_drawn : (path : Path) (s : Segment) → Contains (paths_of d) path → Contains (path_spots path) s → Contains (spots_of d) s
  path_drawn path s c k = elim (Contains-append_cases (P ++ joined_up d.lines) d.boxes path c) [
    | inr m ↦ Contains-append_right (A ++ B ++ C) D s (Contains-flat_map path_spots d.boxes path s m k)
    | inl m ↦ Contains-append_left (A ++ B ++ C) D s (Contains-append_left (A ++ B) C s (elim (Contains-append_cases P (joined_up d.lines) path m) [
      | inr n ↦ (let h = joined_up-Contains d.lines path n in
          Contains-append_right A B s (Contains-flat_map rings_spots d.lines h.0 s h.1 (Contains-flat_map path_spots h.0 path s h.2 k)))
      | inl n ↦ (let h = flat_map-Contains rings_of d.polygons path n in
          let o = joined_up-Contains h.0 path h.2 in
          Contains-append_left A B s (Contains-flat_map feature_spots d.polygons h.0 s h.1 (Contains-flat_map rings_spots h.0 o.0 s o.1 (Contains-flat_map path_spots o.0 path s o.2 k))))
    ]))
  ]

  point_drawn : (p : GridPoint) → Contains (joined_up d.points) p → Contains (spots_of d) (point_segment p)
  point_drawn p c =
      let h = joined_up-Contains d.points p c in
      Contains-append_left (A ++ B ++ C) D (point_segment p) (Contains-append_right (A ++ B) C (point_segment p) (Contains-flat_map points_spots d.points h.0 (point_segment p) h.1 (Contains-map point_segment h.0 p h.2)))

  -- each spot is a segment of d, or has no length
  pub spot_is_segment : (s : Segment) → Contains (spots_of d) s → Contains (segments_of d) s ⊎ (s.start ≡ s.stop)
  unfolding IsDrawn IsSpot
  spot_is_segment s c = elim (drawn s c) [
    | inl k ↦ elim (path_spot k.0 s k.2).0 [
      | inl m ↦ inl (Contains-append_left (steps_of_paths (paths_of d)) (map point_segment (joined_up d.points)) s (Contains-flat_map steps (paths_of d) k.0 s k.1 m))
      | inr e ↦ inr e
    ]
    | inr k ↦ inr ((λ i. (sym k.2 i).start) ∙ (λ i. (k.2 i).stop))
  ]

  -- each spot stops at a vertex
  pub spot_stops : (s : Segment) → Contains (spots_of d) s → Contains (vertices_of d) s.stop
  unfolding IsDrawn IsSpot
  spot_stops s c = elim (drawn s c) [
    | inl k ↦ Contains-append_left (joined_up (paths_of d)) (joined_up d.points) s.stop (Contains-joined_up (paths_of d) k.0 s.stop k.1 (path_spot k.0 s k.2).1)
    | inr k ↦ Contains-append_right (joined_up (paths_of d)) (joined_up d.points) s.stop (subst (Contains (joined_up d.points)) (λ i. (k.2 i).stop) k.1)
  ]

  -- each segment of d is a spot
  pub segment_is_spot : (s : Segment) → Contains (segments_of d) s → Contains (spots_of d) s
  segment_is_spot s c = elim (Contains-append_cases (steps_of_paths (paths_of d)) (map point_segment (joined_up d.points)) s c) [
    | inl k ↦ (let h = flat_map-Contains steps (paths_of d) s k in path_drawn h.0 s h.1 (step_spot h.0 s h.2))
    | inr k ↦ (let h = map-Contains point_segment (joined_up d.points) s k in subst (Contains (spots_of d)) h.2 (point_drawn h.0 h.1))
  ]

  -- each vertex of d is where a spot stops
  pub vertex_is_stop : (p : GridPoint) → Contains (vertices_of d) p → (s : Segment) × Contains (spots_of d) s × (s.stop ≡ p)
  vertex_is_stop p c = elim (Contains-append_cases (joined_up (paths_of d)) (joined_up d.points) p c) [
    | inl k ↦ (let h = joined_up-Contains (paths_of d) p k in let m = vertex_spot h.0 p h.2 in (m.0, path_drawn h.0 m.0 h.1 m.1, m.2))
    | inr k ↦ (point_segment p, point_drawn p k, refl)
  ]
