-- The links along the chains of a drawing's edges are the links of its snapped paths.
use Rattle.std.proofs.Common.{◌≡◌, ◌≢◌, ◌-◌, inl, inr, refl, sym, ap, ◌∙◌, subst, arith, Bool, true, false, cond, List, [], ◌∷◌, map, length, reverse, Contains, Some, None}
use Rattle.std.specs.List.{flat_map}
use Rattle.std.specs.Option.{option_to_list}
use Rattle.std.proofs.lemmas.List.Elements.{Contains-append_cases}
use Rattle.lists.specs.Lists.{drop_repeats, ascending, joined_up}
use Rattle.lists.proofs.Members.{Contains-head, Contains-nil, Contains-cases, Contains-map, map-Contains, Contains-flat_map, flat_map-Contains}
use Rattle.lists.proofs.Ascending.{one_ascending, ascending-IsAscending, ascending-Contains, Contains-ascending}
use Rattle.plane_model.specs.Points.{GridPoint, Segment, Path, same_point, is_before, reversed, link_between, link_before}
use Rattle.plane_model.specs.Drawing.{Drawing, steps, steps_of_paths, paths_of, point_segment, vertices_of}
use Rattle.plane_model.specs.Hot.{hot_points, chain_among, chain_of}
use Rattle.plane_model.specs.Snapped.{joined_chains, snapped_path, snapped, links_of}
use Rattle.plane_model.proofs.PointOrder.{is_before-IsStrictOrder, link_before-IsStrictOrder, same_point_from, same_point_to, clash}
use Rattle.plane_snapping.proofs.SnappedLinks.{paths_snapped}
use Rattle.hot_pixels.specs.Chains.{AreHotPointsOf}
use Rattle.hot_pixels.specs.Spots.{spots_of}
use Rattle.hot_pixels.specs.Edges.{IsEdgeOf, AreEdgesOf}
use Rattle.hot_pixels.specs.Links.{link_along, path_links, links_of_chains}
use Rattle.hot_pixels.proofs.ChainLemmas.{chain_is_drawn}
use Rattle.hot_pixels.proofs.SpotLemmas.{spot_is_segment, spot_stops, segment_is_spot}
use Rattle.hot_pixels.proofs.BackLemmas.{back_chain}
use Rattle.snap_round.proofs.ChainEnds.{no_link_in_place}
use Rattle.snap_round.proofs.PathLemmas.{vertex_listed, snapped_step}
use Rattle.snap_round.proofs.StepLemmas.{steps_of_part, kept_step, back_step, step_of_link, step_long}

abbrev found_along : Segment → List Segment
found_along s = option_to_list (link_along s)

found : (s l : Segment) → Contains (found_along s) l → (s.start ≢ s.stop) × (link_between s ≡ l)
found s l c = go (same_point s.start s.stop) refl c
  where
    go : (b : Bool) → same_point s.start s.stop ≡ b → Contains (option_to_list (cond b None (Some (link_between s)))) l → (s.start ≢ s.stop) × (link_between s ≡ l)
    go true e k = Contains-nil l k
    go false e k = ((λ h. clash (same_point s.start s.stop) (same_point_to s.start s.stop h) e), elim (Contains-cases (link_between s) [] l k) [ inl f ↦ f | inr m ↦ Contains-nil l m ])

finds : (s : Segment) → s.start ≢ s.stop → Contains (found_along s) (link_between s)
finds s n = go (same_point s.start s.stop) refl
  where
    go : (b : Bool) → same_point s.start s.stop ≡ b → Contains (option_to_list (cond b None (Some (link_between s)))) (link_between s)
    go true e = absurd (n (same_point_from s.start s.stop e))
    go false e = Contains-head (link_between s) []

-- a segment and the one that runs back along it have one link
link_turned : (s : Segment) → s.start ≢ s.stop → link_between (reversed s) ≡ link_between s
link_turned s n = go (is_before s.start s.stop) (is_before s.stop s.start) refl refl
  where
    go : (a b : Bool) → is_before s.start s.stop ≡ a → is_before s.stop s.start ≡ b → cond b (reversed s) s ≡ cond a s (reversed s)
    go true true e f = absurd (is_before-IsStrictOrder.irreflexive s.start (is_before-IsStrictOrder.trans s.start s.stop s.start e f))
    go true false e f = refl
    go false true e f = refl
    go false false e f = absurd (n (is_before-IsStrictOrder.total s.start s.stop e f))

-- ---- the links of a path

record LinkStep (path : Path) (l : Segment) : Type 0 where
  step : Segment
  there : Contains (steps path) step
  moves : step.start ≢ step.stop
  is : link_between step ≡ l

step_of_path : (path : Path) (l : Segment) → Contains (path_links path) l → LinkStep path l
step_of_path path l c =
    let h = flat_map-Contains found_along (steps path) l c in
    let f = found h.0 l h.2 in
    record { step = h.0; there = h.1; moves = f.0; is = f.1 }

link_of_path : (path : Path) (s : Segment) → Contains (steps path) s → s.start ≢ s.stop → Contains (path_links path) (link_between s)
link_of_path path s c n = Contains-flat_map found_along (steps path) s (link_between s) c (finds s n)

-- a step of the chain of a path's step is one of the path's joined chains
chain_step : (hot : List GridPoint) (path : Path) (s t : Segment) → Contains (steps path) s → Contains (steps (chain_among hot s)) t → t.start ≢ t.stop → Contains (steps (joined_chains hot path)) t
chain_step hot [] s t c k n = Contains-nil s c
chain_step hot (p ∷ []) s t c k n = Contains-nil s c
chain_step hot (p ∷ q ∷ rest) s t c k n = kept_step (flat_map (chain_among hot) (steps (p ∷ q ∷ rest))) t (steps_of_part (chain_among hot) (steps (p ∷ q ∷ rest)) s t c k) n

module _ (d : Drawing) (points : List GridPoint) (edges : List Segment) (hot : AreHotPointsOf d points) (along : AreEdgesOf (spots_of d) edges) where
  abbrev all : List Segment
  all = map link_between (steps_of_paths (paths_of (snapped d)))

  abbrev made : List Segment
  made = links_of_chains points edges

  vertex_hot : (p : GridPoint) → Contains (vertices_of d) p → Contains points p
  vertex_hot p c = subst (λ (xs : List GridPoint). Contains xs p) (sym hot) (Contains-ascending is_before is_before-IsStrictOrder (hot_points d) p (vertex_listed d p c))

  -- the chain of a spot of no length has no step
  stays : (e t : Segment) → Contains (spots_of d) e → e.start ≡ e.stop → Contains (steps (chain_among points e)) t → ⊥
  stays e t c same k =
      let none = no_link_in_place points e.stop (vertex_hot e.stop (spot_stops d e c)) in
      let is : e ≡ point_segment e.stop = λ i. record { start = same i; stop = e.stop } in
      let long = step_long (chain_among points e) t k in
      let one : length (chain_among points e) - 1 ≡ 0 = ap (λ (s : Segment). length (chain_among points s) - 1) is ∙ none in
      absurd (omega arith)

  -- a step of the chain of a path's step is one of the snapped path
  step_is_snapped : (path : Path) (e t : Segment) → Contains (paths_of d) path → Contains (steps path) e → e.start ≢ e.stop → Contains (steps (chain_among points e)) t → t.start ≢ t.stop → Contains (steps_of_paths (paths_of (snapped d))) t
  step_is_snapped path e t c k n m moves =
      let f = snapped_path (hot_points d) in
      let u : Contains (steps (chain_of d e)) t = subst (λ (chain : Path). Contains (steps chain) t) (chain_is_drawn d e points hot) m in
      let there : Contains (steps (f path)) t = chain_step (hot_points d) (drop_repeats same_point path) e t (kept_step path e k n) u moves in
      let listed : Contains (paths_of (snapped d)) (f path) = subst (λ (paths : List Path). Contains paths (f path)) (sym (paths_snapped d)) (Contains-map f (paths_of d) path c) in
      Contains-flat_map steps (paths_of (snapped d)) (f path) t listed there

  made_is_link : (l : Segment) → Contains made l → Contains all l
  made_is_link l c =
      let h = flat_map-Contains (λ s. path_links (chain_among points s)) edges l c in
      let e = h.0 in
      let spot = along.from e h.1 in
      let f = step_of_path (chain_among points e) l h.2 in
      let n : e.start ≢ e.stop = λ same. stays e f.step spot same f.there in
      elim (spot_is_segment d e spot) [
        | inr same ↦ absurd (n same)
        | inl k ↦ elim (Contains-append_cases (steps_of_paths (paths_of d)) (map point_segment (joined_up d.points)) e k) [
          | inl m ↦ (let p = flat_map-Contains steps (paths_of d) e m in
              subst (Contains all) f.is (Contains-map link_between (steps_of_paths (paths_of (snapped d))) f.step (step_is_snapped p.0 e f.step p.1 p.2 n f.there f.moves)))
          | inr m ↦ (let p = map-Contains point_segment (joined_up d.points) e m in absurd (n ((λ i. (sym p.2 i).start) ∙ (λ i. (p.2 i).stop))))
        ]
      ]

  -- the link of a step of a segment's chain is one of its edge's chain
  edge_has_link : (s e t : Segment) → IsEdgeOf s e → Contains (steps (chain_of d s)) t → t.start ≢ t.stop → Contains (path_links (chain_among points e)) (link_between t)
  edge_has_link s e t (inl same) k n =
      link_of_path (chain_among points e) t (subst (λ (chain : Path). Contains (steps chain) t) (sym (chain_is_drawn d s points hot) ∙ ap (chain_among points) (sym same)) k) n
  edge_has_link s e t (inr back) k n =
      let chain : reverse (chain_of d s) ≡ chain_among points e = ap reverse (sym (chain_is_drawn d s points hot)) ∙ sym (back_chain points s) ∙ ap (chain_among points) (sym back) in
      let there : Contains (steps (chain_among points e)) (reversed t) = subst (λ (xs : Path). Contains (steps xs) (reversed t)) chain (back_step (chain_of d s) t.start t.stop k) in
      subst (Contains (path_links (chain_among points e))) (link_turned t n) (link_of_path (chain_among points e) (reversed t) there (λ f. n (sym f)))

  link_is_made : (l : Segment) → Contains all l → Contains made l
  link_is_made l c =
      let h = map-Contains link_between (steps_of_paths (paths_of (snapped d))) l c in
      let t = h.0 in
      let step = snapped_step d t h.1 in
      let s = step.1.s in
      let e = along.to s (segment_is_spot d s step.1.drawn) in
      subst (Contains made) h.2
      (Contains-flat_map (λ u. path_links (chain_among points u)) edges e.0 (link_between t) e.1 (edge_has_link s e.0 t e.2 (step_of_link (chain_of d s) t.start t.stop step.1.link) step.0))

  pub links_are : ascending link_before made ≡ links_of (snapped d)
  links_are =
      one_ascending link_before link_before-IsStrictOrder (ascending link_before made) (ascending link_before all)
      (ascending-IsAscending link_before link_before-IsStrictOrder made)
      (ascending-IsAscending link_before link_before-IsStrictOrder all)
      (λ l c. Contains-ascending link_before link_before-IsStrictOrder all l (made_is_link l (ascending-Contains link_before link_before-IsStrictOrder made l c)))
      (λ l c. Contains-ascending link_before link_before-IsStrictOrder made l (link_is_made l (ascending-Contains link_before link_before-IsStrictOrder all l c)))
