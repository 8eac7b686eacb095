-- The arcs of a table are those of the model.
use Rattle.std.proofs.Common.{◌≡◌, inl, inr, refl, sym, ap, ◌∙◌, subst, arith, ℕ, zero, suc, ◌-◌, ◌<◌, Bool, true, false, ◌&&◌, nat_eq, List, [], ◌∷◌, map, length, get_or, reverse, All, Contains, pos}
use Rattle.std.specs.List.{flat_map}
use Rattle.std.proofs.lemmas.Bool.{and_parts, cases_eq, eq-eqb, false_from_ne_true, ne_eqb}
use Rattle.std.proofs.lemmas.List.{get_or-map, get_or-reverse, get_or_default, length-map, length-reverse}
use Rattle.std.proofs.lemmas.List.Elements.{All-cons, All-contains, All-nil, Contains-append_cases, Contains-get_or}
use Rattle.lists.specs.Lists.{each_once, same_list}
use Rattle.lists.proofs.Ascending.{Contains-ascending, IsAscending, ascending-Contains, ascending-IsAscending}
use Rattle.lists.proofs.Members.{Contains-map, flat_map-Contains, joined_up-Contains, map-Contains}
use Rattle.plane_model.specs.Points.{Segment, Path, link_before, link_between, reversed, same_point}
use Rattle.plane_model.specs.Drawing.{Drawing, paths_of, rings_of, steps, steps_of_paths}
use Rattle.plane_model.specs.Joined.{IsClosed, links_of_arc}
use Rattle.plane_model.specs.Arcs.{SignedArc, arc_along, arcs_of, is_node, points_of}
use Rattle.plane_model.specs.Arrangement.{IsDistinct}
use Rattle.plane_model.proofs.PointOrder.{link_before-IsStrictOrder, same_point_from, same_point_to}
use Rattle.plane_model.specs.Snapped.{links_of}
use Rattle.grid_base.specs.Drawn.{HasPaths, IsRing}
use Rattle.arc_table.specs.Direction.{IsForward, point_at}
use Rattle.arc_table.specs.Nodes.{IsRingOf}
use Rattle.arc_table.specs.Order.{AreNumbered, links_stepped}
use Rattle.arc_table.specs.PathArcs.{AreArcsOf}
use Rattle.arc_table.specs.WholeArcs.{StartsAtLeast}
use Rattle.arc_table.proofs.ArcSteps.{IsStep, find, one_place, step_between, steps_fit, steps_many}
use Rattle.arc_table.proofs.Proper.{link_turned}
use Rattle.arc_laws.specs.Modelled.{ArcsAreModelled}
use Rattle.arc_laws.proofs.AlongArcs.{along_step}
use Rattle.arc_laws.proofs.Ordered.{gathered, in_order, once_made, once_ordered}
use Rattle.arc_laws.proofs.Ways.{moves, on}

-- ---- links and rings of a drawing

apart_in : (S : List Segment) → IsAscending link_before S → IsDistinct S
apart_in [] h = tt
apart_in (l ∷ S) h = (
  λ k d below e. link_before-IsStrictOrder.irreflexive l (subst (λ (x : Segment). link_before l x ≡ true) e (h.0 (get_or S k d) (Contains-get_or S k d below))),
  apart_in S h.1,
)

links_once : (d : Drawing) → IsDistinct (links_of d)
links_once d = apart_in (links_of d) (ascending-IsAscending link_before link_before-IsStrictOrder (map link_between (steps_of_paths (paths_of d))))

rings_closed : (d : Drawing) → HasPaths d → (ring : Path) → IsRingOf d ring → IsClosed ring
rings_closed d paths ring c = elim (Contains-append_cases (flat_map rings_of d.polygons) d.boxes ring c) [
  | inl m ↦
      (let (feature, in_polygons, in_feature) = flat_map-Contains rings_of d.polygons ring m in
      let (polygon, of_feature, of_polygon) = joined_up-Contains feature ring in_feature in
      (All-contains IsRing polygon ring (All-contains (All IsRing) feature polygon (All-contains (All (All IsRing)) d.polygons feature paths.rings in_polygons) of_feature) of_polygon).closed)
  | inr m ↦ (All-contains IsRing d.boxes ring paths.boxes m).closed
]

-- ---- lists of points that are one

pub same_from : (P Q : Path) → same_list same_point P Q ≡ true → P ≡ Q
same_from [] [] e = refl
same_from [] (q ∷ Q) e = absurd (let f : false ≡ true = e in cc)
same_from (p ∷ P) [] e = absurd (let f : false ≡ true = e in cc)
same_from (p ∷ P) (q ∷ Q) e =
    let (first, rest) = and_parts (same_point p q) (same_list same_point P Q) e in
    λ i. same_point_from p q first i ∷ same_from P Q rest i

same_itself : (P : Path) → same_list same_point P P ≡ true
same_itself [] = refl
same_itself (p ∷ P) = λ i. same_point_to p p refl i && same_itself P i

none : Segment
none = record { start = record { x = pos 0; y = pos 0 }; stop = record { x = pos 0; y = pos 0 } }

module _ (d : Drawing) (arcs : List Path) (paths : HasPaths d) (table : AreArcsOf d arcs) (fore : All IsForward arcs) (least : All (StartsAtLeast d) arcs) (numbered : AreNumbered d arcs) where
  abbrev S : List Segment
  S = links_of d

  abbrev L : List Segment
  L = steps_of_paths (paths_of d)

  abbrev arc_at : ℕ → Path
  arc_at n = get_or arcs n []

  on_arc : (a : SignedArc) (below : a.arc < length arcs) (k : ℕ) → suc k < length (points_of arcs a) → Contains S (link_between (record { start = point_at (points_of arcs a) k; stop = point_at (points_of arcs a) (suc k) }))
  on_arc a below k l = on d (links_once d) (rings_closed d paths) table.arrangement.ordered arcs table.links table.whole table.long a below k l

  move : (t : Segment) → Contains S (link_between t) → t.start ≡ t.stop → ⊥
  move t c e = moves d (links_once d) (rings_closed d paths) table.arrangement.ordered arcs table.links table.whole table.long t c e

  -- the link of a step of a signed arc is one of its arc
  link_in : (a : SignedArc) → a.arc < length arcs → (k : ℕ) → suc k < length (points_of arcs a) → Contains (links_of_arc arcs a.arc) (link_between (record { start = point_at (points_of arcs a) k; stop = point_at (points_of arcs a) (suc k) }))
  link_in a below = go a.is_reversed
    where
      fore_in : (k : ℕ) → suc k < length (get_or arcs a.arc []) → Contains (links_of_arc arcs a.arc) (link_between (record { start = point_at (get_or arcs a.arc []) k; stop = point_at (get_or arcs a.arc []) (suc k) }))
      fore_in k l =
          let arc : Path = get_or arcs a.arc [] in
          let there = steps_many arc k l in
          Contains-map link_between (steps arc) (record { start = point_at arc k; stop = point_at arc (suc k) }) (k, there, step_between arc k _ l)

      go : (b : Bool) → (k : ℕ) → suc k < length (points_of arcs (record { arc = a.arc; is_reversed = b }))
          → Contains (links_of_arc arcs a.arc) (link_between (record { start = point_at (points_of arcs (record { arc = a.arc; is_reversed = b })) k; stop = point_at (points_of arcs (record { arc = a.arc; is_reversed = b })) (suc k) }))
      go false k l = fore_in k l
      go true k l =
          let arc : Path = get_or arcs a.arc [] in
          let size = length-reverse arc in
          let m : ℕ = length arc - 2 - k in
          let inside : suc k < length (reverse arc) = l in
          let t : Segment = record { start = point_at (reverse arc) k; stop = point_at (reverse arc) (suc k) } in
          let u : Segment = record { start = point_at arc (length arc - 2 - k); stop = point_at arc (suc (length arc - 2 - k)) } in
          let first : point_at (reverse arc) k ≡ point_at arc (suc (length arc - 2 - k)) = get_or-reverse arc k _ (omega arith) ∙ ap (point_at arc) (let e : length arc - 1 - k ≡ suc (length arc - 2 - k) = omega arith in e) in
          let second : point_at (reverse arc) (suc k) ≡ point_at arc (length arc - 2 - k) = get_or-reverse arc (suc k) _ (omega arith) ∙ ap (point_at arc) (let e : length arc - 1 - suc k ≡ length arc - 2 - k = omega arith in e) in
          let turned : t ≡ reversed u = (λ i. record { start = first i; stop = second i }) in
          let there : suc (length arc - 2 - k) < length arc = omega arith in
          let forward_arc : SignedArc = record { arc = a.arc; is_reversed = false } in
          subst (Contains (links_of_arc arcs a.arc)) (sym (ap link_between turned ∙ link_turned u (λ e. move u (on_arc forward_arc below (length arc - 2 - k) there) e))) (fore_in (length arc - 2 - k) there)

  -- a link is one of one arc
  one_arc : (m n : ℕ) → m < length arcs → n < length arcs → (l : Segment) → Contains (links_of_arc arcs m) l → Contains (links_of_arc arcs n) l → m ≡ n
  one_arc m n below_m below_n l c e =
      let (s, in_m, is_s) = map-Contains link_between (steps (arc_at m)) l c in
      let (t, in_n, is_t) = map-Contains link_between (steps (arc_at n)) l e in
      (one_place arcs table.links.once m n in_m.0 in_n.0 s t (placed m below_m s in_m) (placed n below_n t in_n) (is_s ∙ sym is_t)).0
    where
      placed : (k : ℕ) → k < length arcs → (s : Segment) → (c : Contains (steps (arc_at k)) s) → IsStep arcs k c.0 s
      placed k below s c = record { arc = below; there = steps_fit (arc_at k) c.0 c.1; is = sym c.2 ∙ step_between (arc_at k) c.0 s (steps_fit (arc_at k) c.0 c.1) }

  -- the number of the arc along a step
  record IsNumber (s : Segment) (n : ℕ) : Type 0 where
    there : n < length arcs
    link : Contains (links_of_arc arcs n) (link_between s)
    along : arc_along (is_node d S) S s ≡ arc_at n

  number_of : (s : Segment) → Contains L s → (n : ℕ) × IsNumber s n
  number_of s c =
      let on_link : Contains S (link_between s) = Contains-ascending link_before link_before-IsStrictOrder (map link_between L) (link_between s) (Contains-map link_between L s c) in
      let (a, j, h) = find S arcs table.arrangement.ordered table.links s on_link in
      let is : record { start = point_at (points_of arcs a) j; stop = point_at (points_of arcs a) (suc j) } ≡ s = sym h.is in (
        a.arc,
        record {
          there = h.arc;
          link = subst (λ (x : Segment). Contains (links_of_arc arcs a.arc) (link_between x)) is (link_in a h.arc j h.there);
          along = subst (λ (x : Segment). arc_along (is_node d S) S x ≡ arc_at a.arc) is
              (along_step d (links_once d) (rings_closed d paths) table.arrangement.ordered arcs table.links table.whole table.long fore least a h.arc j h.there);
        },
      )

  -- the numbers along steps
  record AreNumbers (ss : List Segment) (ns : List ℕ) : Type 0 where
    each : length ns ≡ length ss
    at : (k : ℕ) → k < length ss → IsNumber (get_or ss k none) (get_or ns k 0)
    made : map (arc_along (is_node d S) S) ss ≡ map arc_at ns
    low : All (λ n. n < length arcs) ns

  numbers_of : (ss : List Segment) → ((s : Segment) → Contains ss s → (n : ℕ) × IsNumber s n) → (ns : List ℕ) × AreNumbers ss ns
  numbers_of [] h = ([], record { each = refl; at = λ k l. absurd (omega arith); made = refl; low = All-nil (λ n. n < length arcs) })
  numbers_of (s ∷ ss) h =
      let (n, is) = h s (0, omega arith, refl) in
      let (ns, are) = numbers_of ss (λ t c. h t (suc c.0, (let l = c.1 in omega arith), c.2)) in (
        n ∷ ns,
        record {
          each = ap suc are.each;
          at = λ k. later s n is ss ns are k;
          made = λ i. is.along i ∷ are.made i;
          low = All-cons (λ m. m < length arcs) n ns is.there are.low;
        },
      )
    where
      later : (s : Segment) (n : ℕ) → IsNumber s n → (ss : List Segment) (ns : List ℕ) → AreNumbers ss ns → (k : ℕ) → k < length (s ∷ ss) → IsNumber (get_or (s ∷ ss) k none) (get_or (n ∷ ns) k 0)
      later s n is ss ns are zero l = is
      later s n is ss ns are (suc k) l = are.at k (omega arith)

  module _ (ns : List ℕ) (are : AreNumbers L ns) where
    stepped_long : length (links_stepped (paths_of d)) ≡ length L
    stepped_long = length-map L link_between

    stepped_at : (k : ℕ) (e : Segment) → k < length L → get_or (links_stepped (paths_of d)) k e ≡ link_between (get_or L k none)
    stepped_at k e l = get_or-map link_between L k none e l

    low_at : (i : ℕ) → i < length ns → get_or ns i 0 < length arcs
    low_at i l = let size = are.each in (are.at i (omega arith)).there

    number_is : (i m : ℕ) → i < length L → m < length arcs → Contains (links_of_arc arcs m) (link_between (get_or L i none)) → get_or ns i 0 ≡ m
    number_is i m l below c = let h = are.at i l in one_arc (get_or ns i 0) m h.there below (link_between (get_or L i none)) h.link c

    order_at : (i m : ℕ) → i < length ns → m < get_or ns i 0 → (j : ℕ) × (j < i) × (get_or ns j 0 ≡ m)
    order_at i m l less =
        let size = are.each in
        let long = stepped_long in
        let h = are.at i (omega arith) in
        let there = h.there in
        let (j, before, c) = numbered.order m (get_or ns i 0) i less h.there (omega arith) (subst (Contains (links_of_arc arcs (get_or ns i 0))) (sym (stepped_at i _ (omega arith))) h.link) in
        (j, before, number_is j m (omega arith) (omega arith) (subst (Contains (links_of_arc arcs m)) (stepped_at j _ (omega arith)) c))

    used_at : (m : ℕ) → m < length arcs → (i : ℕ) × (i < length ns) × (get_or ns i 0 ≡ m)
    used_at m below =
        let forward_arc : SignedArc = record { arc = m; is_reversed = false } in
        let size : 1 < length (arc_at m) = table.long m [] below in
        let first : Segment = record { start = point_at (arc_at m) 0; stop = point_at (arc_at m) 1 } in
        let of_arc : Contains (links_of_arc arcs m) (link_between first) = link_in forward_arc below 0 size in
        let on_link : Contains (map link_between L) (link_between first) = ascending-Contains link_before link_before-IsStrictOrder (map link_between L) (link_between first) (on_arc forward_arc below 0 size) in
        let (s, c, is) = map-Contains link_between L (link_between first) on_link in
        let each = are.each in
        let inside = c.1 in
        let here : get_or L c.0 none ≡ s = get_or_default L c.0 none s c.1 ∙ c.2 in
        (c.0, omega arith, number_is c.0 m c.1 below (subst (Contains (links_of_arc arcs m)) (sym (ap link_between here ∙ is)) of_arc))

    alike : (m n : ℕ) → m < length arcs → n < length arcs → same_list same_point (arc_at m) (arc_at n) ≡ nat_eq m n
    alike m n l k = elim (cases_eq m n) [
      | inl same ↦ ap (λ (i : ℕ). same_list same_point (arc_at m) (arc_at i)) (sym same) ∙ same_itself (arc_at m) ∙ sym (eq-eqb m n same)
      | inr other ↦ false_from_ne_true (same_list same_point (arc_at m) (arc_at n)) (λ e.
          let forward_arc : SignedArc = record { arc = m; is_reversed = false } in
          let size : 1 < length (arc_at m) = table.long m [] l in
          let of_m = link_in forward_arc l 0 size in
          let of_n = subst (λ (arc : Path). Contains (map link_between (steps arc)) (link_between (record { start = point_at (arc_at m) 0; stop = point_at (arc_at m) 1 }))) (same_from (arc_at m) (arc_at n) e) of_m in
          other (one_arc m n l k _ of_m of_n)) ∙ sym (ne_eqb m n other)
    ]

    numbered_arcs : each_once (same_list same_point) (map (arc_along (is_node d S) S) L) ≡ arcs
    numbered_arcs =
        ap (each_once (same_list same_point)) are.made
        ∙ once_made (same_list same_point) arc_at (length arcs) alike ns are.low
        ∙ ap (map arc_at) (once_ordered (length arcs) ns (in_order (length arcs) ns low_at order_at used_at))
        ∙ gathered [] arcs

  pub modelled : arcs ≡ arcs_of d (links_of d)
  modelled = let (ns, are) = numbers_of L number_of in sym (numbered_arcs ns are)

pub arcs_are_modelled : ArcsAreModelled
arcs_are_modelled d arcs paths table fore least numbered = modelled d arcs paths table fore least numbered
