-- How often darts are along signed arcs, along rings, and in borders.
use Rattle.std.proofs.Common.{◌≡◌, ◌⊎◌, inl, inr, refl, sym, ap, ◌∙◌, subst, arith, ℕ, suc, ◌+◌, ◌*◌, ◌-◌, ◌<◌, Bool, true, false, not, ◌&&◌, cond, List, [], ◌∷◌, ◌++◌, length, get_or, take, nat_eq, All, Contains, append_assoc}
use Rattle.std.specs.List.{sum_by, count_by, flat_map}
use Rattle.std.proofs.lemmas.Bool.{cases_Bool, cases_eq, eq-eqb, ne_eqb, false_from_ne_true, and_parts}
use Rattle.std.proofs.lemmas.List.{get_or-map, length-map, take_more, take_all, length-append}
use Rattle.plane_parity.proofs.Abscissa.{same_link-self}
use Rattle.plane_snapping.proofs.LinkCount.{sum_map}
use Rattle.lists.specs.Lists.{without_last}
use Rattle.lists.proofs.Members.{Contains-head, Contains-later, Contains-cases, Contains-nil}
use Rattle.plane_model.specs.Points.{GridPoint, Segment, Path, same_point, same_segment}
use Rattle.plane_model.specs.Drawing.{steps}
use Rattle.plane_model.specs.Arcs.{SignedArc, forward, backward, points_of}
use Rattle.plane_model.specs.Arrangement.{IsArrangement, IsDistinct}
use Rattle.plane_model.specs.Parity.{xor}
use Rattle.plane_model.specs.Rotation.{Dart}
use Rattle.plane_model.proofs.PointOrder.{same_point_from, segment_is}
use Rattle.plane_faces.specs.Around.{opposite}
use Rattle.plane_faces.specs.Places.{Place, left_side, right_side, border, border_darts}
use Rattle.plane_faces.specs.Rings.{dart_of_step, darts_of_path}
use Rattle.arc_table.specs.Along.{GoAlong}
use Rattle.arc_table.specs.Around.{start_of}
use Rattle.arc_table.specs.Direction.{point_at}
use Rattle.arc_table.proofs.DrawnPaths.{points_counted}
use Rattle.face_laws.proofs.DartLemmas.{Moves, twice_opposite}
use Rattle.face_laws.proofs.StepLemmas.{IsStep, arc_of, one_place, step_at, step_moves, step_on}
use Rattle.face_laws.proofs.LabelLemmas.{same_dart, dart_from, dart_to}
use Rattle.ring_trace.specs.Pairing.{stop_of}
use Rattle.ring_trace.specs.Traced.{same_arc}
use Rattle.ring_trace.specs.Turns.{points_along, round_of}
use Rattle.ring_trace.specs.Ways.{IsWay, IsSimpleRing}
use Rattle.ring_trace.proofs.LeastTurn.{point_along, without_last_is}
use Rattle.ring_trace.proofs.Sums.{sum_by_same, sum_by_none, sum_by-filter}
use Rattle.part_laws.proofs.CountLemmas.{tick, dart_count, count_back, none_at, once_at, steps_joined, sum_of_one, sum_over_flat}

module _ (S : List Segment) (arr : IsArrangement S) (arcs : List Path) (long : All (λ arc. 1 < length arc) arcs) (along : GoAlong S arcs) where
  all_move : (n : ℕ) → n < length arcs → All Moves (steps (arc_of arcs n))
  all_move n below j d l = step_moves arcs S arr long along n j (get_or (steps (arc_of arcs n)) j d) (step_at arcs n j d below l)

  -- ---- along arcs

  -- which steps of an arc a dart is along
  found : (d : Dart) (m i : ℕ) (o : Segment) → m < length arcs → i < length (darts_of_path (arc_of arcs m)) → same_dart d (get_or (darts_of_path (arc_of arcs m)) i (dart_of_step o)) ≡ true →
      (i < length (steps (arc_of arcs m))) × (d ≡ dart_of_step (get_or (steps (arc_of arcs m)) i o)) × IsStep arcs m i (get_or (steps (arc_of arcs m)) i o)
  found d m i o below l e =
      let size = length-map (steps (arc_of arcs m)) dart_of_step in
      let there : i < length (steps (arc_of arcs m)) = omega arith in (
        there,
        dart_from d (get_or (darts_of_path (arc_of arcs m)) i (dart_of_step o)) e ∙ get_or-map dart_of_step (steps (arc_of arcs m)) i o (dart_of_step o) there,
        step_at arcs m i o below there,
      )

  pub none_along : (d : Dart) → (Contains S d.link → ⊥) → (m : ℕ) → m < length arcs → dart_count d (arc_of arcs m) ≡ 0
  none_along d out m below =
      let o : Segment = d.link in
      none_at (same_dart d) (darts_of_path (arc_of arcs m)) (dart_of_step o) (λ i l e.
      let (there, is, step) = found d m i o below l e in
      out (subst (λ (k : Segment). Contains S k) (sym (ap (λ (x : Dart). x.link) is)) (step_on arcs S arr long along m i (get_or (steps (arc_of arcs m)) i o) step)))

  module _ (n j : ℕ) (s : Segment) (h : IsStep arcs n j s) where
    abbrev D : Dart
    D = dart_of_step s

    here : dart_count D (arc_of arcs n) ≡ 1
    here =
        let size = length-map (steps (arc_of arcs n)) dart_of_step in
        let there = h.there in
        once_at (same_dart D) (darts_of_path (arc_of arcs n)) j D (omega arith)
        (ap (same_dart D) (get_or-map dart_of_step (steps (arc_of arcs n)) j s D h.there ∙ ap dart_of_step h.is) ∙ dart_to D)
        (λ i l e. let (below, is, step) = found D n i s h.arc l e in let (same, at) = one_place arcs along.once n n j i s (get_or (steps (arc_of arcs n)) i s) h step (ap (λ (x : Dart). x.link) is) in sym at)

    step_count : (m : ℕ) → m < length arcs → dart_count D (arc_of arcs m) ≡ tick (nat_eq m n)
    step_count m below = elim (cases_eq m n) [
      | inl e ↦ ap (λ (k : ℕ). dart_count D (arc_of arcs k)) e ∙ here ∙ sym (ap tick (eq-eqb m n e))
      | inr ne ↦
          none_at (same_dart D) (darts_of_path (arc_of arcs m)) D (λ i l e.
          let (there, is, step) = found D m i s below l e in let (same, at) = one_place arcs along.once n m j i s (get_or (steps (arc_of arcs m)) i s) h step (ap (λ (x : Dart). x.link) is) in ne (sym same))
          ∙ sym (ap tick (ne_eqb m n ne))
    ]

    back_count : (m : ℕ) → m < length arcs → dart_count (opposite D) (arc_of arcs m) ≡ 0
    back_count m below =
        none_at (same_dart (opposite D)) (darts_of_path (arc_of arcs m)) D (λ i l e.
        let (there, is, step) = found (opposite D) m i s below l e in
        let (same, at) = one_place arcs along.once n m j i s (get_or (steps (arc_of arcs m)) i s) h step (ap (λ (x : Dart). x.link) is) in
        let one : get_or (steps (arc_of arcs m)) i s ≡ s = sym (λ x. get_or (steps (arc_of arcs (same x))) (at x) s) ∙ h.is in
        other_end D.forward (ap (λ (x : Dart). x.forward) (is ∙ ap dart_of_step one)))
      where
        other_end : (b : Bool) → not b ≡ b → ⊥
        other_end true e = let f : false ≡ true = e in absurd (cc)
        other_end false e = let f : true ≡ false = e in absurd (cc)

    pub arc_count : (x : SignedArc) → x.arc < length arcs → dart_count D (points_of arcs x) ≡ tick (same_arc (forward n) x)
    arc_count x below = go x.is_reversed
      where
        go : (b : Bool) → dart_count D (points_of arcs (record { arc = x.arc; is_reversed = b })) ≡ tick (same_arc (forward n) (record { arc = x.arc; is_reversed = b }))
        go false = step_count x.arc below ∙ elim (cases_eq x.arc n) [
          | inl e ↦ ap tick (eq-eqb x.arc n e) ∙ sym (ap tick (eq-eqb (2 * n + 1) (2 * x.arc + 1) (omega arith)))
          | inr ne ↦ ap tick (ne_eqb x.arc n ne) ∙ sym (ap tick (ne_eqb (2 * n + 1) (2 * x.arc + 1) (λ e. ne (omega arith))))
        ]
        go true = count_back D (arc_of arcs x.arc) (all_move x.arc below) ∙ back_count x.arc below ∙ sym (ap tick (ne_eqb (2 * n + 1) (2 * x.arc + 2) (λ e. omega arith)))

    pub arc_back_count : (x : SignedArc) → x.arc < length arcs → dart_count (opposite D) (points_of arcs x) ≡ tick (same_arc (backward n) x)
    arc_back_count x below = go x.is_reversed
      where
        go : (b : Bool) → dart_count (opposite D) (points_of arcs (record { arc = x.arc; is_reversed = b })) ≡ tick (same_arc (backward n) (record { arc = x.arc; is_reversed = b }))
        go false = back_count x.arc below ∙ sym (ap tick (ne_eqb (2 * n + 2) (2 * x.arc + 1) (λ e. omega arith)))
        go true =
            count_back (opposite D) (arc_of arcs x.arc) (all_move x.arc below) ∙ ap (λ (d : Dart). dart_count d (arc_of arcs x.arc)) (twice_opposite D) ∙ step_count x.arc below ∙ elim (cases_eq x.arc n) [
              | inl e ↦ ap tick (eq-eqb x.arc n e) ∙ sym (ap tick (eq-eqb (2 * n + 2) (2 * x.arc + 2) (omega arith)))
              | inr ne ↦ ap tick (ne_eqb x.arc n ne) ∙ sym (ap tick (ne_eqb (2 * n + 2) (2 * x.arc + 2) (λ e. ne (omega arith))))
            ]

  pub none_on_arc : (d : Dart) → (Contains S d.link → ⊥) → (x : SignedArc) → x.arc < length arcs → dart_count d (points_of arcs x) ≡ 0
  none_on_arc d out x below = go x.is_reversed
    where
      go : (b : Bool) → dart_count d (points_of arcs (record { arc = x.arc; is_reversed = b })) ≡ 0
      go false = none_along d out x.arc below
      go true = count_back d (arc_of arcs x.arc) (all_move x.arc below) ∙ none_along (opposite d) out x.arc below

  -- ---- along rings

  ends_with : (points : Path) → 0 < length points → points ≡ without_last points ++ point_at points (length points - 1) ∷ []
  ends_with points l =
      sym (sym (ap (λ (xs : Path). xs ++ point_at points (length points - 1) ∷ []) (without_last_is points))
      ∙ sym (take_more points (length points - 1) (point_at [] 0) (omega arith)) ∙ take_all (length points - 1 + 1) points (omega arith))

  stop_is : (a : SignedArc) → a.arc < length arcs → point_at (points_of arcs a) (length (points_of arcs a) - 1) ≡ stop_of arcs a
  stop_is a below = go a.is_reversed
    where
      arc : Path
      arc = arc_of arcs a.arc

      longer : 1 < length (arc_of arcs a.arc)
      longer = long a.arc [] below

      go : (b : Bool) → let x : SignedArc = record { arc = a.arc; is_reversed = b } in point_at (points_of arcs x) (length (points_of arcs x) - 1) ≡ stop_of arcs x
      go true =
          let x : SignedArc = record { arc = a.arc; is_reversed = true } in
          let many = points_counted arcs x in
          let l = longer in
          sym (point_along arcs x (length (points_of arcs x) - 1) (point_at [] 0) (omega arith)) ∙ ap (point_at (arc_of arcs a.arc)) (let e : length (arc_of arcs a.arc) - 1 - (length (points_of arcs x) - 1) ≡ 0 = omega arith in e)
      go false = refl

  first_is : (a : SignedArc) → a.arc < length arcs → (rest : Path) × (without_last (points_of arcs a) ≡ start_of arcs a ∷ rest)
  first_is a below = cut (points_of arcs a) (let e = points_counted arcs a in let l = long a.arc [] below in omega arith) (start a.is_reversed)
    where
      start : (b : Bool) → let x : SignedArc = record { arc = a.arc; is_reversed = b } in point_at (points_of arcs x) 0 ≡ start_of arcs x
      start true =
          let x : SignedArc = record { arc = a.arc; is_reversed = true } in
          let l : 1 < length (arc_of arcs a.arc) = long a.arc [] below in
          sym (point_along arcs x 0 (point_at [] 0) (omega arith)) ∙ ap (point_at (arc_of arcs a.arc)) (let e : length (arc_of arcs a.arc) - 1 - 0 ≡ length (arc_of arcs a.arc) - 1 = omega arith in e)
      start false = refl

      cut : (points : Path) → 1 < length points → point_at points 0 ≡ start_of arcs a → (rest : Path) × (without_last points ≡ start_of arcs a ∷ rest)
      cut [] l e = absurd (omega arith)
      cut (p ∷ []) l e = absurd (omega arith)
      cut (p ∷ q ∷ rest) l e = (without_last (q ∷ rest), ap (λ (x : GridPoint). x ∷ without_last (q ∷ rest)) e)

  abbrev steps_of_arc : SignedArc → List Segment
  steps_of_arc a = steps (points_of arcs a)

  way_steps : (v w : GridPoint) (ring : List SignedArc) → All (λ a. a.arc < length arcs) ring → IsWay (start_of arcs) (stop_of arcs) v ring w →
      (steps (points_along arcs ring ++ w ∷ []) ≡ flat_map steps_of_arc ring) × ((rest : Path) × (points_along arcs ring ++ w ∷ [] ≡ v ∷ rest))
  way_steps v w [] below e = (refl, ([], ap (λ (x : GridPoint). x ∷ []) (sym e)))
  way_steps v w (a ∷ ring) below h =
      let la : a.arc < length arcs = below 0 a (omega arith) in
      let (all, (rest, head)) = way_steps (stop_of arcs a) w ring (λ k d l. below (suc k) d (omega arith)) h.1 in
      let P = points_of arcs a in
      let Q = points_along arcs ring ++ w ∷ [] in
      let joined : points_along arcs (a ∷ ring) ++ w ∷ [] ≡ without_last P ++ (stop_of arcs a ∷ rest) = append_assoc (without_last P) (points_along arcs ring) (w ∷ []) ∙ ap (λ (xs : Path). without_last P ++ xs) head in
      let longer : 1 < length (arc_of arcs a.arc) = long a.arc [] la in
      let many = points_counted arcs a in
      let whole : without_last P ++ stop_of arcs a ∷ [] ≡ P = ap (λ (x : GridPoint). without_last P ++ x ∷ []) (sym (stop_is a la)) ∙ sym (ends_with P (omega arith)) in
      let (tail, first) = first_is a la in (
        ap steps joined ∙ steps_joined (without_last P) (stop_of arcs a) rest ∙ (λ i. steps (whole i) ++ steps (sym head i)) ∙ ap (λ (ss : List Segment). steps P ++ ss) all,
        (tail ++ (stop_of arcs a ∷ rest), joined ∙ ap (λ (xs : Path). xs ++ (stop_of arcs a ∷ rest)) first ∙ ap (λ (x : GridPoint). x ∷ (tail ++ (stop_of arcs a ∷ rest))) h.0),
      )

  take_first : (points : Path) (w z : GridPoint) (zs : Path) → 0 < length points → points ++ w ∷ [] ≡ z ∷ zs → take 1 points ≡ z ∷ []
  take_first [] w z zs l e = absurd (omega arith)
  take_first (p ∷ ps) w z zs l e = ap (λ (x : GridPoint). x ∷ []) (ap (λ (xs : Path). get_or xs 0 p) e)

  pub ring_steps : (ring : List SignedArc) → 0 < length ring → All (λ a. a.arc < length arcs) ring → IsSimpleRing (start_of arcs) (stop_of arcs) ring → steps (round_of arcs ring) ≡ flat_map steps_of_arc ring
  ring_steps [] some below h = absurd (omega arith)
  ring_steps (a ∷ ring) some below h =
      let (all, (rest, head)) = way_steps h.at h.at (a ∷ ring) below h.way in
      let la : a.arc < length arcs = below 0 a (omega arith) in
      let (tail, first) = first_is a la in
      let joined = length-append (without_last (points_of arcs a)) (points_along arcs ring) in
      let size : 0 < length (without_last (points_of arcs a)) = (let e = ap (λ (xs : Path). length xs) first in omega arith) in
      ap (λ (xs : Path). steps (points_along arcs (a ∷ ring) ++ xs)) (take_first (points_along arcs (a ∷ ring)) h.at h.at rest (omega arith) head) ∙ all

  pub ring_count : (d : Dart) (g : SignedArc → ℕ) → ((x : SignedArc) → x.arc < length arcs → dart_count d (points_of arcs x) ≡ g x) → (ring : List SignedArc) → 0 < length ring → All (λ a. a.arc < length arcs) ring →
      IsSimpleRing (start_of arcs) (stop_of arcs) ring → sum_by (λ (s : Segment). tick (same_dart d (dart_of_step s))) (steps (round_of arcs ring)) ≡ sum_by g ring
  ring_count d g counts ring some below h =
      let f : Segment → ℕ = λ s. tick (same_dart d (dart_of_step s)) in
      ap (sum_by f) (ring_steps ring some below h)
      ∙ sum_over_flat f steps_of_arc ring
      ∙ sum_by_same (λ (x : SignedArc). sum_by f (steps_of_arc x)) g ring (λ x (k, l, is).
      sym (sum_map dart_of_step (λ (e : Dart). cond (same_dart d e) 1 0) (steps_of_arc x)) ∙ counts x (subst (λ (y : SignedArc). y.arc < length arcs) is (below k x l)))

-- ---- in borders

pub decided : (l : Segment) (S : List Segment) → Contains S l ⊎ (Contains S l → ⊥)
decided l [] = inr (λ c. Contains-nil l c)
decided l (k ∷ S) = elim (cases_Bool (same_segment k l)) [
  | inl e ↦
      (let (starts, stops) = and_parts (same_point k.start l.start) (same_point k.stop l.stop) e in
      let is : k ≡ l = segment_is k l (same_point_from k.start l.start starts) (same_point_from k.stop l.stop stops) in
      inl (subst (λ (x : Segment). Contains (k ∷ S) x) is (Contains-head k S)))
  | inr e ↦ elim (decided l S) [
    | inl c ↦ inl (Contains-later k S l c)
    | inr n ↦ inr (λ c. elim (Contains-cases k S l c) [
      | inl is ↦ (let f : true ≡ false = sym (same_link-self l) ∙ sym (ap (λ (x : Segment). same_segment x l) is) ∙ e in absurd (cc))
      | inr d ↦ n d
    ])
  ]
]

module _ (S : List Segment) (f : Place → Bool) (d : Dart) where
  value : Segment → ℕ
  value l = cond (xor (f (left_side l)) (f (right_side l))) (tick (same_dart d (record { link = l; forward = f (left_side l) }))) 0

  summed : count_by (same_dart d) (border_darts f S) ≡ sum_by value S
  unfolding value
  summed =
      sum_map (λ (l : Segment). record { link = l; forward = f (left_side l) }) (λ (e : Dart). cond (same_dart d e) 1 0) (border f S)
      ∙ sum_by-filter (λ (l : Segment). xor (f (left_side l)) (f (right_side l))) (λ (l : Segment). tick (same_dart d (record { link = l; forward = f (left_side l) }))) S

  other_link : (l : Segment) → (l ≡ d.link → ⊥) → value l ≡ 0
  unfolding value
  other_link l ne =
      ap (λ (b : Bool). cond (xor (f (left_side l)) (f (right_side l))) (tick b) 0)
      (false_from_ne_true (same_dart d (record { link = l; forward = f (left_side l) })) (λ e. ne (sym (ap (λ (x : Dart). x.link) (dart_from d (record { link = l; forward = f (left_side l) }) e)))))
      ∙ none (xor (f (left_side l)) (f (right_side l)))
    where
      none : (b : Bool) → cond b (tick false) 0 ≡ tick false
      none true = refl
      none false = refl

  pub border_count : IsDistinct S → Contains S d.link → count_by (same_dart d) (border_darts f S) ≡ tick (cond d.forward (f (left_side d.link) && not (f (right_side d.link))) (f (right_side d.link) && not (f (left_side d.link))))
  unfolding value
  border_count distinct c =
      summed ∙ sum_of_one value S d.link distinct c (λ l n ne. other_link l ne)
      ∙ ap (λ (b : Bool). cond (xor (f (left_side d.link)) (f (right_side d.link))) (tick (b && cond d.forward (f (left_side d.link)) (not (f (left_side d.link))))) 0) (same_link-self d.link)
      ∙ tests d.forward (f (left_side d.link)) (f (right_side d.link))
    where
      tests : (w x y : Bool) → cond (xor x y) (tick (true && cond w x (not x))) 0 ≡ tick (cond w (x && not y) (y && not x))
      tests true true true = refl
      tests true true false = refl
      tests true false true = refl
      tests true false false = refl
      tests false true true = refl
      tests false true false = refl
      tests false false true = refl
      tests false false false = refl

  pub border_none : (Contains S d.link → ⊥) → count_by (same_dart d) (border_darts f S) ≡ 0
  border_none out = summed ∙ sum_by_none value S (λ l c. other_link l (λ e. out (subst (λ (x : Segment). Contains S x) e c)))
