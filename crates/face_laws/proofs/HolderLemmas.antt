-- From the outer face on, crossing by crossing, an item is in the list of a face where its links are odd.
use Rattle.std.proofs.Common.{◌≡◌, inl, inr, refl, sym, ap, subst, ◌∙◌, arith, ℕ, zero, suc, ◌+◌, ◌*◌, ◌<◌, ◌≤◌, Bool, true, false, not, cond, ◌||◌, Some, List, [], ◌∷◌, All, Contains, length, map, get_or, pos}
use Rattle.std.proofs.Math.Logic.{∥∥₁_elim}
use Rattle.std.proofs.Math.Bool.{Bool-set}
use Rattle.std.specs.Prelude.{nat_eq}
use Rattle.std.specs.Cmp.{both_ways}
use Rattle.std.specs.List.{list_any}
use Rattle.std.proofs.lemmas.Bool.{eqb-true, eq-eqb}
use Rattle.std.proofs.lemmas.List.{get_or-map, length-map}
use Rattle.std.proofs.lemmas.List.Elements.{All-contains}
use Rattle.std.proofs.lemmas.List.Folds.{list_any_at}
use Rattle.std.proofs.lemmas.Option.{get_or_from_slice_get, slice_get_within, slice_get-get_or}
use Rattle.plane_parity.proofs.BoundaryEven.{solve}
use Rattle.lists.proofs.Members.{Contains-map, Contains-head, Contains-later}
use Rattle.plane_model.specs.Points.{Segment, Path, at, link_between, same_segment}
use Rattle.plane_model.specs.Drawing.{steps as steps_of}
use Rattle.plane_model.specs.Arcs.{SignedArc, forward, backward}
use Rattle.plane_model.specs.Arrangement.{IsArrangement, IsDistinct}
use Rattle.plane_model.specs.EvenList.{IsEvenListOf}
use Rattle.plane_model.specs.Parity.{xor, odd, odd_count}
use Rattle.plane_model.specs.Rotation.{Dart, odd_right_of}
use Rattle.plane_model.specs.Sides.{odd_left, odd_right}
use Rattle.plane_faces.specs.Around.{opposite}
use Rattle.plane_faces.specs.Labels.{IsFaceLabelling, among}
use Rattle.plane_faces.specs.Places.{Place, outside, left_of, left_side, right_side, IsBeside, odd_at}
use Rattle.plane_faces.specs.Rings.{dart_of_step}
use Rattle.plane_faces.proofs.Connected.{connected, parity_agrees, parity_at_place}
use Rattle.plane_faces.proofs.Crossing.{crossing_law}
use Rattle.plane_faces.proofs.FaceLaws.{among_agrees, place_beside}
use Rattle.plane_faces.proofs.Sorting.{rotations_exist}
use Rattle.arc_table.specs.Along.{GoAlong}
use Rattle.face_walk.specs.Crossings.{AreCrossings, IsCrossing, IsReached, LeaveNone, face_across, outer_of}
use Rattle.face_walk.specs.Holders.{AreHeldBy, list_at, stands_oddly, steps_on}
use Rattle.face_walk.specs.Places.{FaceTable, face_left_of}
use Rattle.face_walk.specs.declared.crossings.Crossing.{Crossing}
use Rattle.face_walk.specs.declared.ring_steps.RingStep.{RingStep}
use Rattle.face_laws.specs.Faces.{IsFaceOfPlace}
use Rattle.face_laws.specs.Holders.{StepAlong, ItemsBesideArcs, ItemsHoldByParity}
use Rattle.face_laws.proofs.ClassLemmas.{faces_are_classes}
use Rattle.face_laws.proofs.DartLemmas.{one_of_two, twice_opposite}
use Rattle.face_laws.proofs.LabelLemmas.{each_table_has_labels}
use Rattle.face_laws.proofs.PointLemmas.{face_of_point}
use Rattle.face_laws.proofs.StepLemmas.{IsStep, arc_of, step_of_link, step_on, steps_counted, step_at}

-- ---- across a link

-- the parity left of a dart, and right of it
other_side : (S L : List Segment) → IsArrangement S → IsEvenListOf S L → (d : Dart) → Contains S d.link → odd_at L (left_of (opposite d)) ≡ xor (odd_at L (left_of d)) (odd_count (same_segment d.link) L)
other_side S L arr even d c = go d.forward
  where
    law : odd_left L d.link ≡ xor (odd_right L d.link) (odd_count (same_segment d.link) L)
    law = crossing_law S L arr even.within even.even d.link c

    go : (b : Bool) → cond (not b) (odd_left L d.link) (odd_right L d.link) ≡ xor (cond b (odd_left L d.link) (odd_right L d.link)) (odd_count (same_segment d.link) L)
    go true = solve (odd_left L d.link) (odd_right L d.link) (odd_count (same_segment d.link) L) law
    go false = law

-- ---- faces that are reached

reached_later : (outer : ℕ) (crossings : List Crossing) (j k f : ℕ) → j ≤ k → IsReached outer crossings j f → IsReached outer crossings k f
reached_later outer crossings j k f l (inl e) = inl e
reached_later outer crossings j k f l (inr r) = inr (r.0, r.1, (let less = r.2 in omega arith), r.3, r.4)

pub any_there : {X : Type 0} (t : X → Bool) (xs : List X) → list_any t xs ≡ true → (x : X) × Contains xs x × (t x ≡ true)
any_there t [] e = absurd (let f : false ≡ true = e in cc)
any_there {X} t (x ∷ xs) e = go (t x) refl e (any_there t xs)
  where
    go : (b : Bool) → t x ≡ b → (b || list_any t xs) ≡ true → (list_any t xs ≡ true → (y : X) × Contains xs y × (t y ≡ true)) → (y : X) × Contains (x ∷ xs) y × (t y ≡ true)
    go true is f later = (x, Contains-head x xs, is)
    go false is f later = let (y, there, passes) = later f in (y, Contains-later x xs y there, passes)

pub there_any : {X : Type 0} (t : X → Bool) (xs : List X) (x : X) → Contains xs x → t x ≡ true → list_any t xs ≡ true
there_any t xs x c e = list_any_at t xs c.0 x c.1 (ap t c.2 ∙ e)

module _ (outer : ℕ) (crossings : List Crossing) where
  abbrev is_reached : ℕ → Bool
  is_reached f = nat_eq f outer || list_any (λ (c : Crossing). nat_eq c.into f) crossings

  reached_from : (f : ℕ) → is_reached f ≡ true → IsReached outer crossings (length crossings) f
  reached_from f e = go (nat_eq f outer) refl e
    where
      go : (b : Bool) → nat_eq f outer ≡ b → (b || list_any (λ (c : Crossing). nat_eq c.into f) crossings) ≡ true → IsReached outer crossings (length crossings) f
      go true e g = inl (eqb-true f outer e)
      go false e g = let (c, there, is) = any_there (λ (c : Crossing). nat_eq c.into f) crossings g in inr (there.0, c, there.1, slice_get-get_or crossings there.0 c there.1 ∙ ap Some there.2, eqb-true c.into f is)

  reached_to : (f : ℕ) → IsReached outer crossings (length crossings) f → is_reached f ≡ true
  reached_to f (inl e) = ap (λ (b : Bool). b || list_any (λ (c : Crossing). nat_eq c.into f) crossings) (eq-eqb f outer e)
  reached_to f (inr r) = go (nat_eq f outer) (there_any (λ (c : Crossing). nat_eq c.into f) crossings r.1 (r.0, r.2, get_or_from_slice_get crossings r.0 r.1 r.1 r.3) (eq-eqb r.1.into f r.4))
    where
      go : (b : Bool) → list_any (λ (c : Crossing). nat_eq c.into f) crossings ≡ true → (b || list_any (λ (c : Crossing). nat_eq c.into f) crossings) ≡ true
      go true g = refl
      go false g = g

-- ---- by the labels of places

module _ (S : List Segment) (arr : IsArrangement S) (distinct : IsDistinct S) (arcs : List Path) (long : All (λ arc. 1 < length arc) arcs) (along : GoAlong S arcs)
    (faces : FaceTable) (counted : length faces.places ≡ 2 * length arcs + 1) (label : Place → ℕ) (by : IsFaceOfPlace arcs faces label) (labelling : IsFaceLabelling S label)
    (crossings : List Crossing) (are : AreCrossings faces crossings) (closed : LeaveNone faces crossings) where
  outer_label : label outside ≡ outer_of faces
  outer_label = by.outside_all

  -- the places beside a step of an arc
  at_left : (n j : ℕ) (s : Segment) → IsStep arcs n j s → label (left_of (dart_of_step s)) ≡ face_left_of faces.places (forward n)
  at_left n j s h = All-contains (λ (d : Dart). label (left_of d) ≡ face_left_of faces.places (forward n)) (map dart_of_step (steps_of (arc_of arcs n))) (dart_of_step s) (by.left n h.arc) (Contains-map dart_of_step (steps_of (arc_of arcs n)) s (j, h.there, h.is))

  at_right : (n j : ℕ) (s : Segment) → IsStep arcs n j s → label (left_of (opposite (dart_of_step s))) ≡ face_left_of faces.places (backward n)
  at_right n j s h = All-contains (λ (d : Dart). label (left_of (opposite d)) ≡ face_left_of faces.places (backward n)) (map dart_of_step (steps_of (arc_of arcs n))) (dart_of_step s) (by.right n h.arc) (Contains-map dart_of_step (steps_of (arc_of arcs n)) s (j, h.there, h.is))

  abbrev reached : ℕ → Bool
  reached f = is_reached (outer_of faces) crossings f

  crossed_over : (a : SignedArc) → a.arc < length arcs → reached (face_left_of faces.places a) ≡ true → reached (face_across faces.places a) ≡ true
  crossed_over a l e = reached_to (outer_of faces) crossings (face_across faces.places a) (closed (face_left_of faces.places a) (reached_from (outer_of faces) crossings (face_left_of faces.places a) e) a (omega arith) refl)

  -- both sides of a link are reached, or none
  over_links : (l : Segment) → Contains S l → reached (label (left_side l)) ≡ reached (label (right_side l))
  over_links l c =
      let (n, j, s, h, e) = step_of_link arcs S arr long along l c in
      let below = h.arc in
      let one : reached (face_left_of faces.places (forward n)) ≡ reached (face_left_of faces.places (backward n)) =
      both_ways (reached (face_left_of faces.places (forward n))) (reached (face_left_of faces.places (backward n))) (crossed_over (forward n) below) (crossed_over (backward n) below) in
      let two : reached (label (left_of (dart_of_step s))) ≡ reached (label (left_of (opposite (dart_of_step s)))) = ap reached (at_left n j s h) ∙ one ∙ ap reached (sym (at_right n j s h)) in
      elim (one_of_two s (record { link = l; forward = true }) (sym e)) [
        | inl f ↦ ap (λ (d : Dart). reached (label (left_of d))) f ∙ two ∙ ap (λ (d : Dart). reached (label (left_of (opposite d)))) (sym f)
        | inr f ↦ ap (λ (d : Dart). reached (label (left_of d))) f ∙ sym two ∙ ap (λ (d : Dart). reached (label (left_of d))) (sym (twice_opposite (dart_of_step s)) ∙ ap opposite (sym f))
      ]

  -- so each place is of a face that is reached
  pub each_reached : (a : Place) → IsBeside S a → IsReached (outer_of faces) crossings (length crossings) (label a)
  each_reached a beside = reached_from (outer_of faces) crossings (label a)
      (connected S arr (rotations_exist S arr distinct) (among label reached) (among_agrees S label labelling.agrees reached) over_links a beside ∙ reached_to (outer_of faces) crossings (label outside) (inl outer_label))

  -- ---- parities along crossings

  module _ (steps : List RingStep) (held : List (List ℕ)) (lists : AreHeldBy steps (outer_of faces) crossings held) (i : ℕ) (L : List Segment) (even : IsEvenListOf S L) (agree : StepAlong arcs steps i L) where
    abbrev IsOddAt : ℕ → Type 0
    IsOddAt f = (a : Place) → IsBeside S a → label a ≡ f → stands_oddly (list_at held f) i ≡ odd_at L a

    one_parity : (a b : Place) → IsBeside S a → IsBeside S b → label a ≡ label b → odd_at L a ≡ odd_at L b
    one_parity a b ba bb e = labelling.joined a b ba bb e (odd_at L) (parity_agrees S L arr even.within even.even)

    at_outer : (f : ℕ) → f ≡ outer_of faces → IsOddAt f
    at_outer f e a beside is = ap (λ (n : ℕ). stands_oddly (list_at held n) i) e ∙ ap (λ (xs : List ℕ). stands_oddly xs i) lists.outer_free ∙ one_parity outside a tt beside (outer_label ∙ sym e ∙ sym is)

    -- from one side of an arc to the other
    over_arc : (c : Crossing) (n : ℕ) → n < length arcs → c.arc ≡ n → (x y : Place) → IsBeside S x → IsBeside S y → label x ≡ c.from → label y ≡ c.into
        → odd_at L y ≡ xor (odd_at L x) (odd_count (λ (s : RingStep). nat_eq i s.item) (steps_on steps n))
        → stands_oddly (list_at held c.into) i ≡ xor (stands_oddly (list_at held c.from) i) (odd_count (λ (s : RingStep). nat_eq i s.item) (steps_on steps c.arc)) → IsOddAt c.from → IsOddAt c.into
    over_arc c n l same x y bx by' is_x is_y turned across before a beside is =
        across ∙ (λ k. xor (before x bx is_x k) (odd_count (λ (s : RingStep). nat_eq i s.item) (steps_on steps (same k)))) ∙ sym turned ∙ one_parity y a by' beside (is_y ∙ sym is)

    step_over : (c : Crossing) → IsCrossing faces c → stands_oddly (list_at held c.into) i ≡ xor (stands_oddly (list_at held c.from) i) (odd_count (λ (s : RingStep). nat_eq i s.item) (steps_on steps c.arc)) → IsOddAt c.from → IsOddAt c.into
    step_over c is across before = go is.along.is_reversed refl
      where
        below : is.along.arc < length arcs
        below = let there = is.there in omega arith

        many : 0 < length (steps_of (arc_of arcs is.along.arc))
        many =
            let longer : 1 < length (arc_of arcs is.along.arc) = long is.along.arc [] below in
            let e = steps_counted (arc_of arcs is.along.arc) (omega arith) in omega arith

        nothing : Segment
        nothing = record { start = record { x = pos 0; y = pos 0 }; stop = record { x = pos 0; y = pos 0 } }

        first : (s : Segment) × IsStep arcs is.along.arc 0 s
        first = (get_or (steps_of (arc_of arcs is.along.arc)) 0 nothing, step_at arcs is.along.arc 0 nothing below many)

        on : Contains S (link_between first.0)
        on = step_on arcs S arr long along is.along.arc 0 first.0 first.1

        turned : odd_at L (left_of (opposite (dart_of_step first.0))) ≡ xor (odd_at L (left_of (dart_of_step first.0))) (odd_count (λ (s : RingStep). nat_eq i s.item) (steps_on steps is.along.arc))
        turned = other_side S L arr even (dart_of_step first.0) on
            ∙ ap (xor (odd_at L (left_of (dart_of_step first.0))))
            (All-contains (λ (l : Segment). odd_count (same_segment l) L ≡ odd_count (λ (s : RingStep). nat_eq i s.item) (steps_on steps is.along.arc)) (map link_between (steps_of (arc_of arcs is.along.arc))) (link_between first.0) (agree is.along.arc below)
            (Contains-map link_between (steps_of (arc_of arcs is.along.arc)) first.0 (0, first.1.there, first.1.is)))

        go : (b : Bool) → is.along.is_reversed ≡ b → IsOddAt c.into
        go false e =
            over_arc c is.along.arc below (sym is.arc) (left_of (dart_of_step first.0)) (left_of (opposite (dart_of_step first.0))) on on
            (at_left is.along.arc 0 first.0 first.1 ∙ ap (λ (b : Bool). face_left_of faces.places (record { arc = is.along.arc; is_reversed = b })) (sym e) ∙ is.left)
            (at_right is.along.arc 0 first.0 first.1 ∙ ap (λ (b : Bool). face_across faces.places (record { arc = is.along.arc; is_reversed = b })) (sym e) ∙ is.right)
            turned across before
        go true e =
            over_arc c is.along.arc below (sym is.arc) (left_of (opposite (dart_of_step first.0))) (left_of (dart_of_step first.0)) on on
            (at_right is.along.arc 0 first.0 first.1 ∙ ap (λ (b : Bool). face_left_of faces.places (record { arc = is.along.arc; is_reversed = b })) (sym e) ∙ is.left)
            (at_left is.along.arc 0 first.0 first.1 ∙ ap (λ (b : Bool). face_across faces.places (record { arc = is.along.arc; is_reversed = b })) (sym e) ∙ is.right)
            (solve (odd_at L (left_of (opposite (dart_of_step first.0)))) (odd_at L (left_of (dart_of_step first.0))) (odd_count (λ (s : RingStep). nat_eq i s.item) (steps_on steps is.along.arc)) turned)
            across before

    -- so it is at each face that is reached
    reached_odd : (k f : ℕ) → IsReached (outer_of faces) crossings k f → IsOddAt f
    reached_odd k f (inl e) = at_outer f e
    reached_odd zero f (inr r) = absurd (let less = r.2 in omega arith)
    reached_odd (suc k) f (inr r) =
        let c = r.1 in
        let within = slice_get_within crossings r.0 c r.3 in
        let at_c = get_or_from_slice_get crossings r.0 c c r.3 in
        let is : IsCrossing faces c = subst (IsCrossing faces) at_c (are.each r.0 c within) in
        let across = subst (λ (d : Crossing). stands_oddly (list_at held d.into) i ≡ xor (stands_oddly (list_at held d.from) i) (odd_count (λ (s : RingStep). nat_eq i s.item) (steps_on steps d.arc))) at_c ((lists.across r.0 c within).parity i) in
        let before = reached_odd k c.from (reached_later (outer_of faces) crossings r.0 k c.from (let less = r.2 in omega arith) (are.onward r.0 c r.3)) in
        subst IsOddAt r.4 (step_over c is across before)

    pub odd_of_place : (a : Place) → IsBeside S a → stands_oddly (list_at held (label a)) i ≡ odd_at L a
    odd_of_place a beside = reached_odd (length crossings) (label a) (each_reached a beside) a beside refl

-- ---- at points

pub items_hold_by_parity : ItemsHoldByParity
items_hold_by_parity S arr distinct arcs long along free faces built crossings are closed steps held lists i L even agree p f over =
    let (label, by) = each_table_has_labels S arr arcs along faces in
    let labelling = faces_are_classes S arr arcs long along free faces built label by in
    ∥∥₁_elim built.all_links (Bool-set (stands_oddly (list_at held f) i) (odd L (at p)))
    (λ all.
    let (a, at_p, is_f) = face_of_point S arr arcs long along faces all label by p f over in
    ap (λ (n : ℕ). stands_oddly (list_at held n) i) (sym is_f)
    ∙ odd_of_place S arr distinct arcs long along faces built.places_counted label by labelling crossings are closed steps held lists i L even agree a (place_beside S (at p) a at_p)
    ∙ sym (parity_at_place S L arr even.within even.even (at p) a at_p))

-- ---- beside arcs

right_of_dart : (L : List Segment) (d : Dart) → odd_at L (left_of (opposite d)) ≡ odd_right_of L d
right_of_dart L d = go d.forward
  where
    go : (b : Bool) → cond (not b) (odd_left L d.link) (odd_right L d.link) ≡ cond b (odd_right L d.link) (odd_left L d.link)
    go true = refl
    go false = refl

pub items_beside_arcs : ItemsBesideArcs
items_beside_arcs S arr distinct arcs long along free faces built crossings are closed steps held lists i L even agree n below j e there =
    let (label, by) = each_table_has_labels S arr arcs along faces in
    let labelling = faces_are_classes S arr arcs long along free faces built label by in
    let d : Dart = get_or (map dart_of_step (steps_of (arc_of arcs n))) j e in
    let many = length-map (steps_of (arc_of arcs n)) dart_of_step in
    let step = step_at arcs n j e.link below (omega arith) in
    let is : d ≡ dart_of_step (get_or (steps_of (arc_of arcs n)) j e.link) = get_or-map dart_of_step (steps_of (arc_of arcs n)) j e.link e (omega arith) in
    let on : Contains S d.link = subst (λ (c : Dart). Contains S c.link) (sym is) (step_on arcs S arr long along n j (get_or (steps_of (arc_of arcs n)) j e.link) step) in
    let odd_of : (a : Place) → IsBeside S a → stands_oddly (list_at held (label a)) i ≡ odd_at L a = odd_of_place S arr distinct arcs long along faces built.places_counted label by labelling crossings are closed steps held lists i L even agree in (
      ap (λ (f : ℕ). stands_oddly (list_at held f) i) (sym (by.left n below j e there)) ∙ odd_of (left_of d) on,
      ap (λ (f : ℕ). stands_oddly (list_at held f) i) (sym (by.right n below j e there)) ∙ odd_of (left_of (opposite d)) on ∙ right_of_dart L d,
    )
