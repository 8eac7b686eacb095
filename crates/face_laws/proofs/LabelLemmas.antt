-- A label for each place: the face of the place that is numbered for its dart.
use Rattle.std.proofs.Common.{◌≡◌, ◌⊎◌, inl, inr, refl, sym, ap, ◌∙◌, subst, arith, ℕ, zero, suc, ◌<◌, ◌≤◌, Bool, true, false, cond, not, ◌&&◌, List, [], ◌∷◌, ◌++◌, map, length, get_or, Contains}
use Rattle.std.proofs.lemmas.Bool.{cases_lt, and_parts, and_from}
use Rattle.std.proofs.lemmas.List.{get_or_default}
use Rattle.std.proofs.lemmas.List.Elements.{Contains-append_left, Contains-append_right, Contains-append_cases, Contains-get_or}
use Rattle.lists.proofs.Members.{Contains-nil, Contains-cases, Contains-later, Contains-map, map-Contains}
use Rattle.plane_model.specs.Points.{Segment, Path, link_between, same_point, same_segment}
use Rattle.plane_model.specs.Drawing.{steps}
use Rattle.plane_model.specs.Arcs.{forward, backward}
use Rattle.plane_model.specs.Arrangement.{IsArrangement}
use Rattle.plane_model.specs.Rotation.{Dart}
use Rattle.plane_model.proofs.PointOrder.{same_point_from, segment_is}
use Rattle.plane_parity.proofs.Abscissa.{same_link-self}
use Rattle.plane_faces.specs.Around.{opposite}
use Rattle.plane_faces.specs.Places.{Place, outside, left_of}
use Rattle.plane_faces.specs.Rings.{dart_of_step, darts_of_path}
use Rattle.arc_table.specs.Along.{GoAlong}
use Rattle.link_search.specs.PlaceNumbers.{place_of}
use Rattle.face_laws.specs.Faces.{IsByNumber, EachTableHasLabels}
use Rattle.face_laws.proofs.StepLemmas.{IsStep, arc_of, one_place}

abbrev pub same_dart : Dart → Dart → Bool
same_dart d e = same_segment d.link e.link && cond d.forward e.forward (not e.forward)

pub dart_from : (d e : Dart) → same_dart d e ≡ true → d ≡ e
dart_from d e h =
    let (links, ways) = and_parts (same_segment d.link e.link) (cond d.forward e.forward (not e.forward)) h in
    let (starts, stops) = and_parts (same_point d.link.start e.link.start) (same_point d.link.stop e.link.stop) links in
    let link : d.link ≡ e.link = segment_is d.link e.link (same_point_from d.link.start e.link.start starts) (same_point_from d.link.stop e.link.stop stops) in
    let way : d.forward ≡ e.forward = go d.forward e.forward ways in
    (λ i. record { link = link i; forward = way i })
  where
    go : (b c : Bool) → cond b c (not c) ≡ true → b ≡ c
    go true true h = refl
    go true false h = absurd (let g : false ≡ true = h in cc)
    go false true h = absurd (let g : false ≡ true = h in cc)
    go false false h = refl

pub dart_to : (d : Dart) → same_dart d d ≡ true
dart_to d = and_from (same_segment d.link d.link) (cond d.forward d.forward (not d.forward)) (same_link-self d.link) (go d.forward)
  where
    go : (b : Bool) → cond b b (not b) ≡ true
    go true = refl
    go false = refl

-- the number that stands first with a dart
number_in : List (Dart × ℕ) → Dart → ℕ
number_in [] d = 0
number_in (x ∷ xs) d = cond (same_dart x.0 d) x.1 (number_in xs d)

number_stands : (xs : List (Dart × ℕ)) (d : Dart) (m : ℕ) → Contains xs (d, m) → Contains xs (d, number_in xs d)
unfolding number_in
number_stands [] d m c = Contains-nil (d, m) c
number_stands (x ∷ xs) d m c = go (same_dart x.0 d) refl (λ k. number_stands xs d m k)
  where
    go : (b : Bool) → same_dart x.0 d ≡ b → (Contains xs (d, m) → Contains xs (d, number_in xs d)) → Contains (x ∷ xs) (d, cond b x.1 (number_in xs d))
    go true e later = (0, omega arith, (λ i. (dart_from x.0 d e i, x.1)))
    go false e later = elim (Contains-cases x xs (d, m) c) [
      | inl f ↦ absurd (let g : true ≡ false = sym (dart_to d) ∙ (λ i. same_dart ((sym f i).0) d) ∙ e in cc)
      | inr k ↦ Contains-later x xs (d, number_in xs d) (later k)
    ]

-- the numbers of the darts along the first n arcs
numbers_of : List Path → ℕ → List (Dart × ℕ)
numbers_of arcs n = map (λ d. (d, place_of (forward n))) (darts_of_path (arc_of arcs n)) ++ map (λ d. (opposite d, place_of (backward n))) (darts_of_path (arc_of arcs n))

numbers_below : List Path → ℕ → List (Dart × ℕ)
numbers_below arcs zero = []
numbers_below arcs (suc n) = numbers_below arcs n ++ numbers_of arcs n

record IsNumber (arcs : List Path) (n j : ℕ) (s : Segment) (x : Dart × ℕ) : Type 0 where
  step : IsStep arcs n j s
  is : ((x.0 ≡ dart_of_step s) × (x.1 ≡ place_of (forward n))) ⊎ ((x.0 ≡ opposite (dart_of_step s)) × (x.1 ≡ place_of (backward n)))

of_numbers : (arcs : List Path) (m : ℕ) → m ≤ length arcs → (x : Dart × ℕ) → Contains (numbers_below arcs m) x → (n : ℕ) × (j : ℕ) × (s : Segment) × IsNumber arcs n j s x
unfolding numbers_below numbers_of
of_numbers arcs zero l x c = Contains-nil x c
of_numbers arcs (suc m) l x c = elim (Contains-append_cases (numbers_below arcs m) (ahead ++ past) x c) [
  | inl k ↦ of_numbers arcs m (omega arith) x k
  | inr k ↦ elim (Contains-append_cases ahead past x k) [
    | inl o ↦ (
        let (d, there, e) = map-Contains (λ d. (d, place_of (forward m))) darts x o in
        let (s, (j, below, is), f) = map-Contains dart_of_step (steps (arc_of arcs m)) d there in
        (m, j, s, record { step = record { arc = omega arith; there = below; is = is }; is = inl ((λ i. (sym e i).0) ∙ sym f, (λ i. (sym e i).1)) }))
    | inr o ↦ (
        let (d, there, e) = map-Contains (λ d. (opposite d, place_of (backward m))) darts x o in
        let (s, (j, below, is), f) = map-Contains dart_of_step (steps (arc_of arcs m)) d there in
        (m, j, s, record { step = record { arc = omega arith; there = below; is = is }; is = inr ((λ i. (sym e i).0) ∙ ap opposite (sym f), (λ i. (sym e i).1)) }))
  ]
]
  where
    darts : List Dart
    darts = darts_of_path (arc_of arcs m)

    ahead : List (Dart × ℕ)
    ahead = map (λ d. (d, place_of (forward m))) (darts_of_path (arc_of arcs m))

    past : List (Dart × ℕ)
    past = map (λ d. (opposite d, place_of (backward m))) (darts_of_path (arc_of arcs m))

in_numbers : (arcs : List Path) (m n : ℕ) → n < m → (x : Dart × ℕ) → Contains (numbers_of arcs n) x → Contains (numbers_below arcs m) x
unfolding numbers_below
in_numbers arcs zero n l x c = absurd (omega arith)
in_numbers arcs (suc m) n l x c = elim (cases_lt n m) [
  | inl k ↦ Contains-append_left (numbers_below arcs m) (numbers_of arcs m) x (in_numbers arcs m n k x c)
  | inr k ↦ Contains-append_right (numbers_below arcs m) (numbers_of arcs m) x (subst (λ (k : ℕ). Contains (numbers_of arcs k) x) (let e : n ≡ m = omega arith in e) c)
]

module _ (S : List Segment) (arr : IsArrangement S) (arcs : List Path) (along : GoAlong S arcs) where
  not_opposite : (d : Dart) → d ≡ opposite d → ⊥
  not_opposite d e = go d.forward (λ i. (e i).forward)
    where
      go : (b : Bool) → b ≡ not b → ⊥
      go true e = absurd (cc)
      go false e = absurd (cc)

  -- a dart has one number
  one_number : (n j k i : ℕ) (s t : Segment) (x y : Dart × ℕ) → x.0 ≡ y.0 → IsNumber arcs n j s x → IsNumber arcs k i t y → x.1 ≡ y.1
  one_number n j k i s t x y e hx hy = elim hx.is [
    | inl a ↦ elim hy.is [
      | inl b ↦ (let m = places (links_one (sym a.0 ∙ e ∙ b.0)) in a.1 ∙ ap (λ (q : ℕ). place_of (forward q)) m.0 ∙ sym b.1)
      | inr b ↦ (let m = places (links_one (sym a.0 ∙ e ∙ b.0)) in absurd (not_opposite (dart_of_step t) (ap dart_of_step (sym (steps_one m.0 m.1)) ∙ sym a.0 ∙ e ∙ b.0)))
    ]
    | inr a ↦ elim hy.is [
      | inl b ↦ (let m = places (links_one (sym a.0 ∙ e ∙ b.0)) in absurd (not_opposite (dart_of_step t) (sym b.0 ∙ sym e ∙ a.0 ∙ ap (λ (q : Segment). opposite (dart_of_step q)) (steps_one m.0 m.1))))
      | inr b ↦ (let m = places (links_one (sym a.0 ∙ e ∙ b.0)) in a.1 ∙ ap (λ (q : ℕ). place_of (backward q)) m.0 ∙ sym b.1)
    ]
  ]
    where
      links_one : {c d : Dart} → c ≡ d → c.link ≡ d.link
      links_one e = λ i. (e i).link

      places : link_between s ≡ link_between t → (n ≡ k) × (j ≡ i)
      places l = one_place arcs along.once n k j i s t hx.step hy.step l

      steps_one : n ≡ k → j ≡ i → s ≡ t
      steps_one f g = sym hx.step.is ∙ get_or_default (steps (arc_of arcs n)) j s t hx.step.there ∙ (λ x. get_or (steps (arc_of arcs (f x))) (g x) t) ∙ hy.step.is

  number_is : (n : ℕ) → n < length arcs → (x : Dart × ℕ) → Contains (numbers_of arcs n) x → number_in (numbers_below arcs (length arcs)) x.0 ≡ x.1
  number_is n l x c =
      let xs = numbers_below arcs (length arcs) in
      let here = in_numbers arcs (length arcs) n l x c in
      let found = number_stands xs x.0 x.1 here in
      let (a, j, s, h) = of_numbers arcs (length arcs) (omega arith) x here in
      let (b, i, t, k) = of_numbers arcs (length arcs) (omega arith) (x.0, number_in xs x.0) found in
      sym (one_number a j b i s t x (x.0, number_in xs x.0) refl h k)

  module _ {A : Type 0} (g : ℕ → A) where
    pub place_label : Place → A
    place_label outside = g 0
    place_label (left_of d) = g (number_in (numbers_below arcs (length arcs)) d)

    pub labels_by_number : IsByNumber arcs g place_label
    unfolding place_label numbers_of
    labels_by_number = record {
      outside_all = refl;
      left = λ n l k d m.
          (let darts = darts_of_path (arc_of arcs n) in
          let c : Dart = get_or darts k d in
          ap g (number_is n l (c, place_of (forward n)) (Contains-append_left (map (λ d. (d, place_of (forward n))) darts) (map (λ d. (opposite d, place_of (backward n))) darts) (c, place_of (forward n))
          (Contains-map (λ d. (d, place_of (forward n))) darts c (Contains-get_or darts k d m)))));
      right = λ n l k d m.
          (let darts = darts_of_path (arc_of arcs n) in
          let c : Dart = get_or darts k d in
          ap g (number_is n l (opposite c, place_of (backward n)) (Contains-append_right (map (λ d. (d, place_of (forward n))) darts) (map (λ d. (opposite d, place_of (backward n))) darts) (opposite c, place_of (backward n))
          (Contains-map (λ d. (opposite d, place_of (backward n))) darts c (Contains-get_or darts k d m)))));
    }

pub each_table_has_labels : EachTableHasLabels
each_table_has_labels S arr arcs along faces = (place_label S arr arcs along (λ n. get_or faces.places n 0), labels_by_number S arr arcs along (λ n. get_or faces.places n 0))
