-- What takes one value in each sector takes one along each side of an arc, and so by the numbers of places.
use Rattle.std.proofs.Common.{◌≡◌, refl, sym, ap, ◌∙◌, subst, arith, ℕ, zero, suc, ◌+◌, ◌*◌, ◌<◌, List, [], ◌∷◌, map, length, get_or, All, Contains, pos}
use Rattle.std.proofs.lemmas.List.{get_or_default, get_or-map, length-map}
use Rattle.plane_model.specs.Points.{Segment, Path, link_between}
use Rattle.plane_model.specs.Drawing.{steps}
use Rattle.plane_model.specs.Arcs.{forward, backward}
use Rattle.plane_model.specs.Arrangement.{IsArrangement}
use Rattle.plane_model.specs.Rotation.{Dart, IsNext}
use Rattle.plane_faces.specs.Around.{opposite}
use Rattle.plane_faces.specs.Places.{Place, outside, left_of}
use Rattle.plane_faces.specs.Rings.{dart_of_step}
use Rattle.arc_table.specs.Along.{GoAlong}
use Rattle.face_laws.specs.Faces.{AreFreeInside, IsByNumber}
use Rattle.link_search.specs.PlaceNumbers.{place_of}
use Rattle.face_laws.proofs.DartLemmas.{twice_opposite, on_next, back_next}
use Rattle.face_laws.proofs.StepLemmas.{IsStep, arc_of, step_at, step_on, step_moves, alone_inside, they_meet}

none : Segment
none = record { start = record { x = pos 0; y = pos 0 }; stop = record { x = pos 0; y = pos 0 } }

-- the dart of the first step of a path
first_of : Path → Dart
first_of path = dart_of_step (get_or (steps path) 0 none)

-- the place of a number
place_at : List Path → ℕ → Place
place_at [] m = outside
place_at (arc ∷ arcs) zero = left_of (first_of arc)
place_at (arc ∷ arcs) (suc zero) = left_of (opposite (first_of arc))
place_at (arc ∷ arcs) (suc (suc m)) = place_at arcs m

pub place_numbered : List Path → ℕ → Place
place_numbered arcs zero = outside
place_numbered arcs (suc m) = place_at arcs m

at_even : (arcs : List Path) (n : ℕ) → n < length arcs → place_at arcs (n + n) ≡ left_of (first_of (arc_of arcs n))
unfolding place_at
at_even [] n l = absurd (omega arith)
at_even (arc ∷ arcs) zero l = refl
at_even (arc ∷ arcs) (suc n) l = ap (place_at (arc ∷ arcs)) (let e : suc n + suc n ≡ suc (suc (n + n)) = omega arith in e) ∙ at_even arcs n (omega arith)

at_odd : (arcs : List Path) (n : ℕ) → n < length arcs → place_at arcs (suc (n + n)) ≡ left_of (opposite (first_of (arc_of arcs n)))
unfolding place_at
at_odd [] n l = absurd (omega arith)
at_odd (arc ∷ arcs) zero l = refl
at_odd (arc ∷ arcs) (suc n) l = ap (place_at (arc ∷ arcs)) (let e : suc (suc n + suc n) ≡ suc (suc (suc (n + n))) = omega arith in e) ∙ at_odd arcs n (omega arith)

numbered_forward : (arcs : List Path) (n : ℕ) → n < length arcs → place_numbered arcs (place_of (forward n)) ≡ left_of (first_of (arc_of arcs n))
unfolding place_numbered
numbered_forward arcs n l = ap (place_numbered arcs) (let e : 2 * n + 1 ≡ suc (n + n) = omega arith in e) ∙ at_even arcs n l

numbered_backward : (arcs : List Path) (n : ℕ) → n < length arcs → place_numbered arcs (place_of (backward n)) ≡ left_of (opposite (first_of (arc_of arcs n)))
unfolding place_numbered
numbered_backward arcs n l = ap (place_numbered arcs) (let e : 2 * n + 2 ≡ suc (suc (n + n)) = omega arith in e) ∙ at_odd arcs n l

-- f takes one value in each sector
abbrev pub IsOneInSectors : {A : Type 0} → List Segment → (Place → A) → Type 0
IsOneInSectors S f = (d e : Dart) → Contains S d.link → Contains S e.link → IsNext S d e → f (left_of d) ≡ f (left_of (opposite e))

module _ (S : List Segment) (arr : IsArrangement S) (arcs : List Path) (long : All (λ arc. 1 < length arc) arcs) (along : GoAlong S arcs) (free : AreFreeInside S arcs) where
  pub inner_on : (n i : ℕ) (s t : Segment) → IsStep arcs n i s → IsStep arcs n (i + 1) t → IsNext S (dart_of_step t) (opposite (dart_of_step s))
  inner_on n i s t h k = on_next S s t (they_meet arcs n i s t h k) (step_moves arcs S arr long along n i s h) (step_moves arcs S arr long along n (i + 1) t k) (alone_inside S arr arcs long along free n i s t h k)

  pub inner_back : (n i : ℕ) (s t : Segment) → IsStep arcs n i s → IsStep arcs n (i + 1) t → IsNext S (opposite (dart_of_step s)) (dart_of_step t)
  inner_back n i s t h k = back_next S s t (they_meet arcs n i s t h k) (step_moves arcs S arr long along n i s h) (step_moves arcs S arr long along n (i + 1) t k) (alone_inside S arr arcs long along free n i s t h k)

  module _ {A : Type 0} (f : Place → A) (sector : IsOneInSectors S f) where
    abbrev Sides : Segment → Segment → Type 0
    Sides s t = (f (left_of (dart_of_step s)) ≡ f (left_of (dart_of_step t))) × (f (left_of (opposite (dart_of_step s))) ≡ f (left_of (opposite (dart_of_step t))))

    after : (n i : ℕ) (s t : Segment) → IsStep arcs n i s → IsStep arcs n (i + 1) t → Sides t s
    after n i s t h k =
        let cs : Contains S (link_between s) = step_on arcs S arr long along n i s h in
        let ct : Contains S (link_between t) = step_on arcs S arr long along n (i + 1) t k in (
          sector (dart_of_step t) (opposite (dart_of_step s)) ct cs (inner_on n i s t h k) ∙ ap (λ (d : Dart). f (left_of d)) (twice_opposite (dart_of_step s)),
          sym (sector (opposite (dart_of_step s)) (dart_of_step t) cs ct (inner_back n i s t h k)),
        )

    along_sides : (n j : ℕ) (s : Segment) → IsStep arcs n j s → Sides s (get_or (steps (arc_of arcs n)) 0 none)
    along_sides n zero s h =
        let e : s ≡ get_or (steps (arc_of arcs n)) 0 none = sym h.is ∙ get_or_default (steps (arc_of arcs n)) 0 s none h.there in
        (ap (λ (x : Segment). f (left_of (dart_of_step x))) e, ap (λ (x : Segment). f (left_of (opposite (dart_of_step x)))) e)
    along_sides n (suc j) s h =
        let there = h.there in
        let before : IsStep arcs n j (get_or (steps (arc_of arcs n)) j none) = step_at arcs n j none h.arc (omega arith) in
        let one : suc j ≡ j + 1 = omega arith in
        let on = after n j (get_or (steps (arc_of arcs n)) j none) s before (subst (λ (k : ℕ). IsStep arcs n k s) one h) in
        let rest = along_sides n j (get_or (steps (arc_of arcs n)) j none) before in
        (on.0 ∙ rest.0, on.1 ∙ rest.1)

    pub is_by_number : IsByNumber arcs (λ m. f (place_numbered arcs m)) f
    unfolding place_numbered first_of
    is_by_number = record {
      outside_all = refl;
      left = λ n l k d m.
          (let h = step n k l m in
          ap (λ (c : Dart). f (left_of c)) (get_or-map dart_of_step (steps (arc_of arcs n)) k none d (count n k m)) ∙ (along_sides n k (get_or (steps (arc_of arcs n)) k none) h).0 ∙ sym (ap f (numbered_forward arcs n l)));
      right = λ n l k d m.
          (let h = step n k l m in
          ap (λ (c : Dart). f (left_of (opposite c))) (get_or-map dart_of_step (steps (arc_of arcs n)) k none d (count n k m)) ∙ (along_sides n k (get_or (steps (arc_of arcs n)) k none) h).1 ∙ sym (ap f (numbered_backward arcs n l)));
    }
      where
        count : (n k : ℕ) → k < length (map dart_of_step (steps (arc_of arcs n))) → k < length (steps (arc_of arcs n))
        count n k m = let e = length-map (steps (arc_of arcs n)) dart_of_step in omega arith

        step : (n k : ℕ) → n < length arcs → k < length (map dart_of_step (steps (arc_of arcs n))) → IsStep arcs n k (get_or (steps (arc_of arcs n)) k none)
        step n k l m = step_at arcs n k none l (count n k m)
