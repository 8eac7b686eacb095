-- Steps and darts are one and the same, so rings that use the darts of a border once use its steps once, and back.
use Rattle.std.proofs.Common.{◌≡◌, refl, sym, ap, subst, ◌∙◌, Bool, true, false, cond, List, [], ◌∷◌, map}
use Rattle.std.specs.Prelude.{All, Contains}
use Rattle.std.specs.List.{cons_option}
use Rattle.std.specs.List.Sorted.{IsPermutation}
use Rattle.std.proofs.lemmas.List.Elements.{All-head, All-tail, All-map, All-contains_itself, All-weaker}
use Rattle.std.proofs.lemmas.List.Sorted.{IsPermutation-sym, IsPermutation-map, All-permutation}
use Rattle.plane_model.specs.Points.{Segment, Path}
use Rattle.plane_model.specs.Arrangement.{IsBefore}
use Rattle.plane_model.specs.Drawing.{steps_of_paths}
use Rattle.plane_model.specs.Parity.{xor, links_of_paths}
use Rattle.plane_model.specs.Boundary.{boundary_step}
use Rattle.plane_model.specs.Rotation.{Dart}
use Rattle.plane_model.specs.Joined.{IsClosed}
use Rattle.plane_faces.specs.Around.{step_of_dart}
use Rattle.plane_faces.specs.Places.{Place, left_of, left_side, right_side, border, border_darts}
use Rattle.plane_faces.specs.Labels.{among, in_part}
use Rattle.plane_faces.specs.Rings.{dart_of_step, darts_of_paths, IsRing}
use Rattle.plane_faces.specs.UsedOnce.{border_steps, BordersAreUsedOnce, PartsUsedOnceArePolygons}
use Rattle.plane_faces.proofs.Runs.{darts_are, all_links, ring_closed}
use Rattle.plane_faces.proofs.EvenRings.{between_tail, between_head}
use Rattle.plane_faces.proofs.BorderRings.{link_of, links_of_border, left_held}
use Rattle.plane_faces.proofs.Orientation.{dart_on, dart_back}
use Rattle.plane_faces.proofs.LeastFirst.{Bordering, least_starts}
use Rattle.plane_faces.proofs.Laws.{border_rings, part_paths}

-- a step has one dart, and a dart one step
pub same_step : (s : Segment) → step_of_dart (dart_of_step s) ≡ s
same_step s = λ i. record { start = between_tail s.start s.stop i; stop = between_head s.start s.stop i }

all_steps : (xs : List Segment) → map step_of_dart (map dart_of_step xs) ≡ xs
all_steps [] = refl
all_steps (s ∷ xs) = λ i. same_step s i ∷ all_steps xs i

module _ (f : Place → Bool) where
  abbrev directed : Segment → Dart
  directed l = record { link = l; forward = f (left_side l) }

  steps_of_border : (xs : List Segment) → map step_of_dart (map directed (border f xs)) ≡ border_steps f xs
  steps_of_border [] = refl
  steps_of_border (l ∷ xs) = go (f (left_side l)) (f (right_side l)) refl (steps_of_border xs)
    where
      go : (x y : Bool) → f (left_side l) ≡ x → map step_of_dart (map directed (border f xs)) ≡ border_steps f xs
          → map step_of_dart (map directed (cond (xor x y) (l ∷ border f xs) (border f xs))) ≡ cons_option (boundary_step x y l) (border_steps f xs)
      go true true e h = h
      go true false e h = λ i. (record { start = cond (e i) l.start l.stop; stop = cond (e i) l.stop l.start }) ∷ h i
      go false true e h = λ i. (record { start = cond (e i) l.start l.stop; stop = cond (e i) l.stop l.start }) ∷ h i
      go false false e h = h

  abbrev Ordered : Segment → Type 0
  Ordered l = IsBefore l.start l.stop

  darts_of_border : (xs : List Segment) → All Ordered xs → map dart_of_step (border_steps f xs) ≡ map directed (border f xs)
  darts_of_border [] o = refl
  darts_of_border (l ∷ xs) o = go (f (left_side l)) (f (right_side l)) refl (All-head Ordered l xs o) (darts_of_border xs (All-tail Ordered l xs o))
    where
      go : (x y : Bool) → f (left_side l) ≡ x → Ordered l → map dart_of_step (border_steps f xs) ≡ map directed (border f xs)
          → map dart_of_step (cons_option (boundary_step x y l) (border_steps f xs)) ≡ map directed (cond (xor x y) (l ∷ border f xs) (border f xs))
      go true true e o h = h
      go true false e o h = ap (λ (d : Dart). d ∷ map dart_of_step (border_steps f xs)) (dart_on l.start l.stop o) ∙ (λ i. (record { link = l; forward = sym e i }) ∷ h i)
      go false true e o h = ap (λ (d : Dart). d ∷ map dart_of_step (border_steps f xs)) (dart_back l.start l.stop o) ∙ (λ i. (record { link = l; forward = sym e i }) ∷ h i)
      go false false e o h = h

  -- by darts, and by steps
  pub once_by_steps : (S : List Segment) (rings : List Path) → IsPermutation (darts_of_paths rings) (border_darts f S) → IsPermutation (border_steps f S) (steps_of_paths rings)
  once_by_steps S rings h =
      subst (IsPermutation (border_steps f S)) (all_steps (steps_of_paths rings))
      (subst (λ (xs : List Segment). IsPermutation xs (map step_of_dart (darts_of_paths rings))) (steps_of_border S)
      (IsPermutation-map step_of_dart (border_darts f S) (darts_of_paths rings) (IsPermutation-sym (darts_of_paths rings) (border_darts f S) h)))

  once_by_darts : (S : List Segment) (rings : List Path) → All Ordered S → IsPermutation (border_steps f S) (steps_of_paths rings) → IsPermutation (border_darts f S) (darts_of_paths rings)
  once_by_darts S rings o h =
      subst (λ (ds : List Dart). IsPermutation ds (darts_of_paths rings)) (darts_of_border S o) (IsPermutation-map dart_of_step (border_steps f S) (steps_of_paths rings) h)

  once_by_links : (S : List Segment) (rings : List Path) → IsPermutation (border_darts f S) (darts_of_paths rings) → IsPermutation (links_of_paths rings) (border f S)
  once_by_links S rings h =
      IsPermutation-sym (border f S) (links_of_paths rings)
      (subst (IsPermutation (border f S)) (all_links (steps_of_paths rings))
      (subst (λ (ls : List Segment). IsPermutation ls (map link_of (darts_of_paths rings))) (links_of_border f (border f S)) (IsPermutation-map link_of (border_darts f S) (darts_of_paths rings) h)))

pub borders_are_used_once : BordersAreUsedOnce
borders_are_used_once S arr distinct f agrees =
    let r = border_rings S arr distinct f agrees in
    let once = subst (λ (ds : List Dart). IsPermutation ds (border_darts f S)) (darts_are r.0) r.5 in
    (r.0, record { closed = All-weaker IsRing IsClosed ring_closed r.0 r.1; steps_once = once_by_steps f S r.0 once }, r.1, r.2)

pub parts_used_once_are_polygons : PartsUsedOnceArePolygons
parts_used_once_are_polygons S arr distinct label faces F none part parts n rings uses are_rings b hb e =
    part_paths S arr distinct label faces F none part parts n rings
    (least_starts S arr f rings are_rings (subst (All (Bordering S arr f)) (sym (darts_are rings)) bordering))
    left (once_by_links f S rings once) b hb e
  where
    f : Place → Bool
    f = among label (in_part F part n)

    once : IsPermutation (border_darts f S) (darts_of_paths rings)
    once = once_by_darts f S rings arr.ordered uses.steps_once

    left : All (λ d. f (left_of d) ≡ true) (darts_of_paths rings)
    left = All-permutation (λ d. f (left_of d) ≡ true) (border_darts f S) (darts_of_paths rings) once (left_held f S)

    there : All (λ d. Contains (border f S) d.link) (darts_of_paths rings)
    there = All-permutation (λ d. Contains (border f S) d.link) (border_darts f S) (darts_of_paths rings) once
        (All-map (λ d. Contains (border f S) d.link) (directed f) (border f S) (All-contains_itself (border f S)))

    bordering : All (Bordering S arr f) (darts_of_paths rings)
    bordering = λ k d lt. (there k d lt, left k d lt)
