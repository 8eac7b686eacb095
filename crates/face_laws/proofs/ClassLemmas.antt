-- The faces of a table are the classes of the plane.
use Rattle.std.proofs.Common.{◌≡◌, ◌⊎◌, inl, inr, refl, sym, ap, ◌∙◌, subst, arith, ℕ, zero, suc, ◌+◌, ◌*◌, ◌<◌, Bool, List, [], ◌∷◌, ◌++◌, length, get_or, All, Contains}
use Rattle.std.proofs.Math.Logic.{∥∥₁_elim}
use Rattle.std.proofs.Math.Nat.{ℕ_set}
use Rattle.std.proofs.Math.Bool.{Bool-set}
use Rattle.std.proofs.lemmas.Bool.{cases_lt}
use Rattle.std.proofs.lemmas.List.Elements.{All-nil, All-cons, All-append, All-contains, Contains-append_left, Contains-append_right}
use Rattle.plane_model.specs.Points.{GridPoint, Segment, Path, at}
use Rattle.plane_model.specs.Arcs.{SignedArc, forward, backward}
use Rattle.plane_model.specs.Arrangement.{IsArrangement}
use Rattle.plane_model.specs.Rotation.{Dart, IsNext}
use Rattle.plane_faces.specs.Around.{opposite}
use Rattle.plane_faces.specs.Places.{Place, outside, left_of, right_side, AgreesWherePlacesMeet, IsBeside, IsFirst, IsPlaceOf}
use Rattle.plane_faces.specs.Places as plane
use Rattle.plane_faces.specs.Rings.{dart_of_step}
use Rattle.plane_faces.proofs.Tables.{next_is_one, rays_of_table}
use Rattle.arc_table.specs.Along.{GoAlong}
use Rattle.face_laws.specs.Faces.{AreFreeInside, IsByNumber, FacesAreClasses}
use Rattle.link_search.specs.PlaceNumbers.{place_of}
use Rattle.face_walk.specs.Places.{HasJoins}
use Rattle.face_walk.specs.Rays.{AreLinksOf, IsRay}
use Rattle.face_walk.specs.Sectors.{arc_at, next_in_row, place_right_of, sector_after, sectors_below, sectors}
use Rattle.link_search.specs.declared.links.ArcLink.{ArcLink}
use Rattle.face_laws.proofs.AlongLemmas.{IsOneInSectors, inner_back, inner_on, is_by_number, place_numbered}
use Rattle.face_laws.proofs.DartLemmas.{one_of_two, twice_opposite}
use Rattle.face_laws.proofs.DrawnLemmas.{first_to, left_at, listed_in, listing, minimum_from, minimum_to, place_of_met, place_to, ray_ends, ray_starts, right_at}
use Rattle.face_laws.proofs.SectorRows.{dart_of, dart_on, first_sides, next_there}
use Rattle.face_laws.proofs.StepLemmas.{IsFirstDart, IsInnerDart, IsStep, step_of_link, step_on, where_it_starts}
use Rattle.face_laws.proofs.TurnedRows.{is_there, stands}

all_sectors : (P : ℕ × ℕ → Type 0) (starts : List GridPoint) (outs : List SignedArc) (n : ℕ) → ((i : ℕ) → i < n → P (sector_after starts outs i)) → All P (sectors_below starts outs n)
all_sectors P starts outs zero h = All-nil P
all_sectors P starts outs (suc n) h =
    All-append P (sectors_below starts outs n) (sector_after starts outs n ∷ []) (all_sectors P starts outs n (λ i l. h i (omega arith))) (All-cons P (sector_after starts outs n) [] (h n (omega arith)) (All-nil P))

in_sectors : (starts : List GridPoint) (outs : List SignedArc) (n i : ℕ) → i < n → Contains (sectors_below starts outs n) (sector_after starts outs i)
in_sectors starts outs zero i l = absurd (omega arith)
in_sectors starts outs (suc n) i l = elim (cases_lt i n) [
  | inl k ↦ Contains-append_left (sectors_below starts outs n) (sector_after starts outs n ∷ []) (sector_after starts outs i) (in_sectors starts outs n i k)
  | inr k ↦ Contains-append_right (sectors_below starts outs n) (sector_after starts outs n ∷ []) (sector_after starts outs i) (0, omega arith, ap (sector_after starts outs) (let e : n ≡ i = omega arith in e))
]

module _ (S : List Segment) (arr : IsArrangement S) (arcs : List Path) (long : All (λ arc. 1 < length arc) arcs) (along : GoAlong S arcs) (free : AreFreeInside S arcs)
    (links : List ArcLink) (all : AreLinksOf arcs links) (places : List ℕ) (joins : HasJoins arcs links places) where
  abbrev starts : List GridPoint
  starts = joins.starts

  abbrev outs : List SignedArc
  outs = joins.outs

  -- g takes one value on each pair that is joined
  abbrev IsOneOnJoins : {A : Type 0} → (ℕ → A) → Type 0
  IsOneOnJoins g = All (λ (p : ℕ × ℕ). g p.0 ≡ g p.1) (sectors starts outs ++ joins.rays)

  -- what is one on the joins, by numbers, is one where places meet
  module _ {A : Type 0} (g : ℕ → A) (f : Place → A) (by : IsByNumber arcs g f) (one : IsOneOnJoins g) where
    sector_agrees : (i : ℕ) → i < length outs → g (place_of (arc_at outs i)) ≡ g (place_right_of (arc_at outs (next_in_row starts i)))
    sector_agrees i l =
        All-contains (λ (p : ℕ × ℕ). g p.0 ≡ g p.1) (sectors starts outs ++ joins.rays) (sector_after starts outs i) one
        (Contains-append_left (sectors starts outs) joins.rays (sector_after starts outs i) (in_sectors starts outs (length outs) i l))

    ray_agrees : (ray : ℕ × ℕ) → Contains joins.rays ray → g ray.0 ≡ g ray.1
    ray_agrees ray c = All-contains (λ (p : ℕ × ℕ). g p.0 ≡ g p.1) (sectors starts outs ++ joins.rays) ray one (Contains-append_right (sectors starts outs) joins.rays ray c)

    pub one_in_sectors : IsOneInSectors S f
    one_in_sectors d e cd ce next = elim (where_it_starts arcs S arr long along d cd) [
      | inl r ↦ begun r.0 r.1
      | inr r ↦ (let (n, i, s, t, inner) = r in inside n i s t inner inner.dart)
    ]
      where
        begun : (a : SignedArc) → IsFirstDart arcs a d → f (left_of d) ≡ f (left_of (opposite e))
        begun a first =
            let (i, l, is) = stands arcs starts outs joins.turned a first.arc in
            let (m, round) = next_there S arr arcs long along free starts outs joins.turned i l in
            let b = arc_at outs (next_in_row starts i) in
            let there = is_there arcs starts outs joins.turned (next_in_row starts i) m in
            let d_is : dart_of S arr arcs long along (arc_at outs i) ≡ d = ap (dart_of S arr arcs long along) is ∙ sym first.dart in
            let on : IsNext S d (dart_of S arr arcs long along b) = subst (λ (x : Dart). IsNext S x (dart_of S arr arcs long along b)) d_is round in
            let same : e ≡ dart_of S arr arcs long along b = next_is_one S arr d e (dart_of S arr arcs long along b) ce (dart_on S arr arcs long along b there) next on in
            ap (λ (x : Dart). f (left_of x)) (sym d_is) ∙ (first_sides S arr arcs long along links all g f by (arc_at outs i) (is_there arcs starts outs joins.turned i l)).0 ∙ sector_agrees i l
            ∙ sym (first_sides S arr arcs long along links all g f by b there).1 ∙ ap (λ (x : Dart). f (left_of (opposite x))) (sym same)

        inside : (n i : ℕ) (s t : Segment) → IsInnerDart arcs n i s t d → (d ≡ dart_of_step t) ⊎ (d ≡ opposite (dart_of_step s)) → f (left_of d) ≡ f (left_of (opposite e))
        inside n i s t inner (inl h) =
            let on = subst (λ (x : Dart). IsNext S x (opposite (dart_of_step s))) (sym h) (inner_on S arr arcs long along free n i s t inner.before inner.after) in
            let same : e ≡ opposite (dart_of_step s) = next_is_one S arr d e (opposite (dart_of_step s)) ce (step_on arcs S arr long along n i s inner.before) next on in
            ap (λ (x : Dart). f (left_of x)) h ∙ left_at arcs links all g f by n (i + 1) t inner.after ∙ sym (left_at arcs links all g f by n i s inner.before)
            ∙ ap (λ (x : Dart). f (left_of x)) (sym (twice_opposite (dart_of_step s))) ∙ ap (λ (x : Dart). f (left_of (opposite x))) (sym same)
        inside n i s t inner (inr h) =
            let on = subst (λ (x : Dart). IsNext S x (dart_of_step t)) (sym h) (inner_back S arr arcs long along free n i s t inner.before inner.after) in
            let same : e ≡ dart_of_step t = next_is_one S arr d e (dart_of_step t) ce (step_on arcs S arr long along n (i + 1) t inner.after) next on in
            ap (λ (x : Dart). f (left_of x)) h ∙ right_at arcs links all g f by n i s inner.before ∙ sym (right_at arcs links all g f by n (i + 1) t inner.after)
            ∙ ap (λ (x : Dart). f (left_of (opposite x))) (sym same)

    pub one_where_places_meet : AgreesWherePlacesMeet S f
    one_where_places_meet = record { sector = one_in_sectors; ray = rays_of_table S arr f table }
      where
        Row : GridPoint → Type 0
        Row p = (j : Segment) × Contains S j × (j.start ≡ p) × IsFirst S j × ((a : Place) × IsPlaceOf S (at p) a × (f (right_side j) ≡ f a))

        row : (p : GridPoint) (ray : ℕ × ℕ) → Contains joins.rays ray → IsRay links p ray → (j : Segment) × Contains S j × (j.start ≡ p) × IsFirst S j × ((a : Place) × IsPlaceOf S (at p) a × (f (right_side j) ≡ f a))
        row p ray c is = (
          is.first.link,
          listed_in arcs links all S arr long along is.first is.is_first.there,
          is.is_first.leaves,
          first_to arcs links all S arr long along p is.first is.is_first,
          (
            place_of_met arcs links all S arr long along is.met,
            place_to arcs links all S arr long along p is.met is.is_met,
            ray_starts arcs links all S arr long along g f by p ray is ∙ sym (ray_agrees ray c) ∙ sym (ray_ends arcs links all S arr long along g f by p ray is),
          ),
        )

        table : (p : GridPoint) → plane.IsMinimum S p → (k : Segment) → Contains S k → k.start ≡ p → (j : Segment) × Contains S j × (j.start ≡ p) × IsFirst S j × ((a : Place) × IsPlaceOf S (at p) a × (f (right_side j) ≡ f a))
        table p least k c e =
            let (l, listed, is_l) = listing arcs links all S arr long along k c in
            let start : l.link.start ≡ p = ap (λ (x : Segment). x.start) is_l ∙ e in
            let (ray, there, is) = joins.are_rays.all l listed (minimum_from arcs links all S arr long along l.link.start (subst (plane.IsMinimum S) (sym start) least)) in
            row p ray there (subst (λ (q : GridPoint). IsRay links q ray) start is)

  -- what is one where places meet is one on the joins, by numbers
  joins_agree : (g : ℕ → Bool) (f : Place → Bool) → IsByNumber arcs g f → AgreesWherePlacesMeet S f → IsOneOnJoins g
  joins_agree g f by agrees = All-append (λ (p : ℕ × ℕ). g p.0 ≡ g p.1) (sectors starts outs) joins.rays (all_sectors (λ (p : ℕ × ℕ). g p.0 ≡ g p.1) starts outs (length outs) round) (λ k d l. down (joins.are_rays.each k d l).0 (get_or joins.rays k d) (joins.are_rays.each k d l).1)
    where
      round : (i : ℕ) → i < length outs → g (place_of (arc_at outs i)) ≡ g (place_right_of (arc_at outs (next_in_row starts i)))
      round i l =
          let (m, next) = next_there S arr arcs long along free starts outs joins.turned i l in
          let a = arc_at outs i in
          let b = arc_at outs (next_in_row starts i) in
          let la = is_there arcs starts outs joins.turned i l in
          let lb = is_there arcs starts outs joins.turned (next_in_row starts i) m in
          sym (first_sides S arr arcs long along links all g f by a la).0
          ∙ agrees.sector (dart_of S arr arcs long along a) (dart_of S arr arcs long along b) (dart_on S arr arcs long along a la) (dart_on S arr arcs long along b lb) next
          ∙ (first_sides S arr arcs long along links all g f by b lb).1

      down : (p : GridPoint) (ray : ℕ × ℕ) → IsRay links p ray → g ray.0 ≡ g ray.1
      down p ray is =
          let l = is.first.link in
          let leaves : p ≡ l.start = sym is.is_first.leaves in
          sym (ray_ends arcs links all S arr long along g f by p ray is)
          ∙ sym (agrees.ray l (listed_in arcs links all S arr long along is.first is.is_first.there) (subst (plane.IsMinimum S) leaves (minimum_to arcs links all S arr long along p is.vertex)) (first_to arcs links all S arr long along p is.first is.is_first)
          (place_of_met arcs links all S arr long along is.met) (subst (λ (q : GridPoint). IsPlaceOf S (at q) (place_of_met arcs links all S arr long along is.met)) leaves (place_to arcs links all S arr long along p is.met is.is_met)))
          ∙ ray_starts arcs links all S arr long along g f by p ray is

  -- m is the number of the place a
  abbrev Numbered : Place → ℕ → Type 0
  Numbered a m = ((a ≡ outside) × (m ≡ 0)) ⊎ ((n : ℕ) × (j : ℕ) × (s : Segment) × IsStep arcs n j s ×
      (((a ≡ left_of (dart_of_step s)) × (m ≡ place_of (forward n))) ⊎ ((a ≡ left_of (opposite (dart_of_step s))) × (m ≡ place_of (backward n)))))

  numbered : (counted : length places ≡ 2 * length arcs + 1) → (a : Place) → IsBeside S a → (m : ℕ) × (m < length places) × Numbered a m
  numbered counted outside b = (0, omega arith, inl (refl, refl))
  numbered counted (left_of d) b =
      let (n, j, s, h, e) = step_of_link arcs S arr long along d.link b in
      let below = h.arc in
      elim (one_of_two s d (sym e)) [
        | inl i ↦ (place_of (forward n), omega arith, inr (n, j, s, h, inl (ap left_of i, refl)))
        | inr i ↦ (place_of (backward n), omega arith, inr (n, j, s, h, inr (ap left_of i, refl)))
      ]

  at_number : {A : Type 0} (g : ℕ → A) (f : Place → A) → IsByNumber arcs g f → (a : Place) (m : ℕ) → Numbered a m → f a ≡ g m
  at_number g f by a m (inl h) = ap f h.0 ∙ by.outside_all ∙ sym (ap g h.1)
  at_number g f by a m (inr (n, j, s, h, inl i)) = ap f i.0 ∙ left_at arcs links all g f by n j s h ∙ sym (ap g i.1)
  at_number g f by a m (inr (n, j, s, h, inr i)) = ap f i.0 ∙ right_at arcs links all g f by n j s h ∙ sym (ap g i.1)

  module _ (counted : length places ≡ 2 * length arcs + 1) (label : Place → ℕ) (by : IsByNumber arcs (λ n. get_or places n 0) label) where
    pub labels_agree : AgreesWherePlacesMeet S label
    labels_agree = one_where_places_meet (λ n. get_or places n 0) label by joins.joined.agree

    pub labels_joined : (a b : Place) → IsBeside S a → IsBeside S b → label a ≡ label b → (f : Place → Bool) → AgreesWherePlacesMeet S f → f a ≡ f b
    labels_joined a b ba bb e f agrees =
        let (m, lm, at_a) = numbered counted a ba in
        let (n, ln, at_b) = numbered counted b bb in
        let g : ℕ → Bool = λ k. f (place_numbered arcs k) in
        let shown : IsByNumber arcs g f = is_by_number S arr arcs long along free f agrees.sector in
        at_number g f shown a m at_a
        ∙ joins.joined.joined g (joins_agree g f shown agrees) m n lm ln (sym (at_number (λ n. get_or places n 0) label by a m at_a) ∙ e ∙ at_number (λ n. get_or places n 0) label by b n at_b)
        ∙ sym (at_number g f shown b n at_b)

pub faces_are_classes : FacesAreClasses
faces_are_classes S arr arcs long along free faces built label by = record {
  agrees = record {
    sector = λ d e cd ce next. known (label (left_of d) ≡ label (left_of (opposite e))) (ℕ_set (label (left_of d)) (label (left_of (opposite e)))) (λ all joins. (labels_agree S arr arcs long along free faces.links all faces.places joins built.places_counted label by).sector d e cd ce next);
    ray = λ l c least first a is. known (label (right_side l) ≡ label a) (ℕ_set (label (right_side l)) (label a)) (λ all joins. (labels_agree S arr arcs long along free faces.links all faces.places joins built.places_counted label by).ray l c least first a is);
  };
  joined = λ a b ba bb e f agrees. known (f a ≡ f b) (Bool-set (f a) (f b)) (λ all joins. labels_joined S arr arcs long along free faces.links all faces.places joins built.places_counted label by a b ba bb e f agrees);
}
  where
    known : (P : Type 0) → IsProp P → (AreLinksOf arcs faces.links → HasJoins arcs faces.links faces.places → P) → P
    known P prop h = ∥∥₁_elim built.all_links prop (λ all. ∥∥₁_elim built.joined prop (λ joins. h all joins))
