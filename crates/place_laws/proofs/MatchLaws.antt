-- Matches by the regions of the sets.
use Rattle.std.proofs.Common.{◌≡◌, ◌↔◌, refl, sym, ap, subst, ◌∙◌, arith, ℕ, zero, suc, ◌+◌, ◌<◌, Bool, true, false, cond, ◌||◌, nat_eq, List, [], ◌∷◌, All, Contains, length, get_or, map}
use Rattle.std.specs.Cmp.{both_ways}
use Rattle.std.specs.List.{AllZip, list_any, range_with_len}
use Rattle.std.proofs.lemmas.List.{ext_get_or, get_or-map, get_or_default, length-map}
use Rattle.std.proofs.lemmas.List.Elements.{All-contains, All-head, All-tail}
use Rattle.std.proofs.lemmas.List.Folds.{Any-from_list_any, list_any_at}
use Rattle.std.proofs.lemmas.List.FromFn.{get_or-map-range_with_len, length-map-range_with_len}
use Rattle.std.proofs.lemmas.Slice.Zip.{AllZip-long}
use Rattle.lists.specs.Lists.{has, numbers_from}
use Rattle.bucket_grid.proofs.Numbers.{Contains-numbers_where}
use Rattle.bucket_grid.proofs.RisingNumbers.{numbers_where_pass}
use Rattle.plane_model.specs.Points.{GridPoint, RationalPoint, Path}
use Rattle.plane_model.specs.Drawing.{Drawing, vertices_of}
use Rattle.plane_model.specs.Sides.{IsInside}
use Rattle.plane_model.specs.Snapped.{links_of, snapped}
use Rattle.plane_faces.specs.Places.{Place}
use Rattle.face_walk.specs.Places.{FaceTable}
use Rattle.face_sets.specs.Owners.{owners_of}
use Rattle.face_sets.proofs.BoundaryLemmas.{Contains_has, has_Contains}
use Rattle.face_sets.proofs.OwnerLemmas.{numbers-map}
use Rattle.line_ops.specs.Points.{IsInsideAt}
use Rattle.region_model.specs.Region.{Region, any_of, Has}
use Rattle.region_model.specs.Answers.{Answers}
use Rattle.region_model.specs.PlaceCommands.{around_points, has_inside, points_inside}
use Rattle.spatial_join.specs.Matches.{AreSetsAt, TellsInside, says_some}
use Rattle.line_laws.specs.Regions.{AreFacesOf}
use Rattle.line_laws.proofs.ByRegions.{points_cut_by_regions}
use Rattle.line_laws.proofs.Insides.{insides_are_told}
use Rattle.place_laws.specs.Matched.{IsSetOfRegion, IsToldInside, MatchesAreInside, PointsAreMatched, SetsAreMatched}

-- ---- lists

any_mapped : {X : Type 0} (test : X → Bool) (xs : List X) → list_any test xs ≡ list_any (λ (b : Bool). b) (map test xs)
any_mapped test [] = refl
any_mapped test (x ∷ xs) = ap (λ (b : Bool). test x || b) (any_mapped test xs)

-- the numbers of elements side by side that pass alike
numbers_zip : {X Y : Type 0} (k : ℕ) (t : X → Bool) (u : Y → Bool) (xs : List X) (ys : List Y) → AllZip (λ x y. t x ≡ u y) xs ys → numbers_from k t xs ≡ numbers_from k u ys
numbers_zip k t u [] [] h = refl
numbers_zip k t u [] (y ∷ ys) h = absurd h
numbers_zip k t u (x ∷ xs) [] h = absurd h
numbers_zip k t u (x ∷ xs) (y ∷ ys) h = λ i. cond (h.0 i) (k ∷ numbers_zip (k + 1) t u xs ys h.1 i) (numbers_zip (k + 1) t u xs ys h.1 i)

zip_weaker : {X Y : Type 0} (R Q : X → Y → Type 0) (xs : List X) (ys : List Y) → ((x : X) (y : Y) → R x y → Q x y) → AllZip R xs ys → AllZip Q xs ys
zip_weaker R Q [] [] f h = tt
zip_weaker R Q [] (y ∷ ys) f h = absurd h
zip_weaker R Q (x ∷ xs) [] f h = absurd h
zip_weaker R Q (x ∷ xs) (y ∷ ys) f h = (f x y h.0, zip_weaker R Q xs ys f h.1)

zip_mapped : {X Y Z : Type 0} (R : X → Z → Type 0) (g : Y → Z) (xs : List X) (ys : List Y) → AllZip (λ x y. R x (g y)) xs ys → AllZip R xs (map g ys)
zip_mapped R g [] [] h = tt
zip_mapped R g [] (y ∷ ys) h = absurd h
zip_mapped R g (x ∷ xs) [] h = absurd h
zip_mapped R g (x ∷ xs) (y ∷ ys) h = (h.0, zip_mapped R g xs ys h.1)

zip_at : {X Y : Type 0} (R : X → Y → Type 0) (xs : List X) (ys : List Y) (n : ℕ) (c : X) (e : Y) → AllZip R xs ys → n < length xs → R (get_or xs n c) (get_or ys n e)
zip_at R [] ys n c e h l = absurd (omega arith)
zip_at R (x ∷ xs) [] n c e h l = absurd h
zip_at R (x ∷ xs) (y ∷ ys) zero c e h l = h.0
zip_at R (x ∷ xs) (y ∷ ys) (suc n) c e h l = zip_at R xs ys n c e h.1 (omega arith)

-- each list that is matched is what is made of it
zip_made : {X Y : Type 0} (R : X → Y → Type 0) (f : X → Y) (xs : List X) (ys : List Y) (P : X → Type 0) → All P xs → ((x : X) (y : Y) → P x → R x y → y ≡ f x) → AllZip R xs ys → ys ≡ map f xs
zip_made R f [] [] P all one h = refl
zip_made R f [] (y ∷ ys) P all one h = absurd h
zip_made R f (x ∷ xs) [] P all one h = absurd h
zip_made R f (x ∷ xs) (y ∷ ys) P all one h = λ i. one x y (All-head P x xs all) h.0 i ∷ zip_made R f xs ys P (All-tail P x xs all) one h.1 i

-- ---- one list of points

module _ (d : Drawing) (arcs : List Path) (faces : FaceTable) (label : Place → ℕ) (on : AreFacesOf d arcs faces label) where
  module _ (points : List GridPoint) (vertices : All (Contains (vertices_of (snapped d))) points) (insides : List (List ℕ → Bool)) (tell : AllZip (TellsInside arcs faces) points insides) where
    -- what is told of the points of a set is told of its region
    says_alike : (A : Answers) (set : List ℕ) (r : Region) → IsToldInside d arcs label A set r → says_some insides set ≡ has_inside A r points
    says_alike A set r told =
        let answers : List Bool = map (λ (inside : List ℕ → Bool). inside set) insides in
        let each : AllZip (λ p inside. IsInsideAt arcs faces p set inside) points answers = zip_mapped (λ p inside. IsInsideAt arcs faces p set inside) (λ (inside : List ℕ → Bool). inside set) points insides
        (zip_weaker (TellsInside arcs faces) (λ p (inside : List ℕ → Bool). IsInsideAt arcs faces p set (inside set)) points insides (λ p inside h. h set) tell) in
        any_mapped (λ (inside : List ℕ → Bool). inside set) insides
        ∙ ap (list_any (λ (b : Bool). b)) (points_cut_by_regions d arcs faces label on A set r told.follows told.inside points vertices answers each)
        ∙ sym (any_mapped (A.inside r) points)

    says_inside : (set : List ℕ) (r : Region) → IsSetOfRegion d arcs label set r → (says_some insides set ≡ true) ↔ ((p : GridPoint) × Contains points p × IsInside (links_of (snapped d)) (Has (snapped d) arcs r) p)
    says_inside set r follows =
        let (inside, right) = insides_are_told d arcs faces label on set r follows in
        let A : Answers = record { left = λ s l. false; right = λ s l. false; inside = λ s. inside; parts = λ s. 0; gaps = λ ss. 0 } in
        let same : says_some insides set ≡ list_any inside points = says_alike A set r (record { follows = follows; inside = right }) in (
          λ e.
              let (i, p, l, at, passes) = Any-from_list_any inside points (sym same ∙ e) in
              let vertex : Contains (vertices_of (snapped d)) p = All-contains (Contains (vertices_of (snapped d))) points p vertices (i, l, at) in
              (p, (i, l, at), (right p vertex).0 passes),
          λ w.
              let (p, (i, l, at), seen) = w in
              let vertex : Contains (vertices_of (snapped d)) p = All-contains (Contains (vertices_of (snapped d))) points p vertices (i, l, at) in
              same ∙ list_any_at inside points i p l (ap inside at ∙ (right p vertex).1 seen),
        )

-- a region that has a point is there
number_there : (d : Drawing) (arcs : List Path) (z : RationalPoint) (rs : List Region) (n : ℕ) → Has d arcs (get_or rs n (any_of [])) z → n < length rs
number_there d arcs z [] n h = absurd h
number_there d arcs z (r ∷ rs) zero h = omega arith
number_there d arcs z (r ∷ rs) (suc n) h = let l = number_there d arcs z rs n h in omega arith

pub matches_are_inside : MatchesAreInside
matches_are_inside d arcs faces label on sets regions follow points vertices matched is n = (to, from)
  where
    many : length sets ≡ length regions
    many = sym (AllZip-long (IsSetOfRegion d arcs label) sets regions follow)

    by_set : n < length sets → (says_some is.insides (get_or sets n []) ≡ true) ↔ ((p : GridPoint) × Contains points p × IsInside (links_of (snapped d)) (Has (snapped d) arcs (get_or regions n (any_of []))) p)
    by_set l = says_inside d arcs faces label on points vertices is.insides is.tell (get_or sets n []) (get_or regions n (any_of [])) (zip_at (IsSetOfRegion d arcs label) sets regions n [] (any_of []) follow l)

    to : Contains matched n → (p : GridPoint) × Contains points p × IsInside (links_of (snapped d)) (Has (snapped d) arcs (get_or regions n (any_of []))) p
    to c =
        let w = numbers_where_pass (says_some is.insides) sets n (subst (λ (ns : List ℕ). Contains ns n) is.listed c) in
        let number = w.number in
        let same : w.place ≡ n = omega arith in
        let within = w.within in
        let l : n < length sets = omega arith in
        let at : w.item ≡ get_or sets n [] = sym w.is ∙ get_or_default sets w.place w.item [] within ∙ ap (λ (m : ℕ). get_or sets m []) same in
        (by_set l).0 (subst (λ (set : List ℕ). says_some is.insides set ≡ true) at w.passes)

    from : ((p : GridPoint) × Contains points p × IsInside (links_of (snapped d)) (Has (snapped d) arcs (get_or regions n (any_of []))) p) → Contains matched n
    from w =
        let (p, c, seen) = w in
        let (z, sees, held) = seen in
        let there = number_there (snapped d) arcs z regions n held in
        let same = many in
        let l : n < length sets = omega arith in
        subst (λ (ns : List ℕ). Contains ns n) (sym is.listed) (Contains-numbers_where (says_some is.insides) sets n [] l ((by_set l).1 w))

-- ---- lists of points

pub points_are_matched : PointsAreMatched
points_are_matched d arcs faces label on A sets regions told points vertices matches are =
    zip_made (AreSetsAt arcs faces sets) (around_points A regions) points matches (All (Contains (vertices_of (snapped d)))) vertices one are
  where
    one : (list : List GridPoint) (matched : List ℕ) → All (Contains (vertices_of (snapped d))) list → AreSetsAt arcs faces sets list matched → matched ≡ around_points A regions list
    one list matched all is =
        is.listed ∙ numbers_zip 0 (says_some is.insides) (λ (r : Region). has_inside A r list) sets regions
        (zip_weaker (IsToldInside d arcs label A) (λ set r. says_some is.insides set ≡ has_inside A r list) sets regions (λ set r h. says_alike d arcs faces label on list all is.insides is.tell A set r h) told)

-- ---- sets

pub sets_are_matched : SetsAreMatched
sets_are_matched d arcs faces label on A sets regions told points vertices matches are =
    are.listed ∙ ap (λ (lists : List (List ℕ)). map (owners_of lists) (range_with_len 0 (length sets))) (points_are_matched d arcs faces label on A sets regions told points vertices are.by_points are.matched)
    ∙ ext_get_or [] (map (owners_of around) (range_with_len 0 (length sets))) (map (points_inside A points) regions) (length-map-range_with_len (owners_of around) 0 (length sets) ∙ many ∙ sym (length-map regions (points_inside A points))) one
  where
    around : List (List ℕ)
    around = map (around_points A regions) points

    many : length sets ≡ length regions
    many = sym (AllZip-long (IsToldInside d arcs label A) sets regions told)

    -- a region is among those around some points exactly if some of them are inside it
    among : (n : ℕ) → n < length regions → (list : List GridPoint) → has nat_eq (around_points A regions list) n ≡ has_inside A (get_or regions n (any_of [])) list
    among n l list = both_ways (has nat_eq (around_points A regions list) n) (has_inside A (get_or regions n (any_of [])) list)
        (λ e.
        let w = numbers_where_pass (λ (r : Region). has_inside A r list) regions n (has_Contains (around_points A regions list) n e) in
        let number = w.number in
        let same : w.place ≡ n = omega arith in
        let at : w.item ≡ get_or regions n (any_of []) = sym w.is ∙ get_or_default regions w.place w.item (any_of []) w.within ∙ ap (λ (m : ℕ). get_or regions m (any_of [])) same in
        subst (λ (r : Region). has_inside A r list ≡ true) at w.passes)
        (λ e. Contains_has (around_points A regions list) n (Contains-numbers_where (λ (r : Region). has_inside A r list) regions n (any_of []) l e))

    one : (n : ℕ) → n < length (map (owners_of around) (range_with_len 0 (length sets))) → get_or (map (owners_of around) (range_with_len 0 (length sets))) n [] ≡ get_or (map (points_inside A points) regions) n []
    one n l =
        let size = length-map-range_with_len (owners_of around) 0 (length sets) in
        let same = many in
        let below : n < length regions = omega arith in
        get_or-map-range_with_len (owners_of around) 0 (length sets) n n [] (omega arith) (omega arith)
        ∙ numbers-map 0 (λ (set : List ℕ). has nat_eq set n) (around_points A regions) points
        ∙ ap (λ (test : List GridPoint → Bool). numbers_from 0 test points) (λ i list. among n below list i)
        ∙ sym (get_or-map (points_inside A points) regions n (any_of []) [] below)
