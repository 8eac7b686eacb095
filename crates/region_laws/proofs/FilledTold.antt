-- Sets that are cleaned and filled follow what clean with gaps makes of their regions.
use Rattle.std.proofs.Common.{◌≡◌, ◌⊎◌, inl, inr, refl, sym, ap, subst, ◌∙◌, arith, ℕ, ◌+◌, ◌*◌, ◌<◌, Bool, true, false, ◌&&◌, cond, not, ℤ, pos, List, [], ◌∷◌, All, Contains, Option, Some, filter, length, get_or, take, nat_eq, nat_lt}
use Rattle.std.specs.Prelude.{◌↔◌, int_le}
use Rattle.std.specs.List.{range_with_len}
use Rattle.std.specs.List.Sorted.{IsStrictlyIncreasing}
use Rattle.std.proofs.lemmas.Bool.{eq-eqb, eqb-true, false_from_ne_true}
use Rattle.std.proofs.lemmas.List.{get_or_default}
use Rattle.std.proofs.lemmas.List.Elements.{All-contains, All-filter, All-get_or, Contains-get_or}
use Rattle.std.proofs.lemmas.Option.{same_Some}
use Rattle.lists.specs.Lists.{has, joined_up, same_list, sort_stable}
use Rattle.lists.proofs.Ascending.{Contains-ascending, first_of_ascending, IsAscending}
use Rattle.lists.proofs.Members.{Contains-cases, Contains-filter, Contains-filter_map, Contains-head, Contains-joined_up, filter-Contains, filter_map-Contains}
use Rattle.plane_model.specs.Points.{Segment, Path, reversed}
use Rattle.plane_model.specs.Arcs.{SignedArc}
use Rattle.plane_model.specs.Arrangement.{IsBefore}
use Rattle.plane_model.specs.Boundary.{boundary_step}
use Rattle.plane_model.specs.Drawing.{Drawing}
use Rattle.plane_model.specs.Snapped.{links_of, snapped}
use Rattle.plane_model.proofs.PointOrder.{before_to}
use Rattle.plane_faces.specs.Places.{Place, left_side, right_side}
use Rattle.plane_faces.proofs.Order.{before_not_back}
use Rattle.grid_base.specs.declared.kinds.OverlapRule.{OverlapRule}
use Rattle.grid_base.specs.declared.kinds.OverlapRule.TheVariants.{MinId, MaxId, MinArea, MaxArea}
use Rattle.face_walk.specs.Places.{FaceTable, face_left_of}
use Rattle.face_sets.specs.Boundary.{face_right_of, other_way}
use Rattle.face_sets.specs.Gaps.{AreGaps, has_outer, outside_of}
use Rattle.face_sets.specs.Parts.{IsPieceOf}
use Rattle.face_sets.specs.Sets.{IsSetOf}
use Rattle.face_sets.proofs.BoundaryLemmas.{back_again, same_or_other}
use Rattle.face_sets.proofs.GapLemmas.{gaps_inner, in_range, of_range}
use Rattle.face_sets.proofs.SetLemmas.{nat_order}
use Rattle.face_laws.proofs.HolderLemmas.{there_any, any_there}
use Rattle.part_laws.proofs.LinkLemmas.{arc_of_link, link_of_arc}
use Rattle.region_ops.specs.Cleaned.{IsCleaned, area_of, is_lost, ranks_before}
use Rattle.region_ops.specs.Dissolved.{set_at}
use Rattle.region_ops.specs.Filled.{Borders, GoesTo, IsGiven, all_faces, is_filled}
use Rattle.region_ops.proofs.Ranks.{not_before_itself, not_both_before}
use Rattle.region_model.specs.Region.{Region, Has, gap_of, regions_of}
use Rattle.region_model.specs.Answers as answers
use Rattle.region_model.specs.Answers.{Answers, AreRight, boundary}
use Rattle.region_model.specs.LineCommands.{on_right}
use Rattle.region_model.specs.PolygonCommands as model
use Rattle.region_model.specs.PolygonCommands.{all_regions, borders, filled_gaps, goes_to}
use Rattle.region_laws.specs.Regions.{Follows, FollowEach}
use Rattle.region_laws.specs.Followed.{IsWalked}
use Rattle.region_laws.specs.Answered.{plane_with}
use Rattle.region_laws.specs.Gaps.{FilledAsTold, FollowGaps}
use Rattle.region_laws.proofs.Answered.{areas_are_told, cleaned_as_told, one_bound}
use Rattle.region_laws.proofs.AscendingLists.{filter_ascends}
use Rattle.region_laws.proofs.Gaps.{gaps_are_followed}
use Rattle.region_laws.proofs.Ranking.{Contains-sort, ranked, sort-Contains}
use Rattle.region_laws.proofs.Sets.{at_some, out_kept, some_at}
use Rattle.region_laws.proofs.Sides.{left_belongs, right_belongs}
use Rattle.region_laws.proofs.Walked.{labels_faces, links_arranged, links_distinct}

-- ---- lists of one number

one_same : (n : ℕ) (xs : List ℕ) → same_list nat_eq (n ∷ []) xs ≡ true → xs ≡ n ∷ []
one_same n [] e = absurd (let f : false ≡ true = e in cc)
one_same n (x ∷ []) e = ap (λ (m : ℕ). m ∷ []) (sym (eqb-true n x (front (nat_eq n x) e)))
  where
    front : (b : Bool) → (b && true) ≡ true → b ≡ true
    front true f = refl
    front false f = f
one_same n (x ∷ y ∷ ys) e = absurd (never (nat_eq n x) e)
  where
    never : (b : Bool) → (b && false) ≡ true → ⊥
    never true f = let g : false ≡ true = f in absurd (cc)
    never false f = let g : false ≡ true = f in absurd (cc)

same_one : (n : ℕ) → same_list nat_eq (n ∷ []) (n ∷ []) ≡ true
same_one n = λ i. eq-eqb n n refl i && true

begins_with : (n : ℕ) (xs : List ℕ) → take 1 xs ≡ n ∷ [] → (rest : List ℕ) × (xs ≡ n ∷ rest)
begins_with n [] e = absurd (let f : 0 ≡ 1 = ap (λ (ys : List ℕ). length ys) e in omega arith)
begins_with n (x ∷ xs) e = (xs, ap (λ (m : ℕ). m ∷ xs) (ap (λ (ys : List ℕ). get_or ys 0 0) e))

-- both definitions of rank say the same
ranks_too : (rule : OverlapRule) (area : ℕ → ℤ) → ◌≡◌ {A = ℕ → ℕ → Bool} (λ m n. ranks_before rule m (area m) n (area n)) (λ m n. model.ranks_before rule m (area m) n (area n))
ranks_too MinId area = refl
ranks_too MaxId area = refl
ranks_too MinArea area = refl
ranks_too MaxArea area = refl

module _ (d : Drawing) (arcs : List Path) (faces : FaceTable) (label : Place → ℕ) (walked : IsWalked d arcs faces label) (A : Answers) (right : AreRight (plane_with d arcs) A) where
  abbrev S : List Segment
  S = links_of (snapped d)

  abbrev P : answers.Plane
  P = plane_with d arcs

  -- ---- sides of links

  left_told : (q : Region) (set : List ℕ) → Follows (snapped d) arcs label set q → (l : Segment) → Contains (links_of (snapped d)) l → (A.left q l ≡ true) ↔ Contains set (label (left_side l))
  left_told q set follows l on =
      let told = (right.sides q).left_side l on in
      let belongs = left_belongs S (links_arranged d) (links_distinct d) label (labels_faces d arcs faces label walked) set (Has (snapped d) arcs q) follows l on in
      (λ e. belongs.0 (told.0 e), λ c. told.1 (belongs.1 c))

  right_told : (q : Region) (set : List ℕ) → Follows (snapped d) arcs label set q → (l : Segment) → Contains (links_of (snapped d)) l → (A.right q l ≡ true) ↔ Contains set (label (right_side l))
  right_told q set follows l on =
      let told = (right.sides q).right_side l on in
      let belongs = right_belongs S (links_arranged d) (links_distinct d) label (labels_faces d arcs faces label walked) set (Has (snapped d) arcs q) follows l on in
      (λ e. belongs.0 (told.0 e), λ c. told.1 (belongs.1 c))

  in_order : (l : Segment) → Contains (links_of (snapped d)) l → IsBefore l.start l.stop
  in_order l on = All-contains (λ (k : Segment). IsBefore k.start k.stop) S l (links_arranged d).ordered on

  right_along : (q : Region) (l : Segment) → Contains (links_of (snapped d)) l → on_right A q l ≡ A.right q l
  right_along q l on = λ i. cond (before_not_back l.start l.stop (in_order l on) i) (A.left q (reversed l)) (A.right q l)

  right_back : (q : Region) (l : Segment) → Contains (links_of (snapped d)) l → on_right A q (reversed l) ≡ A.left q l
  right_back q l on = λ i. cond (before_to l.start l.stop (in_order l on) i) (A.left q l) (A.right q (reversed l))

  -- ---- the other side of a gap's boundary

  module _ (hole r : Region) (g c : List ℕ) (in_hole : Follows (snapped d) arcs label g hole) (in_r : Follows (snapped d) arcs label c r) (apart : (k : ℕ) → Contains g k → Contains c k → ⊥) where
    abbrev step : Segment → Option Segment
    step l = boundary_step (A.left hole l) (A.right hole l) l

    to_border : borders (plane_with d arcs) A hole r ≡ true → Borders faces g c
    to_border e =
        let (s, there, passes) = any_there (on_right A r) (boundary P A hole) e in
        let (l, on, is) = filter_map-Contains step S s there in
        let size = walked.built.places_counted in
        let (a, goes) = arc_of_link S (links_arranged d) arcs walked.table.long walked.table.links faces label walked.labelled l on in
        let below = goes.arc in
        go s l on passes a goes.left goes.right (omega (arith, size, below)) (A.left hole l) (A.right hole l) refl refl is
      where
        go : (s l : Segment) → Contains (links_of (snapped d)) l → on_right A r s ≡ true → (a : SignedArc) → label (left_side l) ≡ face_left_of faces.places a → label (right_side l) ≡ face_right_of faces.places a → 2 * a.arc + 2 < length faces.places →
            (x y : Bool) → A.left hole l ≡ x → A.right hole l ≡ y → boundary_step x y l ≡ Some s → Borders faces g c
        go s l on passes a left_is right_is there true true e f is = absurd (cc)
        go s l on passes a left_is right_is there true false e f is =
            let same : l ≡ s = same_Some l s is in
            record {
              arc = a;
              there = there;
              left = subst (Contains g) left_is ((left_told hole g in_hole l on).0 e);
              right = subst (Contains c) right_is ((right_told r c in_r l on).0 (sym (right_along r l on) ∙ ap (on_right A r) same ∙ passes));
            }
        go s l on passes a left_is right_is there false true e f is =
            let same : reversed l ≡ s = same_Some (reversed l) s is in
            record {
              arc = other_way a;
              there = there;
              left = subst (Contains g) right_is ((right_told hole g in_hole l on).0 f);
              right = subst (Contains c) (left_is ∙ sym (ap (face_left_of faces.places) (back_again a))) ((left_told r c in_r l on).0 (sym (right_back r l on) ∙ ap (on_right A r) same ∙ passes));
            }
        go s l on passes a left_is right_is there false false e f is = absurd (cc)

    from_border : Borders faces g c → borders (plane_with d arcs) A hole r ≡ true
    from_border b =
        let size = walked.built.places_counted in
        let within = b.there in
        let (l, on, a, same, goes) = link_of_arc S (links_arranged d) arcs walked.table.long walked.table.links faces label walked.labelled b.arc.arc (omega (arith, size, within)) in
        elim (same_or_other b.arc a (sym same)) [
          | inl e ↦ (
              let in_g : Contains g (label (left_side l)) = subst (Contains g) (sym (goes.left ∙ sym (ap (face_left_of faces.places) e))) b.left in
              let in_c : Contains c (label (right_side l)) = subst (Contains c) (sym (goes.right ∙ sym (ap (face_right_of faces.places) e))) b.right in
              let yes_left : A.left hole l ≡ true = (left_told hole g in_hole l on).1 in_g in
              let no_right : A.right hole l ≡ false = false_from_ne_true (A.right hole l) (λ f. apart (label (right_side l)) ((right_told hole g in_hole l on).0 f) in_c) in
              there_any (on_right A r) (boundary P A hole) l (Contains-filter_map step S l l on (λ i. boundary_step (yes_left i) (no_right i) l)) (right_along r l on ∙ (right_told r c in_r l on).1 in_c))
          | inr e ↦ (
              let in_g : Contains g (label (right_side l)) = subst (Contains g) (sym (goes.right ∙ sym (ap (face_left_of faces.places) e))) b.left in
              let in_c : Contains c (label (left_side l)) = subst (Contains c) (sym (goes.left ∙ sym (ap (face_right_of faces.places) e ∙ ap (face_left_of faces.places) (back_again a)))) b.right in
              let yes_right : A.right hole l ≡ true = (right_told hole g in_hole l on).1 in_g in
              let no_left : A.left hole l ≡ false = false_from_ne_true (A.left hole l) (λ f. apart (label (left_side l)) ((left_told hole g in_hole l on).0 f) in_c) in
              there_any (on_right A r) (boundary P A hole) (reversed l) (Contains-filter_map step S l (reversed l) on (λ i. boundary_step (no_left i) (yes_right i) l)) (right_back r l on ∙ (left_told r c in_r l on).1 in_c))
        ]

  -- ---- which set a gap goes to

  module _ (sets : List (List ℕ)) (rises : All IsStrictlyIncreasing sets) (inner : All (IsSetOf faces) sets) (region : ℕ → Region) (each : FollowEach (snapped d) arcs label sets region) (rule : OverlapRule)
      (left : List (List ℕ)) (is : IsCleaned rule faces.areas sets left) (gaps : List (List ℕ)) (are : AreGaps faces (all_faces sets) gaps) where
    abbrev many : ℕ
    many = length sets

    abbrev hole : ℕ → Region
    hole j = gap_of (all_regions region many) j

    abbrev remains : ℕ → Region
    remains n = model.cleaned P A rule region many n

    follow_gaps : FollowGaps (snapped d) arcs label gaps (all_regions region (length sets))
    follow_gaps = gaps_are_followed d arcs faces label walked sets inner region each gaps are

    follow_left : FollowEach (snapped d) arcs label left (model.cleaned (plane_with d arcs) A rule region (length sets))
    follow_left = cleaned_as_told d arcs faces label walked sets rises inner region each A (λ n l. right.sides (region n)) rule left is

    abbrev area_at : ℕ → ℤ
    area_at n = answers.area_of P A (region n)

    set_area : (n : ℕ) → n < length sets → area_of faces.areas (set_at sets n) ≡ answers.area_of (plane_with d arcs) A (region n)
    set_area n l = areas_are_told d arcs faces label walked (set_at sets n) (All-get_or IsStrictlyIncreasing sets n [] l rises) (All-get_or (IsSetOf faces) sets n [] l inner) (region n) (each n l) A (right.sides (region n))

    gap_area : (j : ℕ) → j < length gaps → area_of faces.areas (get_or gaps j []) ≡ answers.area_of (plane_with d arcs) A (gap_of (all_regions region (length sets)) j)
    gap_area j l =
        areas_are_told d arcs faces label walked (get_or gaps j [])
        (All-get_or IsStrictlyIncreasing gaps j [] l (subst (All IsStrictlyIncreasing) (sym are.shut_in) (All-filter _ IsStrictlyIncreasing are.parts are.are_parts.ascending)))
        (All-get_or (IsSetOf faces) gaps j [] l (subst (All (IsSetOf faces)) (sym are.shut_in) (gaps_inner faces (all_faces sets) are.parts are.are_parts.divided.faces)))
        (hole j) (follow_gaps.each j l) A (right.sides (hole j))

    gap_count : A.gaps (regions_of (all_regions region (length sets))) ≡ length gaps
    gap_count = one_bound (A.gaps (regions_of (all_regions region many))) (length gaps)
        (λ j l. let (z, off, held) = (right.gaps (regions_of (all_regions region many)) j).0 l in follow_gaps.only j z off held)
        (λ j l. (right.gaps (regions_of (all_regions region many)) j).1 (follow_gaps.some j l))

    gap_apart : (j m : ℕ) → j < length gaps → m < length sets → (k : ℕ) → Contains (get_or gaps j []) k → Contains (set_at left m) k → ⊥
    gap_apart j m l below k in_gap in_left =
        let test : List ℕ → Bool = λ (part : List ℕ). not (has_outer faces part) in
        let listed : Contains (filter test are.parts) (get_or gaps j []) = subst (λ (xs : List (List ℕ)). Contains xs (get_or gaps j [])) are.shut_in (Contains-get_or gaps j [] l) in
        let in_parts = (filter-Contains test are.parts (get_or gaps j []) listed).0 in
        let piece = All-contains (IsPieceOf (outside_of faces (all_faces sets))) are.parts (get_or gaps j []) are.are_parts.divided.faces in_parts in
        let in_out = All-contains (Contains (outside_of faces (all_faces sets))) (get_or gaps j []) k piece.faces in_gap in
        let passes = (filter-Contains (λ (i : ℕ). not (has nat_eq (all_faces sets) i)) (range_with_len 0 faces.count) k in_out).1 in
        let in_set = (filter-Contains (λ (i : ℕ). not (is_lost rule faces.areas sets m i)) (set_at sets m) k (subst (λ (xs : List ℕ). Contains xs k) (is.kept m below) in_left)).0 in
        out_kept (all_faces sets) k passes (Contains-ascending nat_lt nat_order (joined_up sets) k (Contains-joined_up sets (set_at sets m) k (Contains-get_or sets m [] below) in_set))

    -- ---- in order of rank

    abbrev first : ℕ → ℕ → Bool
    first m n = ranks_before rule m (area_at m) n (area_at n)

    abbrev sorted : List ℕ
    sorted = sort_stable first (range_with_len 0 (length sets))

    abbrev test : ℕ → ℕ → Bool
    test j n = borders P A (hole j) (remains n)

    abbrev in_line : ℕ → List ℕ
    in_line j = filter (test j) sorted

    goes_is : (j : ℕ) → goes_to (plane_with d arcs) A rule region (length sets) j ≡ take 1 (in_line j)
    goes_is j = sym (ap (λ (before : ℕ → ℕ → Bool). take 1 (filter (test j) (sort_stable before (range_with_len 0 (length sets))))) (ranks_too rule area_at))

    borders_told : (j : ℕ) → j < length gaps → (m : ℕ) → m < length sets → (borders (plane_with d arcs) A (gap_of (all_regions region (length sets)) j) (model.cleaned (plane_with d arcs) A rule region (length sets) m) ≡ true) ↔ Borders faces (get_or gaps j []) (set_at left m)
    borders_told j l m below =
        let there : m < length left = (let e = is.count in omega arith) in (
          to_border (hole j) (remains m) (get_or gaps j []) (set_at left m) (follow_gaps.each j l) (follow_left m there) (gap_apart j m l below),
          from_border (hole j) (remains m) (get_or gaps j []) (set_at left m) (follow_gaps.each j l) (follow_left m there) (gap_apart j m l below),
        )

    ranks_told : (m n : ℕ) → m < length sets → n < length sets → first m n ≡ ranks_before rule m (area_of faces.areas (set_at sets m)) n (area_of faces.areas (set_at sets n))
    ranks_told m n l k =
        let at_m = sym (set_area m l) in
        let at_n = sym (set_area n k) in
        λ i. ranks_before rule m (at_m i) n (at_n i)

    line_ascends : (j : ℕ) → IsAscending first (in_line j)
    line_ascends j = filter_ascends first (test j) sorted (ranked rule area_at 0 (length sets))

    sorted_below : (m : ℕ) → Contains sorted m → m < length sets
    sorted_below m c = of_range (length sets) m (sort-Contains rule area_at (range_with_len 0 (length sets)) m c)

    stands_in_line : (j : ℕ) → j < length gaps → (m : ℕ) → m < length sets → Borders faces (get_or gaps j []) (set_at left m) → Contains (in_line j) m
    stands_in_line j l m below b =
        Contains-filter (test j) sorted m (Contains-sort rule area_at (range_with_len 0 (length sets)) m (in_range (length sets) m below)) ((borders_told j l m below).1 b)

    told_goes : (j : ℕ) → j < length gaps → (n : ℕ) → same_list nat_eq (n ∷ []) (goes_to (plane_with d arcs) A rule region (length sets) j) ≡ true → GoesTo rule faces sets left (get_or gaps j []) n
    told_goes j l n h =
        let (rest, line_is) = begins_with n (in_line j) (sym (goes_is j) ∙ one_same n (goes_to P A rule region (length sets) j) h) in
        let stands : Contains (in_line j) n = subst (λ (xs : List ℕ). Contains xs n) (sym line_is) (Contains-head n rest) in
        let (in_sorted, passes) = filter-Contains (test j) sorted n stands in
        let below : n < length sets = sorted_below n in_sorted in
        let ascends : IsAscending first (n ∷ rest) = subst (IsAscending first) line_is (line_ascends j) in
        record {
          there = below;
          borders = (borders_told j l n below).0 passes;
          first = λ m m_below b.
              sym (ranks_told m n m_below below)
              ∙ elim (Contains-cases n rest m (subst (λ (xs : List ℕ). Contains xs m) line_is (stands_in_line j l m m_below b))) [
                | inl same ↦ subst (λ (w : ℕ). first w n ≡ false) same (not_before_itself rule n (area_at n))
                | inr later ↦ not_both_before rule n (area_at n) m (area_at m) (ascends.0 m later)
              ];
        }

    goes_told : (j : ℕ) → j < length gaps → (n : ℕ) → GoesTo rule faces sets left (get_or gaps j []) n → same_list nat_eq (n ∷ []) (goes_to (plane_with d arcs) A rule region (length sets) j) ≡ true
    goes_told j l n g =
        let (rest, line_is) = first_of_ascending first (in_line j) n (line_ascends j) (stands_in_line j l n g.there g.borders) (λ m c e.
        let (in_sorted, passes) = filter-Contains (test j) sorted m c in
        let below = sorted_below m in_sorted in
        let f : first m n ≡ false = ranks_told m n below g.there ∙ g.first m below ((borders_told j l m below).0 passes) in
        clash (first m n) e f) in
        ap (same_list nat_eq (n ∷ [])) (goes_is j ∙ ap (λ (xs : List ℕ). take 1 xs) line_is) ∙ same_one n
      where
        clash : (b : Bool) → b ≡ true → b ≡ false → ⊥
        clash b e f = let g : true ≡ false = sym e ∙ f in absurd (cc)

    -- ---- all together

    module _ (most : ℕ) (made : List (List ℕ)) (has_faces : (n k : ℕ) → n < length sets → Contains (set_at made n) k ↔ (Contains (set_at left n) k ⊎ IsGiven rule most faces sets left gaps n k)) where
      followed : (n : ℕ) → n < length sets → Follows (snapped d) arcs label (set_at made n) (model.cleaned_and_filled (plane_with d arcs) A rule most region (length sets) n)
      followed n below z off a here = (
        λ held. elim held [
          | inl kept ↦ (has_faces n (label a) below).1 (inl ((follow_left n there z off a here).0 kept))
          | inr some ↦
              (let (j, in_given, in_hole) = at_some (snapped d) arcs z hole given_gaps some in
              let (in_filled, goes) = filter-Contains goes_here (filled_gaps P A most (all_regions region (length sets))) j in_given in
              let (in_all, small) = filter-Contains is_small_gap (range_with_len 0 (A.gaps (regions_of (all_regions region (length sets))))) j in_filled in
              let l : j < length gaps = subst (λ (k : ℕ). j < k) gap_count (of_range (A.gaps (regions_of (all_regions region (length sets)))) j in_all) in
              (has_faces n (label a) below).1 (inr (record {
                gap = get_or gaps j [];
                listed = Contains-get_or gaps j [] l;
                small = ap (λ (x : ℤ). int_le x (pos most)) (gap_area j l) ∙ small;
                goes = told_goes j l n goes;
                has = (follow_gaps.each j l z off a here).0 in_hole;
              })))
        ],
        λ c. elim ((has_faces n (label a) below).0 c) [
          | inl old ↦ inl ((follow_left n there z off a here).1 old)
          | inr g ↦
              (let (j, l, at) = g.listed in
              let gap_is : get_or gaps j [] ≡ g.gap = get_or_default gaps j [] g.gap l ∙ at in
              let goes = goes_told j l n (subst (λ (xs : List ℕ). GoesTo rule faces sets left xs n) (sym gap_is) g.goes) in
              let small : int_le (answers.area_of P A (hole j)) (pos most) ≡ true =
              ap (λ (x : ℤ). int_le x (pos most)) (sym (gap_area j l)) ∙ subst (λ (xs : List ℕ). is_filled faces most xs ≡ true) (sym gap_is) g.small in
              let in_all = in_range (A.gaps (regions_of (all_regions region (length sets)))) j (subst (λ (k : ℕ). j < k) (sym gap_count) l) in
              inr (some_at (snapped d) arcs z hole given_gaps j
              (Contains-filter goes_here (filled_gaps P A most (all_regions region (length sets))) j (Contains-filter is_small_gap (range_with_len 0 (A.gaps (regions_of (all_regions region (length sets))))) j in_all small) goes)
              ((follow_gaps.each j l z off a here).1 (subst (λ (xs : List ℕ). Contains xs (label a)) (sym gap_is) g.has))))
        ],
      )
        where
          there : n < length left
          there = let e = is.count in omega arith

          goes_here : ℕ → Bool
          goes_here j = same_list nat_eq (n ∷ []) (goes_to P A rule region (length sets) j)

          is_small_gap : ℕ → Bool
          is_small_gap j = int_le (answers.area_of P A (hole j)) (pos most)

          given_gaps : List ℕ
          given_gaps = filter goes_here (filled_gaps P A most (all_regions region (length sets)))

pub filled_as_told : FilledAsTold
filled_as_told d arcs faces label walked sets rises inner region each A right rule most made (left, is, filled) n l =
    followed d arcs faces label walked A right sets rises inner region each rule left is filled.gaps filled.are_gaps most made filled.has n (let e = filled.count in omega arith)
