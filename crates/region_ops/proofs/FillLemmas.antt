-- Gaps that are filled: which sets are across their boundaries, which of them each goes to, and what each set is given.
use Rattle.std.proofs.Common.{◌≡◌, ◌⊎◌, inl, inr, refl, sym, ap, ◌∙◌, subst, arith, ℕ, ◌+◌, ◌<◌, true, false, ℤ, pos, List, [], ◌∷◌, ◌++◌, length, get_or, take, map, set, nat_lt, All, Contains, Option, Some, None, length-set}
use Rattle.std.specs.List.{flat_map}
use Rattle.std.specs.List.Sorted.{IsStrictlyIncreasing}
use Rattle.std.proofs.lemmas.Bool.{cases_eq, eqb-true}
use Rattle.std.proofs.lemmas.List.{get_or-set_same, get_or-set_other, flat_map_more, take_more}
use Rattle.std.proofs.lemmas.List.Elements.{All-contains, All-from_get_or, All-get_or, Contains-append_cases, Contains-append_left, Contains-append_right, Contains-get_or, Contains-push, Contains-push_cases}
use Rattle.lists.specs.Lists.{ascending}
use Rattle.lists.proofs.Ascending.{ascending-Contains, ascending-IsAscending, Contains-ascending}
use Rattle.lists.proofs.Members.{Contains-flat_map, Contains-nil, filter-Contains, flat_map-Contains}
use Rattle.plane_model.specs.Arcs.{SignedArc}
use Rattle.plane_model.specs.Points.{Path}
use Rattle.plane_model.proofs.PointOrder.{clash}
use Rattle.grid_base.specs.declared.kinds.OverlapRule.{OverlapRule}
use Rattle.face_walk.specs.Places.{FaceTable, IsBuiltOf, arcs_with_left, face_left_of, has_left, signed_below}
use Rattle.face_sets.specs.Boundary.{face_right_of}
use Rattle.face_sets.specs.Gaps.{AreGaps}
use Rattle.face_sets.specs.Owners.{owners_of}
use Rattle.face_sets.specs.Sets.{IsInnerFace, IsSetOf, area_of}
use Rattle.face_sets.proofs.BoundaryLemmas.{below_arc, listed_left}
use Rattle.face_sets.proofs.GapLemmas.{gaps_inner}
use Rattle.face_sets.proofs.SetLemmas.{from_ascending, nat_order}
use Rattle.region_ops.specs.Cleaned.{IsFirst, is_before, ranks_before}
use Rattle.region_ops.specs.Dissolved.{set_at}
use Rattle.region_ops.specs.Filled.{AreGifts, AreTogether, Borders, GoesTo, IsFilled, IsGiven, IsReceiver, all_faces, given, is_filled, neighbours_of, sets_round}
use Rattle.region_ops.proofs.OwnerSets.{in_owners, of_owners}
use Rattle.region_ops.proofs.Ranks.{one_before}
use Rattle.region_ops.proofs.FirstLemmas.{area_at}

-- ---- across the boundary of a gap

-- one more arc round a face
pub round_more : (old : List ℕ) (sets : SignedArc → List ℕ) (round : List SignedArc) (i : ℕ) (a : SignedArc) → i < length round → a ≡ get_or round i a → (old ++ flat_map sets (take i round)) ++ sets a ≡ old ++ flat_map sets (take (i + 1) round)
round_more old sets round i a l is =
    ap (λ (b : SignedArc). (old ++ flat_map sets (take i round)) ++ sets b) is
    ∙ flat_map_more sets old (take i round) (get_or round i a)
    ∙ ap (λ (arcs : List SignedArc). old ++ flat_map sets arcs) (sym (take_more round i a l))

module _ (arcs : List Path) (faces : FaceTable) (built : IsBuiltOf arcs faces) (cleaned : List (List ℕ)) (gap : List ℕ) where
  pub neighbour_borders : (m : ℕ) → Contains (neighbours_of arcs faces cleaned gap) m → (m < length cleaned) × Borders faces gap (set_at cleaned m)
  neighbour_borders m c =
      let (k, in_gap, round) = flat_map-Contains (sets_round arcs faces cleaned) gap m c in
      let (a, listed, owns) = flat_map-Contains (λ (a : SignedArc). owners_of cleaned (face_right_of faces.places a)) (arcs_with_left faces.places (length arcs) k) m round in
      let (below, left) = filter-Contains (has_left faces.places k) (signed_below (length arcs)) a listed in
      let left_is : face_left_of faces.places a ≡ k = eqb-true (face_left_of faces.places a) k left in
      let l = below_arc (length arcs) a below in
      let many = built.places_counted in
      let (there, right) = of_owners cleaned (face_right_of faces.places a) m owns in
      (there, record { arc = a; there = omega (arith, l, many); left = subst (Contains gap) (sym left_is) in_gap; right = right })

  pub bordering_neighbour : (m : ℕ) → m < length cleaned → Borders faces gap (set_at cleaned m) → Contains (neighbours_of arcs faces cleaned gap) m
  bordering_neighbour m l b =
      let k = face_left_of faces.places b.arc in
      Contains-flat_map (sets_round arcs faces cleaned) gap k m b.left
      (Contains-flat_map (λ (a : SignedArc). owners_of cleaned (face_right_of faces.places a)) (arcs_with_left faces.places (length arcs) k) b.arc m
      (listed_left arcs faces k b.arc built b.there refl)
      (in_owners cleaned (face_right_of faces.places b.arc) m l b.right))

-- ---- which set a gap goes to

none_some : {n : ℕ} → Some n ≡ None → ⊥
none_some e = cc

-- of the numbers of a list only one is first
one_first : (rule : OverlapRule) (areas : List ℤ) (numbers : List ℕ) (to : Option ℕ) (n : ℕ) → IsFirst rule areas numbers to → IsFirst rule areas numbers (Some n) → to ≡ Some n
one_first rule areas numbers None n e h = Contains-nil n (subst (λ (ms : List ℕ). Contains ms n) e h.0)
one_first rule areas numbers (Some m) n g h = elim (cases_eq m n) [
  | inl same ↦ ap Some same
  | inr apart ↦
      let m_not : is_before rule areas m n ≡ false = All-contains (λ k. is_before rule areas k n ≡ false) numbers m h.1 g.0 in
      let n_not : is_before rule areas n m ≡ false = All-contains (λ k. is_before rule areas k m ≡ false) numbers n g.1 h.0 in
      let n_is : is_before rule areas n m ≡ true = one_before rule m (get_or areas m (pos 0)) n (get_or areas n (pos 0)) m_not apart in
      clash (is_before rule areas n m) n_is n_not
]

module _ (rule : OverlapRule) (most : ℕ) (arcs : List Path) (faces : FaceTable) (areas : List ℤ) (cleaned : List (List ℕ)) where
  pub one_receiver : (gap : List ℕ) (to : Option ℕ) (n : ℕ) → IsReceiver rule most arcs faces areas cleaned gap to → IsReceiver rule most arcs faces areas cleaned gap (Some n) → to ≡ Some n
  one_receiver gap to n (inl g) (inl h) = absurd (none_some h.1)
  one_receiver gap to n (inl g) (inr h) = clash (is_filled faces most gap) h.0 g.0
  one_receiver gap to n (inr g) (inl h) = absurd (none_some h.1)
  one_receiver gap to n (inr g) (inr h) = one_first rule areas (neighbours_of arcs faces cleaned gap) to n g.1 h.1

  pub receiver_listed : (gap : List ℕ) (n : ℕ) → IsReceiver rule most arcs faces areas cleaned gap (Some n) → (is_filled faces most gap ≡ true) × IsFirst rule areas (neighbours_of arcs faces cleaned gap) (Some n)
  receiver_listed gap n (inl h) = absurd (none_some h.1)
  receiver_listed gap n (inr h) = h

  module _ (built : IsBuiltOf arcs faces) (sets : List (List ℕ)) (areas_are : areas ≡ map (area_of faces.areas) sets) (each : length cleaned ≡ length sets) where
    before_is : (m n : ℕ) → is_before rule areas m n ≡ ranks_before rule m (area_of faces.areas (set_at sets m)) n (area_of faces.areas (set_at sets n))
    before_is m n = λ i. ranks_before rule m (area_at faces areas sets areas_are m i) n (area_at faces areas sets areas_are n i)

    pub receiver_goes : (gap : List ℕ) (n : ℕ) → IsReceiver rule most arcs faces areas cleaned gap (Some n) → (is_filled faces most gap ≡ true) × GoesTo rule faces sets cleaned gap n
    receiver_goes gap n h =
        let (small, first) = receiver_listed gap n h in
        let (there, borders) = neighbour_borders arcs faces built cleaned gap n first.0 in (
          small,
          record {
            there = omega (arith, there, each);
            borders = borders;
            first = λ m l b.
                sym (before_is m n)
                ∙ All-contains (λ k. is_before rule areas k n ≡ false) (neighbours_of arcs faces cleaned gap) m first.1
                (bordering_neighbour arcs faces built cleaned gap m (omega (arith, l, each)) b);
          },
        )

    pub goes_receiver : (gap : List ℕ) (n : ℕ) → is_filled faces most gap ≡ true → GoesTo rule faces sets cleaned gap n → IsReceiver rule most arcs faces areas cleaned gap (Some n)
    goes_receiver gap n small goes =
        let numbers = neighbours_of arcs faces cleaned gap in
        let l = goes.there in
        inr (
          small,
          (
            bordering_neighbour arcs faces built cleaned gap n (omega (arith, l, each)) goes.borders,
            All-from_get_or (λ k. is_before rule areas k n ≡ false) numbers 0 (λ i within.
                let m = get_or numbers i 0 in
                let (there, borders) = neighbour_borders arcs faces built cleaned gap m (Contains-get_or numbers i 0 within) in
                before_is m n ∙ goes.first m (omega (arith, there, each)) borders),
          ),
        )

-- ---- what each set is given, gap by gap

module _ (rule : OverlapRule) (most : ℕ) (arcs : List Path) (faces : FaceTable) (areas : List ℤ) (cleaned : List (List ℕ)) where
  abbrev Receives : List ℕ → ℕ → Type 0
  Receives gap n = IsReceiver rule most arcs faces areas cleaned gap (Some n)

  abbrev Given : List (List ℕ) → ℕ → ℕ → Type 0
  Given gaps n k = (gap : List ℕ) × Contains gaps gap × Receives gap n × Contains gap k

  still : (some : List (List ℕ)) (gap : List ℕ) (n k : ℕ) → Given some n k → Given (some ++ gap ∷ []) n k
  still some gap n k h = (h.0, Contains-append_left some (gap ∷ []) h.0 h.1, h.2, h.3)

  newly : (some : List (List ℕ)) (gap : List ℕ) (n k : ℕ) → Receives gap n → Contains gap k → Given (some ++ gap ∷ []) n k
  newly some gap n k r c = (gap, Contains-push some gap, r, c)

  -- it was given before, or is in the new gap
  cases : (some : List (List ℕ)) (gap : List ℕ) (n k : ℕ) → Given (some ++ gap ∷ []) n k → Given some n k ⊎ (Receives gap n × Contains gap k)
  cases some gap n k h = elim (Contains-push_cases some gap h.0 h.1) [
    | inl old ↦ inl (h.0, old, h.2, h.3)
    | inr same ↦ inr (subst (λ (g : List ℕ). Receives g n) (sym same) h.2, subst (λ (g : List ℕ). Contains g k) (sym same) h.3)
  ]

  gifts_pushed : (some : List (List ℕ)) (gap : List ℕ) (to : Option ℕ) (lists : List (List ℕ)) → IsReceiver rule most arcs faces areas cleaned gap to → AreGifts rule most arcs faces areas cleaned some lists → AreGifts rule most arcs faces areas cleaned (some ++ gap ∷ []) (given to gap lists)
  gifts_pushed some gap None lists r h = record {
    each = h.each;
    has = λ n k l. (
      λ c. still some gap n k ((h.has n k l).0 c),
      λ g. elim (cases some gap n k g) [
        | inl old ↦ (h.has n k l).1 old
        | inr new ↦ absurd (none_some (sym (one_receiver rule most arcs faces areas cleaned gap None n r new.0)))
      ],
    );
  }
  gifts_pushed some gap (Some m) lists r h = record {
    each = length-set lists m (get_or lists m [] ++ gap) ∙ h.each;
    has = λ n k l. elim (cases_eq n m) [
      | inl same ↦
          (let here : set_at made n ≡ set_at lists n ++ gap =
          ap (λ (i : ℕ). get_or made i []) same ∙ get_or-set_same lists m (get_or lists m [] ++ gap) [] (let e = h.each in omega (arith, l, e, same)) ∙ ap (λ (i : ℕ). get_or lists i [] ++ gap) (sym same) in (
            λ c. elim (Contains-append_cases (set_at lists n) gap k (subst (λ (xs : List ℕ). Contains xs k) here c)) [
              | inl old ↦ still some gap n k ((h.has n k l).0 old)
              | inr new ↦ newly some gap n k (subst (Receives gap) (sym same) r) new
            ],
            λ g. subst (λ (xs : List ℕ). Contains xs k) (sym here) (elim (cases some gap n k g) [
              | inl old ↦ Contains-append_left (set_at lists n) gap k ((h.has n k l).1 old)
              | inr new ↦ Contains-append_right (set_at lists n) gap k new.1
            ]),
          ))
      | inr apart ↦
          (let there : set_at made n ≡ set_at lists n = get_or-set_other lists m n (get_or lists m [] ++ gap) [] apart in (
            λ c. still some gap n k ((h.has n k l).0 (subst (λ (xs : List ℕ). Contains xs k) there c)),
            λ g. subst (λ (xs : List ℕ). Contains xs k) (sym there) (elim (cases some gap n k g) [
              | inl old ↦ (h.has n k l).1 old
              | inr new ↦ absurd (apart (sym (one_number (one_receiver rule most arcs faces areas cleaned gap (Some m) n r new.0))))
            ]),
          ))
    ];
  }
    where
      made : List (List ℕ)
      made = set lists m (get_or lists m [] ++ gap)

      one_number : {i j : ℕ} → Some i ≡ Some j → i ≡ j
      one_number e = cc

  pub gifts_more : (gaps : List (List ℕ)) (i : ℕ) (gap d : List ℕ) (to : Option ℕ) (old new : List (List ℕ)) → i < length gaps → gap ≡ get_or gaps i d → new ≡ given to gap old →
      IsReceiver rule most arcs faces areas cleaned gap to → AreGifts rule most arcs faces areas cleaned (take i gaps) old → AreGifts rule most arcs faces areas cleaned (take (i + 1) gaps) new
  gifts_more gaps i gap d to old new l is made r h =
      subst (λ (some : List (List ℕ)). AreGifts rule most arcs faces areas cleaned some new) (ap (λ (g : List ℕ). take i gaps ++ g ∷ []) is ∙ sym (take_more gaps i d l))
      (subst (λ (lists : List (List ℕ)). AreGifts rule most arcs faces areas cleaned (take i gaps ++ gap ∷ []) lists) (sym made)
      (gifts_pushed (take i gaps) gap to old r h))

-- ---- all together

module _ (rule : OverlapRule) (most : ℕ) (arcs : List Path) (faces : FaceTable) (areas : List ℤ) (cleaned sets gaps gifts filled : List (List ℕ)) (built : IsBuiltOf arcs faces) (areas_are : areas ≡ map (area_of faces.areas) sets)
    (each : length cleaned ≡ length sets) (are_gaps : AreGaps faces (all_faces sets) gaps) (are_gifts : AreGifts rule most arcs faces areas cleaned gaps gifts) (are_together : AreTogether cleaned gifts (length cleaned) filled) where
  filled_at : (n : ℕ) → n < length sets → set_at filled n ≡ ascending nat_lt (set_at gifts n ++ set_at cleaned n)
  filled_at n l = are_together.are n (omega (arith, l, each))

  to_given : (n k : ℕ) → n < length sets → Contains (set_at gifts n) k → IsGiven rule most faces sets cleaned gaps n k
  to_given n k l c =
      let (gap, listed, receives, has) = (are_gifts.has n k (omega (arith, l, each))).0 c in
      let (small, goes) = receiver_goes rule most arcs faces areas cleaned built sets areas_are each gap n receives in
      record { gap = gap; listed = listed; small = small; goes = goes; has = has }

  from_given : (n k : ℕ) → n < length sets → IsGiven rule most faces sets cleaned gaps n k → Contains (set_at gifts n) k
  from_given n k l g =
      (are_gifts.has n k (omega (arith, l, each))).1 (g.gap, g.listed, goes_receiver rule most arcs faces areas cleaned built sets areas_are each g.gap n g.small g.goes, g.has)

  pub are_filled : IsFilled rule most faces sets cleaned filled
  are_filled = record {
    gaps = gaps;
    are_gaps = are_gaps;
    count = are_together.each ∙ each;
    in_order = All-from_get_or IsStrictlyIncreasing filled [] (λ n l.
        let long = are_together.each in
        subst IsStrictlyIncreasing (sym (filled_at n (omega (arith, l, long, each)))) (from_ascending (ascending nat_lt (set_at gifts n ++ set_at cleaned n)) (ascending-IsAscending nat_lt nat_order (set_at gifts n ++ set_at cleaned n))));
    has = λ n k l. (
      λ c. elim (Contains-append_cases (set_at gifts n) (set_at cleaned n) k (ascending-Contains nat_lt nat_order (set_at gifts n ++ set_at cleaned n) k (subst (λ (xs : List ℕ). Contains xs k) (filled_at n l) c))) [
        | inl new ↦ inr (to_given n k l new)
        | inr old ↦ inl old
      ],
      λ h. subst (λ (xs : List ℕ). Contains xs k) (sym (filled_at n l)) (Contains-ascending nat_lt nat_order (set_at gifts n ++ set_at cleaned n) k (elim h [
        | inl old ↦ Contains-append_right (set_at gifts n) (set_at cleaned n) k old
        | inr new ↦ Contains-append_left (set_at gifts n) (set_at cleaned n) k (from_given n k l new)
      ])),
    );
  }

-- ---- what fills sets of inner faces has inner faces

gaps_are_inner : (faces : FaceTable) (set : List ℕ) (gaps : List (List ℕ)) → AreGaps faces set gaps → All (IsSetOf faces) gaps
gaps_are_inner faces set gaps h = subst (All (IsSetOf faces)) (sym h.shut_in) (gaps_inner faces set h.parts h.are_parts.divided.faces)

pub filled_inner : (rule : OverlapRule) (most : ℕ) (faces : FaceTable) (sets cleaned filled : List (List ℕ)) → length cleaned ≡ length sets → All (IsSetOf faces) cleaned → IsFilled rule most faces sets cleaned filled → All (IsSetOf faces) filled
filled_inner rule most faces sets cleaned filled each inner h = All-from_get_or (IsSetOf faces) filled [] (λ n l.
    let many = h.count in
    let within : n < length sets = omega (arith, l, many) in
    All-from_get_or (IsInnerFace faces) (set_at filled n) 0 (λ i here.
    let k = get_or (set_at filled n) i 0 in
    elim ((h.has n k within).0 (Contains-get_or (set_at filled n) i 0 here)) [
      | inl old ↦ All-contains (IsInnerFace faces) (set_at cleaned n) k (All-get_or (IsSetOf faces) cleaned n [] (omega (arith, within, each)) inner) old
      | inr new ↦ All-contains (IsInnerFace faces) new.gap k (All-contains (IsSetOf faces) gaps_here new.gap (gaps_are_inner faces (all_faces sets) gaps_here h.are_gaps) new.listed) new.has
    ]))
  where
    gaps_here : List (List ℕ)
    gaps_here = h.gaps
