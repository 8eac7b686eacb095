-- The items of a union are those that the definition makes of the regions.
use Rattle.std.proofs.Common.{◌≡◌, inl, inr, refl, sym, ap, subst, ◌∙◌, arith, ℕ, ◌<◌, Bool, true, false, not, ◌&&◌, nat_lt, List, [], All, AllPairs, Contains, filter, length, get_or, map}
use Rattle.std.specs.Prelude.{◌↔◌, is_some}
use Rattle.std.specs.List.{AllZip, flat_map, list_any, range_with_len}
use Rattle.std.specs.List.Sorted.{IsStrictlyIncreasing}
use Rattle.std.proofs.lemmas.Bool.{and_from, and_parts, false_from_ne_true}
use Rattle.std.proofs.lemmas.List.{get_or-map, length-map}
use Rattle.std.proofs.lemmas.List.Elements.{All-from_get_or, Contains-get_or}
use Rattle.lists.proofs.Ascending.{IsAscending, ascending_of_pairs, one_ascending}
use Rattle.lists.proofs.Members.{Contains-filter, Contains-map, Contains-nil, filter-Contains, map-Contains}
use Rattle.plane_model.specs.Points.{Path}
use Rattle.plane_model.specs.Drawing.{Drawing}
use Rattle.plane_model.specs.Snapped.{links_of, snapped}
use Rattle.plane_faces.specs.Places.{Place}
use Rattle.plane_faces.proofs.FaceLaws.{place_beside}
use Rattle.face_walk.specs.Places.{FaceTable}
use Rattle.face_sets.specs.Sets.{IsInnerFace, IsSetOf}
use Rattle.face_sets.proofs.GapLemmas.{in_range, of_range}
use Rattle.face_sets.proofs.SetLemmas.{from_ascending, first_of}
use Rattle.union_ops.specs.Choices.{choice_before, choice_of, has_number, same_choice}
use Rattle.union_ops.specs.Union.{Group, IsUnion, faces_of, items_of_groups}
use Rattle.union_ops.specs.declared.union_lists.UnionItem.{UnionItem}
use Rattle.union_ops.proofs.ChoiceLemmas.{number_inside}
use Rattle.union_ops.proofs.ChoiceOrder.{choice_order, same_from_test, test_from_same}
use Rattle.region_model.specs.Region.{Region}
use Rattle.region_model.specs.Answers.{Answers, is_empty}
use Rattle.region_model.specs.PolygonCommands.{parts_of}
use Rattle.region_model.specs.UnionCommand.{Choice, choices, union_region, united}
use Rattle.region_laws.specs.Regions.{Follows}
use Rattle.region_laws.specs.Followed.{IsWalked}
use Rattle.region_laws.specs.Answered.{FollowInOrder, plane_with}
use Rattle.region_laws.proofs.Answered.{emptiness_is_told, nil_or_not, parts_in_order}
use Rattle.region_laws.proofs.AscendingLists.{filter_ascends}
use Rattle.region_laws.proofs.InGroups.{all_keys, all_sets, from_zip}
use Rattle.region_laws.proofs.MosaicTold.{rising_range}
use Rattle.region_laws.proofs.Walked.{label_below}
use Rattle.union_laws.specs.United.{FollowLayers, TellChoices, UnionAsTold}
use Rattle.union_laws.proofs.ChoiceLists.{choices_ascend, one_each}
use Rattle.union_laws.proofs.ChosenPoints.{AreFirst, as_many, first_sets, in_choices, left_by_choice, one_choice}

abbrev choice_in : UnionItem → Choice
choice_in item = item.choice

abbrev set_in : UnionItem → List ℕ
set_in item = item.set

abbrev choice_of_group : Group → Choice
choice_of_group g = g.choice

abbrev sets_of_group : Group → List (List ℕ)
sets_of_group g = g.parts

abbrev item_of : Choice → List ℕ → UnionItem
item_of c set = record { choice = c; set = set }

abbrev first_of_pair : Choice × Region → Choice
first_of_pair m = m.0

abbrev region_of_pair : Choice × Region → Region
region_of_pair m = m.1

-- ---- the faces of a choice

module _ (layers : List (List (List ℕ))) (count : ℕ) (c : Choice) where
  abbrev has_it : ℕ → Bool
  has_it k = same_choice (choice_of layers k) c

  pub in_faces : (k : ℕ) → k < count → choice_of layers k ≡ c → Contains (faces_of layers count c) k
  in_faces k l e = Contains-filter has_it (range_with_len 0 count) k (in_range count k l) (test_from_same (choice_of layers k) c e)

  pub of_faces : (k : ℕ) → Contains (faces_of layers count c) k → (k < count) × (choice_of layers k ≡ c)
  of_faces k m = let (in_all, e) = filter-Contains has_it (range_with_len 0 count) k m in (of_range count k in_all, same_from_test (choice_of layers k) c e)

module _ (d : Drawing) (arcs : List Path) (faces : FaceTable) (label : Place → ℕ) (walked : IsWalked d arcs faces label) (layers : List (List (List ℕ))) (inner : All (All (IsSetOf faces)) layers)
    (regions : List (List Region)) (follow : FollowLayers (snapped d) arcs label layers regions) where
  abbrev pub faces_with : Choice → List ℕ
  faces_with c = faces_of layers faces.count c

  -- they follow what the choice leaves
  pub follow_choice : (c : Choice) → length c ≡ length regions → has_number c ≡ true → Follows (snapped d) arcs label (faces_with c) (union_region regions c)
  follow_choice c long some z off a here =
      let first = first_sets (snapped d) arcs label z off a here layers regions follow in
      let by = left_by_choice (snapped d) arcs z regions c long some in (
        λ h. in_faces layers faces.count c (label a) (label_below d arcs faces label walked a (place_beside (links_of (snapped d)) z a here)) (one_choice (snapped d) arcs z regions (choice_of layers (label a)) c first (by.0 h)),
        λ m. by.1 (subst (λ (e : Choice). AreFirst (snapped d) arcs z e regions) (of_faces layers faces.count c (label a) m).1 first),
      )

  pub inner_choice : (c : Choice) → has_number c ≡ true → IsSetOf faces (faces_with c)
  inner_choice c some = All-from_get_or (IsInnerFace faces) (faces_with c) 0 (λ i l.
      let (below, is) = of_faces layers faces.count c (get_or (faces_with c) i 0) (Contains-get_or (faces_with c) i 0 l) in
      number_inside faces (get_or (faces_with c) i 0) layers inner (ap has_number is ∙ some))

  pub rising_choice : (c : Choice) → IsStrictlyIncreasing (faces_with c)
  rising_choice c = from_ascending (faces_with c) (filter_ascends nat_lt (has_it layers faces.count c) (range_with_len 0 faces.count) (rising_range 0 faces.count))

  module _ (A : Answers) (tell : TellChoices (plane_with d arcs) A regions) where
    pub empty_choice : (c : Choice) → length c ≡ length regions → has_number c ≡ true → (faces_with c ≡ []) ↔ (is_empty (plane_with d arcs) A (union_region regions c) ≡ true)
    empty_choice c long some = emptiness_is_told d arcs faces label walked (faces_with c) (inner_choice c some) (union_region regions c) (follow_choice c long some) A (tell.sides c)

    -- the choices that leave something
    abbrev pub leaves_some : Choice → Bool
    leaves_some c = list_any is_some c && not (is_empty (plane_with d arcs) A (union_region regions c))

    pub face_leaves : (k : ℕ) → k < faces.count → has_number (choice_of layers k) ≡ true → Contains (filter leaves_some (choices regions)) (choice_of layers k)
    face_leaves k below some =
        let c : Choice = choice_of layers k in
        let among : Contains (choices regions) c = in_choices layers regions k (as_many (snapped d) arcs label layers regions follow) in
        let long : length c ≡ length regions = one_each regions c among in
        let is_not : is_empty (plane_with d arcs) A (union_region regions c) ≡ false =
        false_from_ne_true (is_empty (plane_with d arcs) A (union_region regions c)) (λ e. Contains-nil k (subst (λ (set : List ℕ). Contains set k) ((empty_choice c long some).1 e) (in_faces layers faces.count c k below refl))) in
        Contains-filter leaves_some (choices regions) c among (and_from (list_any is_some c) (not (is_empty (plane_with d arcs) A (union_region regions c))) some (ap not is_not))

    module _ (items : List UnionItem) (is : IsUnion faces layers items) where
      groups_ascend : IsAscending choice_before (map choice_of_group is.groups)
      groups_ascend = ascending_of_pairs choice_before (λ b c. choice_before b c ≡ true) (map choice_of_group is.groups) pairs (λ b c mb mc h. h)
        where
          none : Group
          none = record { choice = []; parts = [] }

          pairs : AllPairs (λ b c. choice_before b c ≡ true) (map choice_of_group is.groups)
          pairs i j e l m =
              let size = length-map is.groups choice_of_group in
              let at_i = get_or-map choice_of_group is.groups i none e (omega arith) in
              let at_j = get_or-map choice_of_group is.groups j none e (omega arith) in
              subst (λ (c : Choice). choice_before c (get_or (map choice_of_group is.groups) j e) ≡ true) (sym at_i)
              (subst (λ (c : Choice). choice_before (get_or is.groups i none).choice c ≡ true) (sym at_j) (is.in_order i j none l (omega arith)))

      leaving : (c : Choice) → Contains (map choice_of_group is.groups) c → Contains (filter leaves_some (choices regions)) c
      leaving c m =
          let (g, there, same) = map-Contains choice_of_group is.groups c m in
          let (k, below, its) = is.used g there in
          subst (Contains (filter leaves_some (choices regions))) (its ∙ same) (face_leaves k below (ap has_number its ∙ is.some g there))

      grouped : (c : Choice) → Contains (filter leaves_some (choices regions)) c → Contains (map choice_of_group is.groups) c
      grouped c m =
          let (among, passes) = filter-Contains leaves_some (choices regions) c m in
          let (some, full) = and_parts (list_any is_some c) (not (is_empty (plane_with d arcs) A (union_region regions c))) passes in
          elim (nil_or_not (faces_with c)) [
            | inl none ↦ (let e = (empty_choice c (one_each regions c among) some).0 none in let clash : false ≡ true = ap not (sym e) ∙ full in absurd (cc))
            | inr face ↦ (
                let (k, has) = first_of (faces_with c) face in
                let (below, its) = of_faces layers faces.count c k has in
                let (g, there, same) = is.all k below (ap has_number its ∙ some) in
                subst (Contains (map choice_of_group is.groups)) (same ∙ its) (Contains-map choice_of_group is.groups g there))
          ]

      choices_are : map choice_of_group is.groups ≡ filter leaves_some (choices regions)
      choices_are =
          one_ascending choice_before choice_order (map choice_of_group is.groups) (filter leaves_some (choices regions)) groups_ascend
          (filter_ascends choice_before leaves_some (choices regions) (choices_ascend regions)) leaving grouped

      abbrev parts_left : Choice → List Region
      parts_left c = parts_of A (union_region regions c)

      group_follows : (g : Group) → Contains is.groups g → FollowInOrder (snapped d) arcs label g.parts (parts_left g.choice)
      group_follows g there =
          let (k, below, its) = is.used g there in
          let long : length g.choice ≡ length regions = subst (λ (c : Choice). length c ≡ length regions) its (one_each regions (choice_of layers k) (in_choices layers regions k (as_many (snapped d) arcs label layers regions follow))) in
          parts_in_order d arcs faces label walked (faces_with g.choice) (inner_choice g.choice (is.some g there)) (union_region regions g.choice) (follow_choice g.choice long (is.some g there)) A (tell.parts g.choice) g.parts (is.parts g there)

      pub told : (map choice_in items ≡ map first_of_pair (united (plane_with d arcs) A regions)) × FollowInOrder (snapped d) arcs label (map set_in items) (map region_of_pair (united (plane_with d arcs) A regions))
      told = (
        ap (λ (all : List UnionItem). map choice_in all) is.listed
            ∙ all_keys choice_of_group sets_of_group item_of parts_left (snapped d) arcs label choice_in (λ c set. refl) is.groups group_follows
            ∙ ap (λ (cs : List Choice). map first_of_pair (flat_map (λ (c : Choice). map (λ (r : Region). (c, r)) (parts_left c)) cs)) choices_are,
        from_zip (snapped d) arcs label (map set_in items) (map region_of_pair (united (plane_with d arcs) A regions))
            (subst (λ (all : List UnionItem). AllZip (Follows (snapped d) arcs label) (map set_in all) (map region_of_pair (united (plane_with d arcs) A regions))) (sym is.listed)
            (subst (λ (cs : List Choice). AllZip (Follows (snapped d) arcs label) (map set_in (items_of_groups is.groups)) (map region_of_pair (flat_map (λ (c : Choice). map (λ (r : Region). (c, r)) (parts_left c)) cs))) choices_are
            (all_sets choice_of_group sets_of_group item_of parts_left (snapped d) arcs label set_in (λ c set. refl) is.groups group_follows))),
      )

pub union_as_told : UnionAsTold
union_as_told d arcs faces label walked layers inner regions follow A tell items is = told d arcs faces label walked layers inner regions follow A tell items is
