-- The pieces of a mosaic are those that the definition makes of the regions.
use Rattle.std.proofs.Common.{◌≡◌, inl, inr, refl, sym, ap, subst, ◌∙◌, arith, ℕ, zero, suc, ◌+◌, ◌<◌, ◌≤◌, Bool, true, false, not, List, [], All, AllPairs, Contains, length, get_or, map, nat_lt}
use Rattle.std.specs.Prelude.{◌↔◌}
use Rattle.std.specs.List.{AllZip, flat_map, range_with_len}
use Rattle.std.proofs.lemmas.Bool.{false_from_ne_true, lt-ltb}
use Rattle.std.proofs.lemmas.List.{get_or-map, length-map}
use Rattle.std.proofs.lemmas.List.Elements.{Contains-get_or}
use Rattle.lists.specs.Lists.{list_before}
use Rattle.lists.proofs.Ascending.{IsAscending, ascending_of_pairs, one_ascending}
use Rattle.lists.proofs.Members.{Contains-cases, Contains-filter, Contains-map, Contains-nil, filter-Contains, map-Contains}
use Rattle.plane_model.specs.Points.{Path}
use Rattle.plane_model.specs.Drawing.{Drawing}
use Rattle.plane_model.specs.Snapped.{snapped}
use Rattle.plane_faces.specs.Places.{Place}
use Rattle.face_walk.specs.Places.{FaceTable}
use Rattle.face_sets.specs.Sets.{IsSetOf}
use Rattle.face_sets.proofs.GapLemmas.{in_range, of_range}
use Rattle.face_sets.proofs.SetLemmas.{from_ascending, first_of}
use Rattle.region_ops.specs.Mosaic.{Group, IsMosaic, faces_of, items_of_groups}
use Rattle.region_ops.specs.declared.item_lists.MosaicItem.{MosaicItem}
use Rattle.region_ops.proofs.ListOrder.{list_order}
use Rattle.region_model.specs.Region.{Region, part}
use Rattle.region_model.specs.Answers.{Answers, HasSome, is_empty}
use Rattle.region_model.specs.PolygonCommands.{ascending_lists, exactly, mosaic, parts_of, sharing}
use Rattle.region_laws.specs.Regions.{Follows, FollowEach}
use Rattle.region_laws.specs.Followed.{IsWalked}
use Rattle.region_laws.specs.Answered.{FollowInOrder, MosaicAsTold, TellSides, plane_with}
use Rattle.region_laws.proofs.Answered.{emptiness_is_told, nil_or_not, parts_in_order}
use Rattle.region_laws.proofs.AscendingLists.{IsListOf, filter_ascends, is_list_of, list_is_there, lists_ascend}
use Rattle.region_laws.proofs.InGroups.{all_keys, all_sets, from_zip}
use Rattle.region_laws.proofs.Mosaics.{faces_followed, faces_inner, in_faces, of_faces}
use Rattle.region_ops.proofs.OwnerSets.{of_owners}
use Rattle.region_laws.proofs.Numbers.{owners_rise}

-- ---- pieces by their numbers and their sets

abbrev numbers_in : MosaicItem → List ℕ
numbers_in item = item.ids

abbrev set_in : MosaicItem → List ℕ
set_in item = item.set

abbrev numbers_of : List ℕ × Region → List ℕ
numbers_of m = m.0

abbrev region_of : List ℕ × Region → Region
region_of m = m.1

-- ---- the lists of numbers

pub from_start : (a n k : ℕ) → Contains (range_with_len a n) k → a ≤ k
from_start a zero k c = Contains-nil k c
from_start a (suc n) k c = elim (Contains-cases a (range_with_len (a + 1) n) k c) [
  | inl e ↦ omega arith
  | inr more ↦ (let l = from_start (a + 1) n k more in omega arith)
]

pub rising_range : (a n : ℕ) → IsAscending nat_lt (range_with_len a n)
rising_range a zero = tt
rising_range a (suc n) = (λ y c. lt-ltb a y (let l = from_start (a + 1) n y c in omega arith), rising_range (a + 1) n)

abbrev list_less : List ℕ → List ℕ → Bool
list_less xs ys = list_before nat_lt xs ys

module _ (d : Drawing) (arcs : List Path) (faces : FaceTable) (label : Place → ℕ) (walked : IsWalked d arcs faces label) (sets : List (List ℕ)) (inner : All (IsSetOf faces) sets) (region : ℕ → Region) (each : FollowEach (snapped d) arcs label sets region)
    (A : Answers) (sides : (numbers : List ℕ) → TellSides (plane_with d arcs) A (exactly region (length sets) numbers)) where
  abbrev all_below : List ℕ
  all_below = range_with_len 0 (length sets)

  abbrev together : List ℕ → Region
  together numbers = exactly region (length sets) numbers

  abbrev faces_with : List ℕ → List ℕ
  faces_with numbers = faces_of sets faces.count numbers

  within_count : (numbers : List ℕ) → IsListOf all_below numbers → All (λ n. n < length sets) numbers
  within_count numbers h i e l = of_range (length sets) (get_or numbers i e) (h.within (get_or numbers i e) (Contains-get_or numbers i e l))

  follow_together : (numbers : List ℕ) → IsListOf all_below numbers → Follows (snapped d) arcs label (faces_with numbers) (together numbers)
  follow_together numbers h = faces_followed d arcs faces label walked sets inner region each numbers h.some (within_count numbers h) (from_ascending numbers h.rising)

  inner_together : (numbers : List ℕ) → IsListOf all_below numbers → IsSetOf faces (faces_with numbers)
  inner_together numbers h = faces_inner d arcs faces label walked sets inner region each numbers h.some

  empty_together : (numbers : List ℕ) → IsListOf all_below numbers → (faces_with numbers ≡ []) ↔ (is_empty (plane_with d arcs) A (together numbers) ≡ true)
  empty_together numbers h = emptiness_is_told d arcs faces label walked (faces_with numbers) (inner_together numbers h) (together numbers) (follow_together numbers h) A (sides numbers)

  module _ (items : List MosaicItem) (is : IsMosaic faces sets items) where
    abbrev ids_of : Group → List ℕ
    ids_of g = g.ids

    listed : (g : Group) → Contains is.groups g → IsListOf all_below g.ids
    listed g there =
        let (k, below, owners) = is.used g there in
        record {
          some = is.some g there;
          rising = subst (IsAscending nat_lt) owners (owners_rise sets k);
          within = λ n c. in_range (length sets) n (of_owners sets k n (subst (λ (ns : List ℕ). Contains ns n) (sym owners) c)).0;
        }

    groups_ascend : IsAscending list_less (map ids_of is.groups)
    groups_ascend = ascending_of_pairs list_less (λ x y. list_less x y ≡ true) (map ids_of is.groups) pairs (λ x y cx cy h. h)
      where
        none : Group
        none = record { ids = []; parts = [] }

        pairs : AllPairs (λ x y. list_less x y ≡ true) (map ids_of is.groups)
        pairs i j e l m =
            let size = length-map is.groups ids_of in
            let at_i = get_or-map ids_of is.groups i none e (omega arith) in
            let at_j = get_or-map ids_of is.groups j none e (omega arith) in
            subst (λ (x : List ℕ). list_less x (get_or (map ids_of is.groups) j e) ≡ true) (sym at_i)
            (subst (λ (y : List ℕ). list_less (get_or is.groups i none).ids y ≡ true) (sym at_j) (is.in_order i j none l (omega arith)))

    shared : (numbers : List ℕ) → Contains (map ids_of is.groups) numbers → Contains (sharing (plane_with d arcs) A region (length sets)) numbers
    shared numbers c =
        let (g, there, same) = map-Contains ids_of is.groups numbers c in
        let (k, below, owners) = is.used g there in
        let h = listed g there in
        let some_face : Contains (faces_with g.ids) k = in_faces sets faces.count g.ids k below owners in
        let is_not : is_empty (plane_with d arcs) A (together g.ids) ≡ false = false_from_ne_true (is_empty (plane_with d arcs) A (together g.ids)) (λ e. Contains-nil k (subst (λ (set : List ℕ). Contains set k) ((empty_together g.ids h).1 e) some_face)) in
        subst (Contains (sharing (plane_with d arcs) A region (length sets))) same
        (Contains-filter (λ (L : List ℕ). not (is_empty (plane_with d arcs) A (together L))) (ascending_lists all_below) g.ids (list_is_there all_below (rising_range 0 (length sets)) g.ids h) (ap not is_not))

    grouped : (numbers : List ℕ) → Contains (sharing (plane_with d arcs) A region (length sets)) numbers → Contains (map ids_of is.groups) numbers
    grouped numbers c =
        let (in_lists, passes) = filter-Contains (λ (L : List ℕ). not (is_empty (plane_with d arcs) A (together L))) (ascending_lists all_below) numbers c in
        let h : IsListOf all_below numbers = is_list_of all_below (rising_range 0 (length sets)) numbers in_lists in
        elim (nil_or_not (faces_with numbers)) [
          | inl none ↦ (let e = (empty_together numbers h).0 none in let clash : false ≡ true = ap not (sym e) ∙ passes in absurd (cc))
          | inr some ↦ (
              let (k, has) = first_of (faces_with numbers) some in
              let (below, owners) = of_faces sets faces.count numbers k has in
              let (g, there, ids_are) = is.all k below (λ e. h.some (sym owners ∙ e)) in
              subst (Contains (map ids_of is.groups)) (ids_are ∙ owners) (Contains-map ids_of is.groups g there))
        ]

    pub lists_are : map ids_of is.groups ≡ sharing (plane_with d arcs) A region (length sets)
    lists_are =
        one_ascending list_less list_order (map ids_of is.groups) (sharing (plane_with d arcs) A region (length sets)) groups_ascend
        (filter_ascends list_less (λ (L : List ℕ). not (is_empty (plane_with d arcs) A (together L))) (ascending_lists all_below) (lists_ascend all_below (rising_range 0 (length sets))))
        shared grouped

    abbrev pieces_of : List ℕ → List Region
    pieces_of numbers = parts_of A (together numbers)

    group_follows : ((numbers : List ℕ) (j : ℕ) → (j < A.parts (together numbers)) ↔ HasSome (plane_with d arcs) (part (together numbers) j)) → (g : Group) → Contains is.groups g → FollowInOrder (snapped d) arcs label g.parts (pieces_of g.ids)
    group_follows counted g there =
        let h = listed g there in
        parts_in_order d arcs faces label walked (faces_with g.ids) (inner_together g.ids h) (together g.ids) (follow_together g.ids h) A (counted g.ids) g.parts (is.parts g there)

    abbrev pieces_in : Group → List (List ℕ)
    pieces_in g = g.parts

    abbrev item_of : List ℕ → List ℕ → MosaicItem
    item_of numbers set = record { ids = numbers; set = set }

    pub told : ((numbers : List ℕ) (j : ℕ) → (j < A.parts (together numbers)) ↔ HasSome (plane_with d arcs) (part (together numbers) j)) →
        (map (λ (item : MosaicItem). item.ids) items ≡ map (λ (m : List ℕ × Region). m.0) (mosaic (plane_with d arcs) A region (length sets)))
        × FollowInOrder (snapped d) arcs label (map (λ (item : MosaicItem). item.set) items) (map (λ (m : List ℕ × Region). m.1) (mosaic (plane_with d arcs) A region (length sets)))
    told counted =
        let groups_are = group_follows counted in (
          ap (λ (all : List MosaicItem). map numbers_in all) is.listed
              ∙ all_keys ids_of pieces_in item_of pieces_of (snapped d) arcs label numbers_in (λ numbers set. refl) is.groups groups_are
              ∙ ap (λ (lists : List (List ℕ)). map numbers_of (flat_map (λ (L : List ℕ). map (λ (r : Region). (L, r)) (pieces_of L)) lists)) lists_are,
          from_zip (snapped d) arcs label (map set_in items) (map region_of (mosaic (plane_with d arcs) A region (length sets)))
              (subst (λ (all : List MosaicItem). AllZip (Follows (snapped d) arcs label) (map set_in all) (map region_of (mosaic (plane_with d arcs) A region (length sets)))) (sym is.listed)
              (subst (λ (lists : List (List ℕ)). AllZip (Follows (snapped d) arcs label) (map set_in (items_of_groups is.groups)) (map region_of (flat_map (λ (L : List ℕ). map (λ (r : Region). (L, r)) (pieces_of L)) lists))) lists_are
              (all_sets ids_of pieces_in item_of pieces_of (snapped d) arcs label set_in (λ numbers set. refl) is.groups groups_are))),
        )

pub mosaic_as_told : MosaicAsTold
mosaic_as_told d arcs faces label walked sets inner region each A sides counted items is = told d arcs faces label walked sets inner region each A sides items is counted
