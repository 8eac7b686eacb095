-- The first of some sets by a rule, and which faces each set keeps.
use Rattle.std.proofs.Common.{◌≡◌, refl, sym, ap, ◌∙◌, subst, inl, inr, arith, ℕ, ◌+◌, ◌<◌, Bool, true, false, true≢false, cond, not, ℤ, pos, nat_lt, List, [], ◌∷◌, ◌++◌, length, get_or, take, map, filter, nat_eq, All, Contains, Option, Some, None}
use Rattle.std.specs.List.{list_any}
use Rattle.std.specs.Option.{option_to_list}
use Rattle.std.specs.List.Sorted.{IsStrictlyIncreasing}
use Rattle.std.proofs.Math.ListN.{get_or-map}
use Rattle.std.proofs.lemmas.Bool.{cases_eq, eq-eqb, eqb-true, ne_eqb}
use Rattle.std.proofs.lemmas.List.{length_push, nil_from_length, take_more}
use Rattle.std.proofs.lemmas.List.Elements.{All-nil, All-push, All-weaker, All-contains, All-get_or, Contains-push, Contains-append_left}
use Rattle.std.proofs.lemmas.List.Folds.{list_any_at, list_any_none}
use Rattle.grid_base.specs.declared.kinds.OverlapRule.{OverlapRule}
use Rattle.lists.specs.Lists.{has, ascending}
use Rattle.lists.proofs.Members.{Contains-cases, Contains-filter, Contains-head, Contains-nil, filter-Contains}
use Rattle.lists.proofs.Ascending.{IsAscending, one_ascending, ascending-IsAscending, ascending-Contains, Contains-ascending}
use Rattle.face_sets.proofs.SetLemmas.{nat_order, pushed, to_ascending, filter_same}
use Rattle.bucket_grid.proofs.RisingNumbers.{numbers_where_rise}
use Rattle.face_walk.specs.Places.{FaceTable}
use Rattle.face_sets.specs.Owners.{owners_of}
use Rattle.face_sets.specs.Sets.{IsInnerFace, IsSetOf}
use Rattle.region_ops.specs.Dissolved.{set_at}
use Rattle.region_ops.specs.Cleaned.{area_of, ranks_before, is_lost, IsCleaned, is_before, earlier, IsFirst, AreFirsts, is_number, is_first, AreWon}
use Rattle.region_ops.specs.Filled.{AreSoleOwners}
use Rattle.region_ops.proofs.OwnerSets.{in_owners, of_owners}
use Rattle.region_ops.proofs.Ranks.{not_before_itself, not_both_before, not_before_through, one_before}

-- ---- one more number

first_pushed : (rule : OverlapRule) (areas : List ℤ) (xs : List ℕ) (n : ℕ) (first : Option ℕ) → IsFirst rule areas xs first → IsFirst rule areas (xs ++ n ∷ []) (Some (earlier rule areas first n))
first_pushed rule areas xs n None e = (
  Contains-push xs n,
  All-push (λ k. is_before rule areas k n ≡ false) xs n (subst (All (λ k. is_before rule areas k n ≡ false)) (sym e) (All-nil (λ k. is_before rule areas k n ≡ false))) (not_before_itself rule n (get_or areas n (pos 0))),
)
first_pushed rule areas xs n (Some m) h = go (is_before rule areas m n) refl
  where
    go : (b : Bool) → is_before rule areas m n ≡ b → IsFirst rule areas (xs ++ n ∷ []) (Some (cond b m n))
    go true e = (
      Contains-append_left xs (n ∷ []) m h.0,
      All-push (λ k. is_before rule areas k m ≡ false) xs n h.1 (not_both_before rule m (get_or areas m (pos 0)) n (get_or areas n (pos 0)) e),
    )
    go false e = (
      Contains-push xs n,
      All-push (λ k. is_before rule areas k n ≡ false) xs n
          (All-weaker (λ k. is_before rule areas k m ≡ false) (λ k. is_before rule areas k n ≡ false)
          (λ k f. not_before_through rule k (get_or areas k (pos 0)) m (get_or areas m (pos 0)) n (get_or areas n (pos 0)) f e) xs h.1)
          (not_before_itself rule n (get_or areas n (pos 0))),
    )

pub first_more : (rule : OverlapRule) (areas : List ℤ) (numbers : List ℕ) (j n d : ℕ) (first : Option ℕ) → j < length numbers → n ≡ get_or numbers j d →
    IsFirst rule areas (take j numbers) first → IsFirst rule areas (take (j + 1) numbers) (Some (earlier rule areas first n))
first_more rule areas numbers j n d first within is h =
    subst (λ (xs : List ℕ). IsFirst rule areas xs (Some (earlier rule areas first n))) (sym (take_more numbers j d within ∙ ap (λ (k : ℕ). take j numbers ++ k ∷ []) (sym is)))
    (first_pushed rule areas (take j numbers) n first h)

pub firsts_more : (rule : OverlapRule) (areas : List ℤ) (sets : List (List ℕ)) (n : ℕ) (firsts : List (Option ℕ)) (first : Option ℕ) →
    AreFirsts rule areas sets n firsts → IsFirst rule areas (owners_of sets n) first → AreFirsts rule areas sets (n + 1) (firsts ++ first ∷ [])
firsts_more rule areas sets n firsts first h one = record {
  each = length_push firsts first ∙ ap (λ (m : ℕ). m + 1) h.each;
  exact = pushed firsts first None n (λ k f. IsFirst rule areas (owners_of sets k) f) h.each h.exact one;
}

pub won_more : (firsts : List (Option ℕ)) (sets : List (List ℕ)) (n : ℕ) (won : List (List ℕ)) (set : List ℕ) →
    AreWon firsts sets n won → set ≡ filter (is_first firsts n) (set_at sets n) → AreWon firsts sets (n + 1) (won ++ set ∷ [])
won_more firsts sets n won set h one = record {
  each = length_push won set ∙ ap (λ (m : ℕ). m + 1) h.each;
  exact = pushed won set [] n (λ m kept. kept ≡ filter (is_first firsts m) (set_at sets m)) h.each h.exact one;
}

-- ---- what a set keeps

first_is : (rule : OverlapRule) (areas : List ℤ) (numbers : List ℕ) (n : ℕ) (first : Option ℕ) → IsFirst rule areas numbers first → Contains numbers n →
    is_number n first ≡ not (list_any (λ m. is_before rule areas m n) numbers)
first_is rule areas numbers n None e c = Contains-nil n (subst (λ (xs : List ℕ). Contains xs n) e c)
first_is rule areas numbers n (Some w) h c = elim (cases_eq w n) [
  | inl same ↦ eq-eqb w n same ∙ sym (ap not (list_any_none (λ m. is_before rule areas m n) numbers (subst (λ (v : ℕ). All (λ m. is_before rule areas m v ≡ false) numbers) same h.1)))
  | inr apart ↦
      let not_first : is_before rule areas n w ≡ false = All-contains (λ m. is_before rule areas m w ≡ false) numbers n h.1 c in
      let wins : is_before rule areas w n ≡ true = one_before rule n (get_or areas n (pos 0)) w (get_or areas w (pos 0)) not_first (λ e. apart (sym e)) in
      ne_eqb w n apart ∙ sym (ap not (list_any_at (λ m. is_before rule areas m n) numbers h.0.0 w h.0.1 (ap (λ (m : ℕ). is_before rule areas m n) h.0.2 ∙ wins)))
]

some_number : (n : ℕ) (first : Option ℕ) → is_number n first ≡ true → first ≡ Some n
some_number n None e = absurd (true≢false (sym e))
some_number n (Some m) e = ap Some (eqb-true m n e)

one_rises : (one : Option ℕ) → IsAscending nat_lt (option_to_list one)
one_rises None = tt
one_rises (Some n) = (λ m c. Contains-nil m c, tt)

the_one : (one : Option ℕ) (n : ℕ) → Contains (option_to_list one) n → one ≡ Some n
the_one None n c = Contains-nil n c
the_one (Some m) n c = elim (Contains-cases m [] n c) [ inl same ↦ ap Some same | inr none ↦ Contains-nil n none ]

pub area_at : (t : FaceTable) (areas : List ℤ) (sets : List (List ℕ)) → areas ≡ map (area_of t.areas) sets → (n : ℕ) → get_or areas n (pos 0) ≡ area_of t.areas (set_at sets n)
area_at t areas sets are n = ap (λ (list : List ℤ). get_or list n (pos 0)) are ∙ get_or-map (area_of t.areas) sets n []

module _ (rule : OverlapRule) (t : FaceTable) (sets : List (List ℕ)) (firsts : List (Option ℕ)) (won : List (List ℕ)) (areas : List ℤ) (first : AreFirsts rule areas sets t.count firsts) (kept : AreWon firsts sets (length sets) won) where
  pub are_cleaned : areas ≡ map (area_of t.areas) sets → All (IsSetOf t) sets → IsCleaned rule t.areas sets won
  are_cleaned areas_are inner = record {
    count = kept.each;
    kept = λ n l. kept.exact n l ∙ filter_same (is_first firsts n) (λ (k : ℕ). not (is_lost rule t.areas sets n k)) (set_at sets n) (λ k c.
        let there : k < t.count = (All-contains (IsInnerFace t) (set_at sets n) k (All-get_or (IsSetOf t) sets n [] l inner) c).there in
        first_is rule areas (owners_of sets k) n (get_or firsts k None) (first.exact k there) (in_owners sets k n l c)
        ∙ (λ j. not (list_any (λ (m : ℕ). ranks_before rule m (area_at t areas sets areas_are m j) n (area_at t areas sets areas_are n j)) (owners_of sets k))));
  }

  -- a face stays with its first alone
  still_first : (k m : ℕ) → Contains (owners_of won k) m → get_or firsts k None ≡ Some m
  still_first k m c =
      let (l, has) = of_owners won k m c in
      let many = kept.each in
      some_number m (get_or firsts k None) (filter-Contains (is_first firsts m) (set_at sets m) k (subst (λ (xs : List ℕ). Contains xs k) (kept.exact m (omega (arith, l, many))) has)).1

  first_still : (k m : ℕ) → k < t.count → get_or firsts k None ≡ Some m → Contains (owners_of won k) m
  first_still k m there is =
      let (l, has) = of_owners sets k m (subst (IsFirst rule areas (owners_of sets k)) is (first.exact k there)).0 in
      let many = kept.each in
      in_owners won k m (omega (arith, l, many))
      (subst (λ (xs : List ℕ). Contains xs k) (sym (kept.exact m l)) (Contains-filter (is_first firsts m) (set_at sets m) k has (ap (is_number m) is ∙ eq-eqb m m refl)))

  pub sole_owners : AreSoleOwners won t.count firsts
  sole_owners = record {
    exact = λ k there.
        let first = get_or firsts k None in
        one_ascending nat_lt nat_order (option_to_list first) (owners_of won k)
        (one_rises first) (to_ascending (owners_of won k) (numbers_where_rise (λ (set : List ℕ). has nat_eq set k) won))
        (λ m c. first_still k m there (the_one first m c))
        (λ m c. subst (λ (one : Option ℕ). Contains (option_to_list one) m) (sym (still_first k m c)) (Contains-head m []));
  }

-- an ascending list is in order
pub in_order : (xs : List ℕ) → IsStrictlyIncreasing xs → ascending nat_lt xs ≡ xs
in_order xs up = one_ascending nat_lt nat_order (ascending nat_lt xs) xs (ascending-IsAscending nat_lt nat_order xs) (to_ascending xs up)
    (λ z c. ascending-Contains nat_lt nat_order xs z c)
    (λ z c. Contains-ascending nat_lt nat_order xs z c)

pub none_more : (more set : List ℕ) → length more ≡ 0 → IsStrictlyIncreasing set → set ≡ ascending nat_lt (more ++ set)
none_more more set none up = sym (in_order set up) ∙ ap (λ (xs : List ℕ). ascending nat_lt (xs ++ set)) (sym (nil_from_length more none))
