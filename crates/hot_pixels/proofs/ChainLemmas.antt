-- The points that a segment meets, in the order of their keys, are its chain.
use Rattle.std.proofs.Common.{◌≡◌, ◌≢◌, inl, inr, refl, sym, ap, ◌∙◌, subst, arith, ℕ, zero, suc, ◌+◌, ◌-◌, ◌<◌, ◌≤◌, Bool, true, false, not, cond, List, [], ◌∷◌, length, get_or, take, drop, filter, Contains, AllPairs, IsTrue, Ordering, int_cmp, ℤ, ◌<ℤ◌, ◌≤ℤ◌}
use Rattle.std.specs.List.{count_by}
use Rattle.std.specs.List.Sorted.{IsPermutation, IsSortedByKey}
use Rattle.std.specs.Ordering.{is_lt, MatchOrdering}
use Rattle.std.specs.declared.cmp.Ordering.TheVariants.{Less, Equal, Greater}
use Rattle.std.proofs.lemmas.Cmp.{int_cmp_total, int_ranked}
use Rattle.std.proofs.lemmas.Bool.{cases_lt}
use Rattle.std.proofs.lemmas.List.{get_or_default, take_all}
use Rattle.std.proofs.lemmas.List.Kept.{AllPairs-filter}
use Rattle.std.proofs.lemmas.List.Sums.{sum_by-cons, get_or-le-sum_by, length-filter}
use Rattle.std.proofs.lemmas.List.Filters.{sum_by-filter_both}
use Rattle.std.proofs.lemmas.List.Sorted.{IsPermutation-sym, Contains-permutation, sum_by-IsPermutation, sorted_far, ranks_by}
use Rattle.lists.specs.Lists.{ascending, put_in_order}
use Rattle.lists.proofs.Ascending.{IsStrictOrder, IsAscending, ascending_of_pairs, ascending-IsAscending, ascending-Contains, Contains-ascending, one_ascending, first_of_ascending}
use Rattle.lists.proofs.Members.{Contains-head, Contains-later, Contains-filter, filter-Contains}
use Rattle.plane_algebra.proofs.Order.{order, order_cases}
use Rattle.plane_algebra.proofs.Tests.{by_test}
use Rattle.plane_model.specs.Points.{GridPoint, Segment, same_point, is_before}
use Rattle.plane_model.specs.Pixel.{meets, Meets}
use Rattle.plane_model.specs.Drawing.{Drawing}
use Rattle.plane_model.specs.Hot.{hot_points, is_passed_before, order_key, chain_among, chain_of}
use Rattle.plane_model.proofs.PointOrder.{same_point_from, same_point_to, is_before-IsStrictOrder}
use Rattle.plane_snapping.proofs.Keys.{keys_agree}
use Rattle.plane_snapping.proofs.MeetsComputed.{meets_is_computed}
use Rattle.plane_snapping.proofs.Passing.{passed-IsStrictOrder, meets_start, start_is_first}
use Rattle.hot_pixels.specs.Chains.{AreHotPointsOf, DoRise}

-- ---- how often a point stands in a list

abbrev pub times : GridPoint → List GridPoint → ℕ
times g xs = count_by (same_point g) xs

abbrev pub once_if : Bool → ℕ
once_if b = cond b 1 0

pub times-cons : (g x : GridPoint) (xs : List GridPoint) → times g (x ∷ xs) ≡ once_if (same_point g x) + times g xs
times-cons g x xs = sum_by-cons (λ y. cond (same_point g y) 1 0) x xs

pub never : (g : GridPoint) (xs : List GridPoint) → ((y : GridPoint) → Contains xs y → same_point g y ≡ false) → times g xs ≡ 0
never g [] h = refl
never g (x ∷ xs) h =
    let e = times-cons g x xs in
    let f : once_if (same_point g x) ≡ 0 = ap once_if (h x (Contains-head x xs)) in
    let k = never g xs (λ y c. h y (Contains-later x xs y c)) in
    omega arith

at_most_once : (xs : List GridPoint) → IsAscending is_before xs → (g : GridPoint) → times g xs ≤ 1
at_most_once [] h g = omega arith
at_most_once (x ∷ xs) h g = by_test (same_point g x)
    (λ e.
    let c = times-cons g x xs in
    let f : once_if (same_point g x) ≡ 1 = ap once_if e in
    let k = never g xs (λ y d. by_test (same_point g y)
    (λ r. absurd (is_before-IsStrictOrder.irreflexive x (subst (λ (z : GridPoint). is_before x z ≡ true) (sym (same_point_from g y r) ∙ same_point_from g x e) (h.0 y d))))
    (λ r. r)) in
    omega arith)
    (λ e.
    let c = times-cons g x xs in
    let f : once_if (same_point g x) ≡ 0 = ap once_if e in
    let k = at_most_once xs h.1 g in
    omega arith)

at_least_once : (g : GridPoint) (xs : List GridPoint) (j : ℕ) (d : GridPoint) → j < length xs → get_or xs j d ≡ g → 1 ≤ times g xs
at_least_once g xs j d l e =
    let f = get_or-le-sum_by (λ y. cond (same_point g y) 1 0) xs j d l in
    let k : once_if (same_point g (get_or xs j d)) ≡ 1 = ap once_if (same_point_to g (get_or xs j d) (sym e)) in
    omega arith

twice : (g : GridPoint) (xs : List GridPoint) (i j : ℕ) (d : GridPoint) → i < j → j < length xs → get_or xs i d ≡ g → get_or xs j d ≡ g → 2 ≤ times g xs
twice g [] i j d l m e f = absurd (omega arith)
twice g (x ∷ xs) i zero d l m e f = absurd (omega arith)
twice g (x ∷ xs) zero (suc j) d l m e f =
    let c = times-cons g x xs in
    let k : once_if (same_point g x) ≡ 1 = ap once_if (same_point_to g x (sym e)) in
    let n = at_least_once g xs j d (omega arith) f in
    omega arith
twice g (x ∷ xs) (suc i) (suc j) d l m e f =
    let c = times-cons g x xs in
    let n = twice g xs i j d (omega arith) (omega arith) e f in
    omega arith

pub moved_times : (g : GridPoint) (xs ys : List GridPoint) → IsPermutation xs ys → times g ys ≡ times g xs
moved_times g xs ys moved = sum_by-IsPermutation (λ y. cond (same_point g y) 1 0) xs ys moved

pub kept_times : (g : GridPoint) (p : GridPoint → Bool) (xs : List GridPoint) → times g (filter p xs) ≤ times g xs
kept_times g p xs = let e = sum_by-filter_both p (λ y. not (p y)) (λ _. refl) (λ y. cond (same_point g y) 1 0) xs in omega arith

-- where no point stands twice, all places differ
all_differ : (ys : List GridPoint) → ((g : GridPoint) → times g ys ≤ 1) → AllPairs (λ g h. g ≢ h) ys
all_differ ys once i j d l m e =
    let a = once (get_or ys j d) in
    let b = twice (get_or ys j d) ys i j d l m e refl in
    absurd (omega arith)

-- ---- an ascending list of distinct points is as long as they are many

module _ (before : GridPoint → GridPoint → Bool) (strict : IsStrictOrder before) where
  abbrev placed : GridPoint → GridPoint → List GridPoint → List GridPoint → Bool → Bool → List GridPoint
  placed x y ys later one two = cond one (x ∷ y ∷ ys) (cond two (y ∷ later) (y ∷ ys))

  put-length : (x : GridPoint) (ys : List GridPoint) → (Contains ys x → ⊥) → length (put_in_order before x ys) ≡ length ys + 1
  put-length x [] n = omega arith
  put-length x (y ∷ ys) n = go (before x y) (before y x) refl refl (put-length x ys (λ c. n (Contains-later y ys x c)))
    where
      go : (one two : Bool) → before x y ≡ one → before y x ≡ two → length (put_in_order before x ys) ≡ length ys + 1 → length (placed x y ys (put_in_order before x ys) one two) ≡ length (y ∷ ys) + 1
      go true two e f k = omega arith
      go false true e f k = omega arith
      go false false e f k = absurd (n (subst (Contains (y ∷ ys)) (sym (strict.total x y e f)) (Contains-head y ys)))

  ascending-length : (xs : List GridPoint) → IsAscending is_before xs → length (ascending before xs) ≡ length xs
  ascending-length [] h = refl
  ascending-length (x ∷ xs) h =
      let e = put-length x (ascending before xs) (λ c. is_before-IsStrictOrder.irreflexive x (h.0 x (ascending-Contains before strict xs x c))) in
      let f = ascending-length xs h.1 in
      omega arith

-- ---- chains

met_ascending : (s : Segment) (points : List GridPoint) → AllPairs (λ p q. IsTrue (is_before p q)) points → IsAscending is_before (filter (meets s) points)
met_ascending s points up =
    ascending_of_pairs is_before (λ p q. IsTrue (is_before p q)) (filter (meets s) points) (AllPairs-filter (λ p q. IsTrue (is_before p q)) (meets s) points up) (λ x y c d r. r)

pub chain_length : (s : Segment) (points curved : List GridPoint) → AllPairs (λ p q. IsTrue (is_before p q)) points → IsPermutation points curved → count_by (meets s) curved ≡ length (chain_among points s)
chain_length s points curved up moved =
    sum_by-IsPermutation (λ y. cond (meets s y) 1 0) points curved moved
    ∙ sym (ascending-length (is_passed_before s) (passed-IsStrictOrder s) (filter (meets s) points) (met_ascending s points up) ∙ length-filter (meets s) points)

not_less : (a b : ℤ) → is_lt (int_cmp a b) ≡ false → b ≤ℤ a
not_less a b e = go (int_cmp a b) (int_ranked a b (int_cmp a b) refl) e
  where
    go : (o : Ordering) → MatchOrdering o (a <ℤ b) (a ≡ b) (b <ℤ a) → is_lt o ≡ false → b ≤ℤ a
    go Less h e = absurd cc
    go Equal h e = omega order
    go Greater h e = omega order

-- each of these points is one of the points that s meets, and the other way round
pub record AreMet (s : Segment) (points met : List GridPoint) : Type 0 where
  pub from : (g : GridPoint) → Contains met g → Contains points g × (meets s g ≡ true)
  pub to : (g : GridPoint) → Contains points g → meets s g ≡ true → Contains met g

module _ (s : Segment) (points met sorted : List GridPoint) (h : AreMet s points met) (moved : IsPermutation met sorted) where
  from_sorted : (g : GridPoint) → Contains sorted g → Contains points g × (meets s g ≡ true)
  from_sorted g c = h.from g (Contains-permutation sorted met g (IsPermutation-sym met sorted moved) c)

  is_met : (g : GridPoint) → Contains sorted g → Meets s g
  is_met g c = (meets_is_computed s g).0 (from_sorted g c).1

  ascending_is_chain : IsAscending (is_passed_before s) sorted → sorted ≡ chain_among points s
  ascending_is_chain up =
      one_ascending (is_passed_before s) (passed-IsStrictOrder s) sorted (chain_among points s) up (ascending-IsAscending (is_passed_before s) (passed-IsStrictOrder s) (filter (meets s) points))
      (λ g c. let m = from_sorted g c in Contains-ascending (is_passed_before s) (passed-IsStrictOrder s) (filter (meets s) points) g (Contains-filter (meets s) points g m.0 m.1))
      (λ g c. let m = filter-Contains (meets s) points g (ascending-Contains (is_passed_before s) (passed-IsStrictOrder s) (filter (meets s) points) g c) in
      Contains-permutation met sorted g moved (h.to g m.0 m.1))

  -- points with one key are one point
  one_key : (g h : GridPoint) → Meets s g → Meets s h → order_key s g ≡ order_key s h → g ≡ h
  one_key g h m n e = by_test (is_passed_before s g h)
      (λ f. let k = (keys_agree s g h m n).0 f in absurd (omega order))
      (λ f. by_test (is_passed_before s h g)
      (λ r. let k = (keys_agree s h g n m).0 r in absurd (omega order))
      (λ r. (passed-IsStrictOrder s).total g h f r))

  keys_rise : (g h : GridPoint) → Meets s g → Meets s h → g ≢ h → order_key s g ≤ℤ order_key s h → is_passed_before s g h ≡ true
  keys_rise g h m n apart l = order_cases (order_key s h) (order_key s g)
      (λ k. absurd (apart (one_key g h m n (omega order))))
      (λ k. (keys_agree s g h m n).1 k)

  -- where no point stands twice, those in the order of their keys are the chain
  pub once_is_chain : ((g : GridPoint) → times g met ≤ 1) → IsSortedByKey (order_key s) int_cmp sorted → sorted ≡ chain_among points s
  once_is_chain once in_order = ascending_is_chain
      (ascending_of_pairs (is_passed_before s) (λ g h. (order_key s g ≤ℤ order_key s h) × (g ≢ h)) sorted
      (λ i j d l m. (
        not_less (order_key s (get_or sorted j d)) (order_key s (get_or sorted i d)) (sorted_far (λ g h. is_lt (int_cmp (order_key s g) (order_key s h))) (ranks_by int_cmp_total (order_key s)) sorted in_order i j d (omega arith) m),
        all_differ sorted (λ g. let a = moved_times g met sorted moved in let b = once g in omega arith) i j d l m,
      ))
      (λ g h c k r. keys_rise g h (is_met g c) (is_met h k) r.1 r.0))

  -- and those whose keys rise
  pub rising_is_chain : DoRise s sorted → sorted ≡ chain_among points s
  rising_is_chain up = ascending_is_chain
      (ascending_of_pairs (is_passed_before s) (λ g h. order_key s g <ℤ order_key s h) sorted
      (λ i j d l m. subst (λ (k : ℕ). order_key s (get_or sorted i d) <ℤ order_key s (get_or sorted k d)) (omega arith) (far i (j - i - 1) d (omega arith)))
      (λ g h c k r. (keys_agree s g h (is_met g c) (is_met h k)).1 r))
    where
      far : (i n : ℕ) (d : GridPoint) → i + 1 + n < length sorted → order_key s (get_or sorted i d) <ℤ order_key s (get_or sorted (i + 1 + n) d)
      far i zero d l = subst (λ (k : ℕ). order_key s (get_or sorted i d) <ℤ order_key s (get_or sorted k d)) (omega arith) (up.rise i d (omega arith))
      far i (suc n) d l =
          let a = far i n d (omega arith) in
          let b = up.rise (i + 1 + n) d (omega arith) in
          let c : order_key s (get_or sorted i d) <ℤ order_key s (get_or sorted (i + 1 + n + 1) d) = omega order in
          subst (λ (k : ℕ). order_key s (get_or sorted i d) <ℤ order_key s (get_or sorted k d)) (omega arith) c

-- ---- keys that rise, pair by pair

pub record RiseTo (s : Segment) (points : List GridPoint) (k : ℕ) : Type 0 where
  pub rise : (j : ℕ) (d : GridPoint) → j + 1 < k → j + 1 < length points → order_key s (get_or points j d) <ℤ order_key s (get_or points (j + 1) d)

module _ (s : Segment) (points : List GridPoint) where
  pub rise_begins : RiseTo s points 1
  rise_begins = record { rise = λ j d l m. absurd (omega arith) }

  pub rise_goes_on : (k : ℕ) (p q : GridPoint) → 1 ≤ k → k < length points → p ≡ get_or points (k - 1) p → q ≡ get_or points k q → order_key s p <ℤ order_key s q → RiseTo s points k → RiseTo s points (k + 1)
  rise_goes_on k p q one l p_is q_is up h = record {
    rise = λ j d a b. elim (cases_lt (j + 1) k) [
      | inl m ↦ h.rise j d m b
      | inr m ↦
          let same : j + 1 ≡ k = omega arith in
          let before : k - 1 ≡ j = omega arith in
          let e : p ≡ get_or points j d = p_is ∙ ap (λ (i : ℕ). get_or points i p) before ∙ get_or_default points j p d (omega arith) in
          let f : q ≡ get_or points (j + 1) d = q_is ∙ ap (λ (i : ℕ). get_or points i q) (sym same) ∙ get_or_default points (j + 1) q d b in
          subst (λ (x : GridPoint). order_key s x <ℤ order_key s (get_or points (j + 1) d)) e (subst (λ (x : GridPoint). order_key s p <ℤ order_key s x) f up)
    ];
  }

  pub rise_ends : (k : ℕ) → length points ≤ k → RiseTo s points k → DoRise s points
  rise_ends k l h = record { rise = λ j d b. h.rise j d (omega arith) b }

pub up_once : (points : List GridPoint) → AllPairs (λ p q. IsTrue (is_before p q)) points → (g : GridPoint) → times g points ≤ 1
up_once points up g = at_most_once points (ascending_of_pairs is_before (λ p q. IsTrue (is_before p q)) points up (λ x y c d r. r)) g

module _ (s : Segment) (points curved sorted : List GridPoint) (up : AllPairs (λ p q. IsTrue (is_before p q)) points) (placed_so : IsPermutation points curved) (moved : IsPermutation (filter (meets s) curved) sorted) (in_order : IsSortedByKey (order_key s) int_cmp sorted) where
  are_met : AreMet s points (filter (meets s) curved)
  are_met = record {
    from = λ g c. let m = filter-Contains (meets s) curved g c in (Contains-permutation curved points g (IsPermutation-sym points curved placed_so) m.0, m.1);
    to = λ g c m. Contains-filter (meets s) curved g (Contains-permutation points curved g placed_so c) m;
  }

  pub sorted_is_chain : sorted ≡ chain_among points s
  sorted_is_chain = once_is_chain s points (filter (meets s) curved) sorted are_met moved
      (λ g. let b = kept_times g (meets s) curved in let c = moved_times g points curved placed_so in let d = up_once points up g in omega arith)
      in_order

-- ---- the chains of a drawing are those of its hot points, ascending

pub chain_is_drawn : (d : Drawing) (s : Segment) (points : List GridPoint) → AreHotPointsOf d points → chain_among points s ≡ chain_of d s
chain_is_drawn d s points e =
    ap (λ (hots : List GridPoint). chain_among hots s) e
    ∙ one_ascending (is_passed_before s) strict (chain_among sorted s) (chain_of d s) (ascending-IsAscending (is_passed_before s) strict (filter (meets s) sorted)) (ascending-IsAscending (is_passed_before s) strict (filter (meets s) hot))
    (λ g c. let m = filter-Contains (meets s) sorted g (ascending-Contains (is_passed_before s) strict (filter (meets s) sorted) g c) in
    Contains-ascending (is_passed_before s) strict (filter (meets s) hot) g (Contains-filter (meets s) hot g (ascending-Contains is_before is_before-IsStrictOrder hot g m.0) m.1))
    (λ g c. let m = filter-Contains (meets s) hot g (ascending-Contains (is_passed_before s) strict (filter (meets s) hot) g c) in
    Contains-ascending (is_passed_before s) strict (filter (meets s) sorted) g (Contains-filter (meets s) sorted g (Contains-ascending is_before is_before-IsStrictOrder hot g m.0) m.1))
  where
    strict : IsStrictOrder (is_passed_before s)
    strict = passed-IsStrictOrder s

    hot : List GridPoint
    hot = hot_points d

    sorted : List GridPoint
    sorted = ascending is_before (hot_points d)

-- ---- the points after the first

pub none_after_first : (points : List GridPoint) → length points ≡ 0 → points ≡ drop 1 points
none_after_first [] e = refl
none_after_first (p ∷ rest) e = absurd (omega arith)

pub all_after_first : (points : List GridPoint) → take (length points - 1) (drop 1 points) ≡ drop 1 points
all_after_first [] = refl
all_after_first (p ∷ rest) = take_all (length (p ∷ rest) - 1) rest (omega arith)

-- a chain begins where its segment starts
pub chain_begins : (points : List GridPoint) (s : Segment) → Contains points s.start → s.start ∷ drop 1 (chain_among points s) ≡ chain_among points s
chain_begins points s from =
    let strict = passed-IsStrictOrder s in
    let met : List GridPoint = filter (meets s) points in
    let starts = Contains-ascending (is_passed_before s) strict met s.start (Contains-filter (meets s) points s.start from ((meets_is_computed s s.start).1 (meets_start s))) in
    let f = first_of_ascending (is_passed_before s) (chain_among points s) s.start (ascending-IsAscending (is_passed_before s) strict met) starts
    (λ g c. start_is_first s g ((meets_is_computed s g).0 (filter-Contains (meets s) points g (ascending-Contains (is_passed_before s) strict met g c)).1)) in
    ap (λ (xs : List GridPoint). s.start ∷ drop 1 xs) f.1 ∙ sym f.1
