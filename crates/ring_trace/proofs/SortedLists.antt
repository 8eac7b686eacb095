-- Two sorted lists that hold each value equally often are one.
use Rattle.std.proofs.Common.{nat_eq, ◌≡◌, inl, inr, refl, sym, ap, ◌∙◌, subst, arith, ℕ, suc, ◌+◌, ◌<◌, ◌≤◌, Bool, true, false, cond, List, [], ◌∷◌, length, get_or, Contains, Ordering}
use Rattle.std.specs.List.{count_by}
use Rattle.std.specs.List.Sorted.{IsSorted}
use Rattle.std.specs.Cmp.{IsTotalOrder}
use Rattle.std.specs.Ordering.{MatchOrdering, is_lt, ordering_reverse, ordering_then, nat_cmp}
use Rattle.std.specs.declared.cmp.Ordering.TheVariants.{Less, Equal, Greater}
use Rattle.std.proofs.lemmas.Bool.{and_parts, and_from, eqb-true, eq-eqb}
use Rattle.std.proofs.lemmas.Cmp.{nat_cmp_total, on_total, then_total, ranked}
use Rattle.std.proofs.lemmas.List.MinMax.{ranks_by}
use Rattle.std.proofs.lemmas.List.Sorted.{sorted_far}
use Rattle.std.proofs.lemmas.List.Sums.{sum_by-cons}
use Rattle.lists.proofs.Members.{Contains-head, Contains-later, Contains-cases}
use Rattle.plane_model.specs.Points.{same_point}
use Rattle.plane_model.proofs.PointOrder.{same_point_from, same_point_to}
use Rattle.grid_base.specs.Order.{point_cmp}
use Rattle.grid_base.proofs.PointSearch.{point_cmp-total, equal_is}
use Rattle.ring_trace.specs.Pairing.{Corner, same_corner, corner_cmp}

abbrev pub tick : Bool → ℕ
tick b = cond b 1 0

module _ {K : Type 0} (R : K → K → Ordering) (total : IsTotalOrder R) (tied : (x y : K) → R x y ≡ Equal → x ≡ y) (eq : K → K → Bool) (itself : (x : K) → eq x x ≡ true) (same : (x y : K) → eq x y ≡ true → x ≡ y) where
  abbrev Rises : List K → Type 0
  Rises [] = Unit {0}
  Rises (x ∷ xs) = ((y : K) → Contains xs y → is_lt (R y x) ≡ false) × Rises xs

  rises_far : (xs : List K) → ((i j : ℕ) (d : K) → i ≤ j → j < length xs → is_lt (R (get_or xs j d) (get_or xs i d)) ≡ false) → Rises xs
  rises_far [] far = tt
  rises_far (x ∷ xs) far = (
    λ y c. subst (λ (z : K). is_lt (R z x) ≡ false) c.2 (far 0 (suc c.0) y (omega arith) (let l = c.1 in omega arith)),
    rises_far xs (λ i j d l m. far (suc i) (suc j) d (omega arith) (omega arith)),
  )

  rises : (xs : List K) → IsSorted R xs → Rises xs
  rises xs up = rises_far xs (λ i j d l m. sorted_far (λ (x : K) (y : K). is_lt (R x y)) (ranks_by total (λ (x : K). x)) xs up i j d l m)

  counted_in : (k : K) (xs : List K) → 0 < count_by (eq k) xs → Contains xs k
  counted_in k [] l = absurd (omega arith)
  counted_in k (x ∷ xs) l = go (eq k x) refl (counted_in k xs)
    where
      go : (b : Bool) → eq k x ≡ b → (0 < count_by (eq k) xs → Contains xs k) → Contains (x ∷ xs) k
      go true e rest = subst (λ (y : K). Contains (x ∷ xs) y) (sym (same k x e)) (Contains-head x xs)
      go false e rest =
          let c : count_by (eq k) (x ∷ xs) ≡ tick (eq k x) + count_by (eq k) xs = sum_by-cons (λ (y : K). tick (eq k y)) x xs in
          let d : tick (eq k x) ≡ 0 = ap tick e in
          Contains-later x xs k (rest (omega arith))

  head_counted : (x : K) (xs : List K) → 0 < count_by (eq x) (x ∷ xs)
  head_counted x xs =
      let c : count_by (eq x) (x ∷ xs) ≡ tick (eq x x) + count_by (eq x) xs = sum_by-cons (λ (y : K). tick (eq x y)) x xs in
      let d : tick (eq x x) ≡ 1 = ap tick (itself x) in
      omega arith

  neither : (x y : K) → is_lt (R x y) ≡ false → is_lt (R y x) ≡ false → x ≡ y
  neither x y h k = go (R x y) (R y x) refl refl (total.antisymm x y)
    where
      go : (a b : Ordering) → R x y ≡ a → R y x ≡ b → R x y ≡ ordering_reverse (R y x) → x ≡ y
      go Less b e f r = absurd (let g : true ≡ false = ap is_lt (sym e) ∙ h in cc)
      go Equal b e f r = tied x y e
      go Greater Less e f r = absurd (let g : true ≡ false = ap is_lt (sym f) ∙ k in cc)
      go Greater Equal e f r = sym (tied y x f)
      go Greater Greater e f r = absurd (let g : Greater ≡ Less = sym e ∙ r ∙ ap ordering_reverse f in cc)

  -- the heads are one
  not_before : (x y : K) (ys : List K) → Rises (y ∷ ys) → Contains (y ∷ ys) x → is_lt (R x y) ≡ false
  not_before x y ys up c = elim (Contains-cases y ys x c) [
    | inl e ↦ subst (λ (z : K). is_lt (R z y) ≡ false) e (itself_not y)
    | inr d ↦ up.0 x d
  ]
    where
      itself_not : (z : K) → is_lt (R z z) ≡ false
      itself_not z = go (R z z) refl (total.antisymm z z)
        where
          go : (a : Ordering) → R z z ≡ a → R z z ≡ ordering_reverse (R z z) → is_lt (R z z) ≡ false
          go Less e r = absurd (let g : Less ≡ Greater = sym e ∙ r ∙ ap ordering_reverse e in cc)
          go Equal e r = ap is_lt e
          go Greater e r = ap is_lt e

  rest_counted : (x y : K) (xs ys : List K) → x ≡ y → (k : K) → count_by (eq k) (x ∷ xs) ≡ count_by (eq k) (y ∷ ys) → count_by (eq k) xs ≡ count_by (eq k) ys
  rest_counted x y xs ys e k h =
      let c : count_by (eq k) (x ∷ xs) ≡ tick (eq k x) + count_by (eq k) xs = sum_by-cons (λ (z : K). tick (eq k z)) x xs in
      let d : count_by (eq k) (y ∷ ys) ≡ tick (eq k y) + count_by (eq k) ys = sum_by-cons (λ (z : K). tick (eq k z)) y ys in
      let f : tick (eq k x) ≡ tick (eq k y) = ap (λ (z : K). tick (eq k z)) e in
      omega arith

  one_list : (xs ys : List K) → Rises xs → Rises ys → ((k : K) → count_by (eq k) xs ≡ count_by (eq k) ys) → xs ≡ ys
  one_list [] [] up upper h = refl
  one_list [] (y ∷ ys) up upper h = absurd (let m = h y in let n = head_counted y ys in omega arith)
  one_list (x ∷ xs) [] up upper h = absurd (let m = h x in let n = head_counted x xs in omega arith)
  one_list (x ∷ xs) (y ∷ ys) up upper h =
      let x_in : Contains (y ∷ ys) x = counted_in x (y ∷ ys) (let m = h x in let n = head_counted x xs in omega arith) in
      let y_in : Contains (x ∷ xs) y = counted_in y (x ∷ xs) (let m = h y in let n = head_counted y ys in omega arith) in
      let e : x ≡ y = neither x y (not_before x y ys upper x_in) (not_before y x xs up y_in) in
      let rest = one_list xs ys up.1 upper.1 (λ k. rest_counted x y xs ys e k (h k)) in
      λ i. e i ∷ rest i

  pub one_sorted : (xs ys : List K) → IsSorted R xs → IsSorted R ys → ((k : K) → count_by (eq k) xs ≡ count_by (eq k) ys) → xs ≡ ys
  one_sorted xs ys up upper h = one_list xs ys (rises xs up) (rises ys upper) h

-- ---- corners

pub corner_total : IsTotalOrder corner_cmp
corner_total = then_total (on_total (λ (v : Corner). v.part) nat_cmp_total) (on_total (λ (v : Corner). v.point) point_cmp-total)

corner_is : (v w : Corner) → v.part ≡ w.part → v.point ≡ w.point → v ≡ w
corner_is v w e f = λ i. record { part = e i; point = f i }

pub tied_corner : (v w : Corner) → corner_cmp v w ≡ Equal → v ≡ w
tied_corner v w e = go (nat_cmp v.part w.part) (ranked v.part w.part (nat_cmp v.part w.part) refl) refl e
  where
    go : (o : Ordering) → MatchOrdering o (v.part < w.part) (v.part ≡ w.part) (w.part < v.part) → nat_cmp v.part w.part ≡ o → ordering_then o (point_cmp v.point w.point) ≡ Equal → v ≡ w
    go Less l f h = absurd (cc)
    go Equal l f h = corner_is v w l (equal_is v.point w.point h)
    go Greater l f h = absurd (cc)

pub corner_itself : (v : Corner) → same_corner v v ≡ true
corner_itself v = and_from _ _ (eq-eqb v.part v.part refl) (same_point_to v.point v.point refl)

pub same_corner_is : (v w : Corner) → same_corner v w ≡ true → v ≡ w
same_corner_is v w e = let p = and_parts (nat_eq v.part w.part) (same_point v.point w.point) e in corner_is v w (eqb-true v.part w.part p.0) (same_point_from v.point w.point p.1)

pub one_corners : (xs ys : List Corner) → IsSorted corner_cmp xs → IsSorted corner_cmp ys → ((v : Corner) → count_by (same_corner v) xs ≡ count_by (same_corner v) ys) → xs ≡ ys
one_corners = one_sorted corner_cmp corner_total tied_corner same_corner corner_itself same_corner_is

-- between two places that hold one corner all places hold it
pub corners_between : (xs : List Corner) → IsSorted corner_cmp xs → (i m j : ℕ) (d : Corner) → i ≤ m → m ≤ j → j < length xs → get_or xs i d ≡ get_or xs j d → get_or xs m d ≡ get_or xs i d
corners_between xs up i m j d l h k e =
    let far : (a b : ℕ) → a ≤ b → b < length xs → is_lt (corner_cmp (get_or xs b d) (get_or xs a d)) ≡ false =
    (λ a b p q. sorted_far (λ (x : Corner) (y : Corner). is_lt (corner_cmp x y)) (ranks_by corner_total (λ (x : Corner). x)) xs up a b d p q) in
    neither corner_cmp corner_total tied_corner same_corner corner_itself same_corner_is (get_or xs m d) (get_or xs i d)
    (far i m l (omega arith))
    (subst (λ (x : Corner). is_lt (corner_cmp x (get_or xs m d)) ≡ false) (sym e) (far m j h k))
