-- What tables may rely on: the next dart, the first link and the place are unique, and a table of rotations gives all
-- sectors.
use Rattle.std.proofs.Common.{◌≡◌, ◌⊎◌, inl, inr, refl, sym, ap, subst, ◌∙◌, Bool, true, false, cond, ◌&&◌, ◌||◌, List, [], ◌∷◌}
use Rattle.std.specs.Prelude.{All, Contains}
use Rattle.std.proofs.lemmas.List.Elements.{All-head, All-tail, All-weaker}
use Rattle.lists.specs.Lists.{last_of}
use Rattle.lists.proofs.Members.{Contains-nil}
use Rattle.plane_parity.proofs.Abscissa.{not_under_itself}
use Rattle.plane_parity.proofs.LinkOrder.{is_under-trans}
use Rattle.plane_model.specs.Points.{RationalPoint, GridPoint, Segment, at}
use Rattle.plane_model.specs.Parity.{is_below}
use Rattle.plane_model.specs.Arrangement.{IsArrangement}
use Rattle.plane_model.specs.Below.{is_under, IsTopmostBelow}
use Rattle.plane_model.specs.Rotation.{Dart, tail, precedes, is_passed, IsNext}
use Rattle.plane_model.proofs.PointOrder.{clash}
use Rattle.plane_faces.specs.Places.{Consecutive, Place, outside, left_of, right_side, IsPlaceOf, IsMinimum, IsFirst, AgreesAround}
use Rattle.plane_faces.specs.Around.{forward_dart, opposite, IsRotation}
use Rattle.plane_faces.proofs.Lists.{contains_cases}
use Rattle.plane_faces.proofs.Around.{rotation-here, rotation-all, rotation-consecutive, rotation-first, rotation-round}
use Rattle.plane_faces.proofs.Order.{below_over}
use Rattle.plane_faces.proofs.Corner.{precedes_total}
use Rattle.plane_faces.proofs.Sorting.{total}

-- ---- the next dart

module _ (S : List Segment) (arr : IsArrangement S) where
  -- if e comes before e', not both can be next after d
  not_both : (d e e' : Dart) → Contains S e.link → Contains S e'.link → tail e ≡ tail d → tail e' ≡ tail d → IsNext S d e → IsNext S d e' → precedes e e' ≡ true → ⊥
  not_both d e e' ce ce' te te' n n' h = go (precedes d e) refl (precedes d e') refl
    where
      passed : is_passed d e e' ≡ false
      passed = n.nothing_between e' ce' te'

      passed' : is_passed d e' e ≡ false
      passed' = n'.nothing_between e ce te

      or_right : (a b : Bool) → b ≡ true → (a || b) ≡ true
      or_right true b e = refl
      or_right false b e = e

      or_left : (a b : Bool) → a ≡ true → (a || b) ≡ true
      or_left true b e = refl
      or_left false b e = let f : false ≡ true = e in absurd (cc)

      both : (a b : Bool) → a ≡ true → b ≡ true → (a && b) ≡ true
      both true b e f = f
      both false b e f = e

      go : (x : Bool) → precedes d e ≡ x → (y : Bool) → precedes d e' ≡ y → ⊥
      go x i false j = clash (precedes d e || precedes e e') (or_right (precedes d e) (precedes e e') h)
          (subst (λ (t : Bool). cond t (precedes d e && precedes e e') (precedes d e || precedes e e') ≡ false) j passed')
      go true i true j = clash (precedes d e && precedes e e') (both (precedes d e) (precedes e e') i h)
          (subst (λ (t : Bool). cond t (precedes d e && precedes e e') (precedes d e || precedes e e') ≡ false) j passed')
      go false i true j = clash (precedes d e' || precedes e' e) (or_left (precedes d e') (precedes e' e) j)
          (subst (λ (t : Bool). cond t (precedes d e' && precedes e' e) (precedes d e' || precedes e' e) ≡ false) i passed)

  pub next_is_one : (d e e' : Dart) → Contains S e.link → Contains S e'.link → IsNext S d e → IsNext S d e' → e ≡ e'
  next_is_one d e e' ce ce' n n' = elim (total S arr (tail d) e e' (ce, n.same_tail) (ce', n'.same_tail)) [
    | inl i ↦ i
    | inr r ↦ elim r [
      | inl h ↦ absurd (not_both d e e' ce ce' n.same_tail n'.same_tail n n' h)
      | inr h ↦ absurd (not_both d e' e ce' ce n'.same_tail n.same_tail n' n h)
    ]
  ]

  -- ---- the first link, and the place of a point

  pub first_is_one : (k l : Segment) → Contains S k → Contains S l → k.start ≡ l.start → IsFirst S k → IsFirst S l → k ≡ l
  first_is_one k l ck cl s fk fl = elim (precedes_total S arr k l ck cl s) [
    | inl e ↦ e
    | inr r ↦ elim r [
      | inl h ↦ clash (precedes (forward_dart k) (forward_dart l)) h (fl k ck s)
      | inr h ↦ clash (precedes (forward_dart l) (forward_dart k)) h (fk l cl (sym s))
    ]
  ]

  topmost_is_one : (z : RationalPoint) (k l : Segment) → Contains S k → Contains S l → IsTopmostBelow S z k → IsTopmostBelow S z l → k ≡ l
  topmost_is_one z k l ck cl tk tl = elim (tk.topmost l cl tl.below) [
    | inl e ↦ sym e
    | inr h ↦ elim (tl.topmost k ck tk.below) [
      | inl e ↦ e
      | inr i ↦ clash (is_under z k k) (is_under-trans z k l k (below_over S arr z k tk.below) i h) (not_under_itself z k)
    ]
  ]

  pub place_is_one : (z : RationalPoint) (a b : Place) → IsPlaceOf S z a → IsPlaceOf S z b → a ≡ b
  place_is_one z outside outside h k = refl
  place_is_one z outside (left_of e) h k = clash (is_below z e.link) k.2.below (h e.link k.1)
  place_is_one z (left_of d) outside h k = clash (is_below z d.link) h.2.below (k d.link h.1)
  place_is_one z (left_of d) (left_of e) h k = ap left_of (go d.link d.forward h e.link e.forward k)
    where
      go : (l : Segment) (f : Bool) → (f ≡ true) × Contains S l × IsTopmostBelow S z l → (m : Segment) (g : Bool) → (g ≡ true) × Contains S m × IsTopmostBelow S z m → ◌≡◌ {A = Dart} (record { link = l; forward = f }) (record { link = m; forward = g })
      go l true h m true k = ap forward_dart (topmost_is_one z l m h.1 k.1 h.2 k.2)
      go l false h m g k = let e : false ≡ true = h.0 in absurd (cc)
      go l true h m false k = let e : false ≡ true = k.0 in absurd (cc)

-- ---- sectors, by a table

module _ {A : Type 0} (S : List Segment) (arr : IsArrangement S) (f : Place → A) where
  abbrev pub After : Dart → Dart → Type 0
  After x y = Contains S y.link × IsNext S x y × (f (left_of x) ≡ f (left_of (opposite y)))

  -- each dart of a row but the last has one after it
  pub successor : (d : Dart) (ds : List Dart) → Consecutive (IsNext S) d ds → Consecutive (λ x y. f (left_of x) ≡ f (left_of (opposite y))) d ds → All (λ x. Contains S x.link) (d ∷ ds)
      → (x : Dart) → Contains (d ∷ ds) x → ((y : Dart) × After x y) ⊎ (x ≡ last_of d ds)
  successor d [] next agree here x c = elim (contains_cases d [] x c) [ inl e ↦ inr e | inr n ↦ absurd (Contains-nil x n) ]
  successor d (e ∷ ds) next agree here x c = elim (contains_cases d (e ∷ ds) x c) [
    | inl i ↦ inl (e, subst (λ (y : Dart). Contains S e.link × IsNext S y e × (f (left_of y) ≡ f (left_of (opposite e)))) (sym i) (All-head (λ y. Contains S y.link) e ds (All-tail (λ y. Contains S y.link) d (e ∷ ds) here), next.0, agree.0))
    | inr k ↦ successor e ds next.1 agree.1 (All-tail (λ y. Contains S y.link) d (e ∷ ds) here) x k
  ]

  pub sectors_of_table : ((p : GridPoint) → (ds : List Dart) × IsRotation S p ds × AgreesAround f ds) → (d e : Dart) → Contains S d.link → Contains S e.link → IsNext S d e → f (left_of d) ≡ f (left_of (opposite e))
  sectors_of_table table d e cd ce next = go (table (tail d)).0 (table (tail d)).1 (table (tail d)).2
    where
      same : (y : Dart) → After d y → f (left_of d) ≡ f (left_of (opposite e))
      same y h = h.2 ∙ ap (λ (x : Dart). f (left_of (opposite x))) (next_is_one S arr d y e h.0 ce h.1 next)

      go : (ds : List Dart) → IsRotation S (tail d) ds → AgreesAround f ds → f (left_of d) ≡ f (left_of (opposite e))
      go [] r a = absurd (Contains-nil d (rotation-all S (tail d) [] r d (cd, refl)))
      go (c ∷ ds) r a =
          let here : All (λ x. Contains S x.link) (c ∷ ds) = All-weaker (λ x. Contains S x.link × (tail x ≡ tail d)) (λ x. Contains S x.link) (λ x h. h.0) (c ∷ ds) (rotation-here S (tail d) (c ∷ ds) r) in
          elim (successor c ds (rotation-consecutive S (tail d) c ds r) a.0 here d (rotation-all S (tail d) (c ∷ ds) r d (cd, refl))) [
            | inl t ↦ same t.0 t.1
            | inr i ↦ same c (All-head (λ x. Contains S x.link) c ds here, subst (λ (x : Dart). IsNext S x c) (sym i) (rotation-round S (tail d) c ds r), ap (λ (x : Dart). f (left_of x)) i ∙ a.1)
          ]

-- ---- rays, by a table

-- where no link arrives, the first dart of the table is the first link
pub first_of_table : (S : List Segment) → IsArrangement S → (p : GridPoint) (d : Dart) (ds : List Dart) → IsRotation S p (d ∷ ds) → IsMinimum S p → (d.forward ≡ true) × IsFirst S d.link
first_of_table S arr p d ds r least = go d.link d.forward (All-head (λ x. Contains S x.link × (tail x ≡ p)) d ds (rotation-here S p (d ∷ ds) r)) (rotation-first S p d ds r)
  where
    go : (k : Segment) (f : Bool) → Contains S k × (tail (record { link = k; forward = f }) ≡ p) → ((e : Dart) → Contains S e.link × (tail e ≡ p) → precedes e (record { link = k; forward = f }) ≡ false) → (f ≡ true) × IsFirst S k
    go k true h first = (refl, λ j cj s. first (forward_dart j) (cj, s ∙ h.1))
    go k false h first = absurd (least k h.0 h.1)

pub rays_of_table : {A : Type 0} (S : List Segment) → IsArrangement S → (f : Place → A)
    → ((p : GridPoint) → IsMinimum S p → (k : Segment) → Contains S k → k.start ≡ p → (j : Segment) × Contains S j × (j.start ≡ p) × IsFirst S j × ((a : Place) × IsPlaceOf S (at p) a × (f (right_side j) ≡ f a)))
    → (l : Segment) → Contains S l → IsMinimum S l.start → IsFirst S l → (a : Place) → IsPlaceOf S (at l.start) a → f (right_side l) ≡ f a
rays_of_table S arr f table l cl least first a h =
    let t = table l.start least l cl refl in
    ap (λ (k : Segment). f (right_side k)) (sym (first_is_one S arr t.0 l t.1 cl t.2 t.3 first)) ∙ t.4.2 ∙ ap f (place_is_one S arr (at l.start) t.4.0 a t.4.1 h)
