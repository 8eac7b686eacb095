-- Labels joined pair by pair: what each join does, and labellings of faces and of parts for every arrangement.
use Rattle.std.proofs.Common.{◌≡◌, inl, inr, ℕ, suc, refl, sym, ap, subst, ◌∙◌, arith, Bool, true, false, cond, ◌&&◌, List, [], ◌∷◌, ◌++◌}
use Rattle.std.specs.Prelude.{All, Contains, nat_eq}
use Rattle.std.proofs.lemmas.Bool.{eq-eqb, eqb-true, and_parts}
use Rattle.std.proofs.lemmas.List.Elements.{All-head, All-tail, All-cons, All-nil, All-append, All-weaker, All-contains_itself}
use Rattle.lists.proofs.Members.{Contains-head, Contains-later, Contains-nil}
use Rattle.plane_parity.proofs.Abscissa.{same_link-self, same_link-true}
use Rattle.plane_parity.proofs.Telescope.{same_point-true, same_point-self}
use Rattle.plane_model.specs.Points.{GridPoint, Segment, at, same_point, same_segment}
use Rattle.plane_model.specs.Arrangement.{IsArrangement, IsDistinct}
use Rattle.plane_model.specs.Rotation.{Dart, tail, precedes, IsNext}
use Rattle.plane_faces.specs.Around.{forward_dart, backward_dart, opposite, IsRotation}
use Rattle.plane_faces.specs.Places.{Consecutive, Place, outside, left_of, left_side, right_side, IsBeside, IsPlaceOf, IsMinimum, IsFirst, AgreesWherePlacesMeet}
use Rattle.plane_faces.specs.Labels.{IsFaceLabelling, among, IsWithin, IsConstantWithin, IsPartLabelling}
use Rattle.plane_faces.proofs.Lists.{contains_cases, find, all_left, all_right}
use Rattle.plane_faces.proofs.Around.{rotation-here, rotation-all, rotation-consecutive, rotation-round}
use Rattle.plane_faces.proofs.Order.{place_exists}
use Rattle.plane_faces.proofs.FaceLaws.{place_beside}
use Rattle.plane_faces.proofs.Sorting.{rotations_exist}
use Rattle.plane_faces.proofs.Tables.{next_is_one, place_is_one, successor}

-- ---- one join after another

abbrev pub Agree : {A B : Type 0} → (A → B) → List (A × A) → Type 0
Agree f pairs = All (λ p. f p.0 ≡ f p.1) pairs

-- the labels m and n made one
pub unite : ℕ → ℕ → (ℕ → ℕ) → ℕ → ℕ
unite m n g k = cond (nat_eq (g k) m) n (g k)

unite_is : (m n : ℕ) (g : ℕ → ℕ) (k : ℕ) → unite m n g k ≡ cond (nat_eq (g k) m) n (g k)
unfolding unite
unite_is m n g k = refl

unite_first : (m n : ℕ) (g : ℕ → ℕ) (k : ℕ) → g k ≡ m → unite m n g k ≡ n
unfolding unite
unite_first m n g k e = ap (λ (b : Bool). cond b n (g k)) (eq-eqb (g k) m e)

unite_second : (m n : ℕ) (g : ℕ → ℕ) (k : ℕ) → g k ≡ n → unite m n g k ≡ n
unfolding unite
unite_second m n g k e = go (nat_eq (g k) m)
  where
    go : (b : Bool) → cond b n (g k) ≡ n
    go true = refl
    go false = e

module _ {A : Type 0} (U : A → Type 0) (first : A → ℕ) (C : (A → Bool) → Type 0) (base : (f : A → Bool) → C f → (a b : A) → U a → U b → first a ≡ first b → f a ≡ f b) where
  abbrev pub IsJoining : List (A × A) → (ℕ → ℕ) → Type 0
  IsJoining pairs g = Agree (λ a. g (first a)) pairs × ((f : A → Bool) → C f → Agree f pairs → (a b : A) → U a → U b → g (first a) ≡ g (first b) → f a ≡ f b)

  pub joined_all : (pairs : List (A × A)) → All (λ p. U p.0 × U p.1) pairs → (g : ℕ → ℕ) × IsJoining pairs g
  joined_all [] within = (λ k. k, (All-nil (λ p. first p.0 ≡ first p.1), λ f c h a b ha hb e. base f c a b ha hb e))
  joined_all (p ∷ ps) within =
      let r : (g : ℕ → ℕ) × IsJoining ps g = joined_all ps (All-tail (λ q. U q.0 × U q.1) p ps within) in
      (unite (r.0 (first p.0)) (r.0 (first p.1)) r.0, step r.0 r.1)
    where
      step : (g : ℕ → ℕ) → IsJoining ps g → IsJoining (p ∷ ps) (unite (g (first p.0)) (g (first p.1)) g)
      step g j = (
        All-cons (λ q. h (first q.0) ≡ h (first q.1)) p ps
            (unite_first m n g (first p.0) refl ∙ sym (unite_second m n g (first p.1) refl))
            (All-weaker (λ q. g (first q.0) ≡ g (first q.1)) (λ q. h (first q.0) ≡ h (first q.1)) (λ q e. again (first q.0) (first q.1) e) ps j.0),
        λ f c agree a b ha hb e. both f c agree a b ha hb (nat_eq (g (first a)) m) refl (nat_eq (g (first b)) m) refl e,
      )
        where
          m : ℕ
          m = g (first p.0)

          n : ℕ
          n = g (first p.1)

          h : ℕ → ℕ
          h = unite m n g

          up : U p.0 × U p.1
          up = All-head (λ q. U q.0 × U q.1) p ps within

          again : (x y : ℕ) → g x ≡ g y → unite m n g x ≡ unite m n g y
          again x y e = unite_is m n g x ∙ ap (λ (k : ℕ). cond (nat_eq k m) n k) e ∙ sym (unite_is m n g y)

          both : (f : A → Bool) → C f → Agree f (p ∷ ps) → (a b : A) → U a → U b → (x : Bool) → nat_eq (g (first a)) m ≡ x → (y : Bool) → nat_eq (g (first b)) m ≡ y → unite m n g (first a) ≡ unite m n g (first b) → f a ≡ f b
          both f c agree a b ha hb x i y k e = go x y i k
            where
              old : (a b : A) → U a → U b → g (first a) ≡ g (first b) → f a ≡ f b
              old a b ha hb e = j.1 f c (All-tail (λ q. f q.0 ≡ f q.1) p ps agree) a b ha hb e

              here : f p.0 ≡ f p.1
              here = All-head (λ q. f q.0 ≡ f q.1) p ps agree

              new : (a : A) (x : Bool) → nat_eq (g (first a)) m ≡ x → unite m n g (first a) ≡ cond x n (g (first a))
              new a x i = unite_is m n g (first a) ∙ ap (λ (b : Bool). cond b n (g (first a))) i

              go : (x y : Bool) → nat_eq (g (first a)) m ≡ x → nat_eq (g (first b)) m ≡ y → f a ≡ f b
              go true true i k = old a b ha hb (eqb-true (g (first a)) m i ∙ sym (eqb-true (g (first b)) m k))
              go true false i k = old a p.0 ha up.0 (eqb-true (g (first a)) m i) ∙ here ∙ old p.1 b up.1 hb (sym (new a true i) ∙ e ∙ new b false k)
              go false true i k = old a p.1 ha up.1 (sym (new a false i) ∙ e ∙ new b true k) ∙ sym here ∙ old p.0 b up.0 hb (sym (eqb-true (g (first b)) m k))
              go false false i k = old a b ha hb (sym (new a false i) ∙ e ∙ new b false k)

-- ---- parts

module _ (S : List Segment) (label : Place → ℕ) (F : ℕ → Bool) where
  abbrev Pairs : List (Place × Place) → Type 0
  Pairs ps = All (λ p. IsBeside S p.0 × IsBeside S p.1) ps

  -- the links within F, as pairs of their sides
  Inner : List Segment → Type 0
  Inner xs = (ps : List (Place × Place)) × Pairs ps × ((f : Place → Bool) → IsConstantWithin S label F f → Agree f ps)
      × ((g : Place → ℕ) → Agree g ps → (l : Segment) → Contains xs l → IsWithin label F l → g (left_side l) ≡ g (right_side l))

  inner : (xs : List Segment) → All (Contains S) xs → Inner xs
  unfolding Inner
  inner [] within = ([], All-nil (λ p. IsBeside S p.0 × IsBeside S p.1), λ f c. All-nil (λ p. f p.0 ≡ f p.1), λ g a l c w. absurd (Contains-nil l c))
  inner (x ∷ xs) within = go (among label F (left_side x)) refl (among label F (right_side x)) refl (inner xs (All-tail (Contains S) x xs within))
    where
      cx : Contains S x
      cx = All-head (Contains S) x xs within

      skip : Inner xs → (IsWithin label F x → ⊥) → Inner (x ∷ xs)
      skip r no' = (r.0, r.1, r.2, λ g a l c w. elim (contains_cases x xs l c) [ inl e ↦ absurd (no' (subst (IsWithin label F) e w)) | inr k ↦ r.3 g a l k w ])

      clash : (b : Bool) → b ≡ true → b ≡ false → ⊥
      clash b e f = let h : true ≡ false = sym e ∙ f in absurd (cc)

      go : (a : Bool) → among label F (left_side x) ≡ a → (b : Bool) → among label F (right_side x) ≡ b → Inner xs → Inner (x ∷ xs)
      go true e true f r = (
        (left_side x, right_side x) ∷ r.0,
        All-cons (λ p. IsBeside S p.0 × IsBeside S p.1) (left_side x, right_side x) r.0 (cx, cx) r.1,
        λ t c. All-cons (λ p. t p.0 ≡ t p.1) (left_side x, right_side x) r.0 (c.links x cx (e, f)) (r.2 t c),
        λ g a l c w. elim (contains_cases x xs l c) [
          | inl i ↦ subst (λ (k : Segment). g (left_side k) ≡ g (right_side k)) (sym i) (All-head (λ p. g p.0 ≡ g p.1) (left_side x, right_side x) r.0 a)
          | inr k ↦ r.3 g (All-tail (λ p. g p.0 ≡ g p.1) (left_side x, right_side x) r.0 a) l k w
        ],
      )
      go false e b f r = skip r (λ w. clash (among label F (left_side x)) w.0 e)
      go true e false f r = skip r (λ w. clash (among label F (right_side x)) w.1 f)

  pub part_labelling : (part : ℕ → ℕ) × IsPartLabelling S label F part
  unfolding Inner
  part_labelling =
      let r : Inner S = inner S (All-contains_itself S) in
      let j : (g : ℕ → ℕ) × IsJoining (IsBeside S) label (IsConstantWithin S label F) (λ f c a b ha hb e. c.labels a b ha hb e) r.0 g = joined_all (IsBeside S) label (IsConstantWithin S label F) (λ f c a b ha hb e. c.labels a b ha hb e) r.0 r.1 in (
        j.0,
        record {
          links = λ l c w. r.3 (λ a. j.0 (label a)) j.1.0 l c w;
          joined = λ f c a b ha hb fa fb e. j.1.1 f c (r.2 f c) a b ha hb e;
        },
      )

-- ---- places, numbered

same_flag : Bool → Bool → Bool
same_flag true b = b
same_flag false true = false
same_flag false false = true

same_flag-true : (a b : Bool) → same_flag a b ≡ true → a ≡ b
unfolding same_flag
same_flag-true true b e = sym e
same_flag-true false true e = e
same_flag-true false false e = refl

same_flag-self : (a : Bool) → same_flag a a ≡ true
unfolding same_flag
same_flag-self true = refl
same_flag-self false = refl

same_place : Place → Place → Bool
same_place outside outside = true
same_place outside (left_of e) = false
same_place (left_of d) outside = false
same_place (left_of d) (left_of e) = same_segment d.link e.link && same_flag d.forward e.forward

same_place-true : (a b : Place) → same_place a b ≡ true → b ≡ a
unfolding same_place
same_place-true outside outside e = refl
same_place-true outside (left_of d) e = let f : false ≡ true = e in absurd (cc)
same_place-true (left_of d) outside e = let f : false ≡ true = e in absurd (cc)
same_place-true (left_of d) (left_of e) h =
    let p = and_parts (same_segment d.link e.link) (same_flag d.forward e.forward) h in
    λ i. left_of (record { link = same_link-true d.link e.link p.0 i; forward = sym (same_flag-true d.forward e.forward p.1) i })

same_place-self : (a : Place) → same_place a a ≡ true
unfolding same_place
same_place-self outside = refl
same_place-self (left_of d) = both (same_segment d.link d.link) (same_flag d.forward d.forward) (same_link-self d.link) (same_flag-self d.forward)
  where
    both : (a b : Bool) → a ≡ true → b ≡ true → (a && b) ≡ true
    both true b e f = f
    both false b e f = e

number : List Place → Place → ℕ
number [] a = 0
number (x ∷ xs) a = cond (same_place x a) 0 (suc (number xs a))

number_is_one : (xs : List Place) (a b : Place) → Contains xs a → Contains xs b → number xs a ≡ number xs b → a ≡ b
unfolding number
number_is_one [] a b ca cb e = absurd (Contains-nil a ca)
number_is_one (x ∷ xs) a b ca cb e = go (same_place x a) refl (same_place x b) refl e (λ ka kb h. number_is_one xs a b ka kb h)
  where
    deeper : (c : Place) → Contains (x ∷ xs) c → same_place x c ≡ false → Contains xs c
    deeper c h f = elim (contains_cases x xs c h) [
      | inl i ↦ absurd (clash (subst (λ (y : Place). same_place x y ≡ true) (sym i) (same_place-self x)))
      | inr k ↦ k
    ]
      where
        clash : same_place x c ≡ true → ⊥
        clash g = let h : true ≡ false = sym g ∙ f in absurd (cc)

    go : (s : Bool) → same_place x a ≡ s → (t : Bool) → same_place x b ≡ t → cond s 0 (suc (number xs a)) ≡ cond t 0 (suc (number xs b)) → (Contains xs a → Contains xs b → number xs a ≡ number xs b → a ≡ b) → a ≡ b
    go true i true j e next = same_place-true x a i ∙ sym (same_place-true x b j)
    go true i false j e next = absurd (omega (arith, e))
    go false i true j e next = absurd (omega (arith, e))
    go false i false j e next = next (deeper a ca i) (deeper b cb j) (omega (arith, e))

sides : List Segment → List Place
sides [] = []
sides (l ∷ ls) = left_side l ∷ (right_side l ∷ sides ls)

has_side : (xs : List Segment) (l : Segment) (b : Bool) → Contains xs l → Contains (sides xs) (left_of (record { link = l; forward = b }))
unfolding sides
has_side [] l b c = absurd (Contains-nil l c)
has_side (x ∷ xs) l b c = elim (contains_cases x xs l c) [
  | inl e ↦ subst (λ (k : Segment). Contains (sides (x ∷ xs)) (left_of (record { link = k; forward = b }))) (sym e) (here b)
  | inr k ↦ Contains-later (left_side x) (right_side x ∷ sides xs) (left_of (record { link = l; forward = b })) (Contains-later (right_side x) (sides xs) (left_of (record { link = l; forward = b })) (has_side xs l b k))
]
  where
    here : (b : Bool) → Contains (left_side x ∷ (right_side x ∷ sides xs)) (left_of (record { link = x; forward = b }))
    here true = Contains-head (left_side x) (right_side x ∷ sides xs)
    here false = Contains-later (left_side x) (right_side x ∷ sides xs) (right_side x) (Contains-head (right_side x) (sides xs))

has_place : (S : List Segment) (a : Place) → IsBeside S a → Contains (outside ∷ sides S) a
has_place S outside h = Contains-head outside (sides S)
has_place S (left_of d) h = Contains-later outside (sides S) (left_of d) (has_side S d.link d.forward h)

-- ---- faces

module _ (S : List Segment) (arr : IsArrangement S) (distinct : IsDistinct S) where
  agree_trivially : (d : Dart) (ds : List Dart) → Consecutive (λ x y. outside ≡ outside) d ds
  agree_trivially d [] = tt
  agree_trivially d (e ∷ ds) = (refl, agree_trivially e ds)

  next_exists : (d : Dart) → Contains S d.link → (e : Dart) × Contains S e.link × IsNext S d e
  next_exists d cd = go (rotations_exist S arr distinct (tail d)).0 (rotations_exist S arr distinct (tail d)).1
    where
      go : (ds : List Dart) → IsRotation S (tail d) ds → (e : Dart) × Contains S e.link × IsNext S d e
      go [] r = absurd (Contains-nil d (rotation-all S (tail d) [] r d (cd, refl)))
      go (c ∷ ds) r =
          let here : All (λ x. Contains S x.link) (c ∷ ds) = All-weaker (λ x. Contains S x.link × (tail x ≡ tail d)) (λ x. Contains S x.link) (λ x h. h.0) (c ∷ ds) (rotation-here S (tail d) (c ∷ ds) r) in
          elim (successor S arr (λ a. outside) c ds (rotation-consecutive S (tail d) c ds r) (agree_trivially c ds) here d (rotation-all S (tail d) (c ∷ ds) r d (cd, refl))) [
            | inl t ↦ (t.0, t.1.0, t.1.1)
            | inr i ↦ (c, All-head (λ x. Contains S x.link) c ds here, subst (λ (x : Dart). IsNext S x c) (sym i) (rotation-round S (tail d) c ds r))
          ]

  abbrev Beside : List (Place × Place) → Type 0
  Beside ps = All (λ p. IsBeside S p.0 × IsBeside S p.1) ps

  -- what the pairs have to say of the link l
  abbrev Done : (Place → ℕ) → Segment → Type 0
  Done g l = ((b : Bool) (e : Dart) → Contains S e.link → IsNext S (record { link = l; forward = b }) e → g (left_of (record { link = l; forward = b })) ≡ g (left_of (opposite e)))
      × (IsMinimum S l.start → IsFirst S l → (a : Place) → IsPlaceOf S (at l.start) a → g (right_side l) ≡ g a)

  -- the ray of a link, if it casts one
  Rays : Segment → Type 0
  Rays l = (ps : List (Place × Place)) × Beside ps × ((f : Place → Bool) → AgreesWherePlacesMeet S f → Agree f ps)
      × ((g : Place → ℕ) → Agree g ps → IsMinimum S l.start → IsFirst S l → (a : Place) → IsPlaceOf S (at l.start) a → g (right_side l) ≡ g a)

  no_ray : (l : Segment) → (IsMinimum S l.start → IsFirst S l → ⊥) → Rays l
  unfolding Rays
  no_ray l no' = ([], All-nil (λ p. IsBeside S p.0 × IsBeside S p.1), λ f p. All-nil (λ p. f p.0 ≡ f p.1), λ g a m h. absurd (no' m h))

  one_ray : (l : Segment) → Contains S l → IsMinimum S l.start → IsFirst S l → Rays l
  unfolding Rays
  one_ray l cl least first =
      let t : (a : Place) × IsPlaceOf S (at l.start) a = place_exists S arr (at l.start) in (
        (right_side l, t.0) ∷ [],
        All-cons (λ p. IsBeside S p.0 × IsBeside S p.1) (right_side l, t.0) [] (cl, place_beside S (at l.start) t.0 t.1) (All-nil (λ p. IsBeside S p.0 × IsBeside S p.1)),
        λ f p. All-cons (λ q. f q.0 ≡ f q.1) (right_side l, t.0) [] (p.ray l cl least first t.0 t.1) (All-nil (λ q. f q.0 ≡ f q.1)),
        λ g a m h b hb. All-head (λ q. g q.0 ≡ g q.1) (right_side l, t.0) [] a ∙ ap g (place_is_one S arr (at l.start) t.0 b t.1 hb),
      )

  rays : (l : Segment) → Contains S l → Rays l
  rays l cl = elim (find (λ k. same_point k.stop l.start) S) [
    | inl f ↦ no_ray l (λ m h. m f.0 f.1 (sym (same_point-true f.0.stop l.start f.2)))
    | inr none ↦ elim (find (λ k. same_point k.start l.start && precedes (forward_dart k) (forward_dart l)) S) [
      | inl f ↦ no_ray l (λ m h. let p = and_parts (same_point f.0.start l.start) (precedes (forward_dart f.0) (forward_dart l)) f.2 in clash (precedes (forward_dart f.0) (forward_dart l)) p.1 (h f.0 f.1 (sym (same_point-true f.0.start l.start p.0))))
      | inr none' ↦ one_ray l cl
          (λ k ck s. clash (same_point k.stop l.start) (subst (λ (q : GridPoint). same_point q l.start ≡ true) (sym s) (same_point-self l.start)) (none k ck))
          (λ k ck s. right_false (same_point k.start l.start) (precedes (forward_dart k) (forward_dart l)) (subst (λ (q : GridPoint). same_point q l.start ≡ true) (sym s) (same_point-self l.start)) (none' k ck))
    ]
  ]
    where
      clash : (b : Bool) → b ≡ true → b ≡ false → ⊥
      clash b e f = let h : true ≡ false = sym e ∙ f in absurd (cc)

      right_false : (a b : Bool) → a ≡ true → (a && b) ≡ false → b ≡ false
      right_false true b e f = f
      right_false false b e f = let h : false ≡ true = e in absurd (cc)

  Steps : List Segment → Type 0
  Steps xs = (ps : List (Place × Place)) × Beside ps × ((f : Place → Bool) → AgreesWherePlacesMeet S f → Agree f ps) × ((g : Place → ℕ) → Agree g ps → (l : Segment) → Contains xs l → Done g l)

  steps : (xs : List Segment) → All (Contains S) xs → Steps xs
  unfolding Steps Rays
  steps [] within = ([], All-nil (λ p. IsBeside S p.0 × IsBeside S p.1), λ f p. All-nil (λ q. f q.0 ≡ f q.1), λ g a l c. absurd (Contains-nil l c))
  steps (x ∷ xs) within = more (steps xs (All-tail (Contains S) x xs within)) (next_exists (forward_dart x) cx) (next_exists (backward_dart x) cx) (rays x cx)
    where
      cx : Contains S x
      cx = All-head (Contains S) x xs within

      more : Steps xs → (e : Dart) × Contains S e.link × IsNext S (forward_dart x) e → (e : Dart) × Contains S e.link × IsNext S (backward_dart x) e → Rays x → Steps (x ∷ xs)
      more r m n y = (
        first ∷ (second ∷ (y.0 ++ r.0)),
        All-cons Both first (second ∷ (y.0 ++ r.0)) (cx, m.1) (All-cons Both second (y.0 ++ r.0) (cx, n.1) (All-append Both y.0 r.0 y.1 r.1)),
        λ f p. All-cons (λ q. f q.0 ≡ f q.1) first (second ∷ (y.0 ++ r.0)) (p.sector (forward_dart x) m.0 cx m.1 m.2)
            (All-cons (λ q. f q.0 ≡ f q.1) second (y.0 ++ r.0) (p.sector (backward_dart x) n.0 cx n.1 n.2) (All-append (λ q. f q.0 ≡ f q.1) y.0 r.0 (y.2 f p) (r.2 f p))),
        λ g a l c.
            let tail1 : Agree g (second ∷ (y.0 ++ r.0)) = All-tail (λ q. g q.0 ≡ g q.1) first (second ∷ (y.0 ++ r.0)) a in
            let tail2 : Agree g (y.0 ++ r.0) = All-tail (λ q. g q.0 ≡ g q.1) second (y.0 ++ r.0) tail1 in
            elim (contains_cases x xs l c) [
              | inl i ↦ subst (Done g) (sym i) (
                λ b e ce next. here g b e ce next (All-head (λ q. g q.0 ≡ g q.1) first (second ∷ (y.0 ++ r.0)) a) (All-head (λ q. g q.0 ≡ g q.1) second (y.0 ++ r.0) tail1),
                y.3 g (all_left (λ q. g q.0 ≡ g q.1) y.0 r.0 tail2),
              )
              | inr k ↦ r.3 g (all_right (λ q. g q.0 ≡ g q.1) y.0 r.0 tail2) l k
            ],
      )
        where
          Both : Place × Place → Type 0
          Both p = IsBeside S p.0 × IsBeside S p.1

          first : Place × Place
          first = (left_side x, left_of (opposite m.0))

          second : Place × Place
          second = (right_side x, left_of (opposite n.0))

          here : (g : Place → ℕ) (b : Bool) (e : Dart) → Contains S e.link → IsNext S (record { link = x; forward = b }) e → g (left_side x) ≡ g (left_of (opposite m.0)) → g (right_side x) ≡ g (left_of (opposite n.0)) → g (left_of (record { link = x; forward = b })) ≡ g (left_of (opposite e))
          here g true e ce next h k = h ∙ ap (λ (d : Dart). g (left_of (opposite d))) (next_is_one S arr (forward_dart x) m.0 e m.1 ce m.2 next)
          here g false e ce next h k = k ∙ ap (λ (d : Dart). g (left_of (opposite d))) (next_is_one S arr (backward_dart x) n.0 e n.1 ce n.2 next)

  pub face_labelling : (label : Place → ℕ) × IsFaceLabelling S label
  unfolding Steps
  face_labelling =
      let r : Steps S = steps S (All-contains_itself S) in
      let base : (f : Place → Bool) → Unit {0} → (a b : Place) → IsBeside S a → IsBeside S b → number (outside ∷ sides S) a ≡ number (outside ∷ sides S) b → f a ≡ f b = λ f u a b ha hb e. ap f (number_is_one (outside ∷ sides S) a b (has_place S a ha) (has_place S b hb) e) in
      let j : (g : ℕ → ℕ) × IsJoining (IsBeside S) (number (outside ∷ sides S)) (λ f. Unit {0}) base r.0 g = joined_all (IsBeside S) (number (outside ∷ sides S)) (λ f. Unit {0}) base r.0 r.1 in
      let label : Place → ℕ = λ a. j.0 (number (outside ∷ sides S) a) in (
        label,
        record {
          agrees = record {
            sector = λ d e cd ce next. (r.3 label j.1.0 d.link cd).0 d.forward e ce next;
            ray = λ l cl least first a h. (r.3 label j.1.0 l cl).1 least first a h;
          };
          joined = λ a b ha hb e f p. j.1.1 f tt (r.2 f p) a b ha hb e;
        },
      )
