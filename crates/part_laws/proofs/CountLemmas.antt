-- How often darts are in lists.
use Rattle.std.proofs.Common.{◌≡◌, inl, inr, refl, sym, ap, ◌∙◌, subst, arith, ℕ, zero, suc, ◌+◌, ◌<◌, Bool, true, false, not, ◌&&◌, cond, List, [], ◌∷◌, ◌++◌, map, length, get_or, reverse, All, Contains, append_assoc}
use Rattle.std.specs.List.{sum_by, count_by, flat_map}
use Rattle.std.specs.List.Sorted.{IsPermutation}
use Rattle.std.proofs.lemmas.Bool.{cases_Bool, false_from_ne_true}
use Rattle.std.proofs.lemmas.List.{reverse-append, get_or_default}
use Rattle.std.proofs.lemmas.List.Sums.{sum_by-cons, sum_by-append}
use Rattle.std.proofs.lemmas.List.Sorted.{IsPermutation-refl, IsPermutation-cons, IsPermutation-sym, IsPermutation-trans, sum_by-IsPermutation}
use Rattle.plane_snapping.proofs.LinkCount.{sum_map}
use Rattle.lists.proofs.Members.{Contains-head, Contains-later, Contains-cases, Contains-nil}
use Rattle.plane_model.specs.Points.{GridPoint, Segment, Path, same_segment}
use Rattle.plane_model.specs.Drawing.{steps}
use Rattle.plane_model.specs.Arrangement.{IsDistinct}
use Rattle.plane_model.specs.Rotation.{Dart}
use Rattle.plane_faces.specs.Around.{opposite}
use Rattle.plane_faces.specs.Rings.{dart_of_step, darts_of_path}
use Rattle.plane_faces.proofs.Tracing.{take_out}
use Rattle.ring_trace.proofs.Sums.{sum_by_none}
use Rattle.face_laws.proofs.DartLemmas.{Moves, dart_back}
use Rattle.face_laws.proofs.LabelLemmas.{same_dart, dart_from, dart_to}

-- ---- one dart

turned_test : (d e : Dart) → same_dart d (opposite e) ≡ same_dart (opposite d) e
turned_test d e = ap (λ (b : Bool). same_segment d.link e.link && b) (go d.forward e.forward)
  where
    go : (b c : Bool) → cond b (not c) (not (not c)) ≡ cond (not b) c (not c)
    go true true = refl
    go true false = refl
    go false true = refl
    go false false = refl

-- ---- sums

abbrev pub tick : Bool → ℕ
tick b = cond b 1 0

pub sum_over_flat : {X Y : Type 0} (f : Y → ℕ) (g : X → List Y) (xs : List X) → sum_by f (flat_map g xs) ≡ sum_by (λ (x : X). sum_by f (g x)) xs
sum_over_flat f g [] = refl
sum_over_flat f g (x ∷ xs) =
    let m = sum_by-append f (g x) (flat_map g xs) in
    let n = sum_by-cons (λ (y : _). sum_by f (g y)) x xs in
    let r = sum_over_flat f g xs in
    omega arith

-- of distinct links all but one add nothing
pub sum_of_one : (g : Segment → ℕ) (S : List Segment) (x : Segment) → IsDistinct S → Contains S x → ((l : Segment) → Contains S l → (l ≡ x → ⊥) → g l ≡ 0) → sum_by g S ≡ g x
sum_of_one g [] x distinct c h = Contains-nil x c
sum_of_one g (l ∷ ls) x distinct c h =
    let m = sum_by-cons g l ls in
    elim (Contains-cases l ls x c) [
      | inl e ↦
          (let r = sum_by_none g ls (λ k n. h k (Contains-later l ls k n) (λ f. distinct.0 n.0 k n.1 (n.2 ∙ f ∙ sym e))) in
          let v : g l ≡ g x = ap g e in
          omega arith)
      | inr n ↦
          (let r = sum_of_one g ls x distinct.1 n (λ k d f. h k (Contains-later l ls k d) f) in
          let z = h l (Contains-head l ls) (λ f. distinct.0 n.0 x n.1 (n.2 ∙ sym f)) in
          omega arith)
    ]

pub sum_nothing : {A : Type 0} (f : A → ℕ) (d : A) (xs : List A) → ((i : ℕ) → i < length xs → f (get_or xs i d) ≡ 0) → sum_by f xs ≡ 0
sum_nothing f d xs none = sum_by_none f xs (λ x c. ap f (sym c.2 ∙ get_or_default xs c.0 x d c.1) ∙ none c.0 c.1)

-- one element alone adds
pub sum_alone : {A : Type 0} (f : A → ℕ) (d : A) (xs : List A) (j v : ℕ) → j < length xs → f (get_or xs j d) ≡ v → ((i : ℕ) → i < length xs → (i ≡ j → ⊥) → f (get_or xs i d) ≡ 0) → sum_by f xs ≡ v
sum_alone f d [] j v l one none = absurd (omega arith)
sum_alone f d (x ∷ xs) zero v l one none =
    let m = sum_by-cons f x xs in
    let r = sum_nothing f d xs (λ i k. none (suc i) (omega arith) (λ e. omega arith)) in
    omega arith
sum_alone f d (x ∷ xs) (suc j) v l one none =
    let m = sum_by-cons f x xs in
    let e = none 0 (omega arith) (λ e. omega arith) in
    let r = sum_alone f d xs j v (omega arith) one (λ i k ne. none (suc i) (omega arith) (λ e. ne (omega arith))) in
    omega arith

pub none_at : {X : Type 0} (t : X → Bool) (xs : List X) (d : X) → ((i : ℕ) → i < length xs → t (get_or xs i d) ≡ true → ⊥) → count_by t xs ≡ 0
none_at t xs d h = sum_nothing (λ (x : _). cond (t x) 1 0) d xs (λ i l. ap tick (false_from_ne_true (t (get_or xs i d)) (h i l)))

pub once_at : {X : Type 0} (t : X → Bool) (xs : List X) (j : ℕ) (d : X) → j < length xs → t (get_or xs j d) ≡ true → ((i : ℕ) → i < length xs → t (get_or xs i d) ≡ true → i ≡ j) → count_by t xs ≡ 1
once_at t xs j d l e h = sum_alone (λ (x : _). cond (t x) 1 0) d xs j 1 l (ap tick e) (λ i k ne. ap tick (false_from_ne_true (t (get_or xs i d)) (λ f. ne (h i k f))))

-- ---- lists that have each dart equally often

counted_there : (d : Dart) (xs : List Dart) → 0 < count_by (same_dart d) xs → Contains xs d
counted_there d [] l = absurd (omega arith)
counted_there d (x ∷ xs) l = elim (cases_Bool (same_dart d x)) [
  | inl e ↦ subst (λ (y : Dart). Contains (x ∷ xs) y) (sym (dart_from d x e)) (Contains-head x xs)
  | inr e ↦
      (let m = sum_by-cons (λ (y : Dart). cond (same_dart d y) 1 0) x xs in
      let f : tick (same_dart d x) ≡ 0 = ap tick e in
      Contains-later x xs d (counted_there d xs (omega arith)))
]

head_there : (x : Dart) (xs : List Dart) → 0 < count_by (same_dart x) (x ∷ xs)
head_there x xs =
    let m = sum_by-cons (λ (y : Dart). cond (same_dart x y) 1 0) x xs in
    let f : tick (same_dart x x) ≡ 1 = ap tick (dart_to x) in
    omega arith

pub permuted : (xs ys : List Dart) → ((d : Dart) → count_by (same_dart d) xs ≡ count_by (same_dart d) ys) → IsPermutation xs ys
permuted [] [] h = IsPermutation-refl []
permuted [] (y ∷ ys) h = absurd (let e = h y in let l = head_there y ys in omega arith)
permuted (x ∷ xs) ys h =
    let there : Contains ys x = counted_there x ys (let e = h x in let l = head_there x xs in omega arith) in
    let (rest, moved) = take_out ys x there in
    let smaller : IsPermutation xs rest = permuted xs rest (λ d.
    let e = h d in
    let m = sum_by-cons (λ (y : Dart). cond (same_dart d y) 1 0) x xs in
    let n = sum_by-cons (λ (y : Dart). cond (same_dart d y) 1 0) x rest in
    let p = sum_by-IsPermutation (λ (y : Dart). cond (same_dart d y) 1 0) ys (x ∷ rest) moved in
    omega arith) in
    IsPermutation-trans (x ∷ xs) (x ∷ rest) ys (IsPermutation-cons x xs rest smaller) (IsPermutation-sym ys (x ∷ rest) moved)

-- ---- steps of joined paths, and of a path the other way round

pub steps_joined : (xs : Path) (y : GridPoint) (ys : Path) → steps (xs ++ (y ∷ ys)) ≡ steps (xs ++ y ∷ []) ++ steps (y ∷ ys)
steps_joined [] y ys = refl
steps_joined (x ∷ []) y ys = refl
steps_joined (x ∷ z ∷ xs) y ys = ap (λ (ss : List Segment). record { start = x; stop = z } ∷ ss) (steps_joined (z ∷ xs) y ys)

abbrev pub dart_count : Dart → Path → ℕ
dart_count d path = count_by (same_dart d) (darts_of_path path)

count_split : (d : Dart) (xs ys : List Segment) → count_by (same_dart d) (map dart_of_step (xs ++ ys)) ≡ count_by (same_dart d) (map dart_of_step xs) + count_by (same_dart d) (map dart_of_step ys)
count_split d xs ys =
    let f : Dart → ℕ = λ e. cond (same_dart d e) 1 0 in
    let all = sum_map dart_of_step f (xs ++ ys) in
    let one = sum_map dart_of_step f xs in
    let two = sum_map dart_of_step f ys in
    let both = sum_by-append (λ (s : Segment). f (dart_of_step s)) xs ys in
    omega arith

pub count_back : (d : Dart) (path : Path) → All Moves (steps path) → dart_count d (reverse path) ≡ dart_count (opposite d) path
count_back d [] moves = refl
count_back d (p ∷ []) moves = refl
count_back d (p ∷ q ∷ rest) moves =
    let s : Segment = record { start = p; stop = q } in
    let back : Segment = record { start = q; stop = p } in
    let turned : reverse (q ∷ rest) ≡ reverse rest ++ q ∷ [] = reverse-append (q ∷ []) rest in
    let split : steps (reverse (p ∷ q ∷ rest)) ≡ steps (reverse rest ++ q ∷ []) ++ back ∷ [] =
    ap steps (reverse-append (p ∷ []) (q ∷ rest) ∙ ap (λ (xs : Path). xs ++ p ∷ []) turned ∙ append_assoc (reverse rest) (q ∷ []) (p ∷ [])) ∙ steps_joined (reverse rest) q (p ∷ []) in
    let first : dart_count d (reverse (p ∷ q ∷ rest)) ≡ dart_count d (reverse (q ∷ rest)) + count_by (same_dart d) (dart_of_step back ∷ []) =
    ap (λ (ss : List Segment). count_by (same_dart d) (map dart_of_step ss)) split ∙ count_split d (steps (reverse rest ++ q ∷ [])) (back ∷ [])
    ∙ ap (λ (xs : Path). dart_count d xs + count_by (same_dart d) (dart_of_step back ∷ [])) (sym turned) in
    let r : dart_count d (reverse (q ∷ rest)) ≡ dart_count (opposite d) (q ∷ rest) = count_back d (q ∷ rest) (λ k e l. moves (suc k) e (omega arith)) in
    let last : count_by (same_dart d) (dart_of_step back ∷ []) ≡ tick (same_dart (opposite d) (dart_of_step s)) =
    sum_by-cons (λ (e : Dart). cond (same_dart d e) 1 0) (dart_of_step back) []
    ∙ (let z : tick (same_dart d (dart_of_step back)) + 0 ≡ tick (same_dart d (dart_of_step back)) = omega arith in z)
    ∙ ap (λ (e : Dart). tick (same_dart d e)) (dart_back s (moves 0 s (omega arith)))
    ∙ ap tick (turned_test d (dart_of_step s)) in
    let head : dart_count (opposite d) (p ∷ q ∷ rest) ≡ tick (same_dart (opposite d) (dart_of_step s)) + dart_count (opposite d) (q ∷ rest) =
    sum_by-cons (λ (e : Dart). cond (same_dart (opposite d) e) 1 0) (dart_of_step s) (map dart_of_step (steps (q ∷ rest))) in
    omega arith
