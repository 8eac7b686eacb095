-- Sets found point by point, and lists of numbers turned round.
use Rattle.std.proofs.Common.{◌≡◌, refl, sym, ap, ◌∙◌, subst, arith, ℕ, ◌+◌, ◌<◌, Bool, true, nat_eq, nat_lt, List, [], ◌∷◌, ◌++◌, All, Contains, length, get_or, take, map}
use Rattle.std.specs.List.{AllZip, flat_map, list_any, range_with_len}
use Rattle.std.specs.List.Sorted.{IsStrictlyIncreasing}
use Rattle.std.proofs.lemmas.List.{flat_map_more, get_or_default, same_lists, take_more}
use Rattle.std.proofs.lemmas.List.Elements.{All-nil, All-cons, All-contains, All-push}
use Rattle.std.proofs.lemmas.List.FromFn.{length-map-range_with_len, get_or-map-range_with_len}
use Rattle.std.proofs.lemmas.List.Folds.{list_any_at, Any-from_list_any}
use Rattle.std.proofs.lemmas.Slice.Zip.{AllZip-long}
use Rattle.arc_table.proofs.Everywhere.{All-map_any}
use Rattle.bucket_grid.proofs.Numbers.{Contains-numbers_where, numbers_where_below}
use Rattle.bucket_grid.proofs.RisingNumbers.{numbers_where_rise, numbers_where_pass}
use Rattle.lists.specs.Lists.{has, ascending, numbers_where}
use Rattle.lists.proofs.Ascending.{one_ascending, ascending-IsAscending, ascending-Contains, Contains-ascending}
use Rattle.lists.proofs.Members.{Contains-flat_map, flat_map-Contains}
use Rattle.plane_model.specs.Points.{GridPoint, Path}
use Rattle.face_walk.specs.Places.{FaceTable}
use Rattle.face_sets.specs.Owners.{owners_of, AreOwners}
use Rattle.face_sets.proofs.SetLemmas.{nat_order, to_ascending}
use Rattle.table_terms.proofs.Mapped.{list_any-map}
use Rattle.spatial_join.specs.Beside.{AreBeside, AreFoundAt, lists_of}
use Rattle.spatial_join.specs.Matches.{TellsInside, says_some, AreSetsAt, AreFoundAlong, AreMatchedPoints, AreMatchedSets}
use Rattle.spatial_join.proofs.BesideLemmas.{has_one, inside_by_beside}

-- ---- one pair more

zip_push : {A B : Type 0} (R : A → B → Type 0) (xs : List A) (ys : List B) (x : A) (y : B) → AllZip R xs ys → R x y → AllZip R (xs ++ x ∷ []) (ys ++ y ∷ [])
zip_push R [] [] x y h r = (r, tt)
zip_push R [] (z ∷ ys) x y h r = absurd h
zip_push R (w ∷ xs) [] x y h r = absurd h
zip_push R (w ∷ xs) (z ∷ ys) x y h r = (h.0, zip_push R xs ys x y h.1 r)

pub zip_more : {A B : Type 0} (R : A → B → Type 0) (xs : List A) (ys : List B) (i : ℕ) (d x : A) (y : B) → i < length xs → x ≡ get_or xs i d → AllZip R (take i xs) ys → R x y → AllZip R (take (i + 1) xs) (ys ++ y ∷ [])
zip_more {A} {B} R xs ys i d x y l is h r =
    subst (λ (zs : List A). AllZip R zs (ys ++ y ∷ [])) (ap (λ (z : A). take i xs ++ z ∷ []) is ∙ sym (take_more xs i d l)) (zip_push R (take i xs) ys x y h r)

zip_all : {A B : Type 0} (R : A → B → Type 0) (P : B → Type 0) (xs : List A) (ys : List B) → AllZip R xs ys → ((x : A) (y : B) → R x y → P y) → All P ys
zip_all R P [] [] h to = All-nil P
zip_all R P [] (y ∷ ys) h to = absurd h
zip_all R P (x ∷ xs) [] h to = absurd h
zip_all R P (x ∷ xs) (y ∷ ys) h to = All-cons P y ys (to x y h.0) (zip_all R P xs ys h.1 to)

zip_map : {A B C : Type 0} (R : A → B → Type 0) (Q : A → C → Type 0) (f : B → C) (xs : List A) (ys : List B) → AllZip R xs ys → ((x : A) (y : B) → R x y → Q x (f y)) → AllZip Q xs (map f ys)
zip_map R Q f [] [] h to = tt
zip_map R Q f [] (y ∷ ys) h to = absurd h
zip_map R Q f (x ∷ xs) [] h to = absurd h
zip_map R Q f (x ∷ xs) (y ∷ ys) h to = (to x y h.0, zip_map R Q f xs ys h.1 to)

-- ---- one point more

pub along_none : (arcs : List Path) (faces : FaceTable) (owners : List (List ℕ)) → AreFoundAlong arcs faces owners [] []
along_none arcs faces owners = record { besides = []; are = tt; there = All-nil (All (λ (k : ℕ). k < faces.count)); found = refl }

pub along_more : (arcs : List Path) (faces : FaceTable) (owners : List (List ℕ)) (points : List GridPoint) (i : ℕ) (d p : GridPoint) (old new : List ℕ) → i < length points → p ≡ get_or points i d →
    AreFoundAlong arcs faces owners (take i points) old → AreFoundAt arcs faces owners p old new → AreFoundAlong arcs faces owners (take (i + 1) points) new
along_more arcs faces owners points i d p old new l is h one = record {
  besides = h.besides ++ one.beside ∷ [];
  are = zip_more (AreBeside arcs faces) points h.besides i d p one.beside l is h.are one.are;
  there = All-push (All (λ (k : ℕ). k < faces.count)) h.besides one.beside h.there one.there;
  found = one.found ∙ ap (λ (ns : List ℕ). ns ++ lists_of owners one.beside) h.found ∙ flat_map_more (lists_of owners) [] h.besides one.beside;
}

-- ---- the sets that have a face beside some point

-- the set has a face of one of the lists
abbrev has_some : List (List ℕ) → List ℕ → Bool
has_some besides set = list_any (λ (beside : List ℕ). has_one beside set) besides

module _ (sets owners : List (List ℕ)) (count : ℕ) (are : AreOwners sets count owners) (besides : List (List ℕ)) (there : All (All (λ (k : ℕ). k < count)) besides) where
  abbrev found : List ℕ
  found = flat_map (lists_of owners) besides

  -- a set that was found has a face of one of the lists
  found_has : (n : ℕ) → Contains found n → Contains (numbers_where (has_some besides) sets) n
  found_has n c =
      let (beside, among, d) = flat_map-Contains (lists_of owners) besides n c in
      let (k, next, e) = flat_map-Contains (λ (j : ℕ). get_or owners j []) beside n d in
      let below : k < count = All-contains (λ (j : ℕ). j < count) beside k (All-contains (All (λ (j : ℕ). j < count)) besides beside there among) next in
      let owned : Contains (owners_of sets k) n = subst (λ (ns : List ℕ). Contains ns n) (are.exact k below) e in
      let w = numbers_where_pass (λ (set : List ℕ). has nat_eq set k) sets n owned in
      let number = w.number in
      let same : w.place ≡ n = omega arith in
      let (i, l, at) = among in
      let (j, m, is) = next in
      let has_face : has_one beside w.item ≡ true =
      list_any_at (λ (q : ℕ). has nat_eq w.item q) beside j k m (subst (λ (q : ℕ). has nat_eq w.item q ≡ true) (sym is) w.passes) in
      let some : has_some besides w.item ≡ true =
      list_any_at (λ (ks : List ℕ). has_one ks w.item) besides i beside l (subst (λ (ks : List ℕ). has_one ks w.item ≡ true) (sym at) has_face) in
      subst (Contains (numbers_where (has_some besides) sets)) same
      (Contains-numbers_where (has_some besides) sets w.place w.item w.within (subst (λ (set : List ℕ). has_some besides set ≡ true) (sym w.is) some))

  has_found : (n : ℕ) → Contains (numbers_where (has_some besides) sets) n → Contains found n
  has_found n c =
      let w = numbers_where_pass (has_some besides) sets n c in
      let number = w.number in
      let same : w.place ≡ n = omega arith in
      let (i, beside, l, at, some) = Any-from_list_any (λ (ks : List ℕ). has_one ks w.item) besides w.passes in
      let (j, k, m, is, passes) = Any-from_list_any (λ (q : ℕ). has nat_eq w.item q) beside some in
      let below : k < count = All-contains (λ (q : ℕ). q < count) beside k (All-contains (All (λ (q : ℕ). q < count)) besides beside there (i, l, at)) (j, m, is) in
      let owned : Contains (owners_of sets k) w.place =
      Contains-numbers_where (λ (set : List ℕ). has nat_eq set k) sets w.place w.item w.within (subst (λ (set : List ℕ). has nat_eq set k ≡ true) (sym w.is) passes) in
      let in_list : Contains (get_or owners k []) n = subst (λ (ns : List ℕ). Contains ns n) (sym (are.exact k below)) (subst (Contains (owners_of sets k)) same owned) in
      Contains-flat_map (lists_of owners) besides beside n (i, l, at) (Contains-flat_map (λ (q : ℕ). get_or owners q []) beside k n (j, m, is) in_list)

  sets_found : ascending nat_lt found ≡ numbers_where (has_some besides) sets
  sets_found = one_ascending nat_lt nat_order (ascending nat_lt found) (numbers_where (has_some besides) sets)
      (ascending-IsAscending nat_lt nat_order found)
      (to_ascending (numbers_where (has_some besides) sets) (numbers_where_rise (has_some besides) sets))
      (λ n c. found_has n (ascending-Contains nat_lt nat_order found n c))
      (λ n c. Contains-ascending nat_lt nat_order found n (has_found n c))

pub sets_along : (arcs : List Path) (faces : FaceTable) (sets owners : List (List ℕ)) (points : List GridPoint) (numbers matched : List ℕ) → AreOwners sets faces.count owners →
    AreFoundAlong arcs faces owners points numbers → matched ≡ ascending nat_lt numbers → AreSetsAt arcs faces sets points matched
sets_along arcs faces sets owners points numbers matched are h is = record {
  insides = map has_one h.besides;
  tell = zip_map (AreBeside arcs faces) (TellsInside arcs faces) has_one points h.besides h.are (λ p beside there set. inside_by_beside arcs faces p set beside there);
  listed = is ∙ ap (ascending nat_lt) h.found ∙ sets_found sets owners faces.count are h.besides h.there
      ∙ (λ i. numbers_where (λ (set : List ℕ). sym (list_any-map has_one (λ (inside : List ℕ → Bool). inside set) h.besides) i) sets);
}

-- ---- matches rise, and are below the number of sets

module _ (arcs : List Path) (faces : FaceTable) (points : List Path) (sets matches : List (List ℕ)) (h : AreMatchedPoints arcs faces points sets matches) where
  pub matched_each : length matches ≡ length points
  matched_each = AllZip-long (AreSetsAt arcs faces sets) points matches h

  pub matched_rise : All IsStrictlyIncreasing matches
  matched_rise = zip_all (AreSetsAt arcs faces sets) IsStrictlyIncreasing points matches h (λ path matched one. subst IsStrictlyIncreasing (sym one.listed) (numbers_where_rise (says_some one.insides) sets))

  pub matched_below : All (All (λ (n : ℕ). n < length sets)) matches
  matched_below = zip_all (AreSetsAt arcs faces sets) (All (λ (n : ℕ). n < length sets)) points matches h
      (λ path matched one. subst (All (λ (n : ℕ). n < length sets)) (sym one.listed) (numbers_where_below (says_some one.insides) sets))

module _ (arcs : List Path) (faces : FaceTable) (points : List Path) (sets matches : List (List ℕ)) (h : AreMatchedSets arcs faces points sets matches) where
  abbrev turned : List (List ℕ)
  turned = map (owners_of h.by_points) (range_with_len 0 (length sets))

  pub turned_each : length matches ≡ length sets
  turned_each = ap length h.listed ∙ length-map-range_with_len (owners_of h.by_points) 0 (length sets)

  pub turned_rise : All IsStrictlyIncreasing matches
  turned_rise = subst (All IsStrictlyIncreasing) (sym h.listed)
      (All-map_any IsStrictlyIncreasing (owners_of h.by_points) (λ k. numbers_where_rise (λ (list : List ℕ). has nat_eq list k) h.by_points) (range_with_len 0 (length sets)))

  pub turned_below : All (All (λ (n : ℕ). n < length points)) matches
  turned_below = subst (All (All (λ (n : ℕ). n < length points))) (sym h.listed)
      (All-map_any (All (λ (n : ℕ). n < length points)) (owners_of h.by_points)
      (λ k. subst (λ (m : ℕ). All (λ (n : ℕ). n < m) (owners_of h.by_points k)) (matched_each arcs faces points sets h.by_points h.matched) (numbers_where_below (λ (list : List ℕ). has nat_eq list k) h.by_points))
      (range_with_len 0 (length sets)))

-- ---- lists turned round

-- the lists of the owners of all numbers below a count
pub all_owners : (lists places : List (List ℕ)) (count : ℕ) → AreOwners lists count places → places ≡ map (owners_of lists) (range_with_len 0 count)
all_owners lists places count h = same_lists places (map (owners_of lists) (range_with_len 0 count)) (h.each ∙ sym (length-map-range_with_len (owners_of lists) 0 count)) (λ k d l.
    let e = h.each in
    get_or_default places k d [] l ∙ h.exact k (omega arith) ∙ sym (get_or-map-range_with_len (owners_of lists) 0 count k k d (omega arith) (omega arith)))
