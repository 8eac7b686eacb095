-- Round a vertex the boundary of a part leaves as often as it comes: each sector has one face.
use Rattle.std.proofs.Common.{◌≡◌, inl, inr, refl, sym, ap, ◌∙◌, subst, arith, ℕ, zero, suc, ◌+◌, ◌<◌, ◌≤◌, Bool, true, false, not, ◌&&◌, cond, List, [], ◌∷◌, ◌++◌, length, get_or, take, nat_lt, Contains}
use Rattle.std.specs.List.{sum_by}
use Rattle.std.proofs.lemmas.Bool.{and_parts, le-ltb, cases_lt}
use Rattle.std.proofs.lemmas.List.{take_all, length-map, get_or-map}
use Rattle.std.proofs.lemmas.List.Elements.{All-contains, Contains-append_left, Contains-append_right}
use Rattle.std.proofs.lemmas.List.Sums.{sum_by-cons, sum_by-append, sum_by_more}
use Rattle.std.proofs.lemmas.List.Sorted.{sum_by-IsPermutation}
use mathlib.Core.Logic.{∥∥₁_elim}
use native.Mathlib.Nat.{ℕ_set}
use Rattle.lists.proofs.Members.{Contains-head}
use Rattle.plane_model.specs.Points.{GridPoint, Path, same_point}
use Rattle.plane_model.specs.Arcs.{SignedArc, forward, backward}
use Rattle.plane_model.proofs.PointOrder.{same_point_from}
use Rattle.arc_table.specs.Direction.{point_at}
use Rattle.arc_table.specs.Around as around
use Rattle.arc_table.specs.Around.{start_of}
use Rattle.face_walk.specs.Places.{FaceTable, HasJoins, IsBuiltOf, face_left_of, signed_below}
use Rattle.face_walk.specs.Sectors.{arc_at, goes_on, first_in_row, next_in_row, sector_after, sectors_below, sectors}
use Rattle.link_search.specs.declared.links.ArcLink.{ArcLink}
use Rattle.face_walk.proofs.SectorLemmas.{next_on, next_off}
use Rattle.face_sets.specs.Boundary.{other_way, face_right_of}
use Rattle.ring_trace.specs.Traced.{once_if}
use Rattle.ring_trace.specs.Pairing.{stop_of}
use Rattle.face_sets.proofs.BoundaryLemmas.{back_again}
use Rattle.ring_trace.proofs.Sums.{sum_by_same}

-- ---- sums over the numbers below n

abbrev below : (ℕ → ℕ) → ℕ → ℕ
below g zero = 0
below g (suc n) = below g n + g n

below_same : (f g : ℕ → ℕ) (n : ℕ) → ((i : ℕ) → i < n → f i ≡ g i) → below f n ≡ below g n
below_same f g zero h = refl
below_same f g (suc n) h = let r = below_same f g n (λ i l. h i (omega arith)) in let e = h n (omega arith) in omega arith

below_sum : {A : Type 0} (g : A → ℕ) (d : A) (xs : List A) (n : ℕ) → n ≤ length xs → sum_by g (take n xs) ≡ below (λ i. g (get_or xs i d)) n
below_sum g d xs zero l = refl
below_sum g d xs (suc n) l =
    let more = sum_by_more g xs n d (omega arith) in
    let r = below_sum g d xs n (omega arith) in
    let e : sum_by g (take (suc n) xs) ≡ sum_by g (take (n + 1) xs) = ap (λ (k : ℕ). sum_by g (take k xs)) (let f : suc n ≡ n + 1 = omega arith in f) in
    omega arith

below_all : {A : Type 0} (g : A → ℕ) (d : A) (xs : List A) → sum_by g xs ≡ below (λ i. g (get_or xs i d)) (length xs)
below_all g d xs = sym (ap (sum_by g) (take_all (length xs) xs (omega arith))) ∙ below_sum g d xs (length xs) (omega arith)

-- ---- rows of starts

same_on : (starts : List GridPoint) (i : ℕ) → goes_on starts i ≡ true → point_at starts i ≡ point_at starts (i + 1)
same_on starts i e = same_point_from (point_at starts i) (point_at starts (i + 1)) (and_parts (nat_lt (i + 1) (length starts)) (same_point (point_at starts i) (point_at starts (i + 1))) e).1

start_first : (starts : List GridPoint) (i : ℕ) → point_at starts (first_in_row starts i) ≡ point_at starts i
start_first starts zero = refl
start_first starts (suc i) = go (goes_on starts i) refl (start_first starts i)
  where
    go : (b : Bool) → goes_on starts i ≡ b → point_at starts (first_in_row starts i) ≡ point_at starts i → point_at starts (cond b (first_in_row starts i) (suc i)) ≡ point_at starts (suc i)
    go true e h = h ∙ same_on starts i e ∙ ap (point_at starts) (let f : i + 1 ≡ suc i = omega arith in f)
    go false e h = refl

start_next : (starts : List GridPoint) (i : ℕ) → point_at starts (next_in_row starts i) ≡ point_at starts i
start_next starts i = go (goes_on starts i) refl
  where
    go : (b : Bool) → goes_on starts i ≡ b → point_at starts (next_in_row starts i) ≡ point_at starts i
    go true e = ap (point_at starts) (next_on starts i e) ∙ sym (same_on starts i e)
    go false e = ap (point_at starts) (next_off starts i e) ∙ start_first starts i

-- what has one value on both sides of each step round a row adds up to the same
module _ (starts : List GridPoint) (l r : ℕ → ℕ) (turned : (i : ℕ) → i < length starts → l i ≡ r (next_in_row starts i)) where
  rows_to : (n : ℕ) → n < length starts → below l (suc n) + r (first_in_row starts n) ≡ below r (suc n) + l n
  rows_to zero h = omega arith
  rows_to (suc n) h = go (goes_on starts n) refl (rows_to n (omega arith)) (turned n (omega arith))
    where
      go : (b : Bool) → goes_on starts n ≡ b → below l (suc n) + r (first_in_row starts n) ≡ below r (suc n) + l n → l n ≡ r (next_in_row starts n) →
          below l (suc (suc n)) + r (cond b (first_in_row starts n) (suc n)) ≡ below r (suc (suc n)) + l (suc n)
      go true e rest is =
          let f : l n ≡ r (suc n) = is ∙ ap r (next_on starts n e ∙ (let s : n + 1 ≡ suc n = omega arith in s)) in
          let a : below l (suc (suc n)) ≡ below l (suc n) + l (suc n) = refl in
          let b : below r (suc (suc n)) ≡ below r (suc n) + r (suc n) = refl in
          omega arith
      go false e rest is =
          let f : l n ≡ r (first_in_row starts n) = is ∙ ap r (next_off starts n e) in
          let a : below l (suc (suc n)) ≡ below l (suc n) + l (suc n) = refl in
          let b : below r (suc (suc n)) ≡ below r (suc n) + r (suc n) = refl in
          omega arith

  rows_all : below l (length starts) ≡ below r (length starts)
  rows_all = go (length starts) refl
    where
      last : (n : ℕ) → length starts ≡ suc n → goes_on starts n ≡ false
      last n e = ap (λ (b : Bool). b && same_point (point_at starts n) (point_at starts (n + 1))) (le-ltb (n + 1) (length starts) (omega arith))

      go : (m : ℕ) → length starts ≡ m → below l m ≡ below r m
      go zero e = refl
      go (suc n) e =
          let h = rows_to n (omega arith) in
          let f : l n ≡ r (first_in_row starts n) = turned n (omega arith) ∙ ap r (next_off starts n (last n e)) in
          omega arith

-- ---- sectors have one face

in_sectors : (starts : List GridPoint) (outs : List SignedArc) (n i : ℕ) → i < n → Contains (sectors_below starts outs n) (sector_after starts outs i)
in_sectors starts outs zero i l = absurd (omega arith)
in_sectors starts outs (suc n) i l = elim (cases_lt i n) [
  | inl less ↦ Contains-append_left (sectors_below starts outs n) (sector_after starts outs n ∷ []) (sector_after starts outs i) (in_sectors starts outs n i less)
  | inr more ↦ (let e : n ≡ i = omega arith in
      Contains-append_right (sectors_below starts outs n) (sector_after starts outs n ∷ []) (sector_after starts outs i)
      (subst (λ (k : ℕ). Contains (sector_after starts outs n ∷ []) (sector_after starts outs k)) e (Contains-head (sector_after starts outs n) [])))
]

below_below : (n : ℕ) → around.signed_below n ≡ signed_below n
below_below zero = refl
below_below (suc n) = ap (λ (xs : List SignedArc). xs ++ forward n ∷ backward n ∷ []) (below_below n)

-- arcs that start at p with a face of some kind on their left, and on their right
abbrev leaves_left : List Path → List ℕ → (ℕ → Bool) → GridPoint → SignedArc → ℕ
leaves_left arcs places kind p a = once_if (same_point p (start_of arcs a) && kind (face_left_of places a))

abbrev leaves_right : List Path → List ℕ → (ℕ → Bool) → GridPoint → SignedArc → ℕ
leaves_right arcs places kind p a = once_if (same_point p (start_of arcs a) && kind (face_right_of places a))

module _ (arcs : List Path) (links : List ArcLink) (places : List ℕ) (joins : HasJoins arcs links places) where
  as_many : length joins.starts ≡ length joins.outs
  as_many = ap (λ (xs : List GridPoint). length xs) joins.turned.starts_of ∙ length-map joins.outs (start_of arcs)

  starts_at : (i : ℕ) → i < length joins.outs → start_of arcs (arc_at joins.outs i) ≡ point_at joins.starts i
  starts_at i l = sym (ap (λ (xs : List GridPoint). point_at xs i) joins.turned.starts_of ∙ get_or-map (start_of arcs) joins.outs i (forward 0) (point_at [] 0) l)

  one_face : (i : ℕ) → i < length joins.outs → face_left_of places (arc_at joins.outs i) ≡ face_right_of places (arc_at joins.outs (next_in_row joins.starts i))
  one_face i l = All-contains (λ (s : ℕ × ℕ). get_or places s.0 0 ≡ get_or places s.1 0) (sectors joins.starts joins.outs ++ joins.rays) (sector_after joins.starts joins.outs i) joins.joined.agree
      (Contains-append_left (sectors joins.starts joins.outs) joins.rays (sector_after joins.starts joins.outs i) (in_sectors joins.starts joins.outs (length joins.outs) i l))

  module _ (kind : ℕ → Bool) (p : GridPoint) where
    over : (g : SignedArc → ℕ) → sum_by g (signed_below (length arcs)) ≡ below (λ i. g (arc_at joins.outs i)) (length joins.starts)
    over g =
        ap (sum_by g) (sym (below_below (length arcs)))
        ∙ sym (sum_by-IsPermutation g (around.signed_below (length arcs)) joins.outs joins.turned.all)
        ∙ below_all g (forward 0) joins.outs
        ∙ ap (below (λ i. g (arc_at joins.outs i))) (sym as_many)

    abbrev left_round : ℕ → ℕ
    left_round i = once_if (same_point p (point_at joins.starts i) && kind (face_left_of places (arc_at joins.outs i)))

    abbrev right_round : ℕ → ℕ
    right_round i = once_if (same_point p (point_at joins.starts i) && kind (face_right_of places (arc_at joins.outs i)))

    pub round_vertex : sum_by (leaves_left arcs places kind p) (signed_below (length arcs)) ≡ sum_by (leaves_right arcs places kind p) (signed_below (length arcs))
    round_vertex =
        over (leaves_left arcs places kind p)
        ∙ below_same (λ i. leaves_left arcs places kind p (arc_at joins.outs i)) left_round (length joins.starts)
        (λ i h. let e : i < length joins.outs = (let m = as_many in omega arith) in λ j. once_if (same_point p (starts_at i e j) && kind (face_left_of places (arc_at joins.outs i))))
        ∙ rows_all joins.starts left_round right_round
        (λ i h. let e : i < length joins.outs = (let m = as_many in omega arith) in λ j. once_if (same_point p (sym (start_next joins.starts i) j) && kind (one_face i e j)))
        ∙ sym (below_same (λ i. leaves_right arcs places kind p (arc_at joins.outs i)) right_round (length joins.starts)
        (λ i h. let e : i < length joins.outs = (let m = as_many in omega arith) in λ j. once_if (same_point p (starts_at i e j) && kind (face_right_of places (arc_at joins.outs i)))))
        ∙ sym (over (leaves_right arcs places kind p))

-- ---- sums of sums

pub sum_both : {A : Type 0} (f g : A → ℕ) (xs : List A) → sum_by (λ x. f x + g x) xs ≡ sum_by f xs + sum_by g xs
sum_both f g [] = refl
sum_both f g (x ∷ xs) =
    let a = sum_by-cons (λ (y : _). f y + g y) x xs in
    let b = sum_by-cons f x xs in
    let c = sum_by-cons g x xs in
    let r = sum_both f g xs in
    omega arith

pub sum_same : {A : Type 0} (f g : A → ℕ) (xs : List A) → ((x : A) → f x ≡ g x) → sum_by f xs ≡ sum_by g xs
sum_same f g xs h = sum_by_same f g xs (λ x c. h x)

-- each arc stands forward and reversed
turned_round : (g : SignedArc → ℕ) (n : ℕ) → sum_by g (signed_below n) ≡ sum_by (λ a. g (other_way a)) (signed_below n)
turned_round g zero = refl
turned_round g (suc n) =
    let turned : SignedArc → ℕ = λ a. g (other_way a) in
    let s = sum_by-append g (signed_below n) (forward n ∷ backward n ∷ []) in
    let t = sum_by-append turned (signed_below n) (forward n ∷ backward n ∷ []) in
    let a = sum_by-cons g (forward n) (backward n ∷ []) in
    let b = sum_by-cons g (backward n) [] in
    let c = sum_by-cons turned (forward n) (backward n ∷ []) in
    let d = sum_by-cons turned (backward n) [] in
    let r = turned_round g n in
    let e : turned (forward n) ≡ g (backward n) = refl in
    let f : turned (backward n) ≡ g (forward n) = refl in
    let z : sum_by g [] ≡ 0 = refl in
    let y : sum_by turned [] ≡ 0 = refl in
    omega arith

-- ---- in and out

parted : (w s t : Bool) → once_if (w && s) ≡ once_if (w && (s && not t)) + once_if (w && (s && t))
parted true true true = refl
parted true true false = refl
parted true false true = refl
parted true false false = refl
parted false true true = refl
parted false true false = refl
parted false false true = refl
parted false false false = refl

swapped : (w s t : Bool) → once_if (w && (s && t)) ≡ once_if (w && (t && s))
swapped w true true = refl
swapped w true false = refl
swapped w false true = refl
swapped w false false = refl

-- arcs with a face of the kind on their left and none on their right: those that start at p, and those that end there
abbrev pub starts_edge : List Path → List ℕ → (ℕ → Bool) → GridPoint → SignedArc → ℕ
starts_edge arcs places kind p a = once_if (same_point p (start_of arcs a) && (kind (face_left_of places a) && not (kind (face_right_of places a))))

abbrev pub stops_edge : List Path → List ℕ → (ℕ → Bool) → GridPoint → SignedArc → ℕ
stops_edge arcs places kind p a = once_if (same_point p (stop_of arcs a) && (kind (face_left_of places a) && not (kind (face_right_of places a))))

module _ (arcs : List Path) (places : List ℕ) (kind : ℕ → Bool) (p : GridPoint) where
  abbrev both : SignedArc → ℕ
  both a = once_if (same_point p (start_of arcs a) && (kind (face_left_of places a) && kind (face_right_of places a)))

  abbrev comes : SignedArc → ℕ
  comes a = once_if (same_point p (start_of arcs a) && (kind (face_right_of places a) && not (kind (face_left_of places a))))

  left_parted : (a : SignedArc) → leaves_left arcs places kind p a ≡ starts_edge arcs places kind p a + both a
  left_parted a = parted (same_point p (start_of arcs a)) (kind (face_left_of places a)) (kind (face_right_of places a))

  right_parted : (a : SignedArc) → leaves_right arcs places kind p a ≡ comes a + both a
  right_parted a =
      parted (same_point p (start_of arcs a)) (kind (face_right_of places a)) (kind (face_left_of places a))
      ∙ ap (λ (n : ℕ). comes a + n) (swapped (same_point p (start_of arcs a)) (kind (face_right_of places a)) (kind (face_left_of places a)))

  comes_back : (a : SignedArc) → comes (other_way a) ≡ stops_edge arcs places kind p a
  comes_back a = λ i. once_if (same_point p (stop_of arcs a) && (kind (face_left_of places (back_again a i)) && not (kind (face_right_of places a))))

  pub balanced_round : (links : List ArcLink) → HasJoins arcs links places → sum_by (starts_edge arcs places kind p) (signed_below (length arcs)) ≡ sum_by (stops_edge arcs places kind p) (signed_below (length arcs))
  balanced_round links joins =
      let all = signed_below (length arcs) in
      let l = sum_same (leaves_left arcs places kind p) (λ a. starts_edge arcs places kind p a + both a) all left_parted ∙ sum_both (starts_edge arcs places kind p) both all in
      let r = sum_same (leaves_right arcs places kind p) (λ a. comes a + both a) all right_parted ∙ sum_both comes both all in
      let m = round_vertex arcs links places joins kind p in
      let out : sum_by (starts_edge arcs places kind p) all ≡ sum_by comes all = omega arith in
      out ∙ turned_round comes (length arcs) ∙ sum_same (λ a. comes (other_way a)) (stops_edge arcs places kind p) all comes_back

pub balanced_faces : (arcs : List Path) (faces : FaceTable) (kind : ℕ → Bool) (p : GridPoint) → IsBuiltOf arcs faces →
    sum_by (starts_edge arcs faces.places kind p) (signed_below (length arcs)) ≡ sum_by (stops_edge arcs faces.places kind p) (signed_below (length arcs))
balanced_faces arcs faces kind p built = ∥∥₁_elim built.joined (ℕ_set _ _) (λ joins. balanced_round arcs faces.places kind p faces.links joins)
