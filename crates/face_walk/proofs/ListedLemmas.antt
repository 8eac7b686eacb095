-- Signed arcs beside the faces on their left: those of one face stand together, in the order of their numbers.
use Rattle.std.proofs.Common.{◌≡◌, refl, sym, ap, ◌∙◌, arith, ℕ, suc, ◌+◌, ◌-◌, ◌*◌, ◌<◌, ◌≤◌, Bool, true, false, cond, List, [], ◌∷◌, ◌++◌, All, length, get_or, map, take, drop, length-drop, append-nil}
use Rattle.std.specs.Prelude.{filter, nat_eq, nat_lt}
use Rattle.std.specs.List.Sorted.{IsNonDecreasingBy, IsPartitionPoint}
use Rattle.std.proofs.lemmas.Bool.{eqb-true, ne_eqb, ltb-true}
use Rattle.std.proofs.lemmas.List.{append_assoc, map-append, get_or-map, length-map, get_or-take, get_or-drop, length-take-le, take-append-drop}
use Rattle.std.proofs.lemmas.List.Elements.{filter-append}
use Rattle.plane_model.specs.Arcs.{SignedArc, forward, backward}
use Rattle.face_walk.specs.Places.{place_of, face_left_of, has_left, signed_below, arcs_with_left}
use Rattle.face_walk.specs.Sides.{HasLeft, AreInOrder, AreListed}
use Rattle.face_walk.specs.declared.numbering.FaceSide.{FaceSide}

-- ---- filters

pub filter_none : {X : Type 0} (p : X → Bool) (xs : List X) → All (λ (x : X). p x ≡ false) xs → filter p xs ≡ []
filter_none p [] h = refl
filter_none p (x ∷ xs) h = (λ i. cond (h 0 x (omega arith) i) (x ∷ filter p xs) (filter p xs)) ∙ filter_none p xs (λ k d l. h (suc k) d (omega arith))

filter_all : {X : Type 0} (p : X → Bool) (xs : List X) → All (λ (x : X). p x ≡ true) xs → filter p xs ≡ xs
filter_all p [] h = refl
filter_all {X} p (x ∷ xs) h = (λ i. cond (h 0 x (omega arith) i) (x ∷ filter p xs) (filter p xs)) ∙ ap (λ (ys : List X). x ∷ ys) (filter_all p xs (λ k d l. h (suc k) d (omega arith)))

pub filter_same : {X : Type 0} (p q : X → Bool) (xs : List X) → All (λ (x : X). p x ≡ q x) xs → filter p xs ≡ filter q xs
filter_same p q [] h = refl
filter_same p q (x ∷ xs) h = let rest = filter_same p q xs (λ k d l. h (suc k) d (omega arith)) in (λ i. cond (h 0 x (omega arith) i) (x ∷ rest i) (rest i))

pub filter_mapped : {X Y : Type 0} (g : X → Y) (p : Y → Bool) (xs : List X) → filter p (map g xs) ≡ map g (filter (λ (x : X). p (g x)) xs)
filter_mapped g p [] = refl
filter_mapped {X} {Y} g p (x ∷ xs) = go (p (g x)) (filter_mapped g p xs)
  where
    go : (b : Bool) → filter p (map g xs) ≡ map g (filter (λ (x : X). p (g x)) xs) →
        cond b (g x ∷ filter p (map g xs)) (filter p (map g xs)) ≡ map g (cond b (x ∷ filter (λ (x : X). p (g x)) xs) (filter (λ (x : X). p (g x)) xs))
    go true e = ap (λ (ys : List Y). g x ∷ ys) e
    go false e = e

-- ---- the run of one face

-- faces in order from `first` to before `first + count` are f, and no others are
pub record IsRunOf (faces : List ℕ) (f first count : ℕ) : Type 0 where
  pub bound : first ≤ length faces
  pub at_first : IsPartitionPoint (λ (g : ℕ). nat_lt g f ≡ true) (λ (g : ℕ). nat_lt g f ≡ false) faces first
  pub count_bound : count ≤ length (drop first faces)
  pub at_count : IsPartitionPoint (λ (g : ℕ). nat_eq g f ≡ true) (λ (g : ℕ). nat_eq g f ≡ false) (drop first faces) count

module _ (faces : List ℕ) (arcs : List SignedArc) (key : SignedArc → ℕ) (is : faces ≡ map key arcs) (f first count : ℕ) (run : IsRunOf faces f first count) where
  abbrev test : SignedArc → Bool
  test a = nat_eq (key a) f

  as_many : length faces ≡ length arcs
  as_many = ap (λ (xs : List ℕ). length xs) is ∙ length-map arcs key

  key_at : (k : ℕ) (d : SignedArc) → k < length arcs → get_or faces k 0 ≡ key (get_or arcs k d)
  key_at k d l = ap (λ (xs : List ℕ). get_or xs k 0) is ∙ get_or-map key arcs k d 0 l

  abbrev rest : List SignedArc
  rest = drop first arcs

  rest_size : length rest ≡ length (drop first faces)
  rest_size = length-drop first arcs ∙ ap (λ (n : ℕ). n - first) (sym as_many) ∙ sym (length-drop first faces)

  rest_key : (k : ℕ) (d : SignedArc) → k < length rest → key (get_or rest k d) ≡ get_or (drop first faces) k 0
  rest_key k d l =
      let size = length-drop first arcs in
      ap key (get_or-drop first arcs k d) ∙ sym (key_at (first + k) d (omega arith)) ∙ sym (get_or-drop first faces k 0)

  before : All (λ (a : SignedArc). test a ≡ false) (take first arcs)
  before k d l =
      let n = as_many in
      let size = length-take-le first arcs (omega arith) in
      let g = get_or-take first arcs k d (omega arith) in
      let e = key_at k d (omega arith) in
      let low = ltb-true (get_or faces k 0) f (run.at_first.0 k 0 (omega arith) (omega arith)) in
      (λ i. test (g i)) ∙ ne_eqb (key (get_or arcs k d)) f (λ same. omega arith)

  inside : All (λ (a : SignedArc). test a ≡ true) (take count rest)
  inside k d l =
      let n = rest_size in
      let size = length-take-le count rest (omega arith) in
      (λ i. test (get_or-take count rest k d (omega arith) i)) ∙ (λ i. nat_eq (rest_key k d (omega arith) i) f) ∙ run.at_count.0 k 0 (omega arith) (omega arith)

  pub all_of_one : All (λ (a : SignedArc). key a ≡ f) (take count rest)
  all_of_one k d l = eqb-true (key (get_or (take count rest) k d)) f (inside k d l)

  after : All (λ (a : SignedArc). test a ≡ false) (drop count rest)
  after k d l =
      let n = rest_size in
      let size = length-drop count rest in
      (λ i. test (get_or-drop count rest k d i)) ∙ (λ i. nat_eq (rest_key (count + k) d (omega arith) i) f) ∙ run.at_count.1 (count + k) 0 (omega arith) (omega arith)

  pub run_of_one : take count rest ≡ filter test arcs
  run_of_one =
      let ends : filter test rest ≡ take count rest =
      sym (ap (filter test) (take-append-drop count rest)) ∙ filter-append test (take count rest) (drop count rest)
      ∙ (λ i. filter_all test (take count rest) inside i ++ filter_none test (drop count rest) after i) ∙ append-nil (take count rest) in
      sym (sym (ap (filter test) (take-append-drop first arcs)) ∙ filter-append test (take first arcs) rest ∙ (λ i. filter_none test (take first arcs) before i ++ filter test rest) ∙ ends)

-- ---- sides, one arc after another

abbrev pub side_with : List ℕ → SignedArc → FaceSide
side_with places a = record { face = get_or places (place_of a) 0; arc = a }

is_side : (places : List ℕ) (s : FaceSide) (a : SignedArc) → HasLeft places s → s.arc ≡ a → s ≡ side_with places a
is_side places s a h e =
    let face : s.face ≡ get_or places (place_of a) 0 = h ∙ ap (λ (b : SignedArc). get_or places (place_of b) 0) e in
    λ i. record { face = face i; arc = e i }

pub sides_with_more : (places : List ℕ) (n : ℕ) (sides : List FaceSide) (s t : FaceSide) → sides ≡ map (side_with places) (signed_below n) → HasLeft places s → HasLeft places t → s.arc ≡ forward n → t.arc ≡ backward n →
    (sides ++ s ∷ []) ++ t ∷ [] ≡ map (side_with places) (signed_below (n + 1))
sides_with_more places n sides s t is sl tl e f =
    let next : suc n ≡ n + 1 = omega arith in
    append_assoc sides (s ∷ []) (t ∷ []) ∙ (λ i. is i ++ is_side places s (forward n) sl e i ∷ is_side places t (backward n) tl f i ∷ [])
    ∙ sym (map-append (side_with places) (signed_below n) (forward n ∷ backward n ∷ []))
    ∙ ap (λ (m : ℕ). map (side_with places) (signed_below m)) next

-- ---- sorted by their faces

left_mapped : (places : List ℕ) (sides : List FaceSide) → All (HasLeft places) sides → map (λ (s : FaceSide). s.face) sides ≡ map (face_left_of places) (map (λ (s : FaceSide). s.arc) sides)
left_mapped places [] h = refl
left_mapped places (s ∷ sides) h = let rest = left_mapped places sides (λ k d l. h (suc k) d (omega arith)) in λ i. h 0 s (omega arith) i ∷ rest i

arcs_back : (places : List ℕ) (arcs : List SignedArc) → map (λ (s : FaceSide). s.arc) (map (side_with places) arcs) ≡ arcs
arcs_back places [] = refl
arcs_back places (a ∷ arcs) = ap (λ (xs : List SignedArc). a ∷ xs) (arcs_back places arcs)

faces_in_order : (sides : List FaceSide) → AreInOrder sides → IsNonDecreasingBy (λ (f : ℕ). f) (map (λ (s : FaceSide). s.face) sides)
faces_in_order sides up i j d l m =
    let none : FaceSide = record { face = 0; arc = forward 0 } in
    let n = length-map sides (λ (s : FaceSide). s.face) in
    let e = get_or-map (λ (s : FaceSide). s.face) sides i none d (omega arith) in
    let f = get_or-map (λ (s : FaceSide). s.face) sides j none d (omega arith) in
    let h = up i j none l (omega arith) in
    omega arith

module _ (places : List ℕ) (n : ℕ) (old new : List FaceSide) (is : old ≡ map (side_with places) (signed_below n)) (left : All (HasLeft places) new) (of_one : (f : ℕ) → filter (λ (s : FaceSide). nat_eq s.face f) new ≡ filter (λ (s : FaceSide). nat_eq s.face f) old) where
  arcs_of_one : (f : ℕ) → filter (has_left places f) (map (λ (s : FaceSide). s.arc) new) ≡ arcs_with_left places n f
  arcs_of_one f =
      let test : FaceSide → Bool = λ s. nat_eq s.face f in
      let arc_of : FaceSide → SignedArc = λ s. s.arc in
      filter_mapped arc_of (has_left places f) new
      ∙ ap (map arc_of) (filter_same (λ (s : FaceSide). has_left places f s.arc) test new (λ k d l i. nat_eq (sym (left k d l) i) f) ∙ of_one f ∙ ap (filter test) is ∙ filter_mapped (side_with places) test (signed_below n))
      ∙ arcs_back places (arcs_with_left places n f)

  pub sides_are_listed : length places ≡ 2 * n + 1 → AreInOrder new → AreListed places (map (λ (s : FaceSide). s.face) new) (map (λ (s : FaceSide). s.arc) new)
  sides_are_listed counted up = record {
    left = left_mapped places new left;
    in_order = faces_in_order new up;
    each = λ many f e. (let same : n ≡ many = omega arith in arcs_of_one f ∙ ap (λ (m : ℕ). arcs_with_left places m f) same);
  }
