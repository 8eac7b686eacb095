-- Parts of a set of faces: their borders, and what separates them.
use Rattle.std.proofs.Common.{◌≡◌, ℕ, refl, sym, ap, subst, ◌∙◌, Bool, true, false, ◌&&◌, List, [], ◌∷◌}
use Rattle.std.specs.Prelude.{All, Contains, nat_eq, filter}
use Rattle.std.proofs.lemmas.Bool.{eq-eqb, eqb-true}
use Rattle.std.proofs.lemmas.List.Elements.{All-weaker, All-contains, All-contains_itself, filter_passes}
use Rattle.lists.proofs.Members.{Contains-filter}
use Rattle.plane_parity.proofs.Abscissa.{same_link-true}
use Rattle.plane_parity.proofs.Cut.{xor-false}
use Rattle.plane_parity.proofs.Telescope.{odd_count-same}
use Rattle.plane_parity.proofs.Boundary.{filter_all}
use Rattle.plane_model.specs.Points.{RationalPoint, Segment, same_segment}
use Rattle.plane_model.specs.Parity.{xor, odd_count, odd}
use Rattle.plane_model.specs.Arrangement.{IsArrangement, IsDistinct}
use Rattle.plane_model.specs.EvenList.{IsEven}
use Rattle.plane_model.specs.Sides.{odd_right}
use Rattle.plane_faces.specs.Places.{Place, outside, left_side, right_side, IsBeside, IsPlaceOf, AgreesWherePlacesMeet, border, odd_at}
use Rattle.plane_faces.specs.Labels.{IsFaceLabelling, among, IsWithin, IsConstantWithin, IsPartLabelling, in_part}
use Rattle.plane_faces.proofs.Crossing.{crossing_law}
use Rattle.plane_faces.proofs.Connected.{HasRotations, parity_at_place, border_is_even, border_parity}
use Rattle.plane_faces.proofs.FaceLaws.{among_agrees, place_beside, one_face_at}

pub passes_filter : (p : Segment → Bool) (xs : List Segment) (x : Segment) → Contains (filter p xs) x → p x ≡ true
passes_filter p xs x c = All-contains (λ y. p y ≡ true) (filter p xs) x (filter_passes p xs) c

-- a link that is not in the list is not counted
pub not_counted : (L : List Segment) (l : Segment) → (Contains L l → ⊥) → odd_count (same_segment l) L ≡ false
not_counted L l n =
    odd_count-same (same_segment l) (λ k. false) L (All-weaker (Contains L) (λ k. same_segment l k ≡ false) (λ k c. go k c (same_segment l k) refl) L (All-contains_itself L)) ∙ never L
  where
    go : (k : Segment) → Contains L k → (b : Bool) → same_segment l k ≡ b → b ≡ false
    go k c true e = absurd (n (subst (Contains L) (same_link-true l k e) c))
    go k c false e = refl

    never : (xs : List Segment) → odd_count (λ x. false) xs ≡ false
    never [] = refl
    never (x ∷ xs) = never xs

module _ (S : List Segment) (label : Place → ℕ) (F : ℕ → Bool) (part : ℕ → ℕ) where
  abbrev inside : ℕ → Place → Bool
  inside n = among label (in_part F part n)

  -- the border of a part belongs to the border of the whole
  part_of_border : IsPartLabelling S label F part → (n : ℕ) (l : Segment) → Contains S l → xor (inside n (left_side l)) (inside n (right_side l)) ≡ true → xor (among label F (left_side l)) (among label F (right_side l)) ≡ true
  part_of_border parts n l c = go (among label F (left_side l)) refl (among label F (right_side l)) refl
    where
      same : (x y : Bool) → x ≡ y → xor x y ≡ true → ⊥
      same true true e h = let i : false ≡ true = h in absurd (cc)
      same false false e h = let i : false ≡ true = h in absurd (cc)
      same true false e h = let i : true ≡ false = e in absurd (cc)
      same false true e h = let i : false ≡ true = e in absurd (cc)

      go : (x : Bool) → among label F (left_side l) ≡ x → (y : Bool) → among label F (right_side l) ≡ y
          → xor (inside n (left_side l)) (inside n (right_side l)) ≡ true → xor x y ≡ true
      go true e true f h = absurd (same (nat_eq (part (label (left_side l))) n) (nat_eq (part (label (right_side l))) n)
          (ap (λ (k : ℕ). nat_eq k n) (parts.links l c (e, f)))
          (subst (λ (b : Bool). xor b (nat_eq (part (label (right_side l))) n) ≡ true) (left_and (among label F (left_side l)) (nat_eq (part (label (left_side l))) n) e)
          (subst (λ (b : Bool). xor (inside n (left_side l)) b ≡ true) (left_and (among label F (right_side l)) (nat_eq (part (label (right_side l))) n) f) h)))
        where
          left_and : (a b : Bool) → a ≡ true → (a && b) ≡ b
          left_and true b e = refl
          left_and false b e = let i : false ≡ true = e in absurd (cc)
      go true e false f h = refl
      go false e true f h = refl
      go false e false f h = absurd (same (inside n (left_side l)) (inside n (right_side l)) (none (among label F (left_side l)) (nat_eq (part (label (left_side l))) n) e ∙ sym (none (among label F (right_side l)) (nat_eq (part (label (right_side l))) n) f)) h)
        where
          none : (a b : Bool) → a ≡ false → (a && b) ≡ false
          none true b e = let i : true ≡ false = e in absurd (cc)
          none false b e = refl

  pub part_border_within : IsPartLabelling S label F part → (n : ℕ) → All (Contains (border (among label F) S)) (border (inside n) S)
  part_border_within parts n =
      filter_all (Contains (border (among label F) S)) (λ l. xor (inside n (left_side l)) (inside n (right_side l))) S
      (All-weaker (Contains S) (λ l. xor (inside n (left_side l)) (inside n (right_side l)) ≡ true → Contains (border (among label F) S) l)
      (λ l c e. Contains-filter (λ k. xor (among label F (left_side k)) (among label F (right_side k))) S l c (part_of_border parts n l c e)) S (All-contains_itself S))

  -- an even list of links of the border has one parity on all of a part
  module _ (arr : IsArrangement S) (faces : IsFaceLabelling S label) (parts : IsPartLabelling S label F part) (L : List Segment) (within : All (Contains S) L) (bordering : All (Contains (border (among label F) S)) L) (even : IsEven L) where
    constant : IsConstantWithin S label F (odd_at L)
    constant = record {
      labels = λ a b ha hb e. one_face_at S arr label faces L within even a b ha hb e;
      links = λ l c w. crossing_law S L arr within even l c ∙ ap (xor (odd_right L l)) (not_counted L l (λ i. inner l w (All-contains (Contains (border (among label F) S)) L l bordering i))) ∙ xor-false (odd_right L l);
    }
      where
        inner : (l : Segment) → IsWithin label F l → Contains (border (among label F) S) l → ⊥
        inner l w c =
            let e : xor (among label F (left_side l)) (among label F (right_side l)) ≡ true = passes_filter (λ k. xor (among label F (left_side k)) (among label F (right_side k))) S l c in
            both (among label F (left_side l)) (among label F (right_side l)) w.0 w.1 e
          where
            both : (x y : Bool) → x ≡ true → y ≡ true → xor x y ≡ true → ⊥
            both true true e f h = let i : false ≡ true = h in absurd (cc)
            both true false e f h = let i : false ≡ true = f in absurd (cc)
            both false y e f h = let i : false ≡ true = e in absurd (cc)

    pub one_part_at : (a b : Place) → IsBeside S a → IsBeside S b → among label F a ≡ true → among label F b ≡ true → part (label a) ≡ part (label b) → odd_at L a ≡ odd_at L b
    one_part_at a b ha hb fa fb e = parts.joined (odd_at L) constant a b ha hb fa fb e

    pub one_part : (z z' : RationalPoint) (a b : Place) → IsPlaceOf S z a → IsPlaceOf S z' b → among label F a ≡ true → among label F b ≡ true → part (label a) ≡ part (label b) → odd L z ≡ odd L z'
    one_part z z' a b ha hb fa fb e =
        parity_at_place S L arr within even z a ha
        ∙ one_part_at a b (place_beside S z a ha) (place_beside S z' b hb) fa fb e
        ∙ sym (parity_at_place S L arr within even z' b hb)

pub border_in : (S : List Segment) (f : Place → Bool) → All (Contains S) (border f S)
border_in S f = filter_all (Contains S) (λ l. xor (f (left_side l)) (f (right_side l))) S (All-weaker (Contains S) (λ l. xor (f (left_side l)) (f (right_side l)) ≡ true → Contains S l) (λ l c e. c) S (All-contains_itself S))

pub part_parity : (S : List Segment) → IsArrangement S → IsDistinct S → HasRotations S → (label : Place → ℕ) → AgreesWherePlacesMeet S label → (F : ℕ → Bool) → F (label outside) ≡ false
    → (part : ℕ → ℕ) (n : ℕ) (z : RationalPoint) (a : Place) → IsPlaceOf S z a → odd (border (among label (in_part F part n)) S) z ≡ in_part F part n (label a)
part_parity S arr distinct rotations label agrees F none part n z a h =
    border_parity S arr distinct rotations (among label (in_part F part n)) (among_agrees S label agrees (in_part F part n)) (outer (F (label outside)) none) z a h
  where
    outer : (b : Bool) → b ≡ false → (b && nat_eq (part (label outside)) n) ≡ false
    outer true e = let i : true ≡ false = e in absurd (cc)
    outer false e = refl

-- two parts are told apart by the border of the first
pub different_parts : (S : List Segment) → IsArrangement S → IsDistinct S → HasRotations S → (label : Place → ℕ) → AgreesWherePlacesMeet S label → (F : ℕ → Bool) → F (label outside) ≡ false
    → (part : ℕ → ℕ) → IsPartLabelling S label F part
    → (z z' : RationalPoint) (a a' : Place) → IsPlaceOf S z a → IsPlaceOf S z' a' → among label F a ≡ true → among label F a' ≡ true → (part (label a) ≡ part (label a') → ⊥)
    → (L : List Segment) × All (Contains (border (among label F) S)) L × IsEven L × (odd L z ≡ true) × (odd L z' ≡ false)
different_parts S arr distinct rotations label agrees F none part parts z z' a a' h h' fa fa' ne = (
  border (among label (in_part F part n)) S,
  part_border_within S label F part parts n,
  border_is_even S arr distinct rotations (among label (in_part F part n)) (among_agrees S label agrees (in_part F part n)) (no (F (label outside)) (nat_eq (part (label outside)) n) none),
  part_parity S arr distinct rotations label agrees F none part n z a h ∙ yes' (F (label a)) (nat_eq (part (label a)) n) fa (eq-eqb n n refl),
  part_parity S arr distinct rotations label agrees F none part n z' a' h' ∙ other (F (label a')) (nat_eq (part (label a')) n) refl,
)
  where
    n : ℕ
    n = part (label a)

    no : (x y : Bool) → x ≡ false → (x && y) ≡ false
    no true y e = let i : true ≡ false = e in absurd (cc)
    no false y e = refl

    yes' : (x y : Bool) → x ≡ true → y ≡ true → (x && y) ≡ true
    yes' true y e f = f
    yes' false y e f = e

    other : (x y : Bool) → nat_eq (part (label a')) n ≡ y → (x && y) ≡ false
    other true true e = absurd (ne (sym (eqb-true (part (label a')) n e)))
    other true false e = refl
    other false y e = refl
