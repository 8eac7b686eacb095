-- Faces are just the classes of points that even lists do not separate.
use Rattle.std.proofs.Common.{◌≡◌, ℕ, refl, sym, ap, ◌∙◌, Bool, true, false, not, List, ne_eqb}
use Rattle.std.specs.Prelude.{All, Contains, nat_eq}
use Rattle.std.proofs.lemmas.Bool.{eq-eqb, eqb-true}
use Rattle.plane_model.specs.Points.{RationalPoint, Segment}
use Rattle.plane_model.specs.Arrangement.{IsArrangement, IsDistinct}
use Rattle.plane_model.specs.EvenList.{IsEven}
use Rattle.plane_model.specs.Parity.{odd}
use Rattle.plane_faces.specs.Places.{Place, outside, left_of, IsBeside, IsPlaceOf, AgreesWherePlacesMeet, border, odd_at}
use Rattle.plane_faces.specs.Labels.{IsFaceLabelling, among}
use Rattle.plane_faces.proofs.Connected.{HasRotations, parity_agrees, parity_at_place, border_within, border_is_even, border_parity}

-- a test on labels takes one value where places meet
pub among_agrees : (S : List Segment) (label : Place → ℕ) → AgreesWherePlacesMeet S label → (F : ℕ → Bool) → AgreesWherePlacesMeet S (among label F)
among_agrees S label p F = record {
  sector = λ d e cd ce next. ap F (p.sector d e cd ce next);
  ray = λ l cl least first a here. ap F (p.ray l cl least first a here);
}

pub place_beside : (S : List Segment) (z : RationalPoint) (a : Place) → IsPlaceOf S z a → IsBeside S a
place_beside S z outside h = tt
place_beside S z (left_of d) h = h.1

-- two labels that differ are told apart by the border of one of them
pub different_faces : (S : List Segment) → IsArrangement S → IsDistinct S → HasRotations S → (label : Place → ℕ) → AgreesWherePlacesMeet S label
    → (z z' : RationalPoint) (a a' : Place) → IsPlaceOf S z a → IsPlaceOf S z' a' → (label a ≡ label a' → ⊥)
    → (L : List Segment) × All (Contains S) L × IsEven L × (odd L z ≡ not (odd L z'))
different_faces S arr distinct rotations label agrees z z' a a' h h' ne = go (nat_eq (label outside) (label a)) refl
  where
    test : ℕ → ℕ → Bool
    test n k = nat_eq k n

    -- the border of a label that is not the outer one
    of : (n : ℕ) → nat_eq (label outside) n ≡ false → (L : List Segment) × All (Contains S) L × IsEven L × ((z : RationalPoint) (a : Place) → IsPlaceOf S z a → odd L z ≡ nat_eq (label a) n)
    of n none = (
      border (among label (test n)) S,
      border_within S arr distinct rotations (among label (test n)) (among_agrees S label agrees (test n)) none,
      border_is_even S arr distinct rotations (among label (test n)) (among_agrees S label agrees (test n)) none,
      border_parity S arr distinct rotations (among label (test n)) (among_agrees S label agrees (test n)) none,
    )

    go : (b : Bool) → nat_eq (label outside) (label a) ≡ b → (L : List Segment) × All (Contains S) L × IsEven L × (odd L z ≡ not (odd L z'))
    go false e =
        let r = of (label a) e in
        (r.0, r.1, r.2, r.3 z a h ∙ eq-eqb (label a) (label a) refl ∙ ap not (sym (r.3 z' a' h' ∙ ne_eqb (label a') (label a) (λ i. ne (sym i)))))
    go true e =
        let i : label outside ≡ label a = eqb-true (label outside) (label a) e in
        let r = of (label a') (ne_eqb (label outside) (label a') (λ j. ne (sym i ∙ j))) in
        (r.0, r.1, r.2, r.3 z a h ∙ ne_eqb (label a) (label a') ne ∙ ap not (sym (r.3 z' a' h' ∙ eq-eqb (label a') (label a') refl)))

-- an even list has one parity at all places of one label
pub one_face_at : (S : List Segment) → IsArrangement S → (label : Place → ℕ) → IsFaceLabelling S label → (L : List Segment) → All (Contains S) L → IsEven L
    → (a a' : Place) → IsBeside S a → IsBeside S a' → label a ≡ label a' → odd_at L a ≡ odd_at L a'
one_face_at S arr label labelling L within even a a' b b' e = labelling.joined a a' b b' e (odd_at L) (parity_agrees S L arr within even)

pub one_face : (S : List Segment) → IsArrangement S → (label : Place → ℕ) → IsFaceLabelling S label → (L : List Segment) → All (Contains S) L → IsEven L
    → (z z' : RationalPoint) (a a' : Place) → IsPlaceOf S z a → IsPlaceOf S z' a' → label a ≡ label a' → odd L z ≡ odd L z'
one_face S arr label labelling L within even z z' a a' h h' e =
    parity_at_place S L arr within even z a h
    ∙ one_face_at S arr label labelling L within even a a' (place_beside S z a h) (place_beside S z' a' h') e
    ∙ sym (parity_at_place S L arr within even z' a' h')

pub outer_face : (S : List Segment) → IsArrangement S → (label : Place → ℕ) → IsFaceLabelling S label → (L : List Segment) → All (Contains S) L → IsEven L
    → (z : RationalPoint) (a : Place) → IsPlaceOf S z a → label a ≡ label outside → odd L z ≡ false
outer_face S arr label labelling L within even z a h e =
    parity_at_place S L arr within even z a h ∙ one_face_at S arr label labelling L within even a outside (place_beside S z a h) tt e
