-- Sides of one arc after another, and in another order.
use Rattle.std.proofs.Common.{◌≡◌, refl, ap, ◌∙◌, arith, ℕ, ◌+◌, ◌<◌, Bool, true, false, List, [], ◌∷◌, ◌++◌, Contains, inl, inr}
use Rattle.std.specs.List.Sorted.{IsPermutation}
use Rattle.std.proofs.lemmas.Bool.{cases_lt}
use Rattle.std.proofs.lemmas.List.Elements.{All-push, All-weaker, Contains-append_left, Contains-push}
use Rattle.std.proofs.lemmas.List.Sorted.{All-permutation, Contains-permutation}
use Rattle.plane_model.specs.Arcs.{SignedArc}
use Rattle.face_walk.specs.declared.numbering.FaceSide.{FaceSide}
use Rattle.face_walk.specs.Sides.{HasLeft, AreSides}

pub sides_more : (places : List ℕ) (n : ℕ) (sides : List FaceSide) (s t : FaceSide) → AreSides places n sides → HasLeft places s → HasLeft places t → s.arc ≡ record { arc = n; is_reversed = false } → t.arc ≡ record { arc = n; is_reversed = true } →
    AreSides places (n + 1) ((sides ++ s ∷ []) ++ t ∷ [])
sides_more places n sides s t h sl tl e f =
    let es : s.arc.arc ≡ n = ap (λ (a : SignedArc). a.arc) e in
    let et : t.arc.arc ≡ n = ap (λ (a : SignedArc). a.arc) f in
    record {
      there = All-push (λ (r : FaceSide). r.arc.arc < n + 1) (sides ++ s ∷ []) t
          (All-push (λ (r : FaceSide). r.arc.arc < n + 1) sides s (All-weaker (λ (r : FaceSide). r.arc.arc < n) (λ (r : FaceSide). r.arc.arc < n + 1) (λ r l. omega arith) sides h.there) (omega arith)) (omega arith);
      left = All-push (HasLeft places) (sides ++ s ∷ []) t (All-push (HasLeft places) sides s h.left sl) tl;
      all = λ a l. elim (cases_lt a.arc n) [
        | inl less ↦ (let (r, there, is) = h.all a less in (r, Contains-append_left (sides ++ s ∷ []) (t ∷ []) r (Contains-append_left sides (s ∷ []) r there), is))
        | inr more ↦ here a (omega arith) a.is_reversed refl
      ];
    }
  where
    here : (a : SignedArc) → n ≡ a.arc → (b : Bool) → b ≡ a.is_reversed → (r : FaceSide) × Contains ((sides ++ s ∷ []) ++ t ∷ []) r × (r.arc ≡ a)
    here a same true is = (t, Contains-push (sides ++ s ∷ []) t, f ∙ (λ i. record { arc = same i; is_reversed = is i }))
    here a same false is = (s, Contains-append_left (sides ++ s ∷ []) (t ∷ []) s (Contains-push sides s), e ∙ (λ i. record { arc = same i; is_reversed = is i }))

pub sides_moved : (places : List ℕ) (n : ℕ) (old new : List FaceSide) → IsPermutation old new → AreSides places n old → AreSides places n new
sides_moved places n old new moved h = record {
  there = All-permutation (λ (r : FaceSide). r.arc.arc < n) old new moved h.there;
  left = All-permutation (HasLeft places) old new moved h.left;
  all = λ a l. let (r, there, is) = h.all a l in (r, Contains-permutation old new r moved there, is);
}
