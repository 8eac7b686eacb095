-- One ring of a part's border holds all of the part, and every other ring holds nothing of it.
use Rattle.std.proofs.Common.{◌≡◌, ℕ, refl, sym, ap, ◌∙◌, Bool, true, false, ◌&&◌, List, [], ◌∷◌}
use Rattle.std.specs.Prelude.{All, Contains, nat_eq}
use Rattle.std.specs.List.Sorted.{IsPermutation}
use Rattle.std.proofs.lemmas.Bool.{eqb-true, and_parts}
use Rattle.std.proofs.lemmas.List.Elements.{All-head, All-tail, All-cons, All-nil, All-weaker, All-contains, All-contains_itself}
use Rattle.std.proofs.lemmas.List.Sorted.{All-permutation, IsPermutation-sym}
use Rattle.plane_parity.proofs.Telescope.{odd_count-append}
use Rattle.plane_parity.proofs.ClosedRun.{closed_run_even}
use Rattle.plane_model.specs.Points.{RationalPoint, GridPoint, Segment, same_segment, Path}
use Rattle.plane_model.specs.Parity.{xor, odd_count, is_below, odd}
use Rattle.plane_model.specs.Arrangement.{IsArrangement, IsDistinct}
use Rattle.plane_model.specs.EvenList.{IsEven}
use Rattle.plane_model.specs.Joined.{IsClosed}
use Rattle.plane_faces.specs.Rings.{links_of_path}
use Rattle.plane_faces.proofs.Runs.{links_of_runs, passes}
use Rattle.plane_faces.specs.Places.{Place, outside, left_side, right_side, IsBeside, IsPlaceOf, AgreesWherePlacesMeet, border, odd_at, IsLowest}
use Rattle.plane_faces.specs.Labels.{IsFaceLabelling, among, IsPartLabelling, in_part}
use Rattle.plane_faces.proofs.Lists.{odd_count-permutation, all_left, all_right}
use Rattle.plane_faces.proofs.Corner.{lowest_left}
use Rattle.plane_faces.proofs.Connected.{HasRotations, parity_at_place, border_is_even, border_parity, border_at, in_border}
use Rattle.plane_faces.proofs.FaceLaws.{among_agrees, place_beside}
use Rattle.plane_faces.proofs.Parts.{passes_filter, part_border_within, border_in, one_part_at}

module _ (S : List Segment) (arr : IsArrangement S) (distinct : IsDistinct S) (rotations : HasRotations S) (label : Place → ℕ) (faces : IsFaceLabelling S label)
    (F : ℕ → Bool) (none : F (label outside) ≡ false) (part : ℕ → ℕ) (parts : IsPartLabelling S label F part) (n : ℕ) where
  -- the places of the part
  abbrev pub held : Place → Bool
  held = among label (in_part F part n)

  abbrev B : List Segment
  B = border held S

  pub held_agrees : AgreesWherePlacesMeet S held
  held_agrees = among_agrees S label faces.agrees (in_part F part n)

  pub held_none : held outside ≡ false
  held_none = go (F (label outside)) none
    where
      go : (b : Bool) → b ≡ false → (b && nat_eq (part (label outside)) n) ≡ false
      go true e = let i : true ≡ false = e in absurd (cc)
      go false e = refl

  even : IsEven B
  even = border_is_even S arr distinct rotations held held_agrees held_none

  module _ (a : Segment) (ca : Contains B a) (lowest : IsLowest B a) where
    ca' : Contains S a
    ca' = All-contains (Contains S) B a (border_in S held) ca

    once : odd_count (same_segment a) B ≡ true
    once = in_border S arr distinct rotations held held_agrees held_none a ca' ∙ passes_filter (λ l. xor (held (left_side l)) (held (right_side l))) S a ca

    -- the part lies above the lowest link of its border
    pub held_above : held (left_side a) ≡ true
    held_above = sym (border_at S arr distinct rotations held held_agrees held_none (left_side a) ca') ∙ lowest_left S B arr (border_in S held) even a ca' lowest ∙ once

    -- an even list of border links is odd on the part just if it has the lowest link an odd number of times
    pub counted_at_part : (R : List Segment) → All (Contains B) R → IsEven R → (b : Place) → IsBeside S b → held b ≡ true → odd_at R b ≡ odd_count (same_segment a) R
    counted_at_part R within evenR b hb e =
        let p = and_parts (F (label b)) (nat_eq (part (label b)) n) e in
        let q = and_parts (F (label (left_side a))) (nat_eq (part (label (left_side a))) n) held_above in
        let withinS : All (Contains S) R = All-weaker (Contains B) (Contains S) (λ k c. All-contains (Contains S) B k (border_in S held) c) R within in
        let bordering : All (Contains (border (among label F) S)) R = All-weaker (Contains B) (Contains (border (among label F) S)) (λ k c. All-contains (Contains (border (among label F) S)) B k (part_border_within S label F part parts n) c) R within in
        one_part_at S label F part arr faces parts R withinS bordering evenR b (left_side a) hb ca' p.0 q.0 (eqb-true (part (label b)) n p.1 ∙ sym (eqb-true (part (label (left_side a))) n q.1))
        ∙ lowest_left S R arr withinS evenR a ca' (λ k c. lowest k (All-contains (Contains B) R k within c))

    pub counted_on_part : (R : List Segment) → All (Contains B) R → IsEven R → (z : RationalPoint) (b : Place) → IsPlaceOf S z b → held b ≡ true → odd R z ≡ odd_count (same_segment a) R
    counted_on_part R within evenR z b h e =
        parity_at_place S R arr (All-weaker (Contains B) (Contains S) (λ k c. All-contains (Contains S) B k (border_in S held) c) R within) evenR z b h
        ∙ counted_at_part R within evenR b (place_beside S z b h) e

    -- ---- the rings together

    abbrev Agrees : RationalPoint → List GridPoint → Type 0
    Agrees z run = odd (links_of_path run) z ≡ passes a run

    sum_of : (z : RationalPoint) (runs : List Path) → All (Agrees z) runs → odd (links_of_runs runs) z ≡ odd_count (same_segment a) (links_of_runs runs)
    sum_of z [] h = refl
    sum_of z (run ∷ runs) h =
        odd_count-append (is_below z) (links_of_path run) (links_of_runs runs)
        ∙ ap (λ (b : Bool). xor b (odd (links_of_runs runs) z)) (All-head (Agrees z) run runs h)
        ∙ ap (xor (passes a run)) (sum_of z runs (All-tail (Agrees z) run runs h))
        ∙ sym (odd_count-append (same_segment a) (links_of_path run) (links_of_runs runs))

    pub run_within : (runs : List Path) → All (Contains B) (links_of_runs runs) → All (λ run. All (Contains B) (links_of_path run)) runs
    run_within [] h = All-nil (λ run. All (Contains B) (links_of_path run))
    run_within (run ∷ runs) h =
        All-cons (λ r. All (Contains B) (links_of_path r)) run runs (all_left (Contains B) (links_of_path run) (links_of_runs runs) h) (run_within runs (all_right (Contains B) (links_of_path run) (links_of_runs runs) h))

    module _ (runs : List Path) (closed : All IsClosed runs) (tracing : IsPermutation (links_of_runs runs) B) where
      within_runs : All (λ run. All (Contains B) (links_of_path run)) runs
      within_runs = run_within runs (All-permutation (Contains B) B (links_of_runs runs) (IsPermutation-sym (links_of_runs runs) B tracing) (All-contains_itself B))

      agrees_inside : (z : RationalPoint) (b : Place) → IsPlaceOf S z b → held b ≡ true → (rest : List Path) → All IsClosed rest → All (λ run. All (Contains B) (links_of_path run)) rest → All (Agrees z) rest
      agrees_inside z b h e [] c w = All-nil (Agrees z)
      agrees_inside z b h e (run ∷ rest) c w =
          All-cons (Agrees z) run rest
          (counted_on_part (links_of_path run) (All-head (λ r. All (Contains B) (links_of_path r)) run rest w) (closed_run_even run (All-head IsClosed run rest c)) z b h e)
          (agrees_inside z b h e rest (All-tail IsClosed run rest c) (All-tail (λ r. All (Contains B) (links_of_path r)) run rest w))

      -- a point is in the part just if each ring is odd or even there as it passes the lowest link or not
      pub held_by_rings : (z : RationalPoint) (b : Place) → IsPlaceOf S z b → (held b ≡ true → All (Agrees z) runs) × (All (Agrees z) runs → held b ≡ true)
      held_by_rings z b h = (
        λ e. agrees_inside z b h e runs closed within_runs,
        λ g. sym (border_parity S arr distinct rotations held held_agrees held_none z b h)
            ∙ sym (odd_count-permutation (is_below z) (links_of_runs runs) B tracing)
            ∙ sum_of z runs g
            ∙ odd_count-permutation (same_segment a) (links_of_runs runs) B tracing
            ∙ once,
      )
