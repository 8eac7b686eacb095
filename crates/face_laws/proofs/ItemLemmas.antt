-- The steps of items along arcs are, in parity, the links of their rings.
use Rattle.std.proofs.Common.{◌≡◌, ◌≢◌, refl, sym, ap, subst, ◌∙◌, arith, ℕ, zero, suc, ◌+◌, ◌<◌, ◌≤◌, Bool, true, false, ◌&&◌, Some, List, [], ◌∷◌, All, length, get_or, map}
use Rattle.std.specs.Prelude.{nat_eq, slice_get}
use Rattle.std.proofs.lemmas.Bool.{eq-eqb, ne_eqb, and_right}
use Rattle.std.proofs.lemmas.List.{get_or-map, length-map}
use Rattle.std.proofs.lemmas.Option.{same_Some, slice_get_within}
use Rattle.plane_model.specs.Points.{Segment, Path, link_between, same_segment}
use Rattle.plane_model.specs.Drawing.{Drawing, steps as steps_of}
use Rattle.plane_model.specs.Arcs.{SignedArc}
use Rattle.plane_model.specs.Arrangement.{IsArrangement}
use Rattle.plane_model.specs.Joined.{IsClosed}
use Rattle.plane_model.specs.Parity.{xor, odd_count, links_of_paths}
use Rattle.plane_parity.proofs.Telescope.{odd_count-append}
use Rattle.plane_parity.proofs.Boundary.{filter_count}
use Rattle.plane_parity.proofs.Sight.{and_true}
use Rattle.plane_faces.proofs.Lists.{odd_count-permutation}
use Rattle.arc_table.specs.Along.{GoAlong}
use Rattle.arc_table.specs.PathArcs.{AreArcsOf, IsDrawn}
use Rattle.face_walk.specs.Holders.{steps_on}
use Rattle.face_walk.specs.RingSteps.{AreArcsOfAll, AreStepsFrom, AreStepsOf, step_along}
use Rattle.face_walk.specs.declared.ring_steps.RingStep.{RingStep}
use Rattle.face_laws.specs.Holders.{StepAlong}
use Rattle.face_laws.proofs.RingLemmas.{in_rings}
use Rattle.face_laws.proofs.StepLemmas.{arc_of, step_at}

-- the step is item i's, along arc n
abbrev is_step : ℕ → ℕ → RingStep → Bool
is_step n i s = nat_eq s.arc n && nat_eq i s.item

own_block : (n i : ℕ) (named : List SignedArc) → odd_count (is_step n i) (map (step_along i) named) ≡ odd_count (λ (a : SignedArc). nat_eq a.arc n) named
own_block n i [] = refl
own_block n i (a ∷ named) = λ k. xor ((ap (λ (b : Bool). nat_eq a.arc n && b) (eq-eqb i i refl) ∙ and_true (nat_eq a.arc n) true refl) k) (own_block n i named k)

other_block : (n i m : ℕ) (named : List SignedArc) → i ≢ m → odd_count (is_step n i) (map (step_along m) named) ≡ false
other_block n i m [] other = refl
other_block n i m (a ∷ named) other = λ k. xor ((ap (λ (b : Bool). nat_eq a.arc n && b) (ne_eqb i m other) ∙ and_right (nat_eq a.arc n) false refl) k) (other_block n i m named other k)

none_before : (arcs : List Path) (n i k : ℕ) (items : List (List Path)) (steps : List RingStep) → i < k → AreStepsFrom arcs k items steps → odd_count (is_step n i) steps ≡ false
none_before arcs n i k [] steps l h = ap (odd_count (is_step n i)) h
none_before arcs n i k (paths ∷ items) steps l h =
    ap (odd_count (is_step n i)) h.4 ∙ odd_count-append (is_step n i) (map (step_along k) h.0) h.1
    ∙ (λ x. xor (other_block n i k h.0 (λ e. omega arith) x) (none_before arcs n i (k + 1) items h.1 (omega arith) h.3 x))

none_past : (arcs : List Path) (n i k : ℕ) (items : List (List Path)) (steps : List RingStep) → k + length items ≤ i → AreStepsFrom arcs k items steps → odd_count (is_step n i) steps ≡ false
none_past arcs n i k [] steps l h = ap (odd_count (is_step n i)) h
none_past arcs n i k (paths ∷ items) steps l h =
    ap (odd_count (is_step n i)) h.4 ∙ odd_count-append (is_step n i) (map (step_along k) h.0) h.1
    ∙ (λ x. xor (other_block n i k h.0 (λ e. omega arith) x) (none_past arcs n i (k + 1) items h.1 (omega arith) h.3 x))

-- the arcs of one item
record ItsArcs (arcs : List Path) (i : ℕ) (paths : List Path) (steps : List RingStep) : Type 0 where
  named : List SignedArc
  are : AreArcsOfAll arcs paths named
  count : (n : ℕ) → odd_count (is_step n i) steps ≡ odd_count (λ (a : SignedArc). nat_eq a.arc n) named

its_arcs : (arcs : List Path) (k : ℕ) (items : List (List Path)) (steps : List RingStep) → AreStepsFrom arcs k items steps → (j i : ℕ) (paths : List Path) → slice_get items j ≡ Some paths → i ≡ k + j → ItsArcs arcs i paths steps
its_arcs arcs k [] steps h j i paths e f = absurd (let l = slice_get_within [] j paths e in omega arith)
its_arcs arcs k (first ∷ items) steps h zero i paths e f =
    let same : first ≡ paths = same_Some first paths e in
    let at_k : i ≡ k = omega arith in
    record {
      named = h.0;
      are = subst (λ (ps : List Path). AreArcsOfAll arcs ps h.0) same h.2;
      count = λ n. ap (odd_count (is_step n i)) h.4 ∙ odd_count-append (is_step n i) (map (step_along k) h.0) h.1
          ∙ (λ x. xor ((ap (λ (m : ℕ). odd_count (is_step n i) (map (step_along m) h.0)) (sym at_k) ∙ own_block n i h.0) x) (none_before arcs n i (k + 1) items h.1 (omega arith) h.3 x))
          ∙ right_none (odd_count (λ (a : SignedArc). nat_eq a.arc n) h.0);
    }
  where
    right_none : (b : Bool) → xor b false ≡ b
    right_none false = refl
    right_none true = refl
its_arcs arcs k (first ∷ items) steps h (suc j) i paths e f =
    let rest = its_arcs arcs (k + 1) items h.1 h.3 j i paths e (omega arith) in
    record {
      named = rest.named;
      are = rest.are;
      count = λ n. ap (odd_count (is_step n i)) h.4 ∙ odd_count-append (is_step n i) (map (step_along k) h.0) h.1 ∙ (λ x. xor (other_block n i k h.0 (λ g. omega arith) x) (rest.count n x));
    }

on_arc : (arcs : List Path) (items : List (List Path)) (steps : List RingStep) (h : AreStepsOf arcs items steps) (n i : ℕ) → odd_count (λ (s : RingStep). nat_eq i s.item) (steps_on steps n) ≡ odd_count (is_step n i) h.taken
on_arc arcs items steps h n i = filter_count (λ (s : RingStep). nat_eq s.arc n) (λ (s : RingStep). nat_eq i s.item) steps ∙ sym (odd_count-permutation (is_step n i) h.taken steps h.moved)

-- ---- items step along the links of their rings

pub steps_are_along : (S : List Segment) → IsArrangement S → (arcs : List Path) → All (λ arc. 1 < length arc) arcs → GoAlong S arcs → (d : Drawing) → AreArcsOf d arcs
    → (items : List (List Path)) (steps : List RingStep) → AreStepsOf arcs items steps → (i : ℕ) (paths : List Path) → slice_get items i ≡ Some paths
    → All (λ path. (0 < length path) × IsClosed path × IsDrawn d path) paths → StepAlong arcs steps i (links_of_paths paths)
steps_are_along S arr arcs long along d table items steps h i paths found drawn n below j e there =
    let size = length-map (steps_of (arc_of arcs n)) link_between in
    let step = step_at arcs n j e below (omega arith) in
    let its = its_arcs arcs 0 items h.taken h.each i i paths found (omega arith) in
    ap (λ (l : Segment). odd_count (same_segment l) (links_of_paths paths)) (get_or-map link_between (steps_of (arc_of arcs n)) j e e (omega arith))
    ∙ in_rings S arr arcs long along n j (get_or (steps_of (arc_of arcs n)) j e) step d table paths its.named drawn its.are
    ∙ sym (its.count n) ∙ sym (on_arc arcs items steps h n i)

-- and an item past the last steps along none
pub none_along : (arcs : List Path) (items : List (List Path)) (steps : List RingStep) → AreStepsOf arcs items steps → (i : ℕ) → length items ≤ i → StepAlong arcs steps i []
none_along arcs items steps h i past n below j e there = sym (on_arc arcs items steps h n i ∙ none_past arcs n i 0 items h.taken (omega arith) h.each)
