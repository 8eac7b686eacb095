-- Sectors, one arc more at a time.
use Rattle.std.proofs.Common.{◌≡◌, inl, inr, sym, ap, ◌∙◌, subst, arith, ℕ, zero, suc, ◌+◌, ◌<◌, ◌≤◌, Bool, true, false, cond, nat_lt, List, length}
use Rattle.std.proofs.lemmas.Bool.{and_from, and_parts, cases_lt, cond-false, cond-true, false_from_ne_true, lt-ltb, ltb-true}
use Rattle.plane_model.specs.Points.{GridPoint, is_before, same_point}
use Rattle.plane_model.specs.Arcs.{SignedArc}
use Rattle.plane_model.proofs.PointOrder.{clash, same_point_from, same_point_to}
use Rattle.arc_table.specs.Direction.{point_at}
use Rattle.arc_table.specs.Rows.{IsRow}
use Rattle.arc_table.proofs.RowTable.{never_before}
use Rattle.face_walk.specs.Joining.{made_one}
use Rattle.face_walk.specs.Joins.{joined_by}
use Rattle.face_walk.specs.Places.{place_of}
use Rattle.face_walk.specs.Sectors.{arc_at, goes_on, first_in_row, next_in_row, place_right_of, sector_after, sectors_below}
use Rattle.face_walk.proofs.JoinLemmas.{joined_more}

pub first_within : (starts : List GridPoint) (i : ℕ) → first_in_row starts i ≤ i
first_within starts zero = omega arith
first_within starts (suc i) = go (goes_on starts i) (first_within starts i)
  where
    go : (b : Bool) → first_in_row starts i ≤ i → cond b (first_in_row starts i) (suc i) ≤ suc i
    go true h = omega arith
    go false h = omega arith

pub next_on : (starts : List GridPoint) (i : ℕ) → goes_on starts i ≡ true → next_in_row starts i ≡ i + 1
next_on starts i e = ap (λ (b : Bool). cond b (i + 1) (first_in_row starts i)) e

pub next_off : (starts : List GridPoint) (i : ℕ) → goes_on starts i ≡ false → next_in_row starts i ≡ first_in_row starts i
next_off starts i e = ap (λ (b : Bool). cond b (i + 1) (first_in_row starts i)) e

joined_sector : (starts : List GridPoint) (outs : List SignedArc) (n : ℕ) (classes : List ℕ) →
    joined_by (sectors_below starts outs (n + 1)) classes ≡ made_one (sector_after starts outs n).0 (sector_after starts outs n).1 (joined_by (sectors_below starts outs n) classes)
joined_sector starts outs n classes = ap (λ (k : ℕ). joined_by (sectors_below starts outs k) classes) (let f : n + 1 ≡ suc n = omega arith in f) ∙ joined_more (sectors_below starts outs n) (sector_after starts outs n) classes

-- ---- the sectors of a row

module _ (starts : List GridPoint) (p : GridPoint) (first stop : ℕ) (row : IsRow starts p first stop) where
  abbrev at : ℕ → GridPoint
  at = point_at starts

  on : (i : ℕ) → first ≤ i → i + 1 < stop → goes_on starts i ≡ true
  on i l m =
      and_from (nat_lt (i + 1) (length starts)) (same_point (at i) (at (i + 1))) (lt-ltb (i + 1) (length starts) (let w = row.within in omega arith))
      (same_point_to (at i) (at (i + 1)) (row.here i l (omega arith) ∙ sym (row.here (i + 1) (omega arith) m)))

  off : (i : ℕ) → (i + 1 < length starts → is_before (at i) (at (i + 1)) ≡ true) → goes_on starts i ≡ false
  off i rises = false_from_ne_true (goes_on starts i)
      (λ e. let (l, s) = and_parts (nat_lt (i + 1) (length starts)) (same_point (at i) (at (i + 1))) e in
      clash (is_before (at i) (at (i + 1))) (rises (ltb-true (i + 1) (length starts) l)) (never_before (at i) (at (i + 1)) (same_point_from (at i) (at (i + 1)) s)))

  first_is : (i : ℕ) → first ≤ i → i < stop → first_in_row starts i ≡ first
  first_is zero l m = omega arith
  first_is (suc i) l m = elim (cases_lt i first) [
    | inl h ↦ cond-false (goes_on starts i) (first_in_row starts i) (suc i) (off i (λ n. subst (λ (q : GridPoint). is_before (at i) q ≡ true) (sym (row.here (i + 1) (omega arith) (omega arith))) (row.before i h))) ∙ omega arith
    | inr h ↦ cond-true (goes_on starts i) (first_in_row starts i) (suc i) (on i h (omega arith)) ∙ first_is i h (omega arith)
  ]

  -- one sector more
  pub joined_next : (outs : List SignedArc) (i next : ℕ) (classes before after : List ℕ) → first ≤ i → i < stop → (i + 1 < stop → next ≡ i + 1) → (stop ≤ i + 1 → next ≡ first) →
      before ≡ joined_by (sectors_below starts outs i) classes → after ≡ made_one (place_of (arc_at outs i)) (place_right_of (arc_at outs next)) before → after ≡ joined_by (sectors_below starts outs (i + 1)) classes
  joined_next outs i next classes before after l m goes round e f = f ∙ (λ k. made_one (place_of (arc_at outs i)) (place_right_of (arc_at outs (next_is k))) (e k)) ∙ sym (joined_sector starts outs i classes)
    where
      next_is : next ≡ next_in_row starts i
      next_is = elim (cases_lt (i + 1) stop) [
        | inl h ↦ goes h ∙ sym (next_on starts i (on i l h))
        | inr h ↦ round h ∙ sym (next_off starts i (off i (λ n. subst (λ (q : GridPoint). is_before q (at (i + 1)) ≡ true) (sym (row.here i l m)) (row.after (i + 1) h n))) ∙ first_is i l m)
      ]
