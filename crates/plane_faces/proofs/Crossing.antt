-- Across a link the parity of an even list changes by the times that the link stands in the list.
use Rattle.std.proofs.Common.{◌≡◌, inl, inr, refl, sym, ap, subst, ◌∙◌, arith, Bool, true, false, not, ◌&&◌, List}
use Rattle.std.proofs.Math.IntN.{ℤ, pos, neg_ℤ}
use Rattle.std.specs.Prelude.{All, Contains, int_le, int_lt, ◌<ℤ◌}
use Rattle.std.proofs.lemmas.Int.{ints}
use Rattle.std.proofs.lemmas.List.Elements.{All-weaker, All-contains}
use Rattle.plane_parity.proofs.Determinant.{step_x-self, step_y-self, step_y-swap}
use Rattle.plane_parity.proofs.Cut.{is_from, is_right_of, xor-false}
use Rattle.plane_parity.proofs.Telescope.{telescope, odd_count-xor, xor_comm}
use Rattle.plane_parity.proofs.AlongLink.{decide_link}
use Rattle.plane_parity.proofs.Abscissa.{left_side, right_side, same_link-self, same_link-false, not_still_self}
use Rattle.plane_parity.proofs.LinkOrder.{same_grid}
use Rattle.plane_parity.proofs.Sight.{link_kind, plain_up, plain_still}
use Rattle.plane_parity.proofs.VerticalLine.{crosses, on_and, is_not_negative, is_not_negative-BySign}
use Rattle.plane_parity.proofs.HalfTurn.{stays_not_negative, on_upright}
use Rattle.plane_parity.proofs.Sector.{left_at, right_at, over_start, up_left, up_right, shares_end, end_itself}
use Rattle.plane_parity.proofs.BoundaryEven.{up_alone}
use Rattle.plane_model.specs.Points.{GridPoint, Segment, step_x, step_y, turn, at, same_segment}
use Rattle.plane_model.specs.Parity.{xor, odd_count}
use Rattle.plane_model.specs.Arrangement.{IsBefore, IsEnd, IsArrangement}
use Rattle.plane_model.specs.EvenList.{IsEven}
use Rattle.plane_model.specs.Sides.{odd_left, odd_right}

-- a vertical link: past the vertical line at its start
module _ (S L : List Segment) (arr : IsArrangement S) (within : All (Contains S) L) (even : IsEven L) (l : Segment) (cl : Contains S l) (up : l.start.x ≡ l.stop.x) (rise' : l.start.y <ℤ l.stop.y) where
  abbrev here : GridPoint → Bool
  here q = on_and is_not_negative (at l.start) q

  abbrev Step : Segment → Type 0
  Step k = xor (left_at (at l.start) k) (xor (right_at (at l.start) k) (same_segment l k)) ≡ xor (here k.start) (here k.stop)

  other : (k : Segment) → Contains S k → (k ≡ l → ⊥) → Step k
  other k c n =
      ap (λ (b : Bool). xor (left_at (at l.start) k) (xor (right_at (at l.start) k) b)) (same_link-false l k n)
      ∙ ap (xor (left_at (at l.start) k)) (xor-false (right_at (at l.start) k))
      ∙ xor_comm (left_at (at l.start) k) (right_at (at l.start) k)
      ∙ crosses is_not_negative is_not_negative-BySign (at l.start) k (All-contains (λ j. IsBefore j.start j.stop) S k arr.ordered c)
      (λ f g. stays_not_negative S arr (at l.start) k c (λ on low. ends f g low (shares_end S arr k l c cl (at l.start) (end_itself l) on)) f g)
    where
      still_low : (a b : ℤ) → a ≡ neg_ℤ b → b ≡ pos 0 → a <ℤ pos 0 → ⊥
      still_low a b e f h = omega (arith, ints)

      ends : step_x (at l.start) (at k.start) ≡ pos 0 → step_x (at l.start) (at k.stop) ≡ pos 0 → step_y (at k.stop) (at l.start) <ℤ pos 0 → IsEnd k (at l.start) → ⊥
      ends f g low h = elim h [
        | inl i ↦ starts (sym (same_grid l.start k.start i))
        | inr i ↦ still_low (step_y (at k.stop) (at l.start)) (step_y (at l.start) (at k.stop)) (step_y-swap (at k.stop) (at l.start)) i.1 low
      ]
        where
          starts : k.start ≡ l.start → ⊥
          starts s = elim (link_kind S arr k c) [
            | inl long ↦ not_still_self (step_x (at k.start) (at k.stop)) long (on_upright (at l.start) k f g)
            | inr u ↦ n (up_alone S arr k l c cl s u (up, rise'))
          ]

  itself : Step l
  itself = five (is_from (at l.start) (at l.start)) (is_right_of (at l.start) (at l.start)) (is_from (at l.start) (at l.stop)) (is_right_of (at l.start) (at l.stop)) (same_segment l l)
      (is_not_negative (turn (at l.start) (at l.stop) (at l.start))) (is_not_negative (step_y (at l.start) (at l.start))) (is_not_negative (step_y (at l.stop) (at l.start)))
      (zero_le (step_x (at l.start) (at l.start)) (step_x-self (at l.start)))
      (zero_not_lt (step_x (at l.start) (at l.start)) (step_x-self (at l.start)))
      (zero_not_lt (step_x (at l.start) (at l.stop)) (plain_still l.start.x l.stop.x up))
      (same_link-self l)
      (zero_le (step_y (at l.start) (at l.start)) (step_y-self (at l.start)))
      (low_not (step_y (at l.stop) (at l.start)) (step_y (at l.start) (at l.stop)) (step_y-swap (at l.stop) (at l.start)) (plain_up l.start.y l.stop.y rise'))
    where
      zero_le' : (a : ℤ) → a ≡ pos 0 → true ≡ int_le (pos 0) a
      zero_le' a e = omega (arith, ints)

      zero_le : (a : ℤ) → a ≡ pos 0 → int_le (pos 0) a ≡ true
      zero_le a e = sym (zero_le' a e)

      zero_not_lt' : (a : ℤ) → a ≡ pos 0 → false ≡ int_lt (pos 0) a
      zero_not_lt' a e = omega (arith, ints)

      zero_not_lt : (a : ℤ) → a ≡ pos 0 → int_lt (pos 0) a ≡ false
      zero_not_lt a e = sym (zero_not_lt' a e)

      low_not' : (a b : ℤ) → a ≡ neg_ℤ b → pos 0 <ℤ b → false ≡ int_le (pos 0) a
      low_not' a b e h = omega (arith, ints)

      low_not : (a b : ℤ) → a ≡ neg_ℤ b → pos 0 <ℤ b → int_le (pos 0) a ≡ false
      low_not a b e h = sym (low_not' a b e h)

      five : (fa ra fb rb s t ya yb : Bool) → fa ≡ true → ra ≡ false → rb ≡ false → s ≡ true → ya ≡ true → yb ≡ false
          → xor ((not fa && fb) && t) (xor ((not ra && rb) && t) s) ≡ xor ((fa && not ra) && ya) ((fb && not rb) && yb)
      five fa ra true rb s t ya yb e f g h i j = rw (e, f, g, h, i, j) refl
      five fa ra false rb s t ya yb e f g h i j = rw (e, f, g, h, i) refl

  steps : (k : Segment) → Contains S k → Step k
  steps k c = elim (decide_link k l) [ inl e ↦ subst Step (sym e) itself | inr n ↦ other k c n ]

  pub vertical_crossing : odd_left L l ≡ xor (odd_right L l) (odd_count (same_segment l) L)
  vertical_crossing =
      up_left S L arr within even l cl up rise'
      ∙ telescope (left_at (at l.start)) (λ k. xor (right_at (at l.start) k) (same_segment l k)) here L even (All-weaker (Contains S) Step steps L within)
      ∙ odd_count-xor (right_at (at l.start)) (same_segment l) L
      ∙ ap (λ (b : Bool). xor b (odd_count (same_segment l) L)) (sym (up_right S L arr within even l cl up rise'))

pub crossing_law : (S L : List Segment) → IsArrangement S → All (Contains S) L → IsEven L → (l : Segment) → Contains S l → odd_left L l ≡ xor (odd_right L l) (odd_count (same_segment l) L)
crossing_law S L arr within even l cl = elim (link_kind S arr l cl) [
  | inl long ↦ left_side S L arr within even l cl (at l.start) (over_start l long)
      ∙ ap (λ (b : Bool). xor b (odd_count (same_segment l) L)) (sym (right_side S L arr within even l cl (at l.start) (over_start l long)))
  | inr u ↦ vertical_crossing S L arr within even l cl u.0 u.1
]
