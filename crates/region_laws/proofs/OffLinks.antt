-- A point that sees a link is on none.
use Rattle.std.proofs.Common.{◌≡◌, ◌⊎◌, inl, inr, sym, ◌∙◌, arith, List, Contains, ℤ, pos, neg_ℤ}
use Rattle.std.specs.Prelude.{◌<ℤ◌}
use Rattle.std.proofs.lemmas.Int.{ints}
use Rattle.plane_model.specs.Points.{RationalPoint, Segment, at, turn, IsOn}
use Rattle.plane_model.specs.Sees.{IsClear, IsOffLinks, SeesLeft, SeesRight, midpoint}
use Rattle.plane_parity.proofs.AlongLink.{IsOnSegment-first, turn_first_place}
use Rattle.plane_parity.proofs.Determinant.{turn-rotate}
use Rattle.plane_parity.proofs.Sight.{turn_to_middle-first}

on_its_line : (S : List Segment) (l : Segment) (z : RationalPoint) → IsClear S z (midpoint l) → (k : Segment) → Contains S k → IsOn k z → neg_ℤ (turn (at l.start) (at l.stop) z) ≡ pos 0
on_its_line S l z clear k c on =
    sym (turn_to_middle-first z l)
    ∙ turn-rotate z (midpoint l) (at l.start)
    ∙ turn_first_place (midpoint l) (at l.start) z (clear k c z (IsOnSegment-first z (midpoint l)) on)

pub off_from_left : (S : List Segment) (l : Segment) (z : RationalPoint) → SeesLeft S l z → IsOffLinks S z
off_from_left S l z (left, clear) k c on = clash (turn (at l.start) (at l.stop) z) (on_its_line S l z clear k c on) left
  where
    clash : (a : ℤ) → neg_ℤ a ≡ pos 0 → pos 0 <ℤ a → ⊥
    clash a e h = omega (arith, ints)

pub off_from_right : (S : List Segment) (l : Segment) (z : RationalPoint) → SeesRight S l z → IsOffLinks S z
off_from_right S l z (right, clear) k c on = clash (turn (at l.start) (at l.stop) z) (on_its_line S l z clear k c on) right
  where
    clash : (a : ℤ) → neg_ℤ a ≡ pos 0 → a <ℤ pos 0 → ⊥
    clash a e h = omega (arith, ints)

pub off_from_side : (S : List Segment) (l : Segment) (z : RationalPoint) → SeesLeft S l z ⊎ SeesRight S l z → IsOffLinks S z
off_from_side S l z (inl sees) = off_from_left S l z sees
off_from_side S l z (inr sees) = off_from_right S l z sees
