-- Parts of a set of points, and gaps in it, can be told, and there are finitely many.
use Rattle.std.proofs.Common.{◌≡◌, ◌⊎◌, inl, inr, refl, arith, ℕ, ◌<◌, ◌≤◌, List, Contains, filter, length, nat_lt}
use Rattle.plane_model.specs.Points.{RationalPoint, Segment, Path}
use Rattle.plane_model.specs.Arrangement.{IsArrangement, IsDistinct}
use Rattle.plane_model.specs.Joined.{AreOfOneFace, IsArcOfPart, IsPartNumber, links_of_arc}
use Rattle.plane_model.specs.Sees.{IsOffLinks}
use Rattle.plane_model.specs.Sides.{Points}
use Rattle.plane_faces.specs.Places.{outside}
use Rattle.region_model.specs.Region.{GapWith, IsGapNumber, IsInGap, IsInPart, IsLeftOfLinks}
use Rattle.region_laws.proofs.FarLeft.{exists_far_left, left_is_outside}
use Rattle.printed_laws.proofs.Constant.{joined_by_face, joined_on, past_back}
use Rattle.answer_laws.proofs.Deciding.{IsTold, least_or_none}
use Rattle.answer_laws.proofs.FaceSets.{IsFaceSet, one_face}
use Rattle.answer_laws.proofs.Joins.{IsArcBy, arc_below, arc_moves, arc_told, complement, joined_with}
use Rattle.answer_laws.proofs.Numbers.{ArePlaces, are_places, lesser_are, lesser_rise, numbers_exist}

module _ (S : List Segment) (arr : IsArrangement S) (distinct : IsDistinct S) (arcs : List Path) (on : (n : ℕ) (l : Segment) → Contains (links_of_arc arcs n) l → Contains S l) (R : Points) (set : IsFaceSet S R) where
  -- the least number of an arc in the boundary that is seen from points of Q joined with z
  record HasLeast (Q : Points) (z : RationalPoint) (n : ℕ) : Type 0 where
    is_arc : IsArcBy S arr distinct R set arcs on Q z n
    least : (m : ℕ) → IsArcBy S arr distinct R set arcs on Q z m → n ≤ m

  module _ (Q : Points) (points : IsFaceSet S Q) where
    least_told : (z : RationalPoint) → ((n : ℕ) × HasLeast Q z n) ⊎ ((n : ℕ) → HasLeast Q z n → ⊥)
    least_told z = elim (least_or_none (IsArcBy S arr distinct R set arcs on Q z) (arc_told S arr distinct R set arcs on Q points z) (length arcs) (arc_below S arr distinct R set arcs on Q z)) [
      | inl r ↦ inl (r.0, record { is_arc = r.1.0; least = r.1.1 })
      | inr none ↦ inr (λ n h. none n h.is_arc)
    ]

    one_least : (z : RationalPoint) (m n : ℕ) → HasLeast Q z m → HasLeast Q z n → m ≡ n
    one_least z m n h k =
        let low = h.least n k.is_arc in
        let high = k.least m h.is_arc in
        omega arith

    least_below_all : (z : RationalPoint) (n : ℕ) → HasLeast Q z n → n < length arcs
    least_below_all z n h = arc_below S arr distinct R set arcs on Q z n h.is_arc

    least_of_face : (u v : RationalPoint) → AreOfOneFace S u v → (n : ℕ) → HasLeast Q u n → HasLeast Q v n
    least_of_face u v one n h = record {
      is_arc = arc_moves S arr distinct R set arcs on Q u v (joined_by_face S R u v one) n h.is_arc;
      least = λ m arc. h.least m (arc_moves S arr distinct R set arcs on Q v u (joined_by_face S R v u (past_back S u v one)) m arc);
    }

  -- ---- parts

  to_part : (z : RationalPoint) (n : ℕ) → HasLeast R z n → IsPartNumber S arcs R z n
  to_part z n h = record { is_arc = h.is_arc; least = h.least }

  of_part : (z : RationalPoint) (n : ℕ) → IsPartNumber S arcs R z n → HasLeast R z n
  of_part z n h = record { is_arc = h.is_arc; least = h.least }

  part_number : (z : RationalPoint) → R z → ((n : ℕ) × IsPartNumber S arcs R z n) ⊎ ((n : ℕ) → IsPartNumber S arcs R z n → ⊥)
  part_number z held = elim (least_told R set z) [
    | inl r ↦ inl (r.0, to_part z r.0 r.1)
    | inr none ↦ inr (λ n h. none n (of_part z n h))
  ]

  one_part_number : (z : RationalPoint) (m n : ℕ) → IsPartNumber S arcs R z m → IsPartNumber S arcs R z n → m ≡ n
  one_part_number z m n h k = one_least R set z m n (of_part z m h) (of_part z n k)

  part_number_below : (z : RationalPoint) (n : ℕ) → IsPartNumber S arcs R z n → n < length arcs
  part_number_below z n h = least_below_all R set z n (of_part z n h)

  part_number_of_face : (u v : RationalPoint) → AreOfOneFace S u v → (n : ℕ) → IsPartNumber S arcs R u n → IsPartNumber S arcs R v n
  part_number_of_face u v one n h = to_part v n (least_of_face R set u v one n (of_part u n h))

  pub parts_told : (count : ℕ) × ArePlaces S R (IsInPart S arcs R) count
  parts_told =
      let (all, up, are) = numbers_exist S arr distinct R set (IsPartNumber S arcs R) (length arcs) part_number one_part_number part_number_below part_number_of_face in (
        length all,
        are_places S arr distinct R set (IsPartNumber S arcs R) (length arcs) part_number one_part_number part_number_below part_number_of_face all up are (IsInPart S arcs R)
            (λ z j n is lesser rising those e. record { number = n; is_number = is; lesser = lesser; rising = rising; are = those; count = e })
            (λ z j h. (h.number, h.is_number, h.lesser, h.rising, h.are, h.count)),
      )

  -- a point that has an arc in the boundary of its part is in a part
  pub part_exists : (z : RationalPoint) (n : ℕ) → IsArcOfPart S arcs R z n → (j : ℕ) × IsInPart S arcs R z j
  part_exists z n arc = elim (least_or_none (IsArcOfPart S arcs R z) (arc_told S arr distinct R set arcs on R set z) (length arcs) (λ m a. arc_below S arr distinct R set arcs on R z m a)) [
    | inl r ↦
        (let (all, up, are) = numbers_exist S arr distinct R set (IsPartNumber S arcs R) (length arcs) part_number one_part_number part_number_below part_number_of_face in (
          length (filter (λ m. nat_lt m r.0) all),
          record {
            number = r.0;
            is_number = record { is_arc = r.1.0; least = r.1.1 };
            lesser = filter (λ m. nat_lt m r.0) all;
            rising = lesser_rise S arr distinct R set (IsPartNumber S arcs R) (length arcs) part_number one_part_number part_number_below part_number_of_face all up are r.0;
            are = lesser_are S arr distinct R set (IsPartNumber S arcs R) (length arcs) part_number one_part_number part_number_below part_number_of_face all up are r.0;
            count = refl;
          },
        ))
    | inr none ↦ absurd (none n arc)
  ]

  -- ---- gaps

  abbrev Out : Points
  Out z = R z → ⊥

  out : IsFaceSet S (λ z. R z → ⊥)
  out = complement S R set

  abbrev IsBounded : RationalPoint → Type 0
  IsBounded z = (w : RationalPoint) → IsOffLinks S w → GapWith S R z w → IsLeftOfLinks S w → ⊥

  -- points left of all links are of one face
  bounded_told : (z : RationalPoint) → IsTold (IsBounded z)
  bounded_told z =
      let (far, off, left) = exists_far_left S arr in
      let gap : IsFaceSet S (GapWith S R z) = joined_with S arr distinct R set Out out z in
      elim (gap.told far) [
        | inl with_far ↦ inr (λ bounded. bounded far off with_far left)
        | inr none ↦ inl (λ w off_w with_w left_w. none (gap.faces w far (one_face S arr distinct w far outside outside (left_is_outside S w left_w) (left_is_outside S far left) refl) with_w))
      ]

  bounded_of_face : (u v : RationalPoint) → AreOfOneFace S u v → IsBounded u → IsBounded v
  bounded_of_face u v one bounded w off (held, joined) left = bounded w off (held, joined_on S R u v w (joined_by_face S R u v one) joined) left

  to_gap : (z : RationalPoint) (n : ℕ) → IsBounded z → HasLeast Out z n → IsGapNumber S arcs R z n
  to_gap z n bounded h = record {
    bounded = bounded;
    is_arc = (let (l, there, (bounding, seen)) = h.is_arc in (l, there, bounding, seen));
    least = λ m (l, there, bounding, seen). h.least m (l, there, (bounding, seen));
  }

  of_gap : (z : RationalPoint) (n : ℕ) → IsGapNumber S arcs R z n → HasLeast Out z n
  of_gap z n h = record {
    is_arc = (let (l, there, bounding, seen) = h.is_arc in (l, there, (bounding, seen)));
    least = λ m (l, there, (bounding, seen)). h.least m (l, there, bounding, seen);
  }

  gap_number : (z : RationalPoint) → Out z → ((n : ℕ) × IsGapNumber S arcs R z n) ⊎ ((n : ℕ) → IsGapNumber S arcs R z n → ⊥)
  gap_number z held = elim (bounded_told z) [
    | inr open_gap ↦ inr (λ n h. open_gap h.bounded)
    | inl bounded ↦ elim (least_told Out out z) [
      | inl r ↦ inl (r.0, to_gap z r.0 bounded r.1)
      | inr none ↦ inr (λ n h. none n (of_gap z n h))
    ]
  ]

  one_gap_number : (z : RationalPoint) (m n : ℕ) → IsGapNumber S arcs R z m → IsGapNumber S arcs R z n → m ≡ n
  one_gap_number z m n h k = one_least Out out z m n (of_gap z m h) (of_gap z n k)

  gap_number_below : (z : RationalPoint) (n : ℕ) → IsGapNumber S arcs R z n → n < length arcs
  gap_number_below z n h = least_below_all Out out z n (of_gap z n h)

  gap_number_of_face : (u v : RationalPoint) → AreOfOneFace S u v → (n : ℕ) → IsGapNumber S arcs R u n → IsGapNumber S arcs R v n
  gap_number_of_face u v one n h = to_gap v n (bounded_of_face u v one h.bounded) (least_of_face Out out u v one n (of_gap u n h))

  pub gaps_told : (count : ℕ) × ArePlaces S Out (IsInGap S arcs R) count
  gaps_told =
      let (all, up, are) = numbers_exist S arr distinct Out out (IsGapNumber S arcs R) (length arcs) gap_number one_gap_number gap_number_below gap_number_of_face in (
        length all,
        are_places S arr distinct Out out (IsGapNumber S arcs R) (length arcs) gap_number one_gap_number gap_number_below gap_number_of_face all up are (IsInGap S arcs R)
            (λ z j n is lesser rising those e. record { number = n; is_number = is; lesser = lesser; rising = rising; are = those; count = e })
            (λ z j h. (h.number, h.is_number, h.lesser, h.rising, h.are, h.count)),
      )
