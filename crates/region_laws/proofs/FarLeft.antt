-- A point left of all links, which is on none and outside of all.
use Rattle.std.proofs.Common.{arith, List, Contains, ℤ, pos}
use Rattle.std.specs.Prelude.{◌<ℤ◌, ◌-ℤ◌, ◌*ℤ◌}
use Rattle.std.proofs.lemmas.Int.{ints}
use Rattle.std.proofs.lemmas.List.Elements.{All-contains, All-contains_itself, All-weaker}
use Rattle.plane_model.specs.Points.{RationalPoint, Segment, at}
use Rattle.plane_model.specs.Arrangement.{IsArrangement}
use Rattle.plane_model.specs.Sees.{IsOffLinks}
use Rattle.plane_faces.specs.Places.{outside, IsPlaceOf}
use Rattle.plane_faces.proofs.Sighted.{far_left}
use Rattle.region_model.specs.Region.{IsLeftOfLinks}
use Rattle.face_laws.proofs.CountLemmas.{less_than_all, off_far_left}

module _ (S : List Segment) (arr : IsArrangement S) where
  pub exists_far_left : (z : RationalPoint) × IsOffLinks S z × IsLeftOfLinks S z
  exists_far_left =
      let (x, left) = less_than_all S in (
        at (record { x = x; y = pos 0 }),
        off_far_left S arr x left,
        All-weaker (Contains S) (λ (l : Segment). x <ℤ (l.start.x *ℤ pos 1)) (λ l c. once x l.start.x (left l c)) S (All-contains_itself S),
      )
    where
      once : (a b : ℤ) → a <ℤ b → a <ℤ (b *ℤ pos 1)
      once a b h = omega (arith, ints)

-- the place of a point left of all links
pub left_is_outside : (S : List Segment) (z : RationalPoint) → IsLeftOfLinks S z → IsPlaceOf S z outside
left_is_outside S z left = far_left S z (λ l c. between (l.start.x *ℤ z.W) z.X (All-contains (λ (k : Segment). z.X <ℤ (k.start.x *ℤ z.W)) S l left c))
  where
    between : (a b : ℤ) → b <ℤ a → pos 0 <ℤ (a -ℤ b *ℤ pos 1)
    between a b h = omega (arith, ints)
