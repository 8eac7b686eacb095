-- The definitions at a triangle: its inside is a test whose border is the triangle, its run is a ring that turns left,
-- and its faces differ.
use Rattle.std.proofs.Common.{◌≡◌, inl, inr, refl, sym, ◌∙◌, ℕ, true, false, List, [], ◌∷◌}
use Rattle.std.proofs.lemmas.List.Elements.{All-nil, All-contains_itself}
use Rattle.plane_parity.proofs.Examples.{corner, east, north, bottom, side, slope, run, even_run, arrangement}
use Rattle.plane_model.specs.Points.{RationalPoint, Segment}
use Rattle.plane_model.specs.Arrangement.{IsBefore}
use Rattle.plane_model.specs.Parity.{odd}
use Rattle.plane_faces.specs.Places.{Place, IsPlaceOf, border, border_darts, odd_at}
use Rattle.plane_faces.specs.Labels.{IsFaceLabelling}
use Rattle.plane_faces.specs.Rings.{StartsLeast, darts_of_path, turns_left}
use Rattle.plane_faces.proofs.FaceLaws.{one_face}

abbrev triangle : List Segment
triangle = bottom ∷ slope ∷ side ∷ []

its_border : border (odd_at triangle) triangle ≡ triangle
its_border = refl

its_darts : border_darts (odd_at triangle) triangle ≡ darts_of_path run
its_darts = refl

its_turn : turns_left run ≡ true
its_turn = refl

other_turn : turns_left (corner ∷ north ∷ east ∷ corner ∷ []) ≡ false
other_turn = refl

its_ring : StartsLeast run
its_ring = record {
  least = corner;
  next = east;
  others = [];
  last = north;
  is = refl;
  next_after = inl (record { lt = tt });
  others_after = All-nil (IsBefore corner);
  last_after = inr (refl, record { lt = tt });
}

-- in any labelling of the faces, a point inside and a point outside have two labels
two_faces : (label : Place → ℕ) → IsFaceLabelling triangle label → (z z' : RationalPoint) (a a' : Place) → IsPlaceOf triangle z a → IsPlaceOf triangle z' a' → odd triangle z ≡ true → odd triangle z' ≡ false → label a ≡ label a' → ⊥
two_faces label faces z z' a a' h h' inside outside' e =
    let f : true ≡ false = sym inside ∙ one_face triangle arrangement label faces triangle (All-contains_itself triangle) even_run z z' a a' h h' e ∙ outside' in
    absurd (cc)
