-- A region has all points of a face or none: no closed runs of links separate them, and regions are told by such runs.
use Rattle.std.proofs.Common.{◌≡◌, ◌⊎◌, inl, inr, refl, sym, ap, ◌∙◌, ℕ, zero, suc, List, [], ◌∷◌, get_or, Contains}
use Rattle.std.proofs.lemmas.List.Elements.{All-contains, All-weaker}
use Rattle.lists.proofs.Members.{Contains-head, Contains-later}
use Rattle.plane_model.specs.Points.{RationalPoint, Segment, Path}
use Rattle.plane_model.specs.Drawing.{Drawing}
use Rattle.plane_model.specs.Joined.{AreJoinedIn, AreJoinedPast, AreOfOneFace, IsArcOfPart, IsBoundaryLink, IsClosedRun}
use Rattle.plane_model.specs.Parity.{feature_holds, rings_hold}
use Rattle.plane_model.specs.Sides.{Points}
use Rattle.plane_model.specs.Snapped.{links_of, snapped}
use Rattle.plane_model.specs.SnappedRings.{HasClosedRings}
use Rattle.plane_parity.proofs.SnappedRings.{faces_have_one_list_of_holders}
use Rattle.region_model.specs.Region.{Region, Regions, feature, box, any, both, less, part, gap, no_regions, one_more, Has, SomeHas, IsArcOfGap, IsInGap, IsInPart}

pub there_or_not : {A : Type 0} (xs : List A) (n : ℕ) (e : A) → Contains xs (get_or xs n e) ⊎ (get_or xs n e ≡ e)
there_or_not [] n e = inr refl
there_or_not (x ∷ xs) zero e = inl (Contains-head x xs)
there_or_not (x ∷ xs) (suc n) e = elim (there_or_not xs n e) [ inl c ↦ inl (Contains-later x xs (get_or xs n e) c) | inr same ↦ inr same ]

pub past_back : (T : List Segment) (u v : RationalPoint) → AreJoinedPast T u v → AreJoinedPast T v u
past_back T u v h runs closed = sym (h runs closed)

-- ---- joined in a region

module _ (S : List Segment) (R : Points) where
  pub joined_by_face : (u v : RationalPoint) → AreOfOneFace S u v → AreJoinedIn S R u v
  joined_by_face u v h boundary are runs closed = h runs (All-weaker (IsClosedRun boundary) (IsClosedRun S) of_links runs closed)
    where
      of_links : (run : Path) → IsClosedRun boundary run → IsClosedRun S run
      of_links run k = record {
        closed = k.closed;
        along_links = All-weaker (Contains boundary) (Contains S) (λ l c. (All-contains (λ m. Contains S m × IsBoundaryLink S R m) boundary l are.links c).0) _ k.along_links;
      }

  pub joined_on : (u v w : RationalPoint) → AreJoinedIn S R u v → AreJoinedIn S R v w → AreJoinedIn S R u w
  joined_on u v w h k boundary are runs closed = h boundary are runs closed ∙ k boundary are runs closed

  pub joined_back : (u v : RationalPoint) → AreJoinedIn S R u v → AreJoinedIn S R v u
  joined_back u v h boundary are runs closed = sym (h boundary are runs closed)

  -- ---- joined points are in parts, and gaps, of one number

  module _ (arcs : List Path) where
    arc_of_part : (u v : RationalPoint) → AreJoinedIn S R u v → (n : ℕ) → IsArcOfPart S arcs R u n → IsArcOfPart S arcs R v n
    arc_of_part u v joined n (l, there, (bounding, (w, (in_r, to_w), sees))) = (l, there, (bounding, (w, (in_r, joined_on v u w (joined_back u v joined) to_w), sees)))

    pub one_part : (u v : RationalPoint) → AreJoinedIn S R u v → (j : ℕ) → IsInPart S arcs R u j → IsInPart S arcs R v j
    one_part u v joined j h = record {
      number = h.number;
      is_number = record {
        is_arc = arc_of_part u v joined h.number h.is_number.is_arc;
        least = λ m on. h.is_number.least m (arc_of_part v u (joined_back u v joined) m on);
      };
      lesser = h.lesser;
      rising = h.rising;
      are = h.are;
      count = h.count;
    }

    arc_of_gap : (u v : RationalPoint) → AreJoinedIn S R u v → (n : ℕ) → IsArcOfGap S arcs R u n → IsArcOfGap S arcs R v n
    arc_of_gap u v joined n (l, there, bounding, (w, (out, to_w), sees)) = (l, there, bounding, (w, (out, joined_on v u w (joined_back u v joined) to_w), sees))

    pub one_gap : (u v : RationalPoint) → AreJoinedIn S R u v → (j : ℕ) → IsInGap S arcs R u j → IsInGap S arcs R v j
    one_gap u v joined j h = record {
      number = h.number;
      is_number = record {
        bounded = λ w off (out, to_w) left. h.is_number.bounded w off (out, joined_on u v w joined to_w) left;
        is_arc = arc_of_gap u v joined h.number h.is_number.is_arc;
        least = λ m on. h.is_number.least m (arc_of_gap v u (joined_back u v joined) m on);
      };
      lesser = h.lesser;
      rising = h.rising;
      are = h.are;
      count = h.count;
    }

-- ---- regions

module _ (d : Drawing) (closed : HasClosedRings d) (arcs : List Path) where
  abbrev S : List Segment
  S = links_of (snapped d)

  of_feature : (n : ℕ) (u v : RationalPoint) → AreOfOneFace (links_of (snapped d)) u v → Has (snapped d) arcs (feature n) u → Has (snapped d) arcs (feature n) v
  of_feature n u v one h = elim (there_or_not (snapped d).polygons n []) [
    | inl c ↦ sym ((faces_have_one_list_of_holders d closed u v one).0 (get_or (snapped d).polygons n []) c) ∙ h
    | inr none ↦ ap (feature_holds v) none ∙ sym (ap (feature_holds u) none) ∙ h
  ]

  of_box : (n : ℕ) (u v : RationalPoint) → AreOfOneFace (links_of (snapped d)) u v → Has (snapped d) arcs (box n) u → Has (snapped d) arcs (box n) v
  of_box n u v one h = elim (there_or_not (snapped d).boxes n []) [
    | inl c ↦ sym ((faces_have_one_list_of_holders d closed u v one).1 (get_or (snapped d).boxes n []) c) ∙ h
    | inr none ↦ ap (λ (p : Path). rings_hold v (p ∷ [])) none ∙ sym (ap (λ (p : Path). rings_hold u (p ∷ [])) none) ∙ h
  ]

  mutual
    pub has_face : (r : Region) (u v : RationalPoint) → AreOfOneFace (links_of (snapped d)) u v → Has (snapped d) arcs r u → Has (snapped d) arcs r v
    has_face (feature n) u v one h = of_feature n u v one h
    has_face (box n) u v one h = of_box n u v one h
    has_face (any rs) u v one h = some_face rs u v one h
    has_face (both r s) u v one h = (has_face r u v one h.0, has_face s u v one h.1)
    has_face (less r s) u v one h = (has_face r u v one h.0, λ held. h.1 (has_face s v u (past_back S u v one) held))
    has_face (part r j) u v one h = (has_face r u v one h.0, one_part S (Has (snapped d) arcs r) arcs u v (joined_by_face S (Has (snapped d) arcs r) u v one) j h.1)
    has_face (gap rs j) u v one h = (
      λ held. h.0 (some_face rs v u (past_back S u v one) held),
      one_gap S (SomeHas (snapped d) arcs rs) arcs u v (joined_by_face S (SomeHas (snapped d) arcs rs) u v one) j h.1,
    )

    pub some_face : (rs : Regions) (u v : RationalPoint) → AreOfOneFace (links_of (snapped d)) u v → SomeHas (snapped d) arcs rs u → SomeHas (snapped d) arcs rs v
    some_face no_regions u v one h = absurd h
    some_face (one_more r rs) u v one (inl h) = inl (has_face r u v one h)
    some_face (one_more r rs) u v one (inr h) = inr (some_face rs u v one h)
