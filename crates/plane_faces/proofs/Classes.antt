-- Labels and parts against the closed runs that separate points.
use Rattle.std.proofs.Common.{◌≡◌, ◌↔◌, inl, inr, ℕ, refl, sym, subst, ◌∙◌, Bool, true, false, not, List, [], ◌∷◌}
use Rattle.std.specs.Prelude.{All, Contains, nat_eq}
use Rattle.std.proofs.lemmas.Bool.{eq-eqb, eqb-true}
use Rattle.std.proofs.lemmas.List.{append-nil}
use Rattle.std.proofs.lemmas.List.Elements.{All-cons, All-nil, All-weaker, All-contains, All-contains_itself}
use Rattle.lists.proofs.Members.{Contains-filter}
use Rattle.plane_algebra.proofs.Tests.{by_test}
use Rattle.plane_parity.proofs.SnappedRings.{closed_runs_are_even_lists, faces_have_one_list_of_holders}
use Rattle.plane_parity.proofs.Visible.{seen_from_left, seen_from_right}
use Rattle.plane_snapping.proofs.SnappedLinks.{snapped_links_are_an_arrangement}
use Rattle.plane_model.specs.Points.{RationalPoint, Segment, Path}
use Rattle.plane_model.specs.Arrangement.{IsArrangement, IsDistinct}
use Rattle.plane_model.specs.Parity.{xor, odd, links_of_paths}
use Rattle.plane_model.specs.Snapped.{snapped, links_of}
use Rattle.plane_model.specs.Sides.{LeftIn, RightIn}
use Rattle.plane_model.specs.Joined.{IsClosedRun, AreJoinedPast, IsBoundaryLink}
use Rattle.plane_faces.specs.Places.{Place, left_side, right_side, AgreesWherePlacesMeet, border}
use Rattle.plane_faces.specs.Labels.{among}
use Rattle.plane_faces.specs.Rings.{links_of_path, IsSeparating}
use Rattle.plane_faces.specs.Classes.{PointsWhere, LabelsAreFaces, LabelsHaveOneListOfHolders, SidesAreTested, BordersAreBoundaries, PartsAreJoined}
use Rattle.plane_faces.proofs.Runs.{links_are, ring_closed}
use Rattle.plane_faces.proofs.Order.{place_exists}
use Rattle.plane_faces.proofs.Sorting.{rotations_exist}
use Rattle.plane_faces.proofs.FaceLaws.{one_face, among_agrees}
use Rattle.plane_faces.proofs.Sighted.{test_from_left, test_from_right}
use Rattle.plane_faces.proofs.Parts.{passes_filter, border_in}
use Rattle.plane_faces.proofs.Laws.{parts_not_separated}
use Rattle.plane_faces.proofs.Separating.{faces_by_ring, parts_by_ring}

-- numbers are equal, or are not
equal_or : {G : Type 0} (m n : ℕ) → (m ≡ n → G) → ((m ≡ n → ⊥) → G) → G
equal_or m n f g = by_test (nat_eq m n) (λ e. f (eqb-true m n e)) (λ e. g (λ h. let c : true ≡ false = sym (eq-eqb m n h) ∙ e in absurd (cc)))

-- what one ring separates is not joined
ring_parts : (T : List Segment) (u v : RationalPoint) → (ring : Path) × IsSeparating T u v ring → AreJoinedPast T u v → ⊥
ring_parts T u v (ring, (is_ring, within, differ)) joined =
    not_itself (odd (links_of_path ring) v) (sym differ ∙ subst (λ (ls : List Segment). odd ls u ≡ odd ls v) one_path (joined (ring ∷ []) runs))
  where
    runs : All (IsClosedRun T) (ring ∷ [])
    runs = All-cons (IsClosedRun T) ring [] (record { closed = ring_closed ring is_ring; along_links = within }) (All-nil (IsClosedRun T))

    one_path : links_of_paths (ring ∷ []) ≡ links_of_path ring
    one_path = sym (links_are (ring ∷ [])) ∙ append-nil (links_of_path ring)

    not_itself : (b : Bool) → not b ≡ b → ⊥
    not_itself true e = let f : false ≡ true = e in absurd (cc)
    not_itself false e = let f : true ≡ false = e in absurd (cc)

pub labels_are_faces : LabelsAreFaces
labels_are_faces S arr distinct label faces u v a b h k = (
  λ e runs closed. let even = closed_runs_are_even_lists S runs closed in one_face S arr label faces (links_of_paths runs) even.within even.even u v a b h k e,
  λ joined. equal_or (label a) (label b) (λ e. e) (λ n. absurd (ring_parts S u v (faces_by_ring S arr distinct label faces.agrees u v a b h k n) joined)),
)

pub labels_have_one_list_of_holders : LabelsHaveOneListOfHolders
labels_have_one_list_of_holders d closed label faces u v a b h k e =
    let s = snapped_links_are_an_arrangement d in
    faces_have_one_list_of_holders d closed u v ((labels_are_faces (links_of (snapped d)) s.0 s.1 label faces u v a b h k).0 e)

-- ---- sides and borders

pub sides_are_tested : SidesAreTested
sides_are_tested S arr distinct f agrees l cl =
    let left = seen_from_left S arr l cl in
    let right = seen_from_right S arr l cl in
    let rotations = rotations_exist S arr distinct in (
      (
        λ h. sym (test_from_left S arr distinct rotations f agrees l cl h.0 h.1 h.2.0 h.2.1) ∙ h.2.2,
        λ e. let a = place_exists S arr left.0 in (left.0, left.1, (a.0, a.1, test_from_left S arr distinct rotations f agrees l cl left.0 left.1 a.0 a.1 ∙ e)),
      ),
      (
        λ h. sym (test_from_right S arr distinct rotations f agrees l cl h.0 h.1 h.2.0 h.2.1) ∙ h.2.2,
        λ e. let a = place_exists S arr right.0 in (right.0, right.1, (a.0, a.1, test_from_right S arr distinct rotations f agrees l cl right.0 right.1 a.0 a.1 ∙ e)),
      ),
    )

module _ (S : List Segment) (arr : IsArrangement S) (distinct : IsDistinct S) (f : Place → Bool) (agrees : AgreesWherePlacesMeet S f) where
  abbrev differ : Segment → Bool
  differ l = xor (f (left_side l)) (f (right_side l))

  boundary_of : (l : Segment) → Contains S l → differ l ≡ true → IsBoundaryLink S (PointsWhere S f) l
  boundary_of l c = go (f (left_side l)) refl (f (right_side l)) refl
    where
      sides : (LeftIn S (PointsWhere S f) l ↔ (f (left_side l) ≡ true)) × (RightIn S (PointsWhere S f) l ↔ (f (right_side l) ≡ true))
      sides = sides_are_tested S arr distinct f agrees l c

      clash : (b : Bool) → b ≡ false → b ≡ true → ⊥
      clash b e g = let i : false ≡ true = sym e ∙ g in absurd (cc)

      go : (x : Bool) → f (left_side l) ≡ x → (y : Bool) → f (right_side l) ≡ y → xor x y ≡ true → IsBoundaryLink S (PointsWhere S f) l
      go true e true g h = let i : false ≡ true = h in absurd (cc)
      go true e false g h = inl (sides.0.1 e, λ r. clash (f (right_side l)) g (sides.1.0 r))
      go false e true g h = inr (sides.1.1 g, λ r. clash (f (left_side l)) e (sides.0.0 r))
      go false e false g h = let i : false ≡ true = h in absurd (cc)

  of_boundary : (l : Segment) → Contains S l → IsBoundaryLink S (PointsWhere S f) l → differ l ≡ true
  of_boundary l c (inl h) =
      let sides = sides_are_tested S arr distinct f agrees l c in
      table (f (left_side l)) (f (right_side l)) (sides.0.0 h.0) (λ e. h.1 (sides.1.1 e))
    where
      table : (x y : Bool) → x ≡ true → (y ≡ true → ⊥) → xor x y ≡ true
      table true true e n = absurd (n refl)
      table true false e n = refl
      table false y e n = let i : false ≡ true = e in absurd (cc)
  of_boundary l c (inr h) =
      let sides = sides_are_tested S arr distinct f agrees l c in
      table (f (left_side l)) (f (right_side l)) (sides.1.0 h.0) (λ e. h.1 (sides.0.1 e))
    where
      table : (x y : Bool) → y ≡ true → (x ≡ true → ⊥) → xor x y ≡ true
      table true y e n = absurd (n refl)
      table false true e n = refl
      table false false e n = e

pub borders_are_boundaries : BordersAreBoundaries
borders_are_boundaries S arr distinct f agrees = record {
  links = All-weaker (Contains (border f S)) (λ l. Contains S l × IsBoundaryLink S (PointsWhere S f) l)
      (λ l c. let there = All-contains (Contains S) (border f S) l (border_in S f) c in (there, boundary_of S arr distinct f agrees l there (passes_filter (λ k. xor (f (left_side k)) (f (right_side k))) S l c)))
      (border f S) (All-contains_itself (border f S));
  all = λ l c h. Contains-filter (λ k. xor (f (left_side k)) (f (right_side k))) S l c (of_boundary S arr distinct f agrees l c h);
}

-- ---- parts

pub parts_are_joined : PartsAreJoined
parts_are_joined S arr distinct label faces F none part parts u v a b h k fa fb = (
  λ e boundary are runs closed.
      let even = closed_runs_are_even_lists boundary runs closed in
      let within = All-weaker (Contains boundary) (Contains (border held S))
      (λ l c. let i = All-contains (λ m. Contains S m × IsBoundaryLink S (PointsWhere S held) m) boundary l are.links c in Contains-filter (λ m. xor (held (left_side m)) (held (right_side m))) S l i.0 (of_boundary S arr distinct held agrees l i.0 i.1))
      (links_of_paths runs) even.within in
      parts_not_separated S arr label faces F part parts (links_of_paths runs) within even.even u v a b h k fa fb e,
  λ joined. equal_or (part (label a)) (part (label b)) (λ e. e)
      (λ n. absurd (ring_parts (border held S) u v (parts_by_ring S arr distinct label faces.agrees F none part parts u v a b h k fa fb n) (joined (border held S) (borders_are_boundaries S arr distinct held agrees)))),
)
  where
    held : Place → Bool
    held = among label F

    agrees : AgreesWherePlacesMeet S held
    agrees = among_agrees S label faces.agrees F
