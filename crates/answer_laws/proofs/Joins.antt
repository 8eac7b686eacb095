-- Whether two points are joined in a set can be told: the boundary of the set is an arrangement, which has faces of its
-- own.
use Rattle.std.proofs.Common.{◌≡◌, inl, inr, arith, ℕ, ◌<◌, true, List, [], Contains, filter, length, map, subst}
use Rattle.std.specs.Prelude.{◌↔◌}
use Rattle.std.proofs.lemmas.Bool.{cases_eq, cases_lt}
use Rattle.std.proofs.lemmas.List.{get_or_past}
use Rattle.std.proofs.lemmas.List.Elements.{All-contains, All-contains_itself, All-filter, All-weaker}
use Rattle.plane_parity.proofs.Boundary.{filter_distinct}
use Rattle.lists.proofs.Members.{Contains-filter, Contains-nil, filter-Contains}
use Rattle.plane_model.specs.Points.{RationalPoint, Segment, Path, link_between}
use Rattle.plane_model.specs.Arrangement.{IsArrangement, IsBefore, IsDistinct}
use Rattle.plane_model.specs.Drawing.{steps}
use Rattle.plane_model.specs.Joined.{AreBoundaryLinks, AreJoinedIn, AreOfOneFace, IsBoundaryLink, IsClosedRun, IsSeenFrom, links_of_arc}
use Rattle.plane_model.specs.Sides.{Points}
use Rattle.plane_faces.proofs.Classes.{labels_are_faces}
use Rattle.plane_faces.proofs.Joining.{face_labelling}
use Rattle.plane_faces.proofs.Order.{place_exists}
use Rattle.printed_laws.proofs.Constant.{joined_back, joined_by_face, joined_on, past_back}
use Rattle.answer_laws.proofs.Deciding.{IsTold, both_told, either_told, not_told, same_told, some_told, tested}
use Rattle.answer_laws.proofs.FaceSets.{IsFaceSet, left_told, links_told, right_told}

-- the points that a set has not
pub complement : (S : List Segment) (R : Points) → IsFaceSet S R → IsFaceSet S (λ z. R z → ⊥)
complement S R set = record {
  told = λ z. not_told (set.told z);
  faces = λ u v one out held. out (set.faces v u (past_back S u v one) held);
}

module _ (S : List Segment) (arr : IsArrangement S) (distinct : IsDistinct S) (R : Points) (set : IsFaceSet S R) where
  bounding_told : (l : Segment) → Contains S l → IsTold (IsBoundaryLink S R l)
  bounding_told l c =
      let left = left_told S arr distinct R set l c in
      let right = right_told S arr distinct R set l c in
      either_told (both_told left (not_told right)) (both_told right (not_told left))

  -- the boundary, as an arrangement
  record IsBoundary (B : List Segment) : Type 0 where
    are : AreBoundaryLinks S R B
    arranged : IsArrangement B
    different : IsDistinct B

  boundary_exists : (B : List Segment) × IsBoundary B
  boundary_exists =
      let (f, says) = tested links_told (IsBoundaryLink S R) S bounding_told in
      let there : (l : Segment) → Contains (filter f S) l → Contains S l × (f l ≡ true) = filter-Contains f S in (
        filter f S,
        record {
          are = record {
            links = All-weaker (Contains (filter f S)) (λ l. Contains S l × IsBoundaryLink S R l) (λ l c. (let (on, passes) = there l c in (on, (says l on).0 passes))) (filter f S) (All-contains_itself (filter f S));
            all = λ l c bounding. Contains-filter f S l c ((says l c).1 bounding);
          };
          arranged = record {
            ordered = All-filter f (λ l. IsBefore l.start l.stop) S arr.ordered;
            apart = λ k l ck cl. arr.apart k l (there k ck).0 (there l cl).0;
          };
          different = filter_distinct f S distinct;
        },
      )

  -- points are joined in the set where they are of one face of its boundary
  joined_past : (B : List Segment) → IsBoundary B → (u v : RationalPoint) → AreJoinedIn S R u v ↔ AreOfOneFace B u v
  joined_past B is u v = (
    λ joined. joined B is.are,
    λ one boundary others runs closed. one runs (All-weaker (IsClosedRun boundary) (IsClosedRun B) (λ run k. record {
      closed = k.closed;
      along_links = All-weaker (Contains boundary) (Contains B) (λ l c. (let (on, bounding) = All-contains (λ m. Contains S m × IsBoundaryLink S R m) boundary l others.links c in is.are.all l on bounding)) _ k.along_links;
    }) runs closed),
  )

  pub joined_told : (u v : RationalPoint) → IsTold (AreJoinedIn S R u v)
  joined_told u v =
      let (B, is) = boundary_exists in
      let (label, labelling) = face_labelling B is.arranged is.different in
      let (a, at_u) = place_exists B is.arranged u in
      let (b, at_v) = place_exists B is.arranged v in
      let one = labels_are_faces B is.arranged is.different label labelling u v a b at_u at_v in
      let past = joined_past B is u v in
      same_told (λ e. past.1 (one.0 e)) (λ joined. one.1 (past.0 joined)) (cases_eq (label a) (label b))

  -- the points of a set that are joined with z
  pub joined_with : (Q : Points) → IsFaceSet S Q → (z : RationalPoint) → IsFaceSet S (λ w. Q w × AreJoinedIn S R z w)
  joined_with Q points z = record {
    told = λ w. both_told (points.told w) (joined_told z w);
    faces = λ u v one (q, joined). (points.faces u v one q, joined_on S R z u v joined (joined_by_face S R u v one));
  }

  seen_told : (Q : Points) → IsFaceSet S Q → (l : Segment) → Contains S l → IsTold (IsSeenFrom S Q l)
  seen_told Q points l c =
      same_told
      (λ h. elim h [ inl seen ↦ (seen.0, seen.2, inl seen.1) | inr seen ↦ (seen.0, seen.2, inr seen.1) ])
      (λ (w, q, sight). elim sight [ inl sees ↦ inl (w, sees, q) | inr sees ↦ inr (w, sees, q) ])
      (either_told (left_told S arr distinct Q points l c) (right_told S arr distinct Q points l c))

  module _ (arcs : List Path) (on : (n : ℕ) (l : Segment) → Contains (links_of_arc arcs n) l → Contains S l) where
    -- some link of arc n is in the boundary and seen by points of Q that are joined with z
    abbrev pub IsArcBy : Points → RationalPoint → ℕ → Type 0
    IsArcBy Q z n = (l : Segment) × Contains (links_of_arc arcs n) l × (IsBoundaryLink S R l × IsSeenFrom S (λ w. Q w × AreJoinedIn S R z w) l)

    pub arc_told : (Q : Points) → IsFaceSet S Q → (z : RationalPoint) (n : ℕ) → IsTold (IsArcBy Q z n)
    arc_told Q points z n =
        some_told (λ l. IsBoundaryLink S R l × IsSeenFrom S (λ w. Q w × AreJoinedIn S R z w) l) (links_of_arc arcs n)
        (λ l c. both_told (bounding_told l (on n l c)) (seen_told (λ w. Q w × AreJoinedIn S R z w) (joined_with Q points z) l (on n l c)))

    pub arc_below : (Q : Points) (z : RationalPoint) (n : ℕ) → IsArcBy Q z n → n < length arcs
    arc_below Q z n (l, c, seen) = elim (cases_lt n (length arcs)) [
      | inl below ↦ below
      | inr past ↦ Contains-nil l (subst (λ (path : Path). Contains (map link_between (steps path)) l) (get_or_past arcs n [] (omega arith)) c)
    ]

    pub arc_moves : (Q : Points) (u v : RationalPoint) → AreJoinedIn S R u v → (n : ℕ) → IsArcBy Q u n → IsArcBy Q v n
    arc_moves Q u v joined n (l, there, (bounding, (w, (q, to_w), sees))) = (l, there, (bounding, (w, (q, joined_on S R v u w (joined_back S R u v joined) to_w), sees)))
