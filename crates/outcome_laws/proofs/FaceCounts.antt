-- The faces of the plane can be counted: of the points that see links from their left, and one left of all links, one
-- is kept for each label.
use Rattle.std.proofs.Common.{◌≡◌, inl, inr, refl, sym, ap, subst, ◌∙◌, arith, ℕ, Bool, true, false, not, List, [], ◌∷◌, AllPairs, Contains, filter, length, get_or}
use Rattle.std.specs.Prelude.{nat_eq}
use Rattle.std.proofs.lemmas.Bool.{eq-eqb, eqb-true}
use Rattle.std.proofs.lemmas.List.Elements.{Contains-get_or}
use Rattle.std.proofs.lemmas.List.Kept.{AllPairs-cons, AllPairs-filter}
use Rattle.lists.specs.Lists.{each_once}
use Rattle.lists.proofs.Members.{Contains-cases, Contains-filter, Contains-head, Contains-later, Contains-nil, filter-Contains}
use Rattle.plane_model.specs.Points.{RationalPoint, Segment}
use Rattle.plane_model.specs.Arrangement.{IsArrangement, IsDistinct}
use Rattle.plane_model.specs.Joined.{AreOfOneFace, IsFaceCount}
use Rattle.plane_model.specs.Sees.{IsOffLinks}
use Rattle.plane_parity.proofs.Visible.{seen_from_left}
use Rattle.plane_faces.specs.Labels.{IsFaceLabelling}
use Rattle.plane_faces.specs.Places.{Place, IsPlaceOf, left_of, left_side, outside}
use Rattle.plane_faces.proofs.Classes.{labels_are_faces}
use Rattle.plane_faces.proofs.Joining.{face_labelling}
use Rattle.plane_faces.proofs.Order.{place_exists}
use Rattle.plane_faces.proofs.Sighted.{label_from_left}
use Rattle.plane_faces.proofs.Sorting.{rotations_exist}
use Rattle.region_laws.proofs.FarLeft.{exists_far_left, left_is_outside}
use Rattle.region_model.specs.Region.{IsLeftOfLinks}
use Rattle.region_laws.proofs.OffLinks.{off_from_left}

module _ (S : List Segment) (arr : IsArrangement S) (distinct : IsDistinct S) (label : Place → ℕ) (labelling : IsFaceLabelling S label) where
  label_at : RationalPoint → ℕ
  label_at z = label (place_exists S arr z).0

  -- labels tell faces
  one_face : (u v : RationalPoint) → label_at u ≡ label_at v → AreOfOneFace S u v
  unfolding label_at
  one_face u v e = (labels_are_faces S arr distinct label labelling u v (place_exists S arr u).0 (place_exists S arr v).0 (place_exists S arr u).1 (place_exists S arr v).1).0 e

  one_label : (u v : RationalPoint) → AreOfOneFace S u v → label_at u ≡ label_at v
  unfolding label_at
  one_label u v f = (labels_are_faces S arr distinct label labelling u v (place_exists S arr u).0 (place_exists S arr v).0 (place_exists S arr u).1 (place_exists S arr v).1).1 f

  abbrev same : RationalPoint → RationalPoint → Bool
  same u v = nat_eq (label_at u) (label_at v)

  same_from : (u v : RationalPoint) → same u v ≡ true → AreOfOneFace S u v
  same_from u v e = one_face u v (eqb-true (label_at u) (label_at v) e)

  same_to : (u v : RationalPoint) → AreOfOneFace S u v → same u v ≡ true
  same_to u v f = eq-eqb (label_at u) (label_at v) (one_label u v f)

  -- ## One point for each face that some points show

  -- a point that is left out is of one face with one that is kept
  kept : (zs : List RationalPoint) (z : RationalPoint) → Contains zs z → (y : RationalPoint) × Contains (each_once same zs) y × AreOfOneFace S z y
  kept [] z c = Contains-nil z c
  kept (x ∷ zs) z c = elim (Contains-cases x zs z c) [
    | inl e ↦ (x, Contains-head x _, subst (λ (w : RationalPoint). AreOfOneFace S w x) e (λ runs closed. refl))
    | inr d ↦ by_first (kept zs z d)
  ]
    where
      by_first : (y : RationalPoint) × Contains (each_once same zs) y × AreOfOneFace S z y → (y : RationalPoint) × Contains (each_once same (x ∷ zs)) y × AreOfOneFace S z y
      by_first (y, d, f) = go (same x y) refl
        where
          go : (b : Bool) → same x y ≡ b → (y : RationalPoint) × Contains (each_once same (x ∷ zs)) y × AreOfOneFace S z y
          go true e = (x, Contains-head x _, λ runs closed. f runs closed ∙ sym (same_from x y e runs closed))
          go false e = (y, Contains-later x _ y (Contains-filter (λ w. not (same x w)) (each_once same zs) y d (ap not e)), f)

  apart : (zs : List RationalPoint) → AllPairs (λ u v. AreOfOneFace S u v → ⊥) (each_once same zs)
  apart [] = λ i j d less l. absurd (omega arith)
  apart (x ∷ zs) = AllPairs-cons (λ u v. AreOfOneFace S u v → ⊥) x (filter (λ y. not (same x y)) (each_once same zs))
      (λ k d l f. differs (get_or (filter (λ y. not (same x y)) (each_once same zs)) k d) (Contains-get_or (filter (λ y. not (same x y)) (each_once same zs)) k d l) f)
      (AllPairs-filter (λ u v. AreOfOneFace S u v → ⊥) (λ y. not (same x y)) (each_once same zs) (apart zs))
    where
      differs : (y : RationalPoint) → Contains (filter (λ y. not (same x y)) (each_once same zs)) y → AreOfOneFace S x y → ⊥
      differs y c f = clash (same x y) (same_to x y f) (filter-Contains (λ y. not (same x y)) (each_once same zs) y c).1
        where
          clash : (b : Bool) → b ≡ true → not b ≡ true → ⊥
          clash true e g = absurd (let h : false ≡ true = g in cc)
          clash false e g = absurd (let h : false ≡ true = e in cc)

  among : (zs : List RationalPoint) (y : RationalPoint) → Contains (each_once same zs) y → Contains zs y
  among [] y c = c
  among (x ∷ zs) y c = elim (Contains-cases x _ y c) [
    | inl e ↦ subst (Contains (x ∷ zs)) e (Contains-head x zs)
    | inr d ↦ Contains-later x zs y (among zs y (filter-Contains (λ w. not (same x w)) (each_once same zs) y d).0)
  ]

  -- ## Points that show all faces

  -- points off the links, of which one has the label of the left side of each link
  record Show (links : List Segment) (zs : List RationalPoint) : Type 0 where
    off : (z : RationalPoint) → Contains zs z → IsOffLinks S z
    shown : (l : Segment) → Contains links l → (z : RationalPoint) × Contains zs z × (label_at z ≡ label (left_side l))

  seen : (l : Segment) → Contains S l → (z : RationalPoint) × IsOffLinks S z × (label_at z ≡ label (left_side l))
  unfolding label_at
  seen l c =
      let (z, sees) = seen_from_left S arr l c in
      (z, off_from_left S l z sees, label_from_left S arr distinct (rotations_exist S arr distinct) label labelling.agrees l c z sees (place_exists S arr z).0 (place_exists S arr z).1)

  all_seen : (links : List Segment) → ((l : Segment) → Contains links l → Contains S l) → (zs : List RationalPoint) × Show links zs
  all_seen [] there = ([], record { off = λ z c. Contains-nil z c; shown = λ l c. Contains-nil l c })
  all_seen (k ∷ links) there =
      let (z, off, here) = seen k (there k (Contains-head k links)) in
      let (zs, show) = all_seen links (λ l c. there l (Contains-later k links l c)) in (
        z ∷ zs,
        record {
          off = λ w c. elim (Contains-cases z zs w c) [ inl e ↦ subst (IsOffLinks S) e off | inr d ↦ show.off w d ];
          shown = λ l c. elim (Contains-cases k links l c) [
            | inl e ↦ (z, Contains-head z zs, here ∙ ap (λ (m : Segment). label (left_side m)) e)
            | inr d ↦ (let (w, there_too, is) = show.shown l d in (w, Contains-later z zs w there_too, is))
          ];
        },
      )

  pub faces_counted : (n : ℕ) × IsFaceCount S n
  unfolding label_at
  faces_counted =
      let (far, far_off, left) = exists_far_left S arr in
      let (seen_points, show) = all_seen S (λ l c. c) in
      let zs : List RationalPoint = far ∷ seen_points in
      let faces : List RationalPoint = each_once same zs in
      let off : (z : RationalPoint) → Contains zs z → IsOffLinks S z = λ z c. elim (Contains-cases far seen_points z c) [ inl e ↦ subst (IsOffLinks S) e far_off | inr d ↦ show.off z d ] in
      let face : (z : RationalPoint) (a : Place) → IsPlaceOf S z a → (y : RationalPoint) × Contains zs y × AreOfOneFace S z y =
      λ z a here. by_place far left seen_points show z a here in (
        length faces,
        (
          faces,
          record {
            off = λ k d l. off (get_or faces k d) (among zs (get_or faces k d) (Contains-get_or faces k d l));
            apart = apart zs;
            all = λ z z_off.
                let (y, there, f) = face z (place_exists S arr z).0 (place_exists S arr z).1 in
                let (x, (k, l, is), g) = kept zs y there in
                (k, x, l, is, λ runs closed. f runs closed ∙ g runs closed);
          },
          refl,
        ),
      )
    where
      by_place : (far : RationalPoint) → IsLeftOfLinks S far → (points : List RationalPoint) → Show S points → (z : RationalPoint) (a : Place) → IsPlaceOf S z a → (y : RationalPoint) × Contains (far ∷ points) y × AreOfOneFace S z y
      by_place far left points show z outside here =
          (far, Contains-head far points, (labels_are_faces S arr distinct label labelling z far outside outside here (left_is_outside S far left)).0 refl)
      by_place far left points show z (left_of d) here =
          let (y, there, is) = show.shown d.link here.1 in (
            y,
            Contains-later far points y there,
            (labels_are_faces S arr distinct label labelling z y (left_of d) (place_exists S arr y).0 here (place_exists S arr y).1).0
                (ap (λ (b : Bool). label (left_of (record { link = d.link; forward = b }))) here.0 ∙ sym is),
          )

-- each arrangement has as many faces as some number says
pub each_plane_has_a_face_count : (S : List Segment) → IsArrangement S → IsDistinct S → (n : ℕ) × IsFaceCount S n
each_plane_has_a_face_count S arr distinct = let (label, labelling) = face_labelling S arr distinct in faces_counted S arr distinct label labelling
