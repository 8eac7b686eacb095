-- The faces of a table are as many as those of the plane: one point of each is chosen.
use Rattle.std.proofs.Common.{◌≡◌, ◌⊎◌, inl, inr, refl, sym, ap, subst, ◌∙◌, arith, ℕ, zero, suc, ◌<◌, Bool, true, false, List, [], ◌∷◌, All, Contains, length, get_or, map, ℤ, pos, neg_ℤ}
use Rattle.std.specs.Prelude.{int_lt, ◌<ℤ◌, ◌≤ℤ◌, ◌-ℤ◌, ◌*ℤ◌}
use Rattle.std.proofs.Math.Logic.{∥∥₁_elim}
use Rattle.std.proofs.Math.Bool.{Bool-set}
use Rattle.std.proofs.lemmas.Int.{ints}
use Rattle.std.proofs.lemmas.List.{get_or_default, length-map}
use Rattle.std.proofs.lemmas.List.Elements.{All-contains, Contains-get_or}
use Rattle.lists.proofs.Members.{Contains-cases, Contains-map, Contains-nil}
use Rattle.plane_model.specs.Points.{RationalPoint, Segment, Path, at, turn, IsOn}
use Rattle.plane_model.specs.Drawing.{steps as steps_of}
use Rattle.plane_model.specs.Arcs.{SignedArc, forward, backward}
use Rattle.plane_model.specs.Arrangement.{IsArrangement, IsBefore}
use Rattle.plane_model.specs.Parity.{odd, links_of_paths}
use Rattle.plane_model.specs.Rotation.{Dart}
use Rattle.plane_model.specs.Sees.{IsClear, IsOffLinks, midpoint}
use Rattle.plane_model.specs.Snapped.{links_of, snapped}
use Rattle.plane_parity.proofs.AlongLink.{IsOnSegment-first, turn_first_place}
use Rattle.plane_parity.proofs.Determinant.{turn-rotate}
use Rattle.plane_parity.proofs.Sight.{plain_up, turn_to_middle-first}
use Rattle.plane_parity.proofs.Visible.{seen_from_left, seen_from_right}
use Rattle.plane_snapping.proofs.SnappedLinks.{snapped_links_are_an_arrangement}
use Rattle.plane_faces.specs.Around.{opposite}
use Rattle.plane_faces.specs.Places.{Place, outside, left_of, IsBeside}
use Rattle.plane_faces.specs.Rings.{dart_of_step}
use Rattle.plane_faces.proofs.Classes.{labels_are_faces}
use Rattle.plane_faces.proofs.FaceLaws.{place_beside}
use Rattle.plane_faces.proofs.Order.{place_exists}
use Rattle.arc_table.specs.Along.{GoAlong}
use Rattle.face_walk.specs.Places.{FaceTable, IsBuiltOf, face_left_of, place_of}
use Rattle.face_laws.specs.Faces.{CountIsExact, IsFaceOfPlace, SeesFace, SeesSide, ShowsFace, directed_as}
use Rattle.face_laws.proofs.ClassLemmas.{faces_are_classes}
use Rattle.face_laws.proofs.DartLemmas.{one_of_two}
use Rattle.face_laws.proofs.LabelLemmas.{each_table_has_labels}
use Rattle.face_laws.proofs.PointLemmas.{whole_are_free}
use Rattle.face_laws.proofs.ShownLemmas.{faces_have_arcs, faces_of_a_drawing, place_shown}
use Rattle.face_laws.proofs.SideLemmas.{dart_there}
use Rattle.face_laws.proofs.StepLemmas.{arc_of, step_of_link, steps_counted}

-- ---- points off the links

-- a point that sees a link from one side is on no link
module _ (S : List Segment) (l : Segment) (z : RationalPoint) (clear : IsClear S z (midpoint l)) where
  on_its_line : (k : Segment) → Contains S k → IsOn k z → neg_ℤ (turn (at l.start) (at l.stop) z) ≡ pos 0
  on_its_line k c on =
      sym (turn_to_middle-first z l)
      ∙ turn-rotate z (midpoint l) (at l.start)
      ∙ turn_first_place (midpoint l) (at l.start) z (clear k c z (IsOnSegment-first z (midpoint l)) on)

  off_from_left : pos 0 <ℤ turn (at l.start) (at l.stop) z → IsOffLinks S z
  off_from_left left k c on = clash (turn (at l.start) (at l.stop) z) (on_its_line k c on) left
    where
      clash : (a : ℤ) → neg_ℤ a ≡ pos 0 → pos 0 <ℤ a → ⊥
      clash a e h = omega (arith, ints)

  off_from_right : turn (at l.start) (at l.stop) z <ℤ pos 0 → IsOffLinks S z
  off_from_right right k c on = clash (turn (at l.start) (at l.stop) z) (on_its_line k c on) right
    where
      clash : (a : ℤ) → neg_ℤ a ≡ pos 0 → a <ℤ pos 0 → ⊥
      clash a e h = omega (arith, ints)

module _ (S : List Segment) (arr : IsArrangement S) where
  seen_side : (b : Bool) (l : Segment) → Contains S l → (z : RationalPoint) × SeesSide S b l z × IsOffLinks S z
  seen_side true l c = let (z, sees) = seen_from_left S arr l c in (z, sees, off_from_left S l z sees.1 sees.0)
  seen_side false l c = let (z, sees) = seen_from_right S arr l c in (z, sees, off_from_right S l z sees.1 sees.0)

  -- a point left of all links is on none
  pub off_far_left : (x : ℤ) → ((l : Segment) → Contains S l → x <ℤ l.start.x) → IsOffLinks S (at (record { x = x; y = pos 0 }))
  off_far_left x left l c on = clash l.start.x l.stop.x (left l c) (All-contains (λ (k : Segment). IsBefore k.start k.stop) S l arr.ordered c) on.between_x
    where
      clash : (a b : ℤ) → x <ℤ a → (a <ℤ b) ⊎ ((a ≡ b) × (l.start.y <ℤ l.stop.y))
          → ((pos 0 ≤ℤ (x *ℤ pos 1 -ℤ a *ℤ pos 1)) × (pos 0 ≤ℤ (b *ℤ pos 1 -ℤ x *ℤ pos 1))) ⊎ (((x *ℤ pos 1 -ℤ a *ℤ pos 1) ≤ℤ pos 0) × ((b *ℤ pos 1 -ℤ x *ℤ pos 1) ≤ℤ pos 0)) → ⊥
      clash a b h o (inl w) = let k = w.0 in omega (arith, ints)
      clash a b h (inl o) (inr w) = let k = w.1 in omega (arith, ints)
      clash a b h (inr o) (inr w) =
          let k = w.1 in
          let e = o.0 in omega (arith, ints)

-- a number below the abscissas of all links
pub less_than_all : (S : List Segment) → (x : ℤ) × ((l : Segment) → Contains S l → x <ℤ l.start.x)
less_than_all [] = (pos 0, λ l c. Contains-nil l c)
less_than_all (k ∷ S) = let (x, h) = less_than_all S in go x h (int_lt x k.start.x) refl
  where
    go : (x : ℤ) → ((l : Segment) → Contains S l → x <ℤ l.start.x) → (b : Bool) → int_lt x k.start.x ≡ b → (y : ℤ) × ((l : Segment) → Contains (k ∷ S) l → y <ℤ l.start.x)
    go x h true e = (x, λ l c. elim (Contains-cases k S l c) [ inl f ↦ subst (λ (m : Segment). x <ℤ m.start.x) f (less x k.start.x e) | inr d ↦ h l d ])
      where
        less : (a b : ℤ) → int_lt a b ≡ true → a <ℤ b
        less a b e = omega (arith, ints)
    go x h false e = (
      k.start.x -ℤ pos 1,
      λ l c. elim (Contains-cases k S l c) [ inl f ↦ subst (λ (m : Segment). (k.start.x -ℤ pos 1) <ℤ m.start.x) f (down k.start.x) | inr d ↦ lower x k.start.x l.start.x e (h l d) ],
    )
      where
        down : (a : ℤ) → (a -ℤ pos 1) <ℤ a
        down a = omega (arith, ints)

        lower : (a b c : ℤ) → int_lt a b ≡ false → a <ℤ c → (b -ℤ pos 1) <ℤ c
        lower a b c e h = omega (arith, ints)

-- ---- a point for each face

-- one of each, as a list
choose : {X : Type 0} (P : X → ℕ → Type 0) (n : ℕ) → ((f : ℕ) → f < n → (x : X) × P x f) → (xs : List X) × (length xs ≡ n) × ((i : ℕ) (d : X) → i < n → P (get_or xs i d) i)
choose P zero h = ([], refl, λ i d l. absurd (omega arith))
choose {X} P (suc n) h =
    let (x, is) = h 0 (omega arith) in
    let (xs, many, each) = choose (λ (y : X) (f : ℕ). P y (suc f)) n (λ f l. h (suc f) (omega arith)) in
    (x ∷ xs, ap suc many, go x xs is each)
  where
    go : (x : X) (xs : List X) → P x 0 → ((i : ℕ) (d : X) → i < n → P (get_or xs i d) (suc i)) → (i : ℕ) (d : X) → i < suc n → P (get_or (x ∷ xs) i d) i
    go x xs is each zero d l = is
    go x xs is each (suc i) d l = each i d (omega arith)

module _ (S : List Segment) (arr : IsArrangement S) (arcs : List Path) (long : All (λ arc. 1 < length arc) arcs) (along : GoAlong S arcs) (faces : FaceTable) (built : IsBuiltOf arcs faces)
    (label : Place → ℕ) (by : IsFaceOfPlace arcs faces label) where
  seen_arc : (a : SignedArc) → a.arc < length arcs → (z : RationalPoint) × SeesFace S arcs faces z (face_left_of faces.places a) × IsOffLinks S z
  seen_arc a l =
      let darts : List Dart = map dart_of_step (steps_of (arc_of arcs a.arc)) in
      let longer : 1 < length (arc_of arcs a.arc) = long a.arc [] l in
      let counted = steps_counted (arc_of arcs a.arc) (omega arith) in
      let many = length-map (steps_of (arc_of arcs a.arc)) dart_of_step in
      let there : 0 < length darts = omega arith in
      let none : Dart = record { link = record { start = record { x = pos 0; y = pos 0 }; stop = record { x = pos 0; y = pos 0 } }; forward = true } in
      let e : Dart = get_or darts 0 none in
      let side : Dart = directed_as a e in
      let (z, sees, off) = seen_side S arr side.forward side.link (dart_there S arr arcs long along faces label by a.arc l 0 none there a.is_reversed) in
      (z, record { along = a; there = l; dart = e; of_arc = Contains-get_or darts 0 none there; sees = sees; face = refl }, off)

  shown : (f : ℕ) → f < faces.count → (z : RationalPoint) × (ShowsFace S arcs faces z f × IsOffLinks S z)
  shown f below = elim (faces_have_arcs arcs faces built f below) [
    | inl e ↦ (
        let (x, left) = less_than_all S in
        (at (record { x = x; y = pos 0 }), (inr (inr ((λ l c. plain_up x l.start.x (left l c)), sym e)), off_far_left S arr x left)))
    | inr (a, l, is) ↦ (let (z, sees, off) = seen_arc a l in (z, (inl (subst (SeesFace S arcs faces z) is sees), off)))
  ]

  -- each label is below the count
  label_below : (a : Place) → IsBeside S a → label a < faces.count
  label_below outside h = subst (λ (f : ℕ). f < faces.count) (sym by.outside_all) (built.numbered.below 0 0 (let counted = built.places_counted in omega arith))
  label_below (left_of d) c =
      let (n, j, s, h, e) = step_of_link arcs S arr long along d.link c in
      let darts : List Dart = map dart_of_step (steps_of (arc_of arcs n)) in
      let in_darts : Contains darts (dart_of_step s) = Contains-map dart_of_step (steps_of (arc_of arcs n)) s (j, h.there, h.is) in
      let counted = built.places_counted in
      let there = h.arc in
      elim (one_of_two s d (sym e)) [
        | inl f ↦ subst (λ (g : ℕ). g < faces.count) (sym (ap (λ (k : Dart). label (left_of k)) f ∙ All-contains (λ (k : Dart). label (left_of k) ≡ face_left_of faces.places (forward n)) darts (dart_of_step s) (by.left n h.arc) in_darts)) (built.numbered.below (place_of (forward n)) 0 (omega arith))
        | inr f ↦ subst (λ (g : ℕ). g < faces.count) (sym (ap (λ (k : Dart). label (left_of k)) f ∙ All-contains (λ (k : Dart). label (left_of (opposite k)) ≡ face_left_of faces.places (backward n)) darts (dart_of_step s) (by.right n h.arc) in_darts)) (built.numbered.below (place_of (backward n)) 0 (omega arith))
      ]

pub count_is_exact : CountIsExact
count_is_exact d arcs long along whole faces built =
    let s = snapped_links_are_an_arrangement d in
    let S : List Segment = links_of (snapped d) in
    let (label, by) = each_table_has_labels S s.0 arcs along faces in
    let labelling = faces_are_classes S s.0 arcs long along (whole_are_free (snapped d) arcs whole) faces built label by in
    let (zs, many, each) = choose (λ (z : RationalPoint) (f : ℕ). ShowsFace S arcs faces z f × IsOffLinks S z) faces.count (shown S s.0 arcs long along faces built label by) in (
      zs,
      record {
        off = λ k e l. (each k e (omega arith)).1;
        apart = λ i j e less l one.
            (let same : i ≡ j = (faces_of_a_drawing d arcs long along whole faces built (get_or zs i e) (get_or zs j e) i j (each i e (omega arith)).0 (each j e (omega arith)).0).1 one in
            omega arith);
        all = λ z off.
            (let (a, at_z) = place_exists S s.0 z in
            let below : label a < faces.count = label_below S s.0 arcs long along faces built label by a (place_beside S z a at_z) in
            let x : RationalPoint = get_or zs (label a) z in (
              label a,
              x,
              omega arith,
              get_or_default zs (label a) x z (omega arith),
              λ runs closed.
                  ∥∥₁_elim built.all_links (Bool-set (odd (links_of_paths runs) z) (odd (links_of_paths runs) x))
                  (λ all.
                  let (b, at_x, is_f) = place_shown S s.0 s.1 arcs long along faces label by labelling all x (label a) (each (label a) z below).0 in
                  (labels_are_faces S s.0 s.1 label labelling z x a b at_z at_x).0 (sym is_f) runs closed),
            ));
      },
      many,
    )
