-- A ring with its inside on the left turns left at its least vertex, and one that turns right there has it on the
-- right.
use Rattle.std.proofs.Common.{◌≡◌, ◌⊎◌, inl, inr, refl, sym, ap, subst, ◌∙◌, ℕ, Bool, true, false, not, ◌&&◌, List, [], ◌∷◌, ◌++◌, Contains, nat_eq, pos, Some}
use Rattle.std.specs.Prelude.{All, ◌<ℤ◌, if◌then◌else◌}
use Rattle.std.specs.List.{cons_option}
use Rattle.std.specs.List.Sorted.{IsPermutation}
use Rattle.std.proofs.lemmas.Bool.{and_parts, eq-eqb, eqb-true, false_from_ne_true}
use Rattle.std.proofs.lemmas.List.{append-nil}
use Rattle.std.proofs.lemmas.List.Elements.{All-cons, All-contains, All-contains_itself, All-nil, All-weaker, Contains-append_right}
use Rattle.std.proofs.lemmas.List.Sorted.{IsPermutation-refl}
use Rattle.lists.specs.Lists.{last_of}
use Rattle.lists.proofs.Members.{Contains-head, Contains-later, Contains-nil}
use Rattle.plane_model.specs.Points.{GridPoint, Segment, Path, is_before, link_between, reversed, same_segment}
use Rattle.plane_model.specs.Arrangement.{IsArrangement, IsDistinct}
use Rattle.plane_model.specs.Boundary.{boundary_step}
use Rattle.plane_model.specs.Drawing.{steps}
use Rattle.plane_model.specs.EvenList.{IsEven}
use Rattle.plane_model.specs.Joined.{IsClosed}
use Rattle.plane_model.specs.Parity.{odd_count, xor}
use Rattle.plane_model.specs.Rings.{UsesOnce, turn_at_least}
use Rattle.plane_model.specs.Rotation.{Dart, head}
use Rattle.plane_model.proofs.PointOrder.{clash}
use Rattle.plane_parity.proofs.Abscissa.{same_link-self, same_link-true}
use Rattle.plane_parity.proofs.ClosedRun.{closed_run_even}
use Rattle.plane_faces.specs.Around.{opposite}
use Rattle.plane_faces.specs.Labels.{IsFaceLabelling, IsPartLabelling, among, in_part}
use Rattle.plane_faces.specs.Places.{Place, outside, left_of, left_side, right_side, IsBeside, odd_at}
use Rattle.plane_faces.specs.Rings.{IsPolygon, IsRing, dart_of_step}
use Rattle.plane_faces.specs.UsedOnce.{border_steps}
use Rattle.plane_faces.proofs.Crossing.{crossing_law}
use Rattle.plane_faces.proofs.EvenRings.{between_head}
use Rattle.plane_faces.proofs.FaceLaws.{one_face_at}
use Rattle.plane_faces.proofs.Joining.{face_labelling, part_labelling}
use Rattle.plane_faces.proofs.Corner.{sub_arrangement}
use Rattle.plane_faces.proofs.Parts.{not_counted}
use Rattle.plane_faces.proofs.Lists.{contains_cases}
use Rattle.plane_faces.proofs.Runs.{AreDifferent, dart_between, darts_from, links_from}
use Rattle.plane_faces.proofs.UsedOnce.{parts_used_once_are_polygons}
use Rattle.printed_laws.proofs.RingSides.{heads, one_left}

-- ---- links and darts of a ring

pub dart_of_link : (p : GridPoint) (run : Path) (l : Segment) → Contains (links_from p run) l → (x : Dart) × Contains (darts_from p run) x × (x.link ≡ l)
dart_of_link p [] l c = absurd (Contains-nil l c)
dart_of_link p (q ∷ run) l c = elim (contains_cases (dart_between p q).link (links_from q run) l c) [
  | inl e ↦ (dart_between p q, Contains-head (dart_between p q) (darts_from q run), sym e)
  | inr k ↦ (let (x, there, is) = dart_of_link q run l k in (x, Contains-later (dart_between p q) (darts_from q run) x there, is))
]

pub link_of_dart : (p : GridPoint) (run : Path) (x : Dart) → Contains (darts_from p run) x → Contains (links_from p run) x.link
link_of_dart p [] x c = absurd (Contains-nil x c)
link_of_dart p (q ∷ run) x c = elim (contains_cases (dart_between p q) (darts_from q run) x c) [
  | inl e ↦ subst (Contains (links_from p (q ∷ run))) (sym (ap (λ (d : Dart). d.link) e)) (Contains-head (dart_between p q).link (links_from q run))
  | inr k ↦ Contains-later (dart_between p q).link (links_from q run) x.link (link_of_dart q run x k)
]

pub same_or_opposite : (x y : Dart) → x.link ≡ y.link → (x ≡ y) ⊎ (x ≡ opposite y)
same_or_opposite x y e = go x.forward y.forward (λ g i. record { link = e i; forward = g })
  where
    go : (f b : Bool) → ((g : Bool) → ◌≡◌ {A = Dart} (record { link = x.link; forward = g }) (record { link = y.link; forward = g }))
        → (◌≡◌ {A = Dart} (record { link = x.link; forward = f }) (record { link = y.link; forward = b })) ⊎ (◌≡◌ {A = Dart} (record { link = x.link; forward = f }) (record { link = y.link; forward = not b }))
    go true true h = inl (h true)
    go true false h = inr (h true)
    go false true h = inr (h false)
    go false false h = inl (h false)

-- the test holds on the left of the darts, and not on their right
abbrev pub IsHeldLeft : (Place → Bool) → List Dart → Type 0
IsHeldLeft f darts = (x : Dart) → Contains darts x → (f (left_of x) ≡ true) × (f (left_of (opposite x)) ≡ false)

-- where each dart of a ring has a test on its left alone, no link stands in it twice
pub links_differ : (f : Place → Bool) (p : GridPoint) (run : Path) → AreDifferent run → IsHeldLeft f (darts_from p run) → IsDistinct (links_from p run)
links_differ f p [] different held = tt
links_differ f p (q ∷ run) different held = (first, links_differ f q run different.1 (λ x c. held x (Contains-later (dart_between p q) (darts_from q run) x c)))
  where
    apart : (l : Segment) → Contains (links_from q run) l → l ≡ (dart_between p q).link → ⊥
    apart l c e =
        let (x, there, is) = dart_of_link q run l c in
        elim (same_or_opposite x (dart_between p q) (is ∙ e)) [
          | inl i ↦ All-contains (λ (u : GridPoint). u ≡ q → ⊥) run (head x) different.0 (heads q run x there) (ap head i ∙ between_head p q)
          | inr i ↦ clash (f (left_of x)) (held x (Contains-later (dart_between p q) (darts_from q run) x there)).0 (ap (λ (y : Dart). f (left_of y)) i ∙ (held (dart_between p q) (Contains-head (dart_between p q) (darts_from q run))).1)
        ]

    first : All (λ l. l ≡ (dart_between p q).link → ⊥) (links_from q run)
    first = All-weaker (Contains (links_from q run)) (λ l. l ≡ (dart_between p q).link → ⊥) apart (links_from q run) (All-contains_itself (links_from q run))

pub counted_once : (T : List Segment) → IsDistinct T → (l : Segment) → Contains T l → odd_count (same_segment l) T ≡ true
counted_once [] distinct l c = absurd (Contains-nil l c)
counted_once (k ∷ ks) distinct l c = elim (contains_cases k ks l c) [
  | inl e ↦
      ap (λ (m : Segment). xor (same_segment l m) (odd_count (same_segment l) ks)) (sym e)
      ∙ ap (λ (b : Bool). xor b (odd_count (same_segment l) ks)) (same_link-self l)
      ∙ ap not (not_counted ks l (λ m. All-contains (λ (j : Segment). j ≡ k → ⊥) ks l distinct.0 m e))
  | inr m ↦
      ap (λ (b : Bool). xor b (odd_count (same_segment l) ks)) (false_from_ne_true (same_segment l k) (λ e. All-contains (λ (j : Segment). j ≡ k → ⊥) ks l distinct.0 m (sym (same_link-true l k e))))
      ∙ counted_once ks distinct.1 l m
]

-- ---- steps of a ring with a test on the left

step_is : (f : Place → Bool) (s : Segment) → f (left_of (dart_of_step s)) ≡ true → f (left_of (opposite (dart_of_step s))) ≡ false → boundary_step (f (left_side (link_between s))) (f (right_side (link_between s))) (link_between s) ≡ Some s
step_is f s = go (is_before s.start s.stop)
  where
    go : (b : Bool) → f (left_of (record { link = if b then s else reversed s; forward = b })) ≡ true → f (left_of (record { link = if b then s else reversed s; forward = not b })) ≡ false
        → boundary_step (f (left_side (if b then s else reversed s))) (f (right_side (if b then s else reversed s))) (if b then s else reversed s) ≡ Some s
    go true t n = λ i. boundary_step (t i) (n i) s
    go false t n = λ i. boundary_step (n i) (t i) (reversed s)

steps_back : (f : Place → Bool) (p : GridPoint) (run : Path) → IsHeldLeft f (darts_from p run) → border_steps f (links_from p run) ≡ steps (p ∷ run)
steps_back f p [] held = refl
steps_back f p (q ∷ run) held =
    let h = held (dart_between p q) (Contains-head (dart_between p q) (darts_from q run)) in
    let one = step_is f (record { start = p; stop = q }) h.0 h.1 in
    let rest = steps_back f q run (λ x c. held x (Contains-later (dart_between p q) (darts_from q run) x c)) in
    (λ i. cons_option (one i) (rest i))

only_one : {X : Type 0} (before : List X) (x : X) (after : List X) (y : X) → y ∷ [] ≡ before ++ (x ∷ after) → x ≡ y
only_one before x after y e = elim (contains_cases y [] x (subst (λ (xs : List _). Contains xs x) (sym e) (Contains-append_right before (x ∷ after) x (Contains-head x after)))) [ inl i ↦ i | inr n ↦ absurd (Contains-nil x n) ]

-- ---- a ring alone

module _ (S : List Segment) (arr : IsArrangement S) (f : Place → Bool) (c q : GridPoint) (rest : Path) (closes : last_of q rest ≡ c) (different : AreDifferent (q ∷ rest)) (ring : IsRing (c ∷ q ∷ rest))
    (held : IsHeldLeft f (darts_from c (q ∷ rest))) (within : All (Contains S) (links_from c (q ∷ rest))) where
  abbrev T : List Segment
  T = links_from c (q ∷ rest)

  abbrev D : List Dart
  D = darts_from c (q ∷ rest)

  arrT : IsArrangement (links_from c (q ∷ rest))
  arrT = sub_arrangement S T arr within

  distinctT : IsDistinct (links_from c (q ∷ rest))
  distinctT = links_differ f c (q ∷ rest) different held

  even : IsEven (links_from c (q ∷ rest))
  even = closed_run_even (c ∷ q ∷ rest) closes

  label : Place → ℕ
  label = (face_labelling T arrT distinctT).0

  labelling : IsFaceLabelling (links_from c (q ∷ rest)) label
  unfolding label
  labelling = (face_labelling T arrT distinctT).1

  one_face : (x : Dart) → Contains D x → label (left_of x) ≡ label (left_of (dart_between c q))
  one_face x k =
      one_left T label labelling.agrees c (q ∷ rest) different (link_of_dart c (q ∷ rest))
      (λ y h. let (w, there, is) = dart_of_link c (q ∷ rest) y.link h in (w, there, same_or_opposite y w (sym is)))
      q rest refl closes x k

  itself : All (Contains T) T
  itself = All-contains_itself T

  abbrev first : Dart
  first = dart_between c q

  in_first : Contains D (dart_between c q)
  in_first = Contains-head (dart_between c q) (darts_from q rest)

  -- all darts of the ring have the same parity on their left
  pub same_left : (x : Dart) → Contains (darts_from c (q ∷ rest)) x → odd_at (links_from c (q ∷ rest)) (left_of x) ≡ odd_at (links_from c (q ∷ rest)) (left_of (dart_between c q))
  same_left x k = one_face_at T arrT label labelling T itself even (left_of x) (left_of first) (link_of_dart c (q ∷ rest) x k) (link_of_dart c (q ∷ rest) first in_first) (one_face x k)

  pub across : (x : Dart) → Contains (darts_from c (q ∷ rest)) x → odd_at (links_from c (q ∷ rest)) (left_of x) ≡ not (odd_at (links_from c (q ∷ rest)) (left_of (opposite x)))
  across x k = go x.link x.forward (crossing_law T T arrT itself even x.link (link_of_dart c (q ∷ rest) x k) ∙ ap (xor (odd_at T (right_side x.link))) (counted_once T distinctT x.link (link_of_dart c (q ∷ rest) x k)))
    where
      turned : (a b : Bool) → a ≡ xor b true → a ≡ not b
      turned a true e = e
      turned a false e = e

      back : (a b : Bool) → a ≡ not b → b ≡ not a
      back a true e = ap not (sym e)
      back a false e = ap not (sym e)

      go : (l : Segment) (b : Bool) → odd_at T (left_side l) ≡ xor (odd_at T (right_side l)) true → odd_at T (left_of (record { link = l; forward = b })) ≡ not (odd_at T (left_of (record { link = l; forward = not b })))
      go l true e = turned (odd_at T (left_side l)) (odd_at T (right_side l)) e
      go l false e = back (odd_at T (left_side l)) (odd_at T (right_side l)) (turned (odd_at T (left_side l)) (odd_at T (right_side l)) e)

  -- with its inside on the left it turns left
  pub turns_left : odd_at (links_from c (q ∷ rest)) (left_of (dart_between c q)) ≡ true → pos 0 <ℤ turn_at_least (c ∷ q ∷ rest)
  turns_left inside = subst (λ (path : Path). pos 0 <ℤ turn_at_least path) (only_one polygon.before polygon.exterior polygon.after (c ∷ q ∷ rest) polygon.are) polygon.exterior_turns_left
    where
      n : ℕ
      n = label (left_of (dart_between c q))

      F : ℕ → Bool
      F k = nat_eq k n

      part : ℕ → ℕ
      part = (part_labelling T label F).0

      parts : IsPartLabelling (links_from c (q ∷ rest)) label F part
      parts = (part_labelling T label F).1

      g : Place → Bool
      g = among label (in_part F part (part n))

      in_it : in_part F part (part n) n ≡ true
      in_it = λ i. eq-eqb n n refl i && eq-eqb (part n) (part n) refl i

      odd_there : (a : Place) → IsBeside T a → label a ≡ n → odd_at T a ≡ true
      odd_there a beside e = one_face_at T arrT label labelling T itself even a (left_of first) beside (link_of_dart c (q ∷ rest) first in_first) e ∙ inside

      of_it : (a : Place) → g a ≡ true → label a ≡ n
      of_it a e = eqb-true (label a) n (and_parts (F (label a)) (nat_eq (part (label a)) (part n)) e).0

      outer : F (label outside) ≡ false
      outer = false_from_ne_true (F (label outside)) (λ e. clash (odd_at T outside) (odd_there outside tt (eqb-true (label outside) n e)) refl)

      on_left : IsHeldLeft g (darts_from c (q ∷ rest))
      on_left x k = (
        ap (in_part F part (part n)) (one_face x k) ∙ in_it,
        false_from_ne_true (g (left_of (opposite x))) (λ e. clash (odd_at T (left_of x)) (odd_there (left_of x) (link_of_dart c (q ∷ rest) x k) (one_face x k))
            (across x k ∙ ap not (odd_there (left_of (opposite x)) (link_of_dart c (q ∷ rest) x k) (of_it (left_of (opposite x)) e)))),
      )

      uses : UsesOnce (border_steps g T) ((c ∷ q ∷ rest) ∷ [])
      uses = record {
        closed = All-cons IsClosed (c ∷ q ∷ rest) [] closes (All-nil IsClosed);
        steps_once = subst (IsPermutation (border_steps g T)) (steps_back g c (q ∷ rest) on_left ∙ sym (append-nil (steps (c ∷ q ∷ rest)))) (IsPermutation-refl (border_steps g T));
      }

      polygon : IsPolygon (links_from c (q ∷ rest)) g ((c ∷ q ∷ rest) ∷ [])
      polygon =
          parts_used_once_are_polygons T arrT distinctT label labelling F outer part parts (part n) ((c ∷ q ∷ rest) ∷ []) uses (All-cons IsRing (c ∷ q ∷ rest) [] ring (All-nil IsRing)) (left_of first)
          (link_of_dart c (q ∷ rest) first in_first) (on_left first in_first).0
