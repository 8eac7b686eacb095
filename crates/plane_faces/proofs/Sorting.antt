-- The darts of each vertex can be put in rotation.
use Rattle.std.proofs.Common.{◌≡◌, ◌⊎◌, inl, inr, refl, sym, ap, subst, ◌∙◌, Bool, true, false, List, [], ◌∷◌, ◌++◌}
use Rattle.std.proofs.Math.IntN.{pos}
use Rattle.std.specs.Prelude.{All, Contains, int_lt, ◌<ℤ◌}
use Rattle.std.specs.List.Sorted.{IsPermutation}
use Rattle.std.proofs.lemmas.List.Elements.{All-head, All-tail, All-cons, All-nil, All-weaker, All-contains, All-contains_itself}
use Rattle.std.proofs.lemmas.List.Sorted.{IsPermutation-refl, IsPermutation-trans, IsPermutation-cons, IsPermutation-middle, All-permutation}
use Rattle.plane_algebra.proofs.Tests.{lt_to, lt_from}
use Rattle.plane_parity.proofs.HalfTurn.{rot_grid, rot_link, rot_links, rot_link_rot, arrangement_rot, contains_rot, turn-rot}
use Rattle.plane_model.specs.Points.{GridPoint, Segment, turn, at, same_point}
use Rattle.plane_model.specs.Arrangement.{IsArrangement, IsDistinct}
use Rattle.plane_model.specs.Rotation.{Dart, tail, precedes}
use Rattle.plane_faces.specs.Around.{forward_dart, backward_dart, darts_at, InRotation, IsRotation}
use Rattle.plane_faces.proofs.Around.{if_there, darts_are_there}
use Rattle.plane_faces.proofs.Corner.{precedes_total, turn_trans}

-- ---- the darts of one vertex are in strict order

forward_trans : (S : List Segment) → IsArrangement S → (a b c : Segment) → Contains S a → Contains S b → Contains S c → a.start ≡ c.start → b.start ≡ c.start
    → precedes (forward_dart a) (forward_dart b) ≡ true → precedes (forward_dart b) (forward_dart c) ≡ true → precedes (forward_dart a) (forward_dart c) ≡ true
forward_trans S arr a b c ca cb cc' sa sb ab bc =
    subst (λ (q : GridPoint). int_lt (pos 0) (turn (at q) (at a.stop) (at c.stop)) ≡ true) (sym sa)
    (lt_to (pos 0) (turn (at c.start) (at a.stop) (at c.stop)) (turn_trans S arr a b c ca cb cc' sa sb
    (subst (λ (q : GridPoint). pos 0 <ℤ turn (at q) (at a.stop) (at b.stop)) sa (lt_from (pos 0) (turn (at a.start) (at a.stop) (at b.stop)) ab))
    (subst (λ (q : GridPoint). pos 0 <ℤ turn (at q) (at b.stop) (at c.stop)) sb (lt_from (pos 0) (turn (at b.start) (at b.stop) (at c.stop)) bc))))

-- those that arrive, after a half turn
turned : (k l : Segment) → precedes (forward_dart (rot_link k)) (forward_dart (rot_link l)) ≡ precedes (backward_dart k) (backward_dart l)
turned k l = ap (int_lt (pos 0)) (turn-rot (at k.stop) (at k.start) (at l.start))

module _ (S : List Segment) (arr : IsArrangement S) (p : GridPoint) where
  abbrev Here : Dart → Type 0
  Here d = Contains S d.link × (tail d ≡ p)

  trans : (a b c : Dart) → Here a → Here b → Here c → precedes a b ≡ true → precedes b c ≡ true → precedes a c ≡ true
  trans a b c = go a.link b.link c.link a.forward b.forward c.forward
    where
      no : {P : Type 0} → false ≡ true → P
      no e = absurd (cc)

      go : (k l m : Segment) (f g h : Bool) → Here (record { link = k; forward = f }) → Here (record { link = l; forward = g }) → Here (record { link = m; forward = h })
          → precedes (record { link = k; forward = f }) (record { link = l; forward = g }) ≡ true → precedes (record { link = l; forward = g }) (record { link = m; forward = h }) ≡ true → precedes (record { link = k; forward = f }) (record { link = m; forward = h }) ≡ true
      go k l m true true true hk hl hm i j = forward_trans S arr k l m hk.0 hl.0 hm.0 (hk.1 ∙ sym hm.1) (hl.1 ∙ sym hm.1) i j
      go k l m true g false hk hl hm i j = refl
      go k l m true false true hk hl hm i j = no j
      go k l m false true h hk hl hm i j = no i
      go k l m false false true hk hl hm i j = no j
      go k l m false false false hk hl hm i j =
          sym (turned k m)
          ∙ forward_trans (rot_links S) (arrangement_rot S arr) (rot_link k) (rot_link l) (rot_link m) (contains_rot S k hk.0) (contains_rot S l hl.0) (contains_rot S m hm.0)
          (ap rot_grid (hk.1 ∙ sym hm.1)) (ap rot_grid (hl.1 ∙ sym hm.1)) (turned k l ∙ i) (turned l m ∙ j)

  pub total : (a b : Dart) → Here a → Here b → (a ≡ b) ⊎ ((precedes a b ≡ true) ⊎ (precedes b a ≡ true))
  total a b = go a.link b.link a.forward b.forward
    where
      go : (k l : Segment) (f g : Bool) → Here (record { link = k; forward = f }) → Here (record { link = l; forward = g })
          → (◌≡◌ {A = Dart} (record { link = k; forward = f }) (record { link = l; forward = g })) ⊎ ((precedes (record { link = k; forward = f }) (record { link = l; forward = g }) ≡ true) ⊎ (precedes (record { link = l; forward = g }) (record { link = k; forward = f }) ≡ true))
      go k l true true hk hl = elim (precedes_total S arr k l hk.0 hl.0 (hk.1 ∙ sym hl.1)) [ inl e ↦ inl (ap forward_dart e) | inr r ↦ inr r ]
      go k l true false hk hl = inr (inl refl)
      go k l false true hk hl = inr (inr refl)
      go k l false false hk hl = elim (precedes_total (rot_links S) (arrangement_rot S arr) (rot_link k) (rot_link l) (contains_rot S k hk.0) (contains_rot S l hl.0) (ap rot_grid (hk.1 ∙ sym hl.1))) [
        | inl e ↦ inl (ap backward_dart (sym (rot_link_rot k) ∙ ap rot_link e ∙ rot_link_rot l))
        | inr r ↦ elim r [ inl h ↦ inr (inl (sym (turned k l) ∙ h)) | inr h ↦ inr (inr (sym (turned l k) ∙ h)) ]
      ]

  -- ---- insertion

  Inserted : Dart → List Dart → Type 0
  Inserted d ds = (es : List Dart) × IsPermutation (d ∷ ds) es × InRotation es

  inserted : (d : Dart) (ds : List Dart) → Here d → All Here ds → All (λ e. e ≡ d → ⊥) ds → InRotation ds → Inserted d ds
  unfolding Inserted
  inserted d [] hd here different sorted = (d ∷ [], IsPermutation-refl (d ∷ []), (All-nil (λ e. precedes d e ≡ true), tt))
  inserted d (e ∷ ds) hd here different sorted =
      go (total d e hd (All-head Here e ds here)) (inserted d ds hd (All-tail Here e ds here) (All-tail (λ x. x ≡ d → ⊥) e ds different) sorted.1)
    where
      before : precedes d e ≡ true → Inserted d (e ∷ ds)
      before h = (
        d ∷ (e ∷ ds),
        IsPermutation-refl (d ∷ (e ∷ ds)),
        (
          All-cons (λ x. precedes d x ≡ true) e ds h (All-weaker (Contains ds) (λ x. precedes d x ≡ true)
              (λ x c. trans d e x hd (All-head Here e ds here) (All-contains Here ds x (All-tail Here e ds here) c) h (All-contains (λ y. precedes e y ≡ true) ds x sorted.0 c)) ds (All-contains_itself ds)),
          sorted,
        ),
      )

      after : precedes e d ≡ true → Inserted d ds → Inserted d (e ∷ ds)
      after h r = (
        e ∷ r.0,
        IsPermutation-trans (d ∷ (e ∷ ds)) (e ∷ (d ∷ ds)) (e ∷ r.0) (IsPermutation-middle (d ∷ []) e ds) (IsPermutation-cons e (d ∷ ds) r.0 r.1),
        (All-permutation (λ x. precedes e x ≡ true) (d ∷ ds) r.0 r.1 (All-cons (λ x. precedes e x ≡ true) d ds h sorted.0), r.2),
      )

      go : (d ≡ e) ⊎ ((precedes d e ≡ true) ⊎ (precedes e d ≡ true)) → Inserted d ds → Inserted d (e ∷ ds)
      go (inl i) r = absurd (All-head (λ x. x ≡ d → ⊥) e ds different (sym i))
      go (inr (inl h)) r = before h
      go (inr (inr h)) r = after h r

  -- no dart stands in the list twice
  abbrev Different : List Dart → Type 0
  Different [] = Unit {0}
  Different (d ∷ ds) = All (λ e. e ≡ d → ⊥) ds × Different ds

  sorted_of : (ds : List Dart) → All Here ds → Different ds → (es : List Dart) × IsPermutation ds es × InRotation es
  unfolding Inserted
  sorted_of [] here different = ([], IsPermutation-refl [], tt)
  sorted_of (d ∷ ds) here different =
      let r : (es : List Dart) × IsPermutation ds es × InRotation es = sorted_of ds (All-tail Here d ds here) different.1 in
      let i : Inserted d r.0 = inserted d r.0 (All-head Here d ds here) (All-permutation Here ds r.0 r.1 (All-tail Here d ds here)) (All-permutation (λ e. e ≡ d → ⊥) ds r.0 r.1 different.0) r.2 in
      (i.0, IsPermutation-trans (d ∷ ds) (d ∷ r.0) i.0 (IsPermutation-cons d ds r.0 r.1) i.1, i.2)

  darts_different : (T : List Segment) → IsDistinct T → Different (darts_at p T)
  darts_different [] h = tt
  darts_different (l ∷ T) h = first (same_point p l.start) (same_point p l.stop) (darts_different T h.1)
    where
      others : (d : Dart) → d.link ≡ l → All (λ e. e ≡ d → ⊥) (darts_at p T)
      others d e = All-weaker (λ x. Contains T x.link × (tail x ≡ p)) (λ x. x ≡ d → ⊥) (λ x t i. All-contains (λ k. k ≡ l → ⊥) T x.link h.0 t.0 (ap (λ (y : Dart). y.link) i ∙ e)) (darts_at p T) (darts_are_there p T)

      other_way : backward_dart l ≡ forward_dart l → ⊥
      other_way e = let f : false ≡ true = ap (λ (d : Dart). d.forward) e in absurd (cc)

      second : (t : Bool) → Different (darts_at p T) → Different (if_there t (backward_dart l) ++ darts_at p T)
      second true r = (others (backward_dart l) refl, r)
      second false r = r

      rest_apart : (t : Bool) → All (λ e. e ≡ forward_dart l → ⊥) (if_there t (backward_dart l) ++ darts_at p T)
      rest_apart true = All-cons (λ e. e ≡ forward_dart l → ⊥) (backward_dart l) (darts_at p T) other_way (others (forward_dart l) refl)
      rest_apart false = others (forward_dart l) refl

      first : (s t : Bool) → Different (darts_at p T) → Different (if_there s (forward_dart l) ++ (if_there t (backward_dart l) ++ darts_at p T))
      first true t r = (rest_apart t, second t r)
      first false t r = second t r

pub rotations_exist : (S : List Segment) → IsArrangement S → IsDistinct S → (p : GridPoint) → (ds : List Dart) × IsRotation S p ds
rotations_exist S arr distinct p =
    let r = sorted_of S arr p (darts_at p S) (darts_are_there p S) (darts_different S arr p S distinct) in
    (r.0, record { all = r.1; sorted = r.2 })
