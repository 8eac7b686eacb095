-- Once about a vertex: the darts in rotation, each followed by the next.
use Rattle.std.proofs.Common.{◌≡◌, ◌⊎◌, inl, inr, refl, sym, ap, subst, ◌∙◌, arith, Bool, true, false, cond, ◌&&◌, ◌||◌, List, [], ◌∷◌, ◌++◌}
use Rattle.std.proofs.Math.IntN.{ℤ, pos, neg_ℤ}
use Rattle.std.specs.Prelude.{All, Contains, int_lt}
use Rattle.std.proofs.lemmas.Int.{ints}
use Rattle.std.proofs.lemmas.List.Elements.{All-head, All-tail, All-cons, All-nil, All-append, All-weaker, All-contains, Contains-append_left, Contains-append_right}
use Rattle.std.proofs.lemmas.List.Sorted.{Contains-permutation, All-permutation}
use Rattle.lists.specs.Lists.{last_of}
use Rattle.lists.proofs.Members.{Contains-head, Contains-later, Contains-nil}
use Rattle.plane_parity.proofs.Sector.{turn_other}
use Rattle.plane_parity.proofs.Telescope.{same_point-true, same_point-self}
use Rattle.plane_model.specs.Points.{GridPoint, Segment, turn, at, same_point}
use Rattle.plane_model.specs.Rotation.{Dart, tail, precedes, IsNext}
use Rattle.plane_faces.specs.Around.{forward_dart, backward_dart, darts_at, InRotation, IsRotation}
use Rattle.plane_faces.specs.Places.{Consecutive}
use Rattle.plane_faces.proofs.Lists.{contains_cases}

-- ---- the order of rotation

swapped : (a b : ℤ) → a ≡ neg_ℤ b → int_lt (pos 0) b ≡ true → false ≡ int_lt (pos 0) a
swapped a b e h = omega (arith, ints)

pub precedes_once : (d e : Dart) → tail e ≡ tail d → precedes d e ≡ true → precedes e d ≡ false
precedes_once d e = go d.link e.link d.forward e.forward
  where
    turned : (p q r s : GridPoint) → s ≡ p → int_lt (pos 0) (turn (at p) (at q) (at r)) ≡ true → int_lt (pos 0) (turn (at s) (at r) (at q)) ≡ false
    turned p q r s e h = subst (λ (x : GridPoint). int_lt (pos 0) (turn (at x) (at r) (at q)) ≡ false) (sym e) (sym (swapped (turn (at p) (at r) (at q)) (turn (at p) (at q) (at r)) (turn_other (at p) (at r) (at q)) h))

    go : (l k : Segment) (f g : Bool) → tail (record { link = k; forward = g }) ≡ tail (record { link = l; forward = f }) → precedes (record { link = l; forward = f }) (record { link = k; forward = g }) ≡ true → precedes (record { link = k; forward = g }) (record { link = l; forward = f }) ≡ false
    go l k true true s h = turned l.start l.stop k.stop k.start s h
    go l k true false s h = refl
    go l k false true s h = let i : false ≡ true = h in absurd (cc)
    go l k false false s h = turned l.stop l.start k.start k.stop s h

pub precedes_not_itself : (d : Dart) → precedes d d ≡ false
precedes_not_itself d = go (precedes d d) refl
  where
    go : (b : Bool) → precedes d d ≡ b → b ≡ false
    go true e = sym e ∙ precedes_once d d refl e
    go false e = refl

-- ---- the darts of a vertex

abbrev pub if_there : Bool → Dart → List Dart
if_there b d = cond b (d ∷ []) []

pub darts_are_there : (p : GridPoint) (S : List Segment) → All (λ d. Contains S d.link × (tail d ≡ p)) (darts_at p S)
darts_are_there p [] = All-nil (λ d. Contains [] d.link × (tail d ≡ p))
darts_are_there p (l ∷ S) =
    All-append Here (if_there (same_point p l.start) (forward_dart l)) (if_there (same_point p l.stop) (backward_dart l) ++ darts_at p S) (one (same_point p l.start) (forward_dart l) (λ e. (Contains-head l S, same_point-true p l.start e)))
    (All-append Here (if_there (same_point p l.stop) (backward_dart l)) (darts_at p S) (one (same_point p l.stop) (backward_dart l) (λ e. (Contains-head l S, same_point-true p l.stop e)))
    (All-weaker (λ d. Contains S d.link × (tail d ≡ p)) Here (λ d h. (Contains-later l S d.link h.0, h.1)) (darts_at p S) (darts_are_there p S)))
  where
    Here : Dart → Type 0
    Here d = Contains (l ∷ S) d.link × (tail d ≡ p)

    one : (b : Bool) (d : Dart) → (b ≡ true → Here d) → All Here (if_there b d)
    one true d h = All-cons Here d [] (h refl) (All-nil Here)
    one false d h = All-nil Here

pub there_are_darts : (p : GridPoint) (S : List Segment) (d : Dart) → Contains S d.link → tail d ≡ p → Contains (darts_at p S) d
there_are_darts p [] d c t = absurd (Contains-nil d.link c)
there_are_darts p (l ∷ S) d c t = elim (contains_cases l S d.link c) [
  | inl e ↦ this d.link d.forward e t
  | inr k ↦
      Contains-append_right (if_there (same_point p l.start) (forward_dart l)) (if_there (same_point p l.stop) (backward_dart l) ++ darts_at p S) d
      (Contains-append_right (if_there (same_point p l.stop) (backward_dart l)) (darts_at p S) d (there_are_darts p S d k t))
]
  where
    is_there : (b : Bool) (d : Dart) → b ≡ true → Contains (if_there b d) d
    is_there true d e = Contains-head d []
    is_there false d e = let f : false ≡ true = e in absurd (cc)

    same : (q : GridPoint) → q ≡ p → same_point p q ≡ true
    same q e = subst (λ (r : GridPoint). same_point r q ≡ true) e (same_point-self q)

    this : (k : Segment) (f : Bool) → k ≡ l → tail (record { link = k; forward = f }) ≡ p → Contains (darts_at p (l ∷ S)) (record { link = k; forward = f })
    this k true e t = subst (λ (j : Segment). Contains (darts_at p (l ∷ S)) (forward_dart j)) (sym e)
        (Contains-append_left (if_there (same_point p l.start) (forward_dart l)) (if_there (same_point p l.stop) (backward_dart l) ++ darts_at p S) (forward_dart l) (is_there (same_point p l.start) (forward_dart l) (same l.start (ap (λ (j : Segment). j.start) (sym e) ∙ t))))
    this k false e t = subst (λ (j : Segment). Contains (darts_at p (l ∷ S)) (backward_dart j)) (sym e)
        (Contains-append_right (if_there (same_point p l.start) (forward_dart l)) (if_there (same_point p l.stop) (backward_dart l) ++ darts_at p S) (backward_dart l)
        (Contains-append_left (if_there (same_point p l.stop) (backward_dart l)) (darts_at p S) (backward_dart l) (is_there (same_point p l.stop) (backward_dart l) (same l.stop (ap (λ (j : Segment). j.stop) (sym e) ∙ t)))))

-- ---- each dart and the next

pub last-All : {X : Type 0} (P : X → Type 0) (d : X) (ds : List X) → All P (d ∷ ds) → P (last_of d ds)
last-All P d [] h = All-head P d [] h
last-All P d (e ∷ ds) h = last-All P e ds (All-tail P d (e ∷ ds) h)

module _ (S : List Segment) (p : GridPoint) where
  abbrev Here : Dart → Type 0
  Here d = Contains S d.link × (tail d ≡ p)

  -- c comes before all of the darts
  abbrev Before : List Dart → Dart → Type 0
  Before ds c = All (λ x. precedes c x ≡ true) ds

  not_after : (c d : Dart) → Here c → Here d → precedes c d ≡ true → precedes d c ≡ false
  not_after c d hc hd e = precedes_once c d (hd.1 ∙ sym hc.1) e

  walk : (d : Dart) (ds : List Dart) → InRotation (d ∷ ds) → All Here (d ∷ ds) → ((c : Dart) → Here c → Before (d ∷ ds) c ⊎ Contains (d ∷ ds) c)
      → Consecutive (IsNext S) d ds × ((c : Dart) → Here c → precedes (last_of d ds) c ≡ false)
  walk d [] sorted here each = (
    tt,
    λ c h. elim (each c h) [
      | inl b ↦ not_after c d h (All-head Here d [] here) (All-head (λ x. precedes c x ≡ true) d [] b)
      | inr k ↦ elim (contains_cases d [] c k) [ inl e ↦ subst (λ (x : Dart). precedes d x ≡ false) (sym e) (precedes_not_itself d) | inr n ↦ absurd (Contains-nil c n) ]
    ],
  )
  walk d (e ∷ ds) sorted here each =
      let r : Consecutive (IsNext S) e ds × ((c : Dart) → Here c → precedes (last_of e ds) c ≡ false) = walk e ds sorted.1 (All-tail Here d (e ∷ ds) here) later in
      ((next, r.0), r.1)
    where
      hd : Here d
      hd = All-head Here d (e ∷ ds) here

      he : Here e
      he = All-head Here e ds (All-tail Here d (e ∷ ds) here)

      or_none : (a b : Bool) → (a ≡ false) ⊎ (b ≡ false) → (a && b) ≡ false
      or_none true b (inl i) = let k : true ≡ false = i in absurd (cc)
      or_none true b (inr i) = i
      or_none false b i = refl

      between : (c : Dart) → Here c → (precedes d c ≡ false) ⊎ (precedes c e ≡ false)
      between c h = elim (each c h) [
        | inl b ↦ inl (not_after c d h hd (All-head (λ x. precedes c x ≡ true) d (e ∷ ds) b))
        | inr k ↦ elim (contains_cases d (e ∷ ds) c k) [
          | inl g ↦ inl (subst (λ (x : Dart). precedes d x ≡ false) (sym g) (precedes_not_itself d))
          | inr k' ↦ elim (contains_cases e ds c k') [
            | inl g ↦ inr (subst (λ (x : Dart). precedes x e ≡ false) (sym g) (precedes_not_itself e))
            | inr k'' ↦ inr (not_after e c he h (All-contains (λ x. precedes e x ≡ true) ds c sorted.1.0 k''))
          ]
        ]
      ]

      next : IsNext S d e
      next = record {
        same_tail = he.1 ∙ sym hd.1;
        nothing_between = λ c cc' t.
            subst (λ (b : Bool). cond b (precedes d c && precedes c e) (precedes d c || precedes c e) ≡ false) (sym (All-head (λ x. precedes d x ≡ true) e ds sorted.0))
            (or_none (precedes d c) (precedes c e) (between c (cc', t ∙ hd.1)));
      }

      later : (c : Dart) → Here c → Before (e ∷ ds) c ⊎ Contains (e ∷ ds) c
      later c h = elim (each c h) [
        | inl b ↦ inl (All-tail (λ x. precedes c x ≡ true) d (e ∷ ds) b)
        | inr k ↦ elim (contains_cases d (e ∷ ds) c k) [ inl g ↦ inl (subst (λ (y : Dart). Before (e ∷ ds) y) (sym g) sorted.0) | inr k' ↦ inr k' ]
      ]

  module _ (ds : List Dart) (rotation : IsRotation S p ds) where
    pub rotation-here : All Here ds
    rotation-here = All-permutation Here (darts_at p S) ds rotation.all (darts_are_there p S)

    pub rotation-all : (c : Dart) → Here c → Contains ds c
    rotation-all c h = Contains-permutation (darts_at p S) ds c rotation.all (there_are_darts p S c h.0 h.1)

  module _ (d : Dart) (ds : List Dart) (rotation : IsRotation S p (d ∷ ds)) where
    w : Consecutive (IsNext S) d ds × ((c : Dart) → Here c → precedes (last_of d ds) c ≡ false)
    w = walk d ds rotation.sorted (rotation-here (d ∷ ds) rotation) (λ c h. inr (rotation-all (d ∷ ds) rotation c h))

    pub rotation-consecutive : Consecutive (IsNext S) d ds
    rotation-consecutive = w.0

    pub rotation-first : (c : Dart) → Here c → precedes c d ≡ false
    rotation-first c h = elim (contains_cases d ds c (rotation-all (d ∷ ds) rotation c h)) [
      | inl e ↦ subst (λ (x : Dart). precedes x d ≡ false) (sym e) (precedes_not_itself d)
      | inr k ↦ not_after d c (All-head Here d ds (rotation-here (d ∷ ds) rotation)) h (All-contains (λ x. precedes d x ≡ true) ds c rotation.sorted.0 k)
    ]

    -- the first follows the last
    pub rotation-round : IsNext S (last_of d ds) d
    rotation-round = record {
      same_tail = hd.1 ∙ sym hl.1;
      nothing_between = λ c cc' t.
          subst (λ (b : Bool). cond b (precedes (last_of d ds) c && precedes c d) (precedes (last_of d ds) c || precedes c d) ≡ false) (sym (w.1 d hd))
          (neither (precedes (last_of d ds) c) (precedes c d) (w.1 c (cc', t ∙ hl.1)) (rotation-first c (cc', t ∙ hl.1)));
    }
      where
        hd : Here d
        hd = All-head Here d ds (rotation-here (d ∷ ds) rotation)

        hl : Here (last_of d ds)
        hl = last-All Here d ds (rotation-here (d ∷ ds) rotation)

        neither : (a b : Bool) → a ≡ false → b ≡ false → (a || b) ≡ false
        neither true b e f = e
        neither false b e f = f
