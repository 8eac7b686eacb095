-- A ring has one face on its left all along it, where no links but its own are.
use Rattle.std.proofs.Common.{◌≡◌, ◌⊎◌, inl, inr, refl, sym, ap, subst, ◌∙◌, ℕ, Bool, true, false, not, cond, ◌&&◌, ◌||◌, List, [], ◌∷◌, Contains}
use Rattle.std.proofs.lemmas.List.Elements.{All-contains}
use Rattle.lists.specs.Lists.{last_of}
use Rattle.lists.proofs.Members.{Contains-head, Contains-later, Contains-nil}
use Rattle.plane_model.specs.Points.{GridPoint, Segment, Path}
use Rattle.plane_model.specs.Rotation.{Dart, head, tail, precedes, is_passed}
use Rattle.plane_faces.specs.Around.{opposite}
use Rattle.plane_faces.specs.Places.{Place, left_of, AgreesWherePlacesMeet}
use Rattle.plane_faces.proofs.Around.{precedes_not_itself}
use Rattle.plane_faces.proofs.EvenRings.{between_head, between_tail}
use Rattle.plane_faces.proofs.Lists.{contains_cases}
use Rattle.plane_faces.proofs.Runs.{AreDifferent, dart_between, darts_from}
use Rattle.face_laws.proofs.DartLemmas.{twice_opposite}

tail_of_opposite : (e : Dart) → tail (opposite e) ≡ head e
tail_of_opposite e = go e.forward
  where
    go : (b : Bool) → cond (not b) e.link.start e.link.stop ≡ cond b e.link.stop e.link.start
    go true = refl
    go false = refl

last_in : (r : GridPoint) (rest : Path) → Contains (r ∷ rest) (last_of r rest)
last_in r [] = Contains-head r []
last_in r (s ∷ rest) = Contains-later r (s ∷ rest) (last_of s rest) (last_in s rest)

pub heads : (p : GridPoint) (run : Path) (x : Dart) → Contains (darts_from p run) x → Contains run (head x)
heads p [] x c = absurd (Contains-nil x c)
heads p (q ∷ run) x c = elim (contains_cases (dart_between p q) (darts_from q run) x c) [
  | inl e ↦ subst (Contains (q ∷ run)) (sym (ap head e ∙ between_head p q)) (Contains-head q run)
  | inr k ↦ Contains-later q run (head x) (heads q run x k)
]

tails : (p : GridPoint) (run : Path) (x : Dart) → Contains (darts_from p run) x → Contains (p ∷ run) (tail x)
tails p [] x c = absurd (Contains-nil x c)
tails p (q ∷ run) x c = elim (contains_cases (dart_between p q) (darts_from q run) x c) [
  | inl e ↦ subst (Contains (p ∷ q ∷ run)) (sym (ap tail e ∙ between_tail p q)) (Contains-head p (q ∷ run))
  | inr k ↦ Contains-later p (q ∷ run) (tail x) (tails q run x k)
]

differs : (q : GridPoint) (run : Path) → AreDifferent (q ∷ run) → (u : GridPoint) → Contains run u → u ≡ q → ⊥
differs q run different u c = All-contains (λ (v : GridPoint). v ≡ q → ⊥) run u different.0 c

one_arrival : (p : GridPoint) (run : Path) → AreDifferent run → (x y : Dart) → Contains (darts_from p run) x → Contains (darts_from p run) y → head x ≡ head y → x ≡ y
one_arrival p [] different x y cx cy e = absurd (Contains-nil x cx)
one_arrival p (q ∷ run) different x y cx cy e = elim (contains_cases (dart_between p q) (darts_from q run) x cx) [
  | inl i ↦ elim (contains_cases (dart_between p q) (darts_from q run) y cy) [
    | inl j ↦ i ∙ sym j
    | inr k ↦ absurd (differs q run different (head y) (heads q run y k) (sym e ∙ ap head i ∙ between_head p q))
  ]
  | inr k ↦ elim (contains_cases (dart_between p q) (darts_from q run) y cy) [
    | inl j ↦ absurd (differs q run different (head x) (heads q run x k) (e ∙ ap head j ∙ between_head p q))
    | inr l ↦ one_arrival q run different.1 x y k l e
  ]
]

first_departure : (q r : GridPoint) (rest : Path) → AreDifferent (q ∷ r ∷ rest) → (x : Dart) → Contains (darts_from q (r ∷ rest)) x → tail x ≡ q → x ≡ dart_between q r
first_departure q r rest different x c e = elim (contains_cases (dart_between q r) (darts_from r rest) x c) [
  | inl i ↦ i
  | inr k ↦ absurd (differs q (r ∷ rest) different (tail x) (tails r rest x k) e)
]

-- ---- two darts alone at a vertex

not_passed_first : (d e : Dart) → is_passed d e d ≡ false
not_passed_first d e = go (precedes d e) (precedes d d) (precedes_not_itself d)
  where
    go : (b s : Bool) → s ≡ false → cond b (s && b) (s || b) ≡ false
    go true true f = f
    go true false f = refl
    go false true f = f
    go false false f = refl

not_passed_second : (d e : Dart) → is_passed d e e ≡ false
not_passed_second d e = go (precedes d e) (precedes e e) (precedes_not_itself e)
  where
    go : (b s : Bool) → s ≡ false → cond b (b && s) (b || s) ≡ false
    go true true f = f
    go true false f = refl
    go false true f = f
    go false false f = refl

module _ (T : List Segment) (label : Place → ℕ) (agrees : AgreesWherePlacesMeet T label) where
  junction : (p q r : GridPoint) → Contains T (dart_between p q).link → Contains T (dart_between q r).link →
      ((x : Dart) → Contains T x.link → tail x ≡ q → (x ≡ dart_between q r) ⊎ (x ≡ opposite (dart_between p q))) → label (left_of (dart_between q r)) ≡ label (left_of (dart_between p q))
  junction p q r in_d in_e only =
      let e : Dart = dart_between q r in
      let d : Dart = dart_between p q in
      agrees.sector e (opposite d) in_e in_d (record {
        same_tail = tail_of_opposite d ∙ between_head p q ∙ sym (between_tail q r);
        nothing_between = λ x c at. elim (only x c (at ∙ between_tail q r)) [
          | inl i ↦ ap (is_passed e (opposite d)) i ∙ not_passed_first e (opposite d)
          | inr i ↦ ap (is_passed e (opposite d)) i ∙ not_passed_second e (opposite d)
        ];
      })
      ∙ ap (λ (x : Dart). label (left_of x)) (twice_opposite d)

  module _ (c : GridPoint) (run : Path) (different : AreDifferent run) (there : (x : Dart) → Contains (darts_from c run) x → Contains T x.link)
      (of_ring : (x : Dart) → Contains T x.link → (y : Dart) × Contains (darts_from c run) y × ((x ≡ y) ⊎ (x ≡ opposite y))) where
    abbrev Known : GridPoint → Path → Type 0
    Known p rest = (x : Dart) → Contains (darts_from c run) x → Contains (darts_from p rest) x ⊎ ((tail x ≡ c) ⊎ (Contains rest (tail x) → ⊥))

    pub along_ring : (p q : GridPoint) (rest : Path) → ((x : Dart) → Contains (darts_from p (q ∷ rest)) x → Contains (darts_from c run) x) → AreDifferent (q ∷ rest) → last_of q rest ≡ c →
        (p ≡ c) ⊎ (Contains (q ∷ rest) p → ⊥) → Known p (q ∷ rest) → (x : Dart) → Contains (darts_from p (q ∷ rest)) x → label (left_of x) ≡ label (left_of (dart_between p q))
    along_ring p q [] within apart closes first known x k = elim (contains_cases (dart_between p q) [] x k) [
      | inl i ↦ ap (λ (d : Dart). label (left_of d)) i
      | inr n ↦ absurd (Contains-nil x n)
    ]
    along_ring p q (r ∷ rest) within apart closes first known x k = elim (contains_cases (dart_between p q) (darts_from q (r ∷ rest)) x k) [
      | inl i ↦ ap (λ (d : Dart). label (left_of d)) i
      | inr m ↦ along_ring q r rest (λ y h. within y (Contains-later (dart_between p q) (darts_from q (r ∷ rest)) y h)) apart.1 closes (inr (λ h. differs q (r ∷ rest) apart q h refl)) later x m
          ∙ junction p q r (there (dart_between p q) in_d) (there (dart_between q r) in_e) only
    ]
      where
        in_d : Contains (darts_from c run) (dart_between p q)
        in_d = within (dart_between p q) (Contains-head (dart_between p q) (darts_from q (r ∷ rest)))

        in_e : Contains (darts_from c run) (dart_between q r)
        in_e = within (dart_between q r) (Contains-later (dart_between p q) (darts_from q (r ∷ rest)) (dart_between q r) (Contains-head (dart_between q r) (darts_from r rest)))

        not_end : q ≡ c → ⊥
        not_end e = differs q (r ∷ rest) apart (last_of r rest) (last_in r rest) (closes ∙ sym e)

        here : Contains (q ∷ r ∷ rest) q
        here = Contains-head q (r ∷ rest)

        leaves : (y : Dart) → Contains (darts_from c run) y → tail y ≡ q → y ≡ dart_between q r
        leaves y h e = elim (known y h) [
          | inl i ↦ elim (contains_cases (dart_between p q) (darts_from q (r ∷ rest)) y i) [
            | inl j ↦ (
                let same : p ≡ q = sym (between_tail p q) ∙ sym (ap tail j) ∙ e in
                absurd (elim first [ inl f ↦ not_end (sym same ∙ f) | inr f ↦ f (subst (Contains (q ∷ r ∷ rest)) (sym same) here) ]))
            | inr j ↦ first_departure q r rest apart y j e
          ]
          | inr (inl i) ↦ absurd (not_end (sym e ∙ i))
          | inr (inr i) ↦ absurd (i (subst (Contains (q ∷ r ∷ rest)) (sym e) here))
        ]

        only : (y : Dart) → Contains T y.link → tail y ≡ q → (y ≡ dart_between q r) ⊎ (y ≡ opposite (dart_between p q))
        only y h e = let (w, in_ring, same) = of_ring y h in elim same [
          | inl i ↦ inl (i ∙ leaves w in_ring (sym (ap tail i) ∙ e))
          | inr i ↦ inr (i ∙ ap opposite (one_arrival c run different w (dart_between p q) in_ring in_d (sym (tail_of_opposite w) ∙ sym (ap tail i) ∙ e ∙ sym (between_head p q))))
        ]

        later : Known q (r ∷ rest)
        later y h = elim (known y h) [
          | inl i ↦ elim (contains_cases (dart_between p q) (darts_from q (r ∷ rest)) y i) [
            | inl j ↦ elim first [
              | inl f ↦ inr (inl (ap tail j ∙ between_tail p q ∙ f))
              | inr f ↦ inr (inr (λ m. f (subst (Contains (q ∷ r ∷ rest)) (ap tail j ∙ between_tail p q) (Contains-later q (r ∷ rest) (tail y) m))))
            ]
            | inr j ↦ inl j
          ]
          | inr (inl i) ↦ inr (inl i)
          | inr (inr i) ↦ inr (inr (λ m. i (Contains-later q (r ∷ rest) (tail y) m)))
        ]

    -- all darts of the ring have the face of its first on their left
    pub one_left : (q : GridPoint) (rest : Path) → run ≡ q ∷ rest → last_of q rest ≡ c → (x : Dart) → Contains (darts_from c run) x → label (left_of x) ≡ label (left_of (dart_between c q))
    one_left q rest is closes x k =
        along_ring c q rest (λ y h. subst (λ (path : Path). Contains (darts_from c path) y) (sym is) h) (subst AreDifferent is different) closes (inl refl)
        (λ y h. inl (subst (λ (path : Path). Contains (darts_from c path) y) is h)) x (subst (λ (path : Path). Contains (darts_from c path) x) is k)
