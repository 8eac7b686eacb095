-- Steps of paths that are put together, turned round, or rid of repeats.
use Rattle.std.proofs.Common.{◌≡◌, ◌≢◌, inl, inr, refl, sym, ap, ◌∙◌, subst, arith, ℕ, zero, suc, ◌+◌, ◌≤◌, Bool, true, false, List, [], ◌∷◌, ◌++◌, append_assoc, length, reverse, get_or, Contains}
use Rattle.std.specs.Prelude.{if◌then◌else◌}
use Rattle.std.specs.List.{flat_map}
use Rattle.std.proofs.lemmas.List.{reverse-append}
use Rattle.lists.specs.Lists.{drop_repeats}
use Rattle.lists.proofs.Members.{Contains-head, Contains-later, Contains-nil, Contains-cases}
use Rattle.plane_model.specs.Points.{GridPoint, Segment, Path, same_point}
use Rattle.plane_model.specs.Drawing.{steps}
use Rattle.plane_model.proofs.PointOrder.{same_point_from}
use Rattle.plane_snapping.proofs.Linked.{IsLink}
use Rattle.plane_snapping.proofs.Steps.{drop_first}

abbrev between : GridPoint → GridPoint → Segment
between p q = record { start = p; stop = q }

-- ---- end to end

later_step : (x : GridPoint) (path : Path) (s : Segment) → Contains (steps path) s → Contains (steps (x ∷ path)) s
later_step x [] s c = Contains-nil s c
later_step x (y ∷ rest) s c = Contains-later (between x y) (steps (y ∷ rest)) s c

steps_left : (xs ys : Path) (s : Segment) → Contains (steps xs) s → Contains (steps (xs ++ ys)) s
steps_left [] ys s c = Contains-nil s c
steps_left (x ∷ []) ys s c = Contains-nil s c
steps_left (x ∷ y ∷ rest) ys s c = elim (Contains-cases (between x y) (steps (y ∷ rest)) s c) [
  | inl e ↦ subst (Contains (steps (x ∷ y ∷ rest ++ ys))) e (Contains-head (between x y) (steps (y ∷ rest ++ ys)))
  | inr d ↦ later_step x (y ∷ rest ++ ys) s (steps_left (y ∷ rest) ys s d)
]

steps_right : (xs ys : Path) (s : Segment) → Contains (steps ys) s → Contains (steps (xs ++ ys)) s
steps_right [] ys s c = c
steps_right (x ∷ xs) ys s c = later_step x (xs ++ ys) s (steps_right xs ys s c)

pub steps_of_part : (f : Segment → Path) (ss : List Segment) (e t : Segment) → Contains ss e → Contains (steps (f e)) t → Contains (steps (flat_map f ss)) t
steps_of_part f [] e t c k = Contains-nil e c
steps_of_part f (s ∷ ss) e t c k = elim (Contains-cases s ss e c) [
  | inl same ↦ steps_left (f s) (flat_map f ss) t (subst (λ (u : Segment). Contains (steps (f u)) t) (sym same) k)
  | inr d ↦ steps_right (f s) (flat_map f ss) t (steps_of_part f ss e t d k)
]

-- ---- without repeats

pub kept_step : (path : Path) (s : Segment) → Contains (steps path) s → s.start ≢ s.stop → Contains (steps (drop_repeats same_point path)) s
kept_step [] s c n = c
kept_step (x ∷ []) s c n = c
kept_step (x ∷ y ∷ rest) s c n = go (same_point x y) refl (drop_first y rest) (λ k. kept_step (y ∷ rest) s k n)
  where
    go : (b : Bool) → same_point x y ≡ b → ((zs : Path) × (drop_repeats same_point (y ∷ rest) ≡ y ∷ zs)) → (Contains (steps (y ∷ rest)) s → Contains (steps (drop_repeats same_point (y ∷ rest))) s)
        → Contains (steps (if b then drop_repeats same_point (y ∷ rest) else x ∷ drop_repeats same_point (y ∷ rest))) s
    go true e first more = elim (Contains-cases (between x y) (steps (y ∷ rest)) s c) [
      | inl f ↦ absurd (n ((λ i. (sym f i).start) ∙ same_point_from x y e ∙ (λ i. (f i).stop)))
      | inr d ↦ more d
    ]
    go false e first more = elim (Contains-cases (between x y) (steps (y ∷ rest)) s c) [
      | inl f ↦ subst (λ (zs : Path). Contains (steps (x ∷ zs)) s) (sym first.1) (subst (Contains (steps (x ∷ y ∷ first.0))) f (Contains-head (between x y) (steps (y ∷ first.0))))
      | inr d ↦ later_step x (drop_repeats same_point (y ∷ rest)) s (more d)
    ]

-- ---- turned round

pub back_step : (path : Path) (u v : GridPoint) → Contains (steps path) (between u v) → Contains (steps (reverse path)) (between v u)
back_step [] u v c = Contains-nil (between u v) c
back_step (x ∷ []) u v c = Contains-nil (between u v) c
back_step (x ∷ y ∷ rest) u v c =
    let last : reverse (x ∷ y ∷ rest) ≡ reverse (y ∷ rest) ++ x ∷ [] = reverse-append (x ∷ []) (y ∷ rest) in
    let whole : reverse (x ∷ y ∷ rest) ≡ reverse rest ++ y ∷ x ∷ [] = last ∙ ap (λ (xs : Path). xs ++ x ∷ []) (reverse-append (y ∷ []) rest) ∙ append_assoc (reverse rest) (y ∷ []) (x ∷ []) in
    elim (Contains-cases (between x y) (steps (y ∷ rest)) (between u v) c) [
      | inl e ↦ subst (λ (xs : Path). Contains (steps xs) (between v u)) (sym whole) (steps_right (reverse rest) (y ∷ x ∷ []) (between v u)
          (subst (Contains (between y x ∷ [])) (λ i. between (e i).stop (e i).start) (Contains-head (between y x) [])))
      | inr d ↦ subst (λ (xs : Path). Contains (steps xs) (between v u)) (sym last) (steps_left (reverse (y ∷ rest)) (x ∷ []) (between v u) (back_step (y ∷ rest) u v d))
    ]

-- ---- by place

pub step_of_link : (chain : Path) (u v : GridPoint) → IsLink chain u v → Contains (steps chain) (between u v)
step_of_link [] u v l = absurd (let h = l.1 in omega arith)
step_of_link (x ∷ []) u v l = absurd (let h = l.1 in omega arith)
step_of_link (x ∷ y ∷ rest) u v (zero, h, e, f) = subst (Contains (steps (x ∷ y ∷ rest))) (λ i. between (e i) (f i)) (Contains-head (between x y) (steps (y ∷ rest)))
step_of_link (x ∷ y ∷ rest) u v (suc k, h, e, f) =
    let next : suc k + 1 ≡ suc (k + 1) = omega arith in
    later_step x (y ∷ rest) (between u v) (step_of_link (y ∷ rest) u v (k, omega arith, e, ap (λ (m : ℕ). get_or (x ∷ y ∷ rest) m v) (sym next) ∙ f))

pub step_long : (path : Path) (s : Segment) → Contains (steps path) s → 2 ≤ length path
step_long [] s c = Contains-nil s c
step_long (x ∷ []) s c = Contains-nil s c
step_long (x ∷ y ∷ rest) s c = omega arith
