-- Rays, one more place of the list of links at a time.
use Rattle.std.proofs.Common.{◌≡◌, ◌∙◌, refl, sym, ap, subst, arith, ℕ, ◌+◌, ◌<◌, true, List, length, [], ◌∷◌, ◌++◌, All, Contains, inl, inr}
use Rattle.std.proofs.lemmas.Bool.{cases_lt}
use Rattle.std.proofs.lemmas.List.Elements.{All-nil, All-cons, All-append, Contains-append_left, Contains-append_right}
use Rattle.plane_model.specs.Points.{GridPoint}
use Rattle.link_search.specs.Rows.{IsMinimum, start_at, starts_row, AreByStart}
use Rattle.link_search.specs.declared.links.ArcLink.{ArcLink}
use Rattle.link_search.proofs.RowLemmas.{row_of, start_is}
use Rattle.face_walk.specs.Rays.{IsRay, AreRays}

pub record AreRaysBelow (links : List ArcLink) (n : ℕ) (rays : List (ℕ × ℕ)) : Type 0 where
  pub each : All (λ (ray : ℕ × ℕ). (p : GridPoint) × IsRay links p ray) rays
  pub all : (j : ℕ) → j < n → starts_row links j ≡ true → IsMinimum links (start_at links j) → (ray : ℕ × ℕ) × Contains rays ray × IsRay links (start_at links j) ray

pub no_more_rays : (links : List ArcLink) (n : ℕ) (rays : List (ℕ × ℕ)) → AreRaysBelow links n rays → (starts_row links n ≡ true → IsMinimum links (start_at links n) → ⊥) → AreRaysBelow links (n + 1) rays
no_more_rays links n rays h none = record {
  each = h.each;
  all = λ j l s m. elim (cases_lt j n) [
    | inl less ↦ h.all j less s m
    | inr more ↦ (let e : j ≡ n = omega arith in absurd (none (ap (starts_row links) (sym e) ∙ s) (subst (λ (i : ℕ). IsMinimum links (start_at links i)) e m)))
  ];
}

pub one_more_ray : (links : List ArcLink) (n : ℕ) (rays : List (ℕ × ℕ)) (ray : ℕ × ℕ) → AreRaysBelow links n rays → IsRay links (start_at links n) ray → AreRaysBelow links (n + 1) (rays ++ ray ∷ [])
one_more_ray links n rays ray h r = record {
  each = All-append is_ray rays (ray ∷ []) h.each (All-cons is_ray ray [] (start_at links n, r) (All-nil is_ray));
  all = λ j l s m. elim (cases_lt j n) [
    | inl less ↦ (let (q, c, i) = h.all j less s m in (q, Contains-append_left rays (ray ∷ []) q c, i))
    | inr more ↦ (let e : n ≡ j = omega arith in (ray, Contains-append_right rays (ray ∷ []) ray (contains_head ray []), subst (λ (i : ℕ). IsRay links (start_at links i) ray) e r))
  ];
}
  where
    is_ray : ℕ × ℕ → Type 0
    is_ray q = (p : GridPoint) × IsRay links p q

    contains_head : {A : Type 0} (x : A) (xs : List A) → Contains (x ∷ xs) x
    contains_head x xs = (0, omega arith, refl)

pub all_rays : (links : List ArcLink) (rays : List (ℕ × ℕ)) (up : AreByStart links) → AreRaysBelow links (length links) rays → AreRays links rays
all_rays links rays up h = record {
  each = h.each;
  all = λ l c m.
      (let (i, le, s, e) = row_of links c.0 in
      let here : start_at links i ≡ l.link.start = e ∙ start_is links c.0 l c.1 c.2 in
      let there : i < length links = (let x = c.1 in omega arith) in
      let (ray, at, r) = h.all i there s (subst (IsMinimum links) (sym here) m) in
      (ray, at, subst (λ (p : GridPoint). IsRay links p ray) here r));
}
