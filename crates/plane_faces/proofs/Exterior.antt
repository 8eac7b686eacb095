-- Exactly one of the runs that trace a border passes a given link of it.
use Rattle.std.proofs.Common.{◌≡◌, inl, inr, ℕ, zero, suc, ◌+◌, refl, sym, ap, subst, ◌∙◌, arith, Bool, true, false, cond, List, [], ◌∷◌, ◌++◌}
use Rattle.std.specs.Prelude.{All, Contains}
use Rattle.std.specs.List.Sorted.{IsPermutation}
use Rattle.std.proofs.lemmas.List.Elements.{All-nil, All-cons, All-contains}
use Rattle.lists.proofs.Members.{Contains-nil}
use Rattle.plane_parity.proofs.Abscissa.{same_link-self, same_link-true}
use Rattle.plane_model.specs.Points.{GridPoint, Segment, same_segment, Path}
use Rattle.plane_model.specs.Arrangement.{IsDistinct}
use Rattle.plane_faces.specs.Rings.{links_of_path}
use Rattle.plane_faces.proofs.Runs.{links_of_runs, passes}
use Rattle.plane_faces.proofs.Lists.{contains_cases, count, count_append, count-permutation, count_none, odd_of_none, odd_of_one}

pub distinct_count : (B : List Segment) → IsDistinct B → (a : Segment) → Contains B a → count (same_segment a) B ≡ 1
unfolding count
distinct_count [] d a c = absurd (Contains-nil a c)
distinct_count (b ∷ B) d a c = elim (contains_cases b B a c) [
  | inl e ↦ here (same_segment a b) (subst (λ (k : Segment). same_segment a k ≡ true) e (same_link-self a)) (count_none (same_segment a) B (λ k ck. not_same k ck (same_segment a k) refl e))
  | inr i ↦ there (same_segment a b) (not_first i (same_segment a b) refl) (distinct_count B d.1 a i)
]
  where
    here : (t : Bool) → t ≡ true → count (same_segment a) B ≡ 0 → cond t (suc (count (same_segment a) B)) (count (same_segment a) B) ≡ 1
    here true e h = omega (arith, h)
    here false e h = let f : false ≡ true = e in absurd (cc)

    there : (t : Bool) → t ≡ false → count (same_segment a) B ≡ 1 → cond t (suc (count (same_segment a) B)) (count (same_segment a) B) ≡ 1
    there true e h = let f : true ≡ false = e in absurd (cc)
    there false e h = h

    not_same : (k : Segment) → Contains B k → (t : Bool) → same_segment a k ≡ t → a ≡ b → t ≡ false
    not_same k ck true e g = absurd (All-contains (λ j. j ≡ b → ⊥) B k d.0 ck (same_link-true a k e ∙ g))
    not_same k ck false e g = refl

    not_first : Contains B a → (t : Bool) → same_segment a b ≡ t → t ≡ false
    not_first i true e = absurd (All-contains (λ j. j ≡ b → ⊥) B a d.0 i (sym (same_link-true a b e)))
    not_first i false e = refl

module _ (a : Segment) where
  times : List Segment → ℕ
  times xs = count (same_segment a) xs

  none_pass : (runs : List Path) → times (links_of_runs runs) ≡ 0 → All (λ r. passes a r ≡ false) runs
  unfolding times
  none_pass [] e = All-nil (λ r. passes a r ≡ false)
  none_pass (run ∷ runs) e =
      let s : times (links_of_path run ++ links_of_runs runs) ≡ times (links_of_path run) + times (links_of_runs runs) = count_append (same_segment a) (links_of_path run) (links_of_runs runs) in
      All-cons (λ r. passes a r ≡ false) run runs (odd_of_none (same_segment a) (links_of_path run) (omega (arith, s, e))) (none_pass runs (omega (arith, s, e)))

  -- one run passes a, and no other does
  abbrev pub OnePasses : List Path → Type 0
  OnePasses runs = (before : List Path) × (exterior : List GridPoint) × (after : List Path)
      × (runs ≡ before ++ (exterior ∷ after)) × (passes a exterior ≡ true) × All (λ r. passes a r ≡ false) (before ++ after)

  one_passes_of : (runs : List Path) → times (links_of_runs runs) ≡ 1 → OnePasses runs
  unfolding times count
  one_passes_of [] e = absurd (omega (arith, e))
  one_passes_of (run ∷ runs) e = go (times (links_of_path run)) refl (λ h. one_passes_of runs h)
    where
      s : times (links_of_path run ++ links_of_runs runs) ≡ times (links_of_path run) + times (links_of_runs runs)
      s = count_append (same_segment a) (links_of_path run) (links_of_runs runs)

      go : (m : ℕ) → times (links_of_path run) ≡ m → (times (links_of_runs runs) ≡ 1 → OnePasses runs) → OnePasses (run ∷ runs)
      go zero f rest =
          let r : OnePasses runs = rest (omega (arith, s, e, f)) in
          (run ∷ r.0, r.1, r.2, ap (λ (rs : List Path). run ∷ rs) r.3, r.4, All-cons (λ q. passes a q ≡ false) run (r.0 ++ r.2) (odd_of_none (same_segment a) (links_of_path run) f) r.5)
      go (suc zero) f rest = ([], run, runs, refl, odd_of_one (same_segment a) (links_of_path run) f, none_pass runs (omega (arith, s, e, f)))
      go (suc (suc m)) f rest = absurd (omega (arith, s, e, f))

  pub one_passes : (B : List Segment) → IsDistinct B → Contains B a → (runs : List Path) → IsPermutation (links_of_runs runs) B → OnePasses runs
  unfolding times
  one_passes B d c runs h = one_passes_of runs (count-permutation (same_segment a) (links_of_runs runs) B h ∙ distinct_count B d a c)
