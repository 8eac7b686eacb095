-- Steps onward, and back.
use Rattle.std.proofs.Common.{◌≡◌, inl, inr, sym, ap, ◌∙◌, subst, ℕ, ◌<◌, List, length, get_or, All, arith}
use Rattle.std.specs.Prelude.{◌≢◌}
use Rattle.plane_model.specs.Points.{GridPoint, Segment, reversed}
use Rattle.arc_table.specs.Steps.{LeadsOn, AreOnward, AreProper, AreTwins, AreMutual, AreBothWays, NoneTurnsBack}
use Rattle.arc_table.specs.Numbering.{step_at}
use Rattle.arc_table.proofs.Marks.{back_at, same_or_not}
use Rattle.arc_table.proofs.Others.{turned}
use Rattle.arc_table.proofs.Proper.{place_once}

module _ (steps : List Segment) (twins : List ℕ) (proper : AreProper steps) (back : AreTwins steps twins (length steps)) (each : length twins ≡ length steps) (there : All (λ t. t < length steps) twins) where
  abbrev twin : ℕ → ℕ
  twin h = get_or twins h 0

  twin_is : (h : ℕ) → h < length steps → step_at steps (twin h) ≡ reversed (step_at steps h)
  twin_is h l = back_at steps h (twin h) l (λ s e. back h s l e)

  pub mutual_twins : AreMutual twins (length steps)
  mutual_twins h l =
      let t = there h 0 (omega arith) in
      (t, place_once steps proper (twin (twin h)) h _ (there (twin h) 0 (omega arith)) l (twin_is (twin h) t ∙ ap reversed (twin_is h l)))

  twin_apart : (h : ℕ) → h < length steps → twin h ≢ h
  twin_apart h l e = proper.moving h _ l (ap (λ (s : Segment). s.stop) (sym (twin_is h l) ∙ ap (step_at steps) e))

  module _ (turns : List GridPoint) (onward : List ℕ) (onward_each : length onward ≡ length steps) (onward_there : All (λ t. t < length steps) onward) (on : AreOnward steps twins turns onward (length steps)) where
    pub both_ways : AreBothWays twins onward (length steps)
    both_ways h l differs =
        let k = get_or onward h 0 in
        let (under, same) = mutual_twins k (onward_there h 0 (omega arith)) in
        let lead : LeadsOn steps turns (twin h) k = (on h l).leads differs in
        (on (twin k) under).only (twin h) (subst (λ (j : ℕ). LeadsOn steps turns j (twin h)) (sym same) (turned steps turns (twin h) k lead))

    pub none_back : NoneTurnsBack twins onward (length steps)
    none_back h l e = elim (same_or_not (get_or onward h 0) h) [
      | inl f ↦ twin_apart h l (sym e ∙ f)
      | inr f ↦ ((on h l).leads f).other.apart (sym e)
    ]
