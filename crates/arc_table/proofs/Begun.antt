-- The signed arc that a step begins, and the steps of a path.
use Rattle.std.proofs.Common.{◌≡◌, refl, sym, ap, subst, ◌∙◌, ℕ, zero, suc, ◌-◌, ◌<◌, List, [], ◌∷◌, ◌++◌, length, get_or, arith, All, Contains, Option, Some, None}
use Rattle.std.specs.Prelude.{IfSome}
use Rattle.std.proofs.lemmas.List.Elements.{All-append, All-contains, All-cons, All-nil}
use Rattle.lists.proofs.Members.{Contains-head, Contains-later}
use Rattle.plane_model.specs.Points.{GridPoint, Segment, Path}
use Rattle.plane_model.specs.Drawing.{step_of, steps}
use Rattle.plane_model.specs.Arcs.{SignedArc}
use Rattle.arc_table.specs.Around.{first_step, IsAround}
use Rattle.arc_table.specs.Lookup.{BeginAlong, IsBegunBy}

-- among the signed arcs from its start, the one that begins with the step, or none
pub begun_from : (arcs : List Path) (s : Segment) (row : List SignedArc) (found : Option SignedArc) → IsAround arcs s.start row → IfSome found (λ (a : SignedArc). (a.arc < length arcs) × (first_step arcs a ≡ s))
    → (found ≡ None → All (λ (a : SignedArc). first_step arcs a ≡ s → ⊥) row) → IsBegunBy arcs s found
begun_from arcs s row None around h none =
    λ a l e. All-contains (λ (b : SignedArc). first_step arcs b ≡ s → ⊥) row a (none refl) (around.all a l (ap (λ (t : Segment). t.start) e)) e
begun_from arcs s row (Some a) around h none = h

-- ---- steps of a path

pub step_there : (path : Path) (k : ℕ) (p q : GridPoint) → suc k < length path → p ≡ get_or path k p → q ≡ get_or path (suc k) q → Contains (steps path) (record { start = p; stop = q })
step_there [] k p q l e f = absurd (omega arith)
step_there (x ∷ []) k p q l e f = absurd (omega arith)
step_there (x ∷ y ∷ rest) zero p q l e f = subst (λ (s : Segment). Contains (steps (x ∷ y ∷ rest)) s) (λ i. record { start = sym e i; stop = sym f i }) (Contains-head (step_of (x, y)) (steps (y ∷ rest)))
step_there (x ∷ y ∷ rest) (suc k) p q l e f = Contains-later (step_of (x, y)) (steps (y ∷ rest)) (record { start = p; stop = q }) (step_there (y ∷ rest) k p q (omega arith) e f)

pub one_begun : (arcs : List Path) (path points : Path) (named all : List SignedArc) (a : SignedArc) (i : ℕ) (p q : GridPoint) (s : Segment) → points ≡ path → 0 < i → i < length points
    → p ≡ get_or points (i - 1) p → q ≡ get_or points i q → s ≡ record { start = p; stop = q } → (a.arc < length arcs) × (first_step arcs a ≡ s) → all ≡ named ++ a ∷ []
    → BeginAlong arcs path named → BeginAlong arcs path all
one_begun arcs path points named all a i p q s same some l e f made begun pushed before =
    let P : SignedArc → Type 0 = λ b. (b.arc < length arcs) × Contains (steps path) (first_step arcs b) in
    let n = ap (λ (ps : Path). length ps) same in
    let next : i ≡ suc (i - 1) = omega arith in
    let there : Contains (steps path) (record { start = p; stop = q }) =
    step_there path (i - 1) p q (omega arith) (e ∙ ap (λ (ps : Path). get_or ps (i - 1) p) same) (f ∙ ap (λ (ps : Path). get_or ps i q) same ∙ ap (λ (k : ℕ). get_or path k q) next) in
    subst (All P) (sym pushed) (All-append P named (a ∷ []) before (All-cons P a [] (begun.0, subst (λ (t : Segment). Contains (steps path) t) (sym (begun.1 ∙ made)) there) (All-nil P)))
