use Rattle.std.proofs.Common.{◌≡◌, ◌∙◌, sym, ap, subst, ℕ, ℤ, List, All, IfOk, length, map, Option, Vec, Global}
use Rattle.std.proofs.lemmas.List.{length-map}
use Rattle.std.proofs.lemmas.Result.{IfOk-weaker}
use Rattle.face_sets.specs.Gaps.{AreGaps}
use Rattle.face_sets.specs.Sets.{IsSetOf, area_of}
use Rattle.region_ops.specs.Cleaned.{AreFirsts}
use Rattle.region_ops.specs.Filled.{AreGifts, AreSoleOwners, AreTogether, IsCleanedAndFilled, IsFilled}
use Rattle.region_ops.proofs.FillLemmas.{are_filled, filled_inner}
use Rattle.region_ops.proofs.FirstLemmas.{are_cleaned, sole_owners}
use Rattle.region_ops.proofs.cleaned_sets.clean_sets.Goals as goal

first : (c : goal.After-drop-areas-2) → AreFirsts c.args.rule c.deref.result.now c.args.old.now c.args.f.now.count c.deref-2.result.now
first c = subst (λ (firsts : List (Option ℕ)). AreFirsts c.args.rule c.deref.result.now c.args.old.now c.args.f.now.count firsts) (sym c.deref-2.ensures.value) c.in_ok-firsts.ensures.exact

filled : (c : goal.After-drop-areas-2) → IfOk c.together.result (IsFilled c.args.rule c.args.gap c.args.f.now c.args.old.now c.in_ok-cleaned.cleaned)
filled c =
    let rule = c.args.rule in
    let f = c.args.f.now in
    let old = c.args.old.now in
    let cleaned = c.in_ok-cleaned.cleaned in
    let gaps = c.in_ok-shut_in.shut_in in
    let areas = c.deref-4.result.now in
    let kept = c.in_ok-cleaned.ensures.exact in
    let items : List (Vec ℕ Global) → List (List ℕ) = map (λ (v : Vec ℕ Global). v.items) in
    let areas_are : areas ≡ map (area_of f.areas) old = c.deref-4.ensures.value ∙ c.in_ok-areas.ensures.exact in
    let owners : AreSoleOwners cleaned f.count c.deref-3.result.now =
    subst (AreSoleOwners cleaned f.count) (c.deref-2.ensures.value ∙ sym c.deref-3.ensures.value) (sole_owners rule f old c.deref-2.result.now cleaned c.deref.result.now (first c) kept) in
    let are_gifts : AreGifts rule c.args.gap c.args.t.now f areas cleaned gaps (items c.deref-5.result.now) =
    subst (λ (lists : List (Vec ℕ Global)). AreGifts rule c.args.gap c.args.t.now f areas cleaned gaps (items lists)) (sym c.deref-5.ensures.value)
    (c.in_ok-gifts.ensures.exact c.args.t.now c.requires.built cleaned owners (ap (λ (list : List ℤ). length list) areas_are ∙ length-map old (area_of f.areas) ∙ sym kept.each)) in
    let are_gaps = subst (λ (set : List ℕ). AreGaps f set gaps) c.in_ok-union_of.ensures.exact c.in_ok-shut_in.ensures.exact in
    IfOk-weaker c.together.result (AreTogether cleaned (items c.deref-5.result.now) (length cleaned)) (IsFilled rule c.args.gap f old cleaned)
    (λ made h. are_filled rule c.args.gap c.args.t.now f areas cleaned old gaps (items c.deref-5.result.now) made c.requires.built areas_are kept.each are_gaps are_gifts h)
    c.together.ensures.exact

pub returns-clause-exact : goal.returns-clause-exact
returns-clause-exact c =
    let f = c.args.f.now in
    let old = c.args.old.now in
    let cleaned = c.in_ok-cleaned.cleaned in
    IfOk-weaker c.together.result (IsFilled c.args.rule c.args.gap f old cleaned) (IsCleanedAndFilled c.args.rule c.args.gap f old)
    (λ made h. (cleaned, are_cleaned c.args.rule f old c.deref-2.result.now cleaned c.deref.result.now (first c) c.in_ok-cleaned.ensures.exact (c.deref.ensures.value ∙ c.in_ok-areas.ensures.exact) c.requires.faces, h))
    (filled c)

pub returns-clause-inner : goal.returns-clause-inner
returns-clause-inner c =
    let f = c.args.f.now in
    let old = c.args.old.now in
    let cleaned = c.in_ok-cleaned.cleaned in
    IfOk-weaker c.together.result (IsFilled c.args.rule c.args.gap f old cleaned) (All (IsSetOf f))
    (λ made h. filled_inner c.args.rule c.args.gap f old cleaned made c.in_ok-cleaned.ensures.exact.each c.in_ok-cleaned.ensures.inner h)
    (filled c)
