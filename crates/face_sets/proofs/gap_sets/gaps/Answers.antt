use Rattle.std.proofs.Common.{◌≡◌, ◌∙◌, sym, ap, subst, ℕ, List, All, filter, not, nat_eq}
use Rattle.std.proofs.lemmas.Option.{get_or_from_slice_get}
use Rattle.std.proofs.lemmas.Result.{IfOk-weaker}
use Rattle.lists.specs.Lists.{has}
use Rattle.face_sets.specs.Parts.{IsPieceOf}
use Rattle.face_sets.specs.Sets.{IsSetOf}
use Rattle.face_sets.proofs.GapLemmas.{gaps_inner}
use Rattle.face_sets.proofs.gap_sets.gaps.Goals as goal

pub returns-clause-inner : goal.returns-clause-inner
returns-clause-inner c =
    let f = c.args.f.now in
    let outer_is = get_or_from_slice_get f.places 0 c.outer.result 0 c.outer.ensures.exact in
    IfOk-weaker c.sets_without.result (λ left. left ≡ filter (λ (part : List ℕ). not (has nat_eq part c.outer.result)) c.in_ok-sets.sets) (All (IsSetOf f)) (λ left same. subst (All (IsSetOf f))
    (sym (same ∙ ap (λ (k : ℕ). filter (λ (part : List ℕ). not (has nat_eq part k)) c.in_ok-sets.sets) (sym outer_is)))
    (gaps_inner f c.args.set.now c.in_ok-sets.sets
    (subst (λ (faces : List ℕ). All (IsPieceOf faces) c.in_ok-sets.sets) (c.deref.ensures.value ∙ c.in_ok-outside.ensures.exact) c.in_ok-sets.ensures.of_them))) c.sets_without.ensures.exact
