use Rattle.std.proofs.Common.{◌≡◌, inl, inr, ◌∙◌, sym, ap, subst, arith, ℕ, ◌+◌, ◌-◌, ◌<◌, false, List, [], ◌∷◌, ◌++◌, length, get_or, take, length-take, All}
use Rattle.std.proofs.lemmas.List.{take_all, take_more}
use Rattle.std.proofs.lemmas.List.Elements.{All-push, All-nil}
use Rattle.std.proofs.lemmas.List.Sums.{sum_by_push, sum_by_more}
use Rattle.plane_model.specs.Arcs.{SignedArc}
use Rattle.ring_trace.specs.declared.pairing.Edge.{Edge}
use Rattle.ring_trace.specs.declared.ring_keys.RingKey.{RingKey}
use Rattle.ring_trace.specs.Keys.{AreByPart, along_key, path_along}
use Rattle.ring_trace.proofs.GatherLemmas.{IsGathered, gathered_new, gathered_on, gathered_done, gathered_empty, not_after}
use Rattle.ring_trace.specs.Traced.{times, times_along, times_round, times_traced}
use Rattle.ring_trace.proofs.tracing.polygons_of.Goals.{then-begins_part+in_ok-push, else-begins_part, then-len-gt0+in_ok-push-3, else-len-gt0}
use Rattle.ring_trace.proofs.tracing.polygons_of.Goals as goal

abbrev AreRingArcs : ℕ → List (List SignedArc) → Type 0
AreRingArcs n rings = All (All (λ (a : SignedArc). a.arc < n)) rings

record IsSplit (edges : List Edge) (polygons more : List (List (List SignedArc))) (polygon rest : List (List SignedArc)) : Type 0 where
  there : (n : ℕ) → All (AreRingArcs n) polygons → AreRingArcs n polygon → All (AreRingArcs n) more × AreRingArcs n rest
  same : (a : SignedArc) → times_traced a more + times_round a rest ≡ times_traced a polygons + times_round a polygon

split_off : (edges : List Edge) (polygons more : List (List (List SignedArc))) (polygon rest : List (List SignedArc)) → more ≡ polygons ++ polygon ∷ [] → rest ≡ [] → IsSplit edges polygons more polygon rest
split_off edges polygons more polygon rest is none = record {
  there = λ n h p. (
    subst (λ ps. All (AreRingArcs n) ps) (sym is) (All-push (AreRingArcs n) polygons polygon h p),
    subst (λ rs. AreRingArcs n rs) (sym none) (All-nil (All (λ (a : SignedArc). a.arc < n))),
  );
  same = λ a.
      let e = ap (times_traced a) is ∙ sum_by_push (times_round a) polygons polygon in
      let f : times_round a rest ≡ 0 = ap (times_round a) none in
      omega arith;
}

kept_on : (edges : List Edge) (polygons more : List (List (List SignedArc))) (polygon rest : List (List SignedArc)) → more ≡ polygons → rest ≡ polygon → IsSplit edges polygons more polygon rest
kept_on edges polygons more polygon rest is same_rest = record {
  there = λ n h p. (subst (λ ps. All (AreRingArcs n) ps) (sym is) h, subst (λ rs. AreRingArcs n rs) (sym same_rest) p);
  same = λ a. λ i. times_traced a (is i) + times_round a (same_rest i);
}

moved : (along : RingKey → List SignedArc) (some : List RingKey) (x : RingKey) (polygons more : List (List (List SignedArc))) (polygon rest : List (List SignedArc)) → more ≡ polygons → rest ≡ polygon →
    IsGathered along some polygons (polygon ++ along x ∷ []) → IsGathered along some more (rest ++ along x ∷ [])
moved along some x polygons more polygon rest e f h =
    subst (λ (ps : List (List (List SignedArc))). IsGathered along some ps (rest ++ along x ∷ [])) (sym e) (subst (λ (p : List (List SignedArc)). IsGathered along some polygons (p ++ along x ∷ [])) (sym f) h)

pub loop-i-preserved : goal.loop-i-preserved
loop-i-preserved c =
    let edges = c.args.edges.now in
    let keys = c.args.keys.now in
    let i = c.loop-i.i in
    let l : i < length keys = c.loop-i-test.true in
    let split : IsSplit edges c.loop-i.polygons c.if-begins_part.polygons c.loop-i.polygon c.if-begins_part.polygon = elim c.if-begins_part.branch [
      | then-begins_part+in_ok-push w ↦
          split_off edges c.loop-i.polygons c.if-begins_part.polygons c.loop-i.polygon c.if-begins_part.polygon (w.polygons-is ∙ w.in_ok-push.ensures.ok) (w.polygon-is ∙ w.new-polygon-then-begins_part.ensures.empty)
      | else-begins_part w ↦ kept_on edges c.loop-i.polygons c.if-begins_part.polygons c.loop-i.polygon c.if-begins_part.polygon w.polygons-is w.polygon-is
    ] in
    let none : RingKey = record { part = 0; is_hole = false; least = 0; begin = 0; first = 0; end = 0 } in
    let path = c.in_ok-path_of.field-0 in
    let pushed = c.in_ok-push-2.ensures.ok in
    let along = path_along edges c.args.rings.now in
    let x = get_or keys i none in
    let size = length-take i keys in
    let gathered : IsGathered along (take i keys ++ x ∷ []) c.if-begins_part.polygons (c.if-begins_part.polygon ++ along x ∷ []) = elim c.if-begins_part.branch [
      | then-begins_part+in_ok-push w ↦
          (let (many, lower) = c.begins_part.ensures.begins w.if-begins_part.true in
          moved along (take i keys ++ x ∷ []) x _ _ _ _ (w.polygons-is ∙ w.in_ok-push.ensures.ok) (w.polygon-is ∙ w.new-polygon-then-begins_part.ensures.empty)
          (gathered_new along (take i keys) c.loop-i.polygons c.loop-i.polygon x c.loop-i.invariant.3 (omega arith) (λ key there. lower key none there)))
      | else-begins_part w ↦
          moved along (take i keys ++ x ∷ []) x _ _ _ _ w.polygons-is w.polygon-is
          (gathered_on along (take i keys) c.loop-i.polygons c.loop-i.polygon x c.loop-i.invariant.3
          (elim (c.begins_part.ensures.stays w.if-begins_part.false none) [
            | inl first ↦ inl (ap (λ (k : ℕ). take k keys) first)
            | inr key ↦ inr key
          ])
          (λ key there.
          let before = not_after keys i key none c.requires.in_order l there in
          let some = before.0 in
          let low = before.1 in
          let r = c.requires.in_order (i - 1) i none (omega arith) l in
          omega arith))
    ] in (
      λ n h. (split.there n (c.loop-i.invariant.0 n h) (c.loop-i.invariant.1 n h)).0,
      λ n h. subst (λ rs. AreRingArcs n rs) (sym pushed) (All-push (All (λ (a : SignedArc). a.arc < n)) c.if-begins_part.polygon path (split.there n (c.loop-i.invariant.0 n h) (c.loop-i.invariant.1 n h)).1 (c.in_ok-path_of.ensures.there n h)),
      λ a.
          let s = split.same a in
          let p = ap (times_round a) pushed ∙ sum_by_push (times a) c.if-begins_part.polygon path in
          let o = c.in_ok-path_of.ensures.once a in
          let m = sum_by_more (along_key (times_along a edges) c.args.rings.now) keys i none l in
          let h = c.loop-i.invariant.2 a in
          omega arith,
      subst (λ (p : List (List SignedArc)). IsGathered along (take (i + 1) keys) c.if-begins_part.polygons p) (sym (pushed ∙ ap (λ (r : List SignedArc). c.if-begins_part.polygon ++ r ∷ []) c.in_ok-path_of.ensures.exact))
          (subst (λ (ks : List RingKey). IsGathered along ks c.if-begins_part.polygons (c.if-begins_part.polygon ++ along x ∷ [])) (sym (take_more keys i none l)) gathered),
    )

pub returns-clause-there : goal.returns-clause-there
returns-clause-there c = λ n h. elim c.if-len-gt0.branch [
  | then-len-gt0+in_ok-push-3 w ↦
      subst (λ ps. All (AreRingArcs n) ps) (sym (w.polygons-is ∙ w.in_ok-push-3.ensures.ok)) (All-push (AreRingArcs n) c.loop-i.polygons c.loop-i.polygon (c.loop-i.invariant.0 n h) (c.loop-i.invariant.1 n h))
  | else-len-gt0 w ↦ subst (λ ps. All (AreRingArcs n) ps) (sym w.polygons-is) (c.loop-i.invariant.0 n h)
]

pub returns-clause-by_part : goal.returns-clause-by_part
returns-clause-by_part c =
    let edges = c.args.edges.now in
    let rings = c.args.rings.now in
    let keys = c.args.keys.now in
    let done = c.loop-i-test.false in
    let g : IsGathered (path_along edges rings) keys c.loop-i.polygons c.loop-i.polygon =
    subst (λ (ks : List RingKey). IsGathered (path_along edges rings) ks c.loop-i.polygons c.loop-i.polygon) (take_all c.loop-i.i keys (omega arith)) c.loop-i.invariant.3 in
    elim c.if-len-gt0.branch [
      | then-len-gt0+in_ok-push-3 w ↦ subst (λ (ps : List (List (List SignedArc))). AreByPart edges rings keys ps) (sym (w.polygons-is ∙ w.in_ok-push-3.ensures.ok)) (gathered_done edges rings keys c.loop-i.polygons c.loop-i.polygon g (let m = w.if-len-gt0.true in omega arith))
      | else-len-gt0 w ↦ subst (λ (ps : List (List (List SignedArc))). AreByPart edges rings keys ps) (sym w.polygons-is) (gathered_empty edges rings keys c.loop-i.polygons c.loop-i.polygon g (λ m. let n = w.if-len-gt0.false in omega arith))
    ]
