use Rattle.std.proofs.Common.{◌≡◌, ◌∙◌, ap, sym, subst, ℕ, ◌+◌, [], List, Some, length, set, take}
use Rattle.std.specs.Prelude.{slice_get}
use Rattle.std.specs.List.Sorted.{IsStrictlyIncreasing}
use Rattle.std.proofs.lemmas.Bool.{eqb-true}
use Rattle.std.proofs.lemmas.List.{length-replicate, length-set, nil_from_length}
use Rattle.std.proofs.lemmas.List.Elements.{All-same, All-set}
use Rattle.std.proofs.lemmas.Option.{slice_get-get_or}
use Rattle.face_walk.specs.Crossings.{outer_of}
use Rattle.face_walk.specs.Holders.{AreAcross, AreHeldBy, list_at, steps_on}
use Rattle.face_walk.specs.declared.crossings.Crossing.{Crossing}
use Rattle.face_walk.specs.declared.ring_steps.RingStep.{RingStep}
use Rattle.face_walk.proofs.HeldLemmas.{held_by_none, held_more, held_none, none_yet, rising_none}
use Rattle.face_walk.proofs.labels.held_lists.Goals as goal

pub returns-then-is_empty-clause-held : goal.returns-then-is_empty-clause-held
returns-then-is_empty-clause-held c =
    let steps = c.args.steps.now in
    let none : steps ≡ [] = nil_from_length steps (eqb-true (length steps) 0 (sym c.is_empty.ensures ∙ c.if-is_empty.true)) in
    held_by_none steps (outer_of c.args.f.now) c.args.crossings.now c.in_ok-held.held none (none_yet c.in_ok-held.held c.count.result c.in_ok-held.ensures.exact)

pub returns-then-is_empty-clause-rising : goal.returns-then-is_empty-clause-rising
returns-then-is_empty-clause-rising c = rising_none c.in_ok-held.held (none_yet c.in_ok-held.held c.count.result c.in_ok-held.ensures.exact)

pub returns-then-is_empty-clause-each : goal.returns-then-is_empty-clause-each
returns-then-is_empty-clause-each c = ap length c.in_ok-held.ensures.exact ∙ length-replicate c.count.result [] ∙ c.count.ensures.exact

pub loop-c-init : goal.loop-c-init
loop-c-init c =
    let held = c.in_ok-held.held in
    let none = none_yet held c.count.result c.in_ok-held.ensures.exact in
    record {
      each = ap length c.in_ok-held.ensures.exact ∙ length-replicate c.count.result [] ∙ c.count.ensures.exact;
      held = held_none c.args.steps.now (outer_of c.args.f.now) held none;
      rising = rising_none held none;
    }

pub loop-c-preserved : goal.loop-c-preserved
loop-c-preserved c =
    let faces = c.args.f.now in
    let steps = c.args.steps.now in
    let crossings = c.args.crossings.now in
    let k = c.loop-c.c-index in
    let one : Crossing = c.c-item.result in
    let lists = c.loop-c.held in
    let into = c.list_across.new.items.items in
    let here : slice_get crossings k ≡ Some one = slice_get-get_or crossings k one c.loop-c-test.true ∙ ap Some (sym c.c-item.is) in
    let across : AreAcross (steps_on steps one.arc) (list_at lists one.from) into =
    subst (λ (along : List RingStep). AreAcross along (list_at lists one.from) into) c.run_along-along.ensures.exact
    (subst (λ (from : List ℕ). AreAcross c.run_along-along.result.now from into) c.at.ensures.exact c.in_ok-list_across.ensures.exact) in
    let put : c.put.new.self ≡ set lists one.into into = c.in_ok-put.ensures.ok ∙ ap (set lists one.into) c.deref-in-loop-c.ensures.value in
    record {
      each = ap length put ∙ length-set lists one.into into ∙ c.loop-c.invariant.each;
      held = subst (AreHeldBy steps (outer_of faces) (take (k + 1) crossings)) (sym put)
          (held_more faces steps crossings k one lists into c.requires.crossings c.loop-c.invariant.each here c.loop-c.invariant.held across);
      rising = All-same IsStrictlyIncreasing c.put.new.self (set lists one.into into) put (All-set IsStrictlyIncreasing lists one.into into across.rising c.loop-c.invariant.rising);
    }
