use Rattle.std.proofs.Common.{◌≡◌, ◌∙◌, inl, inr, sym, subst, arith, ℕ, [], List, length}
use Rattle.std.specs.List.Sorted.{IsNonDecreasing}
use Rattle.std.proofs.lemmas.Bool.{cases_lt}
use Rattle.std.proofs.lemmas.List.{get_or_past}
use Rattle.face_walk.specs.Crossings.{outer_of}
use Rattle.face_walk.specs.Holders.{AreHeldBy, AreOwnersOf, AreOwnersOfEach, list_at}
use Rattle.face_walk.specs.RingSteps.{owners_from}
use Rattle.face_walk.specs.declared.crossings.Crossing.{Crossing}
use Rattle.face_walk.specs.declared.ring_steps.RingStep.{RingStep}
use Rattle.face_walk.proofs.HeldLemmas.{owners_free}
use Rattle.face_walk.proofs.labels.Labels.of_steps.Goals as goal

-- the same of lists that were lent
moved : (outer : ℕ) (xs crossings : List Crossing) (ys steps : List RingStep) (held : List (List ℕ)) → xs ≡ crossings → ys ≡ steps → AreHeldBy ys outer xs held → AreHeldBy steps outer crossings held
moved outer xs crossings ys steps held e f h = subst (λ (s : List RingStep). AreHeldBy s outer crossings held) f (subst (λ (cs : List Crossing). AreHeldBy ys outer cs held) e h)

pub owner_lists-requires-clause-owners : goal.owner_lists-requires-clause-owners
owner_lists-requires-clause-owners c = subst (λ (xs : List ℕ). IsNonDecreasing xs) (sym c.deref-3.ensures.value) c.args.steps.owners_in_order

pub returns-clause-exact : goal.returns-clause-exact
returns-clause-exact c = λ t s built are.
    let faces = c.args.f.now in
    let outer = outer_of faces in
    let steps = c.args.steps in
    let owners = owners_from 0 s.polygons in
    let crossings = c.in_ok-crossings.crossings.items in
    let polygons = c.in_ok-polygons.polygons in
    let holders = c.in_ok-holders.holders in
    record {
      crossings = crossings;
      crossed = c.in_ok-crossings.ensures.exact;
      all = c.in_ok-crossings.ensures.all t built;
      polygon_steps = steps.polygon_steps.items;
      of_polygons = are.of_polygons;
      polygons = polygons;
      held = moved outer c.deref.result.now crossings c.deref-2.result.now steps.polygon_steps.items polygons c.deref.ensures.value c.deref-2.ensures.value c.in_ok-polygons.ensures.held;
      owned = subst (λ (n : ℕ). AreOwnersOfEach owners n polygons holders) c.count.ensures.exact
          (subst (λ (xs : List ℕ). AreOwnersOfEach xs c.count.result polygons holders) (c.deref-3.ensures.value ∙ are.of_owners) c.in_ok-holders.ensures.exact);
      box_steps = steps.box_steps.items;
      of_boxes = are.of_boxes;
      boxed = moved outer c.deref-4.result.now crossings c.deref-5.result.now steps.box_steps.items c.in_ok-boxes.boxes c.deref-4.ensures.value c.deref-5.ensures.value c.in_ok-boxes.ensures.held;
    }

pub returns-clause-outer_free : goal.returns-clause-outer_free
returns-clause-outer_free c =
    let faces = c.args.f.now in
    let outer = outer_of faces in
    let owners : List ℕ = c.deref-3.result.now in
    let holders : List (List ℕ) = c.in_ok-holders.holders in
    let counted : c.count.result ≡ faces.count = c.count.ensures.exact in
    let size : length holders ≡ c.count.result = c.in_ok-holders.ensures.each in (
      elim (cases_lt outer c.count.result) [
        | inl less ↦ owners_free owners (list_at holders outer) (subst (λ (xs : List ℕ). AreOwnersOf owners xs (list_at holders outer)) c.in_ok-polygons.ensures.held.outer_free (c.in_ok-holders.ensures.exact outer less))
        | inr more ↦ get_or_past holders outer [] (omega arith)
      ],
      c.in_ok-boxes.ensures.held.outer_free,
    )
