use Rattle.std.proofs.Common.{◌≡◌, sym, subst, arith, ◌<◌, All, Contains, List, length, take}
use Rattle.std.proofs.lemmas.List.{take_all}
use Rattle.std.proofs.lemmas.List.Elements.{All-contains, All-push, All-weaker}
use Rattle.plane_model.specs.Arcs.{SignedArc}
use Rattle.face_walk.specs.Crossings.{IsReached, face_across, outer_of}
use Rattle.face_walk.proofs.CrossingLemmas.{arcs_round, longer_twice, reached_by_longer}
use Rattle.face_walk.proofs.RingStepLemmas.{take_item}
use Rattle.face_walk.proofs.crossings.cross_from.Goals as goal

pub cross-requires-clause-from : goal.cross-requires-clause-from
cross-requires-clause-from c = reached_by_longer (outer_of c.args.f.now) c.args.crossings.now.items c.loop-a.crossings.items c.args.face c.loop-a.invariant.longer c.requires.from

pub loop-a-preserved : goal.loop-a-preserved
loop-a-preserved c =
    let faces = c.args.f.now in
    let arcs = c.arcs_of-a-items.result.now in
    let k = c.loop-a.a-index in
    let a = c.a-item.result in
    let first = c.args.crossings.now.items in
    let old = c.loop-a.crossings.items in
    let new = c.cross.new.crossings.items in
    let longer = c.in_ok-cross.ensures.longer in
    record {
      marked = c.in_ok-cross.ensures.marked;
      longer = longer_twice first old new c.loop-a.invariant.longer longer;
      right = subst (λ (xs : List SignedArc). All (λ (b : SignedArc). IsReached (outer_of faces) new (length new) (face_across faces.places b)) xs) (sym (take_item arcs k a c.loop-a-test.true (sym c.a-item.is)))
          (All-push (λ (b : SignedArc). IsReached (outer_of faces) new (length new) (face_across faces.places b)) (take k arcs) a
          (All-weaker (λ (b : SignedArc). IsReached (outer_of faces) old (length old) (face_across faces.places b)) (λ (b : SignedArc). IsReached (outer_of faces) new (length new) (face_across faces.places b))
          (λ b r. reached_by_longer (outer_of faces) old new (face_across faces.places b) longer r) (take k arcs) c.loop-a.invariant.right)
          c.in_ok-cross.ensures.right);
    }

pub returns-clause-done : goal.returns-clause-done
returns-clause-done c = λ arcs built a there left.
    let faces = c.args.f.now in
    let round = c.arcs_of-a-items.result.now in
    let crossings = c.loop-a.crossings.items in
    let done = c.loop-a-test.false in
    let all : take c.loop-a.a-index round ≡ round = take_all c.loop-a.a-index round (omega arith) in
    let counted = built.places_counted in
    let within : a.arc < length arcs = omega arith in
    All-contains (λ (b : SignedArc). IsReached (outer_of faces) crossings (length crossings) (face_across faces.places b)) round a
    (subst (λ (xs : List SignedArc). All (λ (b : SignedArc). IsReached (outer_of faces) crossings (length crossings) (face_across faces.places b)) xs) all c.loop-a.invariant.right)
    (subst (λ (xs : List SignedArc). Contains xs a) (sym (c.arcs_of-a-items.ensures.exact arcs built)) (arcs_round faces.places (length arcs) c.args.face a within left))
