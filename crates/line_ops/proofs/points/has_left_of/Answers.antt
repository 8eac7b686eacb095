use Rattle.std.proofs.Common.{◌≡◌, ◌∙◌, sym, subst, true, false, nat_eq, get_or, take}
use Rattle.std.specs.List.{list_any}
use Rattle.std.proofs.lemmas.Bool.{or_from}
use Rattle.std.proofs.lemmas.List.Folds.{list_any_at, list_any_more}
use Rattle.lists.specs.Lists.{has}
use Rattle.plane_model.specs.Arcs.{SignedArc}
use Rattle.line_ops.specs.Inside.{left_of}
use Rattle.line_ops.proofs.PointLemmas.{left_is}
use Rattle.line_ops.proofs.points.has_left_of.Goals as goal

pub returns-then-has : goal.returns-then-has
returns-then-has c =
    let f = c.args.f.now in
    let set = c.args.set.now in
    let a = c.a-item.result in
    let hit = left_is f set a c.left_of.result c.has.result true c.left_of.ensures.exact c.has.ensures.exact c.if-has.true in
    record {
      exact = sym (list_any_at (λ (b : SignedArc). has nat_eq set (left_of f b)) c.args.arcs.now c.loop-a.a-index a c.loop-a-test.true
          (subst (λ (b : SignedArc). has nat_eq set (left_of f b) ≡ true) c.a-item.is hit));
    }

pub loop-a-preserved : goal.loop-a-preserved
loop-a-preserved c =
    let f = c.args.f.now in
    let set = c.args.set.now in
    let arcs = c.args.arcs.now in
    let a = c.a-item.result in
    let i = c.loop-a.a-index in
    let test = λ (b : SignedArc). has nat_eq set (left_of f b) in
    let miss = left_is f set a c.left_of.result c.has.result false c.left_of.ensures.exact c.has.ensures.exact c.if-has.false in
    list_any_more test arcs i a c.loop-a-test.true
    ∙ or_from (list_any test (take i arcs)) (test (get_or arcs i a)) c.loop-a.invariant (subst (λ (b : SignedArc). has nat_eq set (left_of f b) ≡ false) c.a-item.is miss)
