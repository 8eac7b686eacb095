use Rattle.std.proofs.Common.{◌≡◌, ◌∙◌, List, All, subst, arith}
use Rattle.std.proofs.lemmas.List.{take_all}
use Rattle.std.proofs.lemmas.List.Elements.{All-more}
use Rattle.plane_model.specs.Arcs.{SignedArc}
use Rattle.arc_table.specs.Around.{first_step}
use Rattle.arc_table.proofs.table.ArcTable.begun_among.Goals as goal

pub loop-a-preserved : goal.loop-a-preserved
loop-a-preserved c =
    let arcs = c.args.self.now in
    let s = c.args.step in
    let other : first_step arcs c.a-item.result ≡ s → ⊥ = λ e. c.is_step.ensures.other c.if-is_step.false (c.first_step.ensures.exact ∙ e) in
    All-more (λ (a : SignedArc). first_step arcs a ≡ s → ⊥) c.args.arcs.now c.loop-a.a-index c.a-item.result c.loop-a-test.true c.loop-a.invariant
    (subst (λ (a : SignedArc). first_step arcs a ≡ s → ⊥) c.a-item.is other)

pub returns-clause-none : goal.returns-clause-none
returns-clause-none c = λ e.
    let done = c.loop-a-test.false in
    subst (λ (xs : List SignedArc). All (λ (a : SignedArc). first_step c.args.self.now a ≡ c.args.step → ⊥) xs) (take_all c.loop-a.a-index c.args.arcs.now (omega arith)) c.loop-a.invariant
