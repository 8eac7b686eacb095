use Rattle.std.proofs.Common.{◌∙◌, ◌++◌, ◌<◌, sym, subst, ap, arith, List, All, length}
use Rattle.std.specs.Option.{option_to_list}
use Rattle.line_ops.specs.declared.sides.SidedArc.{SidedArc}
use Rattle.line_ops.specs.Sided.{sided}
use Rattle.line_ops.proofs.SideLemmas.{among_more, among_below}
use Rattle.line_ops.proofs.sides.sided_arcs.Goals as goal

pub loop-n-preserved : goal.loop-n-preserved
loop-n-preserved c =
    let t = c.args.f.now in
    let sets = c.args.sets.now in
    c.in_ok-push_sided.ensures.added
    ∙ (λ j. c.loop-n.invariant j ++ option_to_list ((c.sides_of.ensures.exact sets c.in_ok-owners.ensures.exact ∙ ap (sided t sets) c.new.ensures.made) j))
    ∙ sym (among_more t sets c.loop-n.n)

pub returns-clause-there : goal.returns-clause-there
returns-clause-there c =
    let m = length c.args.t.now in
    subst (λ (arcs : List SidedArc). All (λ (s : SidedArc). s.arc < m) arcs) (sym c.loop-n.invariant)
    (among_below c.args.f.now c.args.sets.now c.loop-n.n m (let k = c.loop-n.auto.n-end in let e = c.count-n-end.ensures.exact in omega arith))
