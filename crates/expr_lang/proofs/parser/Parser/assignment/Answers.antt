use Rattle.expr_lang.proofs.Parts.{at_exit, at_misfit_as}
use Rattle.expr_lang.proofs.Assignments.{no_target, no_becomes, value_breaks, assign_passes}
use Rattle.expr_lang.proofs.parser.Parser.assignment.Goals as goal

pub returns-in_err-name-clause-part : goal.returns-in_err-name-clause-part
returns-in_err-name-clause-part c = at_exit _ _ c.from_residual.result c.in_err-name.field-0.0 c.from_residual.ensures.1 (at_misfit_as _ _ c.in_err-name.field-0.0 c.in_err-name.ensures.exact (λ f h. no_target f _ _ h))

pub returns-in_err-expect-clause-part : goal.returns-in_err-expect-clause-part
returns-in_err-expect-clause-part c =
    let n = c.in_ok-name.ensures.exact in
    at_exit _ _ c.from_residual-in_err-expect.result c.in_err-expect.field-0.0 c.from_residual-in_err-expect.ensures.1 (at_misfit_as _ _ c.in_err-expect.field-0.0 c.in_err-expect.ensures.exact (λ f h. no_becomes n.0 _ f _ _ _ n.1 h))

pub returns-in_err-root-clause-part : goal.returns-in_err-root-clause-part
returns-in_err-root-clause-part c =
    let n = c.in_ok-name.ensures.exact in
    let b = c.in_ok-expect.ensures.exact in
    at_exit _ _ c.from_residual-in_err-root.result c.in_err-root.field-0.0 c.from_residual-in_err-root.ensures.1 (at_misfit_as _ _ c.in_err-root.field-0.0 c.in_err-root.ensures.part (λ f h. value_breaks n.0 b.0 _ f _ _ _ _ n.1 b.1 h))

pub returns-clause-part : goal.returns-clause-part
returns-clause-part c =
    let n = c.in_ok-name.ensures.exact in
    let b = c.in_ok-expect.ensures.exact in
    assign_passes n.0 b.0 _ _ _ _ _ _ n.1 b.1 c.in_ok-root.ensures.part
