use Rattle.expr_lang.proofs.Parts.{at_exit, at_misfit_as}
use Rattle.expr_lang.proofs.Assignments.{ends_at_semicolon, another}
use Rattle.expr_lang.proofs.parser.Parser.is_last.Goals as goal

pub returns-then-take : goal.returns-then-take
returns-then-take c = record { exact = let s = c.take.ensures.taken c.if-take.true in ends_at_semicolon c.is_empty.result s.0 _ _ s.1 c.is_empty.ensures }

pub returns-in_err-end : goal.returns-in_err-end
returns-in_err-end c = record { exact = at_exit _ _ c.from_residual.result c.in_err-end.field-0.0 c.from_residual.ensures.1 (at_misfit_as _ _ c.in_err-end.field-0.0 c.in_err-end.ensures.exact (λ f h. another f _ _ (c.take.ensures.absent c.if-take.false) h)) }
