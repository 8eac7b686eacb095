use Rattle.std.proofs.Common.{Bool, List, subst, sym}
use Rattle.expr_lang.specs.declared.assign.Assign.{Assign}
use Rattle.expr_lang.specs.declared.parser.Misfit.TheVariants.{Unfit}
use Rattle.expr_lang.specs.Tree.{Assigned, all_assigned}
use Rattle.expr_lang.specs.Grammar.{Toks, Assigns}
use Rattle.expr_lang.specs.Reading.{Passes, AssignEnds, before_assign}
use Rattle.expr_lang.proofs.Parts.{at_exit, at_misfit_as}
use Rattle.expr_lang.proofs.Wholes.{StuckAt, as_unfit}
use Rattle.expr_lang.proofs.Assignments.{Ended, begun, assigns_break, assigns_left, assigns_whole, assigns_next, assigned_more}
use Rattle.expr_lang.proofs.parser.Parser.assignments.Goals as goal

pub loop-list-init : goal.loop-list-init
loop-list-init c =
    subst (λ (list : List Assign). Passes (λ (z : Toks). Ended 64 z (all_assigned list)) (before_assign 64) (before_assign 64) c.args.self.now.rest.now c.args.self.now.rest.now) (sym c.new-list.ensures.empty) (begun _)

pub returns-in_err-item : goal.returns-in_err-item
returns-in_err-item c = record { read = at_exit _ _ c.from_residual.result c.in_err-item.field-0.0 c.from_residual.ensures.1 (at_misfit_as _ _ c.in_err-item.field-0.0 c.in_err-item.ensures.part (λ f h. assigns_break _ f _ _ _ c.loop-list.invariant h)) }

pub returns-in_err-is_last : goal.returns-in_err-is_last
returns-in_err-is_last c =
    let item = c.in_ok-item.ensures in
    record {
      read = at_exit _ _ c.from_residual-in_err-is_last.result c.in_err-is_last.field-0.0 c.from_residual-in_err-is_last.ensures.1 (at_misfit_as _ _ c.in_err-is_last.field-0.0 c.in_err-is_last.ensures.exact (λ f h.
          as_unfit Assigns f _ _ h.0 (subst (StuckAt Assigns Unfit c.args.self.now.rest.now) (sym h.1) (assigns_left _ _ _ _ _ h.3 h.2 c.loop-list.invariant item.part item.ends h.4 h.5))));
    }

pub returns-then-branch : goal.returns-then-branch
returns-then-branch c =
    let ends = subst (λ (b : Bool). AssignEnds b c.assignment.new.self.rest.now c.is_last.new.self.rest.now) c.if-branch.true c.in_ok-is_last.ensures.exact in
    record { read = subst (λ (list : List Assigned). Assigns 64 c.args.self.now.rest.now list) (assigned_more _ _ _ c.in_ok-push.ensures.ok) (assigns_whole _ _ _ _ _ c.is_last.new.self.rest.now c.loop-list.invariant c.in_ok-item.ensures.part ends) }

pub loop-list-preserved : goal.loop-list-preserved
loop-list-preserved c =
    let ends = subst (λ (b : Bool). AssignEnds b c.assignment.new.self.rest.now c.is_last.new.self.rest.now) c.if-branch.false c.in_ok-is_last.ensures.exact in
    subst (λ (list : List Assigned). Passes (λ (z : Toks). Ended 64 z list) (before_assign 64) (before_assign 64) c.args.self.now.rest.now c.is_last.new.self.rest.now) (assigned_more _ _ _ c.in_ok-push.ensures.ok)
    (assigns_next _ _ _ _ _ _ c.loop-list.invariant c.in_ok-item.ensures.part ends)
