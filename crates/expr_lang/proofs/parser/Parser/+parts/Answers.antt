use Rattle.std.proofs.Common.{◌≡◌, ◌+◌, ◌-◌, suc, ap, ◌∙◌, sym, subst, arith, option_map}
use Rattle.expr_lang.specs.Tree.{node_tree}
use Rattle.expr_lang.specs.Reading.{EndsLevel}
use Rattle.expr_lang.proofs.Parts.{at_exit, at_misfit_as, next_is, seen_as}
use Rattle.expr_lang.proofs.Operands.{no_operand, leaf_passes, begins_no_operand, this_part, enclosed_passes, inside_breaks, open_deep, unclosed, sign_passes, sign_breaks, sign_deep, unsigned}
use Rattle.expr_lang.proofs.Levels.{lowest_part, single_passes, single_breaks, joined_passes, joined_breaks}
use Rattle.expr_lang.proofs.Choices.{simple_passes, simple_breaks, ended_past, choice_passes, question_deep, yes_breaks, no_colon, no_breaks}
use Rattle.expr_lang.proofs.parser.Parser.+parts.Goals as goal

pub atom-returns-in_default : goal.atom-returns-in_default
atom-returns-in_default t c = record { read = no_operand c.args.depth _ c.in_default.ensures.exact }

pub atom-returns-in-Some-2 : goal.atom-returns-in-Some-2
atom-returns-in-Some-2 t c = record { read = leaf_passes c.args.depth c.in-Some.at c.in-Some.token.now c.in-Some-2.leaf _ _ (next_is c.in-Some.ensures.exact c.advance.ensures.next) (c.in_ok-leaf.ensures.exact ∙ ap (option_map node_tree) c.in-Some-2.is) }

pub cond-returns-in_err-condition-clause-part : goal.cond-returns-in_err-condition-clause-part
cond-returns-in_err-condition-clause-part t c =
    at_exit _ _ c.from_residual.result c.in_err-condition.field-0.0 c.from_residual.ensures.1 (at_misfit_as _ _ c.in_err-condition.field-0.0 c.in_err-condition.ensures.part (λ f h. simple_breaks c.args.depth f _ _ h))

pub cond-returns-in_default-clause-part : goal.cond-returns-in_default-clause-part
cond-returns-in_default-clause-part t c = simple_passes c.args.depth _ _ _ c.in_ok-condition.ensures.part

pub cond-returns-in_default-clause-ends : goal.cond-returns-in_default-clause-ends
cond-returns-in_default-clause-ends t c = ended_past _ c.in_ok-condition.ensures.ends c.in_default.ensures.exact

pub cond-returns-then-depth-eq0-clause-part : goal.cond-returns-then-depth-eq0-clause-part
cond-returns-then-depth-eq0-clause-part t c = question_deep c.args.depth c.in-Some.at _ _ _ c.in-Some.ensures.exact.0 c.if-depth-eq0.true c.in_ok-condition.ensures.part c.in-Some.ensures.exact.1

pub cond-returns-in_err-yes-clause-part : goal.cond-returns-in_err-yes-clause-part
cond-returns-in_err-yes-clause-part t c =
    let up : suc (c.args.depth - 1) ≡ c.args.depth = omega arith in
    at_exit _ _ c.from_residual-in_err-yes.result c.in_err-yes.field-0.0 c.from_residual-in_err-yes.ensures.1 (at_misfit_as _ _ c.in_err-yes.field-0.0 c.in_err-yes.ensures.part (λ f h.
    yes_breaks (c.args.depth - 1) c.args.depth c.in-Some.at _ f _ _ _ _ up c.in_ok-condition.ensures.part (next_is c.in-Some.ensures.exact c.advance.ensures.next) h))

pub cond-returns-in_err-expect-clause-part : goal.cond-returns-in_err-expect-clause-part
cond-returns-in_err-expect-clause-part t c =
    let up : suc (c.args.depth - 1) ≡ c.args.depth = omega arith in
    at_exit _ _ c.from_residual-in_err-expect.result c.in_err-expect.field-0.0 c.from_residual-in_err-expect.ensures.1 (at_misfit_as _ _ c.in_err-expect.field-0.0 c.in_err-expect.ensures.exact (λ f h.
    no_colon (c.args.depth - 1) c.args.depth c.in-Some.at _ _ f _ _ _ _ _ up c.in_ok-condition.ensures.part (next_is c.in-Some.ensures.exact c.advance.ensures.next) c.in_ok-yes.ensures.part c.in_ok-yes.ensures.ends h))

pub cond-returns-in_err-no-clause-part : goal.cond-returns-in_err-no-clause-part
cond-returns-in_err-no-clause-part t c =
    let up : suc (c.args.depth - 1) ≡ c.args.depth = omega arith in
    let o = c.in_ok-expect.ensures.exact in
    at_exit _ _ c.from_residual-in_err-no.result c.in_err-no.field-0.0 c.from_residual-in_err-no.ensures.1 (at_misfit_as _ _ c.in_err-no.field-0.0 c.in_err-no.ensures.part (λ f h.
    no_breaks (c.args.depth - 1) c.args.depth c.in-Some.at o.0 _ _ f _ _ _ _ _ _ up c.in_ok-condition.ensures.part (next_is c.in-Some.ensures.exact c.advance.ensures.next) c.in_ok-yes.ensures.part o.1 h))

pub cond-returns-clause-part : goal.cond-returns-clause-part
cond-returns-clause-part t c =
    let up : suc (c.args.depth - 1) ≡ c.args.depth = omega arith in
    let o = c.in_ok-expect.ensures.exact in
    choice_passes (c.args.depth - 1) c.args.depth c.in-Some.at o.0 _ _ _ _ _ _ _ _ _ _ up c.in_ok-condition.ensures.part (next_is c.in-Some.ensures.exact c.advance.ensures.next) c.in_ok-yes.ensures.part o.1 c.in_ok-no.ensures.part c.in_ok-no.ensures.ends c.in_ok-choice.ensures.exact

pub level-returns-then-level-eq0-clause-part : goal.level-returns-then-level-eq0-clause-part
level-returns-then-level-eq0-clause-part t c = lowest_part c.args.level c.args.depth c.unary.result _ _ c.if-level-eq0.true c.unary.ensures.read

pub level-returns-in_err-left-clause-part : goal.level-returns-in_err-left-clause-part
level-returns-in_err-left-clause-part t c =
    let up : suc (c.args.level - 1) ≡ c.args.level = omega arith in
    at_exit _ _ c.from_residual.result c.in_err-left.field-0.0 c.from_residual.ensures.1 (at_misfit_as _ _ c.in_err-left.field-0.0 c.in_err-left.ensures.part (λ f h. single_breaks (c.args.level - 1) c.args.level c.args.depth f _ _ up h))

pub level-loop-at-init : goal.level-loop-at-init
level-loop-at-init t c =
    let up : suc (c.args.level - 1) ≡ c.args.level = omega arith in
    record { so_far = single_passes (c.args.level - 1) c.args.level c.args.depth _ _ _ up c.in_ok-left.ensures.part; ended = c.in_ok-left.ensures.ends }

pub level-returns-in_err-right-clause-part : goal.level-returns-in_err-right-clause-part
level-returns-in_err-right-clause-part t c =
    let up : suc (c.args.level - 1) ≡ c.args.level = omega arith in
    let o = c.in-Some.ensures.exact in
    at_exit _ _ c.from_residual-in_err-right.result c.in_err-right.field-0.0 c.from_residual-in_err-right.ensures.1 (at_misfit_as _ _ c.in_err-right.field-0.0 c.in_err-right.ensures.part (λ f h.
    joined_breaks (c.args.level - 1) c.args.level c.args.depth c.in-Some.at c.in-Some.operator _ f _ _ _ _ up c.loop-at.invariant.so_far o.0 o.1 h))

pub level-loop-at-preserved : goal.level-loop-at-preserved
level-loop-at-preserved t c =
    let up : suc (c.args.level - 1) ≡ c.args.level = omega arith in
    let o = c.in-Some.ensures.exact in
    record {
      so_far = joined_passes (c.args.level - 1) c.args.level c.args.depth c.in-Some.at c.in-Some.operator _ _ _ _ _ _ _ up c.loop-at.invariant.so_far o.0 o.1 c.in_ok-right.ensures.part c.in_ok-left-2.ensures.exact;
      ended = c.in_ok-right.ensures.ends;
    }

pub level-returns-clause-ends : goal.level-returns-clause-ends
level-returns-clause-ends t c =
    let up : c.args.level ≡ (c.args.level - 1) + 1 = omega arith in
    subst (EndsLevel c.args.level) (sym c.in_default.ensures.exact.0) (c.in_default.ensures.exact.1 (c.args.level - 1) up c.loop-at.invariant.ended)

pub unary-returns-in_default : goal.unary-returns-in_default
unary-returns-in_default t c = record { read = unsigned c.args.depth c.atom.result _ _ c.atom.ensures.read }

pub unary-returns-then-depth-eq0 : goal.unary-returns-then-depth-eq0
unary-returns-then-depth-eq0 t c = record { read = let s = c.in-Some.ensures.exact in sign_deep c.args.depth c.in-Some.at s.0 c.in-Some.sign _ s.1 c.if-depth-eq0.true s.2 s.3 }

pub unary-returns-in_err-operand : goal.unary-returns-in_err-operand
unary-returns-in_err-operand t c = record {
  read =
      let up : suc (c.args.depth - 1) ≡ c.args.depth = omega arith in
      let s = c.in-Some.ensures.exact in
      at_exit _ _ c.from_residual.result c.in_err-operand.field-0.0 c.from_residual.ensures.1 (at_misfit_as _ _ c.in_err-operand.field-0.0 c.in_err-operand.ensures.read (λ f h.
      sign_breaks (c.args.depth - 1) c.args.depth c.in-Some.at s.0 c.in-Some.sign f _ _ _ up (next_is (s.1, s.2) c.advance.ensures.next) s.3 h));
}

pub unary-returns : goal.unary-returns
unary-returns t c = record {
  read =
      let up : suc (c.args.depth - 1) ≡ c.args.depth = omega arith in
      let s = c.in-Some.ensures.exact in
      sign_passes (c.args.depth - 1) c.args.depth c.in-Some.at s.0 c.in-Some.sign _ _ _ _ _ up (next_is (s.1, s.2) c.advance.ensures.next) s.3 c.in_ok-operand.ensures.read c.in_ok-unary.ensures.exact;
}

pub atom-returns-in-This : goal.atom-returns-in-This
atom-returns-in-This t c = record { read = this_part c.args.depth c.in-Some.at c.this.result _ _ _ (next_is (seen_as c.in-This.is c.in-Some.ensures.exact) c.advance-in-This.ensures.next) (c.this.ensures.read c.args.depth) }

pub atom-returns-in_default-next_mark : goal.atom-returns-in_default-next_mark
atom-returns-in_default-next_mark t c = record {
  read =
      let s = c.in-Some.ensures.exact in
      begins_no_operand c.args.depth c.in-Some.at c.in-Some.token.now _ s.0 s.1 c.requires (c.in_ok-leaf.ensures.exact ∙ ap (option_map node_tree) c.in_default-2.is) c.in_default-token.not-This (λ e. c.in_default-next_mark.ensures.exact c.in-Some.at c.in-Some.token.now s.0 s.1 e);
}

pub atom-returns-then-depth-eq0 : goal.atom-returns-then-depth-eq0
atom-returns-then-depth-eq0 t c = record { read = let s = c.in-Some-next_mark.ensures.exact in open_deep c.args.depth c.in-Some-next_mark.field-0 _ s.0 c.if-depth-eq0.true s.1 }

pub atom-returns-in_err-inner : goal.atom-returns-in_err-inner
atom-returns-in_err-inner t c = record {
  read =
      let up : suc (c.args.depth - 1) ≡ c.args.depth = omega arith in
      at_exit _ _ c.from_residual-in_err-inner.result c.in_err-inner.field-0.0 c.from_residual-in_err-inner.ensures.1 (at_misfit_as _ _ c.in_err-inner.field-0.0 c.in_err-inner.ensures.part (λ f h.
      inside_breaks (c.args.depth - 1) c.args.depth c.in-Some-next_mark.field-0 f _ _ _ up (next_is c.in-Some-next_mark.ensures.exact c.advance-2.ensures.next) h));
}

pub atom-returns-in_err-expect : goal.atom-returns-in_err-expect
atom-returns-in_err-expect t c = record {
  read =
      let up : suc (c.args.depth - 1) ≡ c.args.depth = omega arith in
      at_exit _ _ c.from_residual-in_err-expect.result c.in_err-expect.field-0.0 c.from_residual-in_err-expect.ensures.1 (at_misfit_as _ _ c.in_err-expect.field-0.0 c.in_err-expect.ensures.exact (λ f h.
      unclosed (c.args.depth - 1) c.args.depth c.in-Some-next_mark.field-0 _ f _ _ _ _ up (next_is c.in-Some-next_mark.ensures.exact c.advance-2.ensures.next) c.in_ok-inner.ensures.part c.in_ok-inner.ensures.ends h.0 h.1 h.2));
}

pub atom-returns : goal.atom-returns
atom-returns t c = record {
  read =
      let up : suc (c.args.depth - 1) ≡ c.args.depth = omega arith in
      let o = c.in_ok-expect.ensures.exact in
      enclosed_passes (c.args.depth - 1) c.args.depth c.in-Some-next_mark.field-0 o.0 (node_tree c.in_ok-inner.inner) _ _ _ _ up (next_is c.in-Some-next_mark.ensures.exact c.advance-2.ensures.next) c.in_ok-inner.ensures.part o.1;
}
