use Rattle.std.proofs.Common.{◌∙◌, List, get_or, sym, ap, arith}
use Rattle.json_values.specs.declared.value.Value.{Value}
use Rattle.run_borders.proofs.Differences.{agrees_here, agrees_to_end, differs_here}
use Rattle.run_borders.proofs.borders.first_difference.Goals as goal

pub returns-then-not-same : goal.returns-then-not-same
returns-then-not-same c =
    let n = c.loop-number.number in
    let a = c.index-ours-place.result in
    let b = c.index-theirs-place.result in
    record {
      exact = differs_here c.args.left.now c.args.right.now n a b (omega arith) (omega (arith, c.requires.alike))
          (c.index-ours-place.is ∙ ap (λ (xs : List Value). get_or xs n a) c.as_slice-ours.ensures.all)
          (c.index-theirs-place.is ∙ ap (λ (xs : List Value). get_or xs n b) c.as_slice-theirs.ensures.all)
          (sym c.same.ensures.value ∙ c.if-not-same.true) c.loop-number.invariant;
    }

pub loop-number-preserved : goal.loop-number-preserved
loop-number-preserved c =
    let n = c.loop-number.number in
    let a = c.index-ours-place.result in
    let b = c.index-theirs-place.result in
    agrees_here c.args.left.now c.args.right.now n a b (omega arith) (omega (arith, c.requires.alike))
    (c.index-ours-place.is ∙ ap (λ (xs : List Value). get_or xs n a) c.as_slice-ours.ensures.all)
    (c.index-theirs-place.is ∙ ap (λ (xs : List Value). get_or xs n b) c.as_slice-theirs.ensures.all)
    (sym c.same.ensures.value ∙ c.if-not-same.false) c.loop-number.invariant

pub returns : goal.returns
returns c = record {
  exact =
      let last = agrees_to_end c.args.left.now c.args.right.now c.loop-number.number (omega arith) c.loop-number.invariant in
      omega (arith, last, c.len-count.ensures.count, c.loop-number.auto.number-end, c.loop-number-test.false);
}
