use Rattle.std.proofs.Common.{◌≡◌, ◌∙◌, ap, sym, ◌+◌, ◌++◌, ◌∷◌, List, length, drop, drop-cons, suc, Err}
use Rattle.std.proofs.lemmas.Result.{err_from_is_err_and}
use Rattle.table_terms.specs.Names.{Text}
use Rattle.join_terms.specs.declared.calculations.Calc.{Calc}
use Rattle.spatial_join.specs.Joined.{refused_calc}
use Rattle.spatial_join.proofs.ColumnLemmas.{calc_stops}
use Rattle.spatial_join.proofs.JoinLemmas.{refuses_whole}
use Rattle.spatial_join.proofs.calculations.check_calculations.Goals as goal

pub returns-in_err-check_calculation : goal.returns-in_err-check_calculation
returns-in_err-check_calculation c =
    let p = err_from_is_err_and c.from_residual.result c.from_residual.ensures.1 in
    let sources = c.args.sources.now in
    let earlier : List Text = (c.args.targets.now ++ c.args.copied.now) ++ c.loop-calc.seen in
    let n = c.args.first + length c.loop-calc.seen in
    let items = c.args.calculations.now in
    let i = c.loop-calc.calc-index in
    let calc = c.calc-item.result in
    let left : drop i items ≡ calc ∷ drop (suc i) items = drop-cons items i calc c.loop-calc-test.true ∙ ap (λ (x : Calc). x ∷ drop (suc i) items) (sym c.calc-item.is) in
    record {
      exact = refuses_whole _ c.in_err-check_calculation.field-0.0 _ _ (p.1 ∙ ap Err p.2) c.in_err-check_calculation.ensures.exact
          (λ why e. c.loop-calc.invariant ∙ ap (refused_calc sources earlier n) left ∙ calc_stops sources earlier n calc (drop (suc i) items) why e);
    }
