use Rattle.std.proofs.Common.{◌∙◌, ap, sym, subst, List, ℕ, map}
use Rattle.std.specs.Prelude.{Result}
use Rattle.std.specs.List.{zip}
use Rattle.std.specs.List.Sorted.{IsStrictlyIncreasing}
use Rattle.json_values.specs.Table.{RowValues}
use Rattle.table_terms.specs.Refusals.{on_ok}
use Rattle.table_rows.specs.Refusals.{Answers}
use Rattle.table_rows.specs.declared.fault.TableWhy.{TableWhy}
use Rattle.spatial_join.specs.CalcColumns.{rows_by_places, summed_place}
use Rattle.spatial_join.proofs.JoinLemmas.{candidates_rise}
use Rattle.spatial_join.proofs.joined.calc_rows.Goals as goal

pub joined_rows-requires-clause-remaining : goal.joined_rows-requires-clause-remaining
joined_rows-requires-clause-remaining c = subst IsStrictlyIncreasing (sym c.as_slice-2.ensures.all) (candidates_rise c.args.source.now c.args.spec.now.test c.in_ok-remaining.remaining c.in_ok-remaining.ensures.exact)

pub returns : goal.returns
returns c =
    let source = c.args.source.now in
    let spec = c.args.spec.now in
    let pairs = zip c.args.target.now c.args.matches.now in
    let sums = c.deref.ensures.value ∙ c.in_ok-sums.ensures.places ∙ (λ i. map (summed_place (c.requires.source i)) (c.as_slice.ensures.all i)) in
    let by_places : List ℕ → Result (List RowValues) TableWhy = λ (remaining : List ℕ). rows_by_places source.rows c.args.columns.now (map (summed_place source.names) spec.calc) remaining pairs in
    record {
      exact = subst (λ (r : Result (List RowValues) TableWhy). Answers c.joined_rows.result r)
          ((λ i. rows_by_places (c.rows.ensures.rows i) c.args.columns.now (sums i) (c.as_slice-2.ensures.all i) pairs)
          ∙ sym (ap (λ (r : Result (List ℕ) TableWhy). on_ok r by_places) c.in_ok-remaining.ensures.exact))
          c.joined_rows.ensures.exact;
    }
