use Rattle.std.proofs.Common.{◌∙◌, ap, sym, subst, arith, ℕ, ◌<◌, List, nat_eq, All, Err, length, get_or}
use Rattle.std.proofs.lemmas.List.Elements.{All-filter}
use Rattle.std.proofs.lemmas.Result.{err_from_is_err_and}
use Rattle.json_values.specs.Table.{RowValues}
use Rattle.lists.specs.Lists.{has}
use Rattle.table_rows.proofs.Answering.{answers_other}
use Rattle.spatial_join.proofs.JoinLemmas.{rows_done, rows_next, rows_stop}
use Rattle.spatial_join.proofs.joined.joined_rows.Goals as goal

pub joined_row-requires : goal.joined_row-requires
joined_row-requires c =
    let rows = c.args.source.now in
    record {
      within = subst (All (λ (n : ℕ). n < length rows)) (sym c.in_ok-matched.ensures.both)
          (All-filter (has nat_eq c.as_slice-in-loop-i.result.now) (λ (n : ℕ). n < length rows) c.args.remaining.now c.requires.within);
    }

pub returns-in_err-row : goal.returns-in_err-row
returns-in_err-row c =
    let p = err_from_is_err_and c.from_residual-in_err-row.result c.from_residual-in_err-row.ensures.1 in
    let i = c.loop-i.i in
    let row = c.index-as_slice-i-in-loop-i.result in
    let list = c.index-as_slice-i.result in
    let count = c.len-i-end.ensures.count in
    let less = c.loop-i-test.true in
    let row_is = c.index-as_slice-i-in-loop-i.is ∙ ap (λ (rows : List RowValues). get_or rows i row) c.as_slice-in-loop-i-2.ensures.all in
    let list_is = c.as_slice-in-loop-i.ensures.all ∙ c.index-as_slice-i.is ∙ ap (λ (lists : List (List ℕ)). get_or lists i list) c.as_slice.ensures.all in
    record {
      exact = answers_other _ c.in_err-row.field-0.0 _ _ (p.1 ∙ ap Err p.2) c.in_err-row.ensures.exact (λ why e.
          c.loop-i.invariant
          ∙ rows_stop c.args.source.now c.args.columns.now c.args.sums.now c.args.remaining.now c.args.target.now c.args.matches.now c.requires.each c.loop-i.rows i row row list
          c.as_slice-in-loop-i.result.now c.in_ok-matched.matched (omega arith) row_is list_is c.in_ok-matched.ensures.both why e);
    }

pub loop-i-preserved : goal.loop-i-preserved
loop-i-preserved c =
    let i = c.loop-i.i in
    let row = c.index-as_slice-i-in-loop-i.result in
    let list = c.index-as_slice-i.result in
    let count = c.len-i-end.ensures.count in
    let less = c.loop-i-test.true in
    let row_is = c.index-as_slice-i-in-loop-i.is ∙ ap (λ (rows : List RowValues). get_or rows i row) c.as_slice-in-loop-i-2.ensures.all in
    let list_is = c.as_slice-in-loop-i.ensures.all ∙ c.index-as_slice-i.is ∙ ap (λ (lists : List (List ℕ)). get_or lists i list) c.as_slice.ensures.all in
    c.loop-i.invariant
    ∙ rows_next c.args.source.now c.args.columns.now c.args.sums.now c.args.remaining.now c.args.target.now c.args.matches.now c.requires.each c.loop-i.rows i row row list
    c.as_slice-in-loop-i.result.now c.in_ok-matched.matched (omega arith) row_is list_is c.in_ok-matched.ensures.both c.in_ok-row.row c.push.new.self c.in_ok-row.ensures.exact c.in_ok-push.ensures.ok

pub returns : goal.returns
returns c =
    let count = c.len-i-end.ensures.count in
    let past = c.loop-i-test.false in
    record {
      exact = c.loop-i.invariant
          ∙ rows_done c.args.source.now c.args.columns.now c.args.sums.now c.args.remaining.now c.args.target.now c.args.matches.now c.requires.each c.loop-i.rows c.loop-i.i (omega arith);
    }
