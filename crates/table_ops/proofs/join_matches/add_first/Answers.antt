use Rattle.std.proofs.Common.{Some, None, cond, sym, ◌∙◌}
use Rattle.std.specs.Option.{option_or}
use Rattle.indexmap.specs.IndexMap.{get}
use Rattle.json_values.specs.Value.{same}
use Rattle.json_values.specs.declared.value.Value.{Value}
use Rattle.table_terms.specs.Names.{value_at}
use Rattle.table_ops.proofs.Joining.{null_matches_none, others_match}
use Rattle.table_ops.proofs.join_matches.add_first.Goals as goal

pub returns-then-has_null : goal.returns-then-has_null
returns-then-has_null c =
    record { first = λ (v : Value). null_matches_none v (value_at c.args.row.now c.args.place) c.args.n (get same c.args.firsts.now v) (sym c.has_null.ensures.null ∙ c.if-has_null.true) }

pub returns : goal.returns
returns c =
    let value = value_at c.args.row.now c.args.place in
    let found = get same c.args.firsts.now in
    record {
      first = λ (v : Value). c.in_ok-note_key.ensures.first v
          ∙ (λ j. option_or (found v) (cond (same (c.in_ok-key.ensures.copied j) v) (Some c.args.n) None))
          ∙ others_match v value c.args.n (found v) (sym c.has_null.ensures.null ∙ c.if-has_null.false);
    }
