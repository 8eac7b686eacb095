use Rattle.std.proofs.Common.{◌∙◌, refl, ap, ℕ, Option}
use Rattle.std.specs.Prelude.{unwrap_or}
use Rattle.indexmap.specs.IndexMap.{get}
use Rattle.json_values.specs.Value.{same}
use Rattle.json_values.specs.declared.value.Value.{Value}
use Rattle.calc_ops.proofs.EarlyLemmas.{one_counted}
use Rattle.calc_ops.proofs.early_rows.counts_key.Goals as goal

pub returns-clause-counts : goal.returns-clause-counts
returns-clause-counts c = λ (k : Value).
    ap (λ (o : Option ℕ). unwrap_or o 0) (c.in_ok-insert.ensures.updates.0 k)
    ∙ one_counted (get same c.args.counts.now) c.args.key k c.count_in-count.result (same c.args.key k) refl c.count_in-count.ensures.exact
