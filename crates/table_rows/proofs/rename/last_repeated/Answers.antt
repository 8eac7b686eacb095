use Rattle.std.proofs.Common.{rules, ◌≡◌, ◌<◌, Some, cond, length, get_or, ap, sym, ◌∙◌}
use Rattle.table_terms.specs.Names.{has_name}
use Rattle.table_terms.specs.declared.renames.Rename.{Rename}
use Rattle.table_rows.proofs.Renaming.{last_more}
use Rattle.table_rows.proofs.rename.last_repeated.Goals as goal

pub loop-i-preserved : goal.loop-i-preserved
loop-i-preserved c =
    let pairs = c.args.pairs.now in
    let repeated = c.args.repeated.now in
    let i = c.loop-i.i in
    let pair = c.pair_at-pair.result.now in
    let less : i < length pairs = search rules in
    let is_last : c.has.result ≡ has_name repeated (get_or pairs i pair).label =
    c.has.ensures.found ∙ ap (has_name repeated) c.as_str.ensures.lent ∙ ap (λ (p : Rename). has_name repeated p.label) c.pair_at-pair.ensures.lent in
    c.later-last.ensures.chosen ∙ (λ j. cond (is_last j) (Some i) (c.loop-i.invariant j))
    ∙ sym (last_more (λ (p : Rename). has_name repeated p.label) pairs i pair less)
