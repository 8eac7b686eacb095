use Rattle.std.proofs.Common.{ℕ, List, [], ◌∷◌, ◌++◌, sym, ap, subst, ◌∙◌}
use Rattle.json_values.specs.Table.{AreDistinctNames}
use Rattle.run_state.proofs.Rows.{one_name}
use Rattle.run_shapes.proofs.cleaning.ids_table.Goals as goal

pub new-requires-clause-distinct : goal.new-requires-clause-distinct
new-requires-clause-distinct c =
    let a = c.in_ok-of.field-0 in
    subst AreDistinctNames (sym (c.in_ok-push.ensures.ok ∙ ap (λ (names : List (List ℕ)). names ++ a ∷ []) c.new-names.ensures.empty)) (one_name a)
