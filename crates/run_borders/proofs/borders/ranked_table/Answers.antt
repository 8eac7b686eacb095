use Rattle.std.proofs.Common.{ℕ, List, [], ◌∷◌, ◌++◌, codes, sym, ap, subst, ◌∙◌}
use Rattle.std.specs.Str.{bytes_eq}
use Rattle.json_values.specs.Table.{AreDistinctNames}
use Rattle.run_state.proofs.Rows.{two_names}
use Rattle.run_borders.proofs.borders.ranked_table.Goals as goal

pub new-requires-clause-distinct : goal.new-requires-clause-distinct
new-requires-clause-distinct c =
    let a = c.in_ok-of.field-0 in
    let b = c.in_ok-of-2.field-0 in
    let one = c.in_ok-push.ensures.ok ∙ ap (λ (names : List (List ℕ)). names ++ a ∷ []) c.new-names.ensures.empty in
    let two = c.in_ok-push-2.ensures.ok ∙ ap (λ (names : List (List ℕ)). names ++ b ∷ []) one in
    let differ = ap (λ (name : List ℕ). bytes_eq name b) c.in_ok-of.ensures.copied ∙ ap (λ (name : List ℕ). bytes_eq (codes "TYPE") name) c.in_ok-of-2.ensures.copied in
    subst AreDistinctNames (sym two) (two_names a b differ)
