-- The first steps of signed arcs, row by row.
use Rattle.std.specs.Prelude.{◌≡◌, List, [], ◌∷◌, ◌++◌, map, length}
use Rattle.std.specs.List.Sorted.{IsPermutation, IsSortedBy}
use Rattle.arc_table.specs.Around.{comes_first}
use Rattle.arc_table.specs.Direction.{point_at}
use Rattle.arc_table.specs.declared.first_steps.FirstStep.{FirstStep}
use Rattle.arc_table.specs.declared.node_rows.NodeRows.{NodeRows}

-- one row more, of these first steps: their arcs in turn, where they start, and where the row ends
pub record AddsRow (row : List FirstStep) (old new : NodeRows) : Type 0 where
  pub turned : List FirstStep
  pub same : IsPermutation row turned
  pub in_turn : IsSortedBy (λ f g. comes_first f.step g.step) turned
  pub outs : new.outs.items ≡ old.outs.items ++ map (λ (f : FirstStep). f.arc) turned
  pub nodes : new.nodes.items ≡ old.nodes.items ++ point_at (map (λ (f : FirstStep). f.step.start) row) 0 ∷ []
  pub rows : new.rows.items ≡ old.rows.items ++ length new.outs.items ∷ []
