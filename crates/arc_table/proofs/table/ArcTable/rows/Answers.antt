use Rattle.std.proofs.Common.{◌∙◌, ◌≤◌, ℕ, List, All, length, map, subst, sym}
use Rattle.std.proofs.lemmas.List.{length-map}
use Rattle.arc_table.specs.Around.{start_of}
use Rattle.arc_table.proofs.RowTable.{rows_within}
use Rattle.arc_table.proofs.table.ArcTable.rows.Goals as goal

pub returns-clause-within : goal.returns-clause-within
returns-clause-within c =
    let t = c.self.inside in
    let many = length-map t.outs.items (start_of t.arcs.spans) ∙ (λ i. length (sym c.deref-2.ensures.value i)) in
    subst (λ (r : List ℕ × ℕ). All (λ n. n ≤ r.1) r.0) (λ i. (sym c.deref.ensures.value i, many i)) (rows_within (map (start_of t.arcs.spans) t.outs.items) t.nodes.items t.rows.items c.self.invariant.1)
