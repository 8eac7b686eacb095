use Rattle.std.proofs.Common.{rules, List, [], ◌∷◌, ◌++◌, length, map, sym, ap, ◌∙◌}
use Rattle.std.proofs.lemmas.List.{get_or-map}
use Rattle.std.proofs.lemmas.List.Sorted.{answers_always}
use Rattle.plane_model.specs.Points.{GridPoint}
use Rattle.plane_model.specs.Arcs.{SignedArc}
use Rattle.arc_table.specs.Around.{comes_first}
use Rattle.arc_table.specs.declared.first_steps.FirstStep.{FirstStep}
use Rattle.arc_table.proofs.TurnOrder.{comes_first-IsStrictWeakOrder}
use Rattle.arc_table.proofs.node_rows.NodeRows.add.Goals as goal

pub returns-clause-added : goal.returns-clause-added
returns-clause-added c =
    let old = c.args.self.now in
    let turned = c.sort_unstable_by.new.self.items in
    record {
      turned = turned;
      same = c.sort_unstable_by.ensures.permutation;
      in_turn = c.sort_unstable_by.ensures.sorted (λ (f : FirstStep) (g : FirstStep). comes_first f.step g.step) (comes_first-IsStrictWeakOrder (λ (f : FirstStep). f.step)) (answers_always _ _ _ (λ f a r g k. search rules));
      outs = c.in_ok-close.ensures.outs ∙ c.in_ok-push_arcs.ensures.pushed ∙ ap (λ (fs : List FirstStep). old.outs.items ++ map (λ f. f.arc) fs) c.deref.ensures.value;
      nodes = c.in_ok-close.ensures.node ∙ ap (λ (p : GridPoint). old.nodes.items ++ p ∷ []) (c.from-node.ensures.exact ∙ ap (λ (f : FirstStep). f.step.start) c.index.ensures ∙ sym (get_or-map (λ (f : FirstStep). f.step.start) c.args.row.now.items 0 c.index.result.now _ c.requires.some));
      rows = c.in_ok-close.ensures.stop ∙ ap (λ (bs : List SignedArc). old.rows.items ++ length bs ∷ []) (sym c.in_ok-close.ensures.outs);
    }
