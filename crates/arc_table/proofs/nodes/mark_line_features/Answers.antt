use Rattle.std.specs.List.{flat_map}
use Rattle.arc_table.specs.Nodes.{turns_of_line}
use Rattle.arc_table.proofs.FlatMore.{one_list_more}
use Rattle.arc_table.proofs.nodes.mark_line_features.Goals as goal

pub loop-f-preserved : goal.loop-f-preserved
loop-f-preserved c =
    one_list_more (λ feature. flat_map turns_of_line feature) c.args.s.now.lines c.loop-f.f c.new.result c.lines_of.result.now c.as_slice.result.now
    c.args.turns.now.items c.loop-f.turns.items c.mark_lines.new.turns.items c.lines_of.ensures.found c.new.ensures.made c.as_slice.ensures.all c.loop-f.invariant c.in_ok-mark_lines.ensures.added
