use Rattle.std.proofs.Common.{arith, ap, ◌∙◌, [], ◌∷◌}
use Rattle.std.specs.List.{flat_map}
use Rattle.plane_model.specs.Points.{Path}
use Rattle.arc_table.specs.Order.{links_stepped}
use Rattle.arc_table.proofs.Order.{along_lists}
use Rattle.arc_table.proofs.Numbered.{along_all, flat_ones}
use Rattle.arc_table.proofs.numbering.number_line_features.Goals as goal

pub loop-f-preserved : goal.loop-f-preserved
loop-f-preserved c = (
  c.in_ok-number_paths.ensures.numbering,
  along_lists c.args.net.now (λ feature. feature) c.args.numbering.now c.loop-f.numbering c.number_paths.new.numbering c.args.s.now.lines c.loop-f.f c.new.result c.lines_of.result.now
      (links_stepped (flat_map (λ (path : Path). path ∷ []) c.as_slice.result.now)) c.lines_of.ensures.found c.new.ensures.made (ap links_stepped (flat_ones c.as_slice.result.now ∙ c.as_slice.ensures.all))
      c.loop-f.invariant.1 c.in_ok-number_paths.ensures.along,
)

pub returns-clause-along : goal.returns-clause-along
returns-clause-along c = along_all c.args.net.now (λ feature. feature) c.args.numbering.now c.loop-f.numbering c.args.s.now.lines c.loop-f.f (omega arith) c.loop-f.invariant.1
