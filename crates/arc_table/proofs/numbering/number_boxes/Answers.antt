use Rattle.std.proofs.Common.{arith, ap, ◌∙◌, refl, map, [], ◌∷◌}
use Rattle.plane_model.specs.Points.{Path, link_between}
use Rattle.plane_model.specs.Drawing.{steps}
use Rattle.arc_table.proofs.Order.{along_lists}
use Rattle.arc_table.proofs.Numbered.{along_all, stepped_one}
use Rattle.arc_table.proofs.numbering.number_boxes.Goals as goal

pub loop-b-preserved : goal.loop-b-preserved
loop-b-preserved c = (
  c.in_ok-number_path.ensures.numbering,
  along_lists c.args.net.now (λ (path : Path). path ∷ []) c.args.numbering.now c.loop-b.numbering c.number_path.new.numbering c.args.s.now.boxes c.loop-b.b c.loop-b.b c.box_of.result.now
      (map link_between (steps c.as_slice.result.now)) c.box_of.ensures.found refl (ap (λ (path : Path). map link_between (steps path)) c.as_slice.ensures.all ∙ stepped_one c.box_of.result.now)
      c.loop-b.invariant.1 c.in_ok-number_path.ensures.along,
)

pub returns-clause-along : goal.returns-clause-along
returns-clause-along c = along_all c.args.net.now (λ (path : Path). path ∷ []) c.args.numbering.now c.loop-b.numbering c.args.s.now.boxes c.loop-b.b (omega arith) c.loop-b.invariant.1
