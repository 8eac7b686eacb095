use Rattle.std.proofs.Common.{arith, ap, ◌∙◌, map, [], ◌∷◌}
use Rattle.plane_model.specs.Points.{Path, link_between}
use Rattle.plane_model.specs.Drawing.{steps}
use Rattle.arc_table.proofs.Numbered.{along_items, along_all, stepped_one}
use Rattle.arc_table.proofs.numbering.number_paths.Goals as goal

pub loop-path-preserved : goal.loop-path-preserved
loop-path-preserved c = (
  c.in_ok-number_path.ensures.numbering,
  along_items c.args.net.now (λ (path : Path). path ∷ []) c.args.numbering.now c.loop-path.numbering c.number_path.new.numbering c.args.paths.now c.loop-path.path-index c.path-item.result
      (map link_between (steps c.as_slice.result.now)) (omega arith) c.path-item.is (ap (λ (path : Path). map link_between (steps path)) c.as_slice.ensures.all ∙ stepped_one c.path-item.result)
      c.loop-path.invariant.1 c.in_ok-number_path.ensures.along,
)

pub returns-clause-along : goal.returns-clause-along
returns-clause-along c = along_all c.args.net.now (λ (path : Path). path ∷ []) c.args.numbering.now c.loop-path.numbering c.args.paths.now c.loop-path.path-index (omega arith) c.loop-path.invariant.1
