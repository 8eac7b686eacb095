use Rattle.std.proofs.Common.{arith, ap, ◌∙◌, List, [], ◌∷◌, length, get_or}
use Rattle.std.specs.List.{flat_map}
use Rattle.plane_model.specs.Points.{Path}
use Rattle.arc_table.specs.Order.{links_stepped}
use Rattle.arc_table.proofs.Numbered.{along_items, along_all, flat_ones}
use Rattle.arc_table.proofs.numbering.number_polygons.Goals as goal

pub loop-polygon-preserved : goal.loop-polygon-preserved
loop-polygon-preserved c = (
  c.in_ok-number_paths.ensures.numbering,
  along_items c.args.net.now (λ polygon. polygon) c.args.numbering.now c.loop-polygon.numbering c.number_paths.new.numbering c.args.polygons.now c.loop-polygon.polygon-index c.polygon-item.result
      (links_stepped (flat_map (λ (path : Path). path ∷ []) c.as_slice.result.now)) (let n = ap (λ (xs : List (List Path)). length xs) c.as_slice-polygon-items.ensures.all in omega arith) (c.polygon-item.is ∙ ap (λ (xs : List (List Path)). get_or xs c.loop-polygon.polygon-index c.polygon-item.result) c.as_slice-polygon-items.ensures.all)
      (ap links_stepped (flat_ones c.as_slice.result.now ∙ c.as_slice.ensures.all)) c.loop-polygon.invariant.1 c.in_ok-number_paths.ensures.along,
)

pub returns-clause-along : goal.returns-clause-along
returns-clause-along c = along_all c.args.net.now (λ polygon. polygon) c.args.numbering.now c.loop-polygon.numbering c.args.polygons.now c.loop-polygon.polygon-index (let n = ap (λ (xs : List (List Path)). length xs) c.as_slice-polygon-items.ensures.all in omega arith) c.loop-polygon.invariant.1
