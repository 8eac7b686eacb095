use Rattle.std.proofs.Common.{◌∙◌, All, ap, sym, subst, map, List, Err}
use Rattle.std.proofs.lemmas.List.Elements.{All-nil}
use Rattle.std.proofs.lemmas.Result.{err_from_is_err_and}
use Rattle.json_values.specs.Seen.{json_value}
use Rattle.plane_model.specs.Points.{Path}
use Rattle.topo_io.specs.Shapes.{several_lines}
use Rattle.topo_io.specs.Stitching.{has_points, path_of}
use Rattle.geojson_io.specs.Sound.{HasPoints}
use Rattle.topo_io.proofs.ReadLemmas.{IsKeptTo, all_kept, kept_stops, none_kept, one_kept_more, passes_on}
use Rattle.topo_io.proofs.reading.shapes.several_lines.Goals as goal

pub returns-in_err-line-clause-read : goal.returns-in_err-line-clause-read
returns-in_err-line-clause-read c =
    let p = err_from_is_err_and c.from_residual.result c.from_residual.ensures.1 in
    passes_on (several_lines c.args.arcs.now (map json_value c.args.items.now)) (path_of c.args.arcs.now (json_value c.item-item.result)) c.args.left.now c.loop-item.left c.from_residual.result c.in_err-line.field-0.0 c.path_of.new.left c.path_of.new.left
    (p.1 ∙ ap Err p.2) c.in_err-line.ensures.answers
    (λ why e. kept_stops has_points (path_of c.args.arcs.now) c.args.items.now c.loop-item.item-index c.item-item.result c.args.left.now c.loop-item.lines c.loop-item.left why c.loop-item-test.true c.item-item.is c.loop-item.invariant.0 e)

pub loop-item-init : goal.loop-item-init
loop-item-init c =
    subst (λ (ps : List Path). IsKeptTo has_points (path_of c.args.arcs.now) c.args.items.now 0 c.args.left.now ps c.args.left.now × All HasPoints ps) (sym c.new-lines.ensures.empty)
    (none_kept has_points (path_of c.args.arcs.now) c.args.items.now c.args.left.now, All-nil HasPoints)

pub loop-item-preserved : goal.loop-item-preserved
loop-item-preserved c = (
  one_kept_more has_points (path_of c.args.arcs.now) c.args.items.now c.loop-item.item-index c.item-item.result c.args.left.now c.loop-item.lines c.push_line.new.lines c.loop-item.left c.in_ok-line.line c.path_of.new.left
      c.loop-item-test.true c.item-item.is c.loop-item.invariant.0 c.in_ok-line.ensures.answers c.in_ok-push_line.ensures.exact,
  c.in_ok-push_line.ensures.sound,
)

pub returns : goal.returns
returns c = record {
  read = all_kept has_points (path_of c.args.arcs.now) c.args.items.now c.loop-item.item-index c.args.left.now c.loop-item.lines c.loop-item.left c.loop-item-test.false c.loop-item.invariant.0;
  sound = c.loop-item.invariant.1;
}
