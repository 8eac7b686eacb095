use Rattle.std.proofs.Common.{◌∙◌, ◌++◌, ◌<◌, sym, subst, ap, List, length, get_or}
use Rattle.plane_model.specs.Arcs.{SignedArc}
use Rattle.line_ops.specs.Inside.{is_kept}
use Rattle.line_ops.specs.Runs.{runs_where}
use Rattle.line_ops.proofs.RunLemmas.{flat_map_more}
use Rattle.line_ops.proofs.runs.runs_of_paths.Goals as goal

pub loop-path-preserved : goal.loop-path-preserved
loop-path-preserved c =
    let test = is_kept c.args.keeps c.args.f.now c.args.cut_set.now in
    let i = c.loop-path.path-index in
    let path = c.path-item.result in
    let items = c.as_slice-path-items.ensures.all in
    c.in_ok-push_runs.ensures.exact
    ∙ (λ j. c.loop-path.invariant j ++ runs_where test (c.as_slice.ensures.all j))
    ∙ sym (flat_map_more (runs_where test) c.args.paths.now i path path
    (subst (λ (paths : List (List SignedArc)). i < length paths) items c.loop-path-test.true)
    (c.path-item.is ∙ ap (λ (paths : List (List SignedArc)). get_or paths i path) items))
