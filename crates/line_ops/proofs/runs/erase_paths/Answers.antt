use Rattle.std.proofs.Common.{◌≡◌, ◌<◌, sym, subst, List, All}
use Rattle.std.specs.List.{flat_map}
use Rattle.std.proofs.lemmas.Result.{IfOk-weaker}
use Rattle.plane_model.specs.Arcs.{SignedArc}
use Rattle.line_ops.specs.Inside.{is_outside}
use Rattle.line_ops.specs.Runs.{runs_where}
use Rattle.line_ops.proofs.RunLemmas.{all_runs}
use Rattle.line_ops.proofs.runs.erase_paths.Goals as goal

pub returns-clause-there : goal.returns-clause-there
returns-clause-there c = λ n h.
    let test = is_outside c.args.f.now c.args.cut_set.now in
    let P = λ (a : SignedArc). a.arc < n in
    IfOk-weaker c.runs_of_paths.result (λ (runs : List (List SignedArc)). runs ≡ flat_map (runs_where test) c.args.paths.now) (All (All P))
    (λ runs e. subst (λ (rs : List (List SignedArc)). All (All P) rs) (sym e) (all_runs P test c.args.paths.now h)) c.runs_of_paths.ensures.exact
