use Rattle.std.proofs.Common.{◌≡◌, ◌∷◌, ◌∙◌, [], None, Result, ap, sym, subst}
use Rattle.std.proofs.lemmas.Result.{IfOk-weaker, IfErr-weaker}
use Rattle.table_ops.specs.Join.{join_tables}
use Rattle.run_plane.specs.declared.layer.Layer.{Layer}
use Rattle.run_state.specs.Origins.{base_of, one_layer, origin_layers}
use Rattle.run_state.specs.Stops.{StopsFor, table_refusal}
use Rattle.run_state.specs.declared.refusal.RefuseWhy.{RefuseWhy}
use Rattle.run_tables.specs.Made.{GivesTable}
use Rattle.run_steps.specs.Commands.{Joins}
use Rattle.run_steps.specs.Refusals.{refused_join}
use Rattle.run_steps.proofs.outputs.joined_by.Goals as goal

pub returns-clause-joins : goal.returns-clause-joins
returns-clause-joins c =
    let layer : Layer = c.args.layer.now in
    let source : Layer = c.in_ok-source.source.now in
    IfOk-weaker c.joined.result (GivesTable (join_tables layer.table source.table c.args.spec.now) layer) (λ made. Joins (base_of c.args.base.now) c.args.layers.now c.args.from.now c.args.spec.now layer (made ∷ []))
    (λ made h. record { source = source; found = c.in_ok-source.ensures.ok; joined = h }) c.joined.ensures.made

pub returns-clause-accepted : goal.returns-clause-accepted
returns-clause-accepted c =
    let layer : Layer = c.args.layer.now in
    let source : Layer = c.in_ok-source.source.now in
    let spec = c.args.spec.now in
    let answer = one_layer (origin_layers (base_of c.args.base.now).sources c.args.layers.now c.args.from.now) in
    IfOk-weaker c.joined.result (λ made. table_refusal (join_tables layer.table source.table spec) ≡ None) (λ made. refused_join answer spec layer ≡ None)
    (λ made h. ap (λ (r : Result Layer RefuseWhy). refused_join r spec layer) c.in_ok-source.ensures.ok ∙ h) c.joined.ensures.accepted

pub returns-clause-stops : goal.returns-clause-stops
returns-clause-stops c =
    let layer : Layer = c.args.layer.now in
    let source : Layer = c.in_ok-source.source.now in
    let spec = c.args.spec.now in
    let answer = one_layer (origin_layers (base_of c.args.base.now).sources c.args.layers.now c.args.from.now) in
    IfErr-weaker c.joined.result (StopsFor (table_refusal (join_tables layer.table source.table spec))) (StopsFor (refused_join answer spec layer))
    (λ stop h. subst (λ (r : Result Layer RefuseWhy). StopsFor (refused_join r spec layer) stop) (sym c.in_ok-source.ensures.ok) h) c.joined.ensures.stops
