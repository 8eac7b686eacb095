use Rattle.std.proofs.Common.{subst, map}
use Rattle.plane_model.specs.Drawing.{Drawing}
use Rattle.plane_model.specs.Snapped.{snapped}
use Rattle.run_plane.specs.Begun.{IsFew}
use Rattle.run_beginning.specs.BegunLayers.{BeginsOver}
use Rattle.run_beginning.proofs.BegunLemmas.{layers_of, owners_of}
use Rattle.run_beginning.proofs.BegunOnPlane.{imports_on, sources_on}
use Rattle.run_beginning.proofs.beginning.begin.Goals as goal

pub returns-clause-few : goal.returns-clause-few
returns-clause-few c = subst (λ (d : Drawing). IsFew d) c.in_ok-drawn.ensures.exact c.in_ok-laid.ensures.few

pub returns-clause-over : goal.returns-clause-over
returns-clause-over c =
    let given = c.args.sources.items in
    let begun = c.in_ok-begun_with.field-0 in
    subst (λ (d : Drawing). BeginsOver (snapped d) (owners_of given) (layers_of given) begun.plane.arcs begun.plane.faces begun.plane.boxes.items begun.layers.items (map (λ own. own.items) begun.sources.items)) c.in_ok-drawn.ensures.exact
    (c.in_ok-begun_with.ensures.over (snapped c.in_ok-drawn.drawn.drawing) given c.in_ok-laid.ensures.laid c.in_ok-laid.ensures.lines c.in_ok-drawn.ensures.left)

pub returns-clause-on : goal.returns-clause-on
returns-clause-on c =
    let given = c.args.sources.items in
    let drawing = snapped c.in_ok-drawn.drawn.drawing in
    let begun = c.in_ok-begun_with.field-0 in
    imports_on begun.plane drawing (owners_of given) (layers_of given) begun.plane.boxes.items begun.layers.items (map (λ own. own.items) begun.sources.items)
    (c.in_ok-begun_with.ensures.over drawing given c.in_ok-laid.ensures.laid c.in_ok-laid.ensures.lines c.in_ok-drawn.ensures.left)

pub returns-clause-sources_on : goal.returns-clause-sources_on
returns-clause-sources_on c =
    let given = c.args.sources.items in
    let drawing = snapped c.in_ok-drawn.drawn.drawing in
    let begun = c.in_ok-begun_with.field-0 in
    sources_on begun.plane drawing (owners_of given) (layers_of given) begun.plane.boxes.items begun.layers.items (map (λ own. own.items) begun.sources.items)
    (c.in_ok-begun_with.ensures.over drawing given c.in_ok-laid.ensures.laid c.in_ok-laid.ensures.lines c.in_ok-drawn.ensures.left)
