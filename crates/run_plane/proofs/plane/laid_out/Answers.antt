use Rattle.std.proofs.Common.{subst}
use Rattle.std.specs.List.{AllZip}
use Rattle.plane_model.specs.Drawing.{Drawing}
use Rattle.run_plane.specs.LaidOut.{IsLaidOut}
use Rattle.run_plane.specs.LineArcs.{AreLineArcs}
use Rattle.run_plane.proofs.plane.laid_out.Goals as goal

pub returns-clause-laid : goal.returns-clause-laid
returns-clause-laid c =
    let laid = c.in_ok-built.field-0 in
    subst (λ (s : Drawing). IsLaidOut s laid.plane.arcs laid.plane.faces laid.plane.boxes.items laid.features.items) c.in_ok-snapped.ensures.exact c.in_ok-built.ensures.laid

pub returns-clause-lines : goal.returns-clause-lines
returns-clause-lines c =
    let laid = c.in_ok-built.field-0 in
    subst (λ (s : Drawing). AllZip (AreLineArcs laid.plane.arcs) s.lines laid.lines.items) c.in_ok-snapped.ensures.exact c.in_ok-built.ensures.lines
