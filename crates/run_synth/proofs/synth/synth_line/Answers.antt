use Rattle.std.proofs.Common.{◌*◌}
use Rattle.std.specs.String.{string_bytes}
use Rattle.plane_model.specs.Snapped.{snapped}
use Rattle.run_plane.proofs.OnPlane.{features_are_inner}
use Rattle.synth_model.specs.Cells.{cells}
use Rattle.run_synth.proofs.Told.{told_is}
use Rattle.run_synth.proofs.synth.synth_line.Goals as goal

pub line_of-requires : goal.line_of-requires
line_of-requires c =
    let plane = c.in_ok-laid.laid.plane in
    record { inner = features_are_inner (snapped c.in_ok-drawing.drawing) plane.arcs plane.faces plane.boxes.items c.in_ok-laid.laid.features.items c.in_ok-laid.ensures.laid }

pub returns-clause-told : goal.returns-clause-told
returns-clause-told c =
    let drawing = c.in_ok-drawing in
    let laid = c.in_ok-laid in
    told_is (cells c.args.seed c.args.n) drawing.drawing (c.args.n * c.args.n) c.count_of.result (string_bytes c.in_ok-line_of.field-0) drawing.ensures.exact c.count_of.ensures.exact laid.ensures.few
    (c.in_ok-line_of.ensures.told (snapped drawing.drawing) laid.ensures.laid)
