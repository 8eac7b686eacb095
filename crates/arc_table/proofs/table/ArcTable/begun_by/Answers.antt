use Rattle.std.proofs.Common.{subst}
use Rattle.plane_model.specs.Points.{GridPoint}
use Rattle.arc_table.specs.Around.{IsAround}
use Rattle.arc_table.proofs.Begun.{begun_from}
use Rattle.arc_table.proofs.table.ArcTable.begun_by.Goals as goal

pub returns-in-None-clause-exact : goal.returns-in-None-clause-exact
returns-in-None-clause-exact c =
    let arcs = c.args.self.now in
    let row = c.around-row.result.now in
    let around : IsAround arcs c.args.step.start row = subst (λ (p : GridPoint). IsAround arcs p row) c.from.ensures.exact c.around-row.ensures.exact in
    begun_from arcs c.args.step row c.begun_among.result around c.begun_among.ensures.found c.begun_among.ensures.none
