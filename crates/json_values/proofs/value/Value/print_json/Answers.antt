use Rattle.std.proofs.lemmas.Result.{on_ok_weaker}
use Rattle.json_values.specs.Value.{value_text}
use Rattle.json_values.proofs.PrintedCells.{printed_cell_denotes}
use Rattle.json_values.proofs.value.Value.print_json.Goals as goal

pub returns-clause-denotes : goal.returns-clause-denotes
returns-clause-denotes c =
    let v = c.args.self.now in
    on_ok_weaker c.print_value.result (λ e d p. (value_text v, e, printed_cell_denotes d v p)) c.print_value.ensures.ok
