use Rattle.std.proofs.lemmas.Result.{on_ok_weaker}
use Rattle.json_values.specs.Seen.{json_value}
use Rattle.json_values.specs.Text.{json_text}
use Rattle.json_values.proofs.PrintedTexts.{printed_text_denotes}
use Rattle.json_values.proofs.json.Json.print_into.Goals as goal

pub returns-clause-denotes : goal.returns-clause-denotes
returns-clause-denotes c =
    let v = json_value c.args.self.now in
    on_ok_weaker c.print_value.result (λ e d p. (json_text v, e, printed_text_denotes d v p)) c.print_value.ensures.ok
