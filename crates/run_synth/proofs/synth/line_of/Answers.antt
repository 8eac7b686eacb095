use Rattle.std.proofs.Common.{◌≡◌}
use Rattle.std.specs.String.{string_bytes}
use Rattle.std.proofs.lemmas.Result.{IfOk-weaker}
use Rattle.synth_model.specs.Line.{line_text}
use Rattle.run_synth.specs.Told.{IsLineOf}
use Rattle.run_synth.proofs.Told.{line_is}
use Rattle.run_synth.proofs.synth.line_of.Goals as goal

pub returns : goal.returns
returns c =
    let plane = c.args.laid.plane in
    let features = c.args.laid.features.items in
    let numbers = c.in_ok-numbers.numbers in
    record {
      told = λ s laid.
          IfOk-weaker c.text_of.result (λ line. string_bytes line ≡ line_text numbers.cells numbers.arcs numbers.faces numbers.features numbers.twice_area) (λ line. IsLineOf s c.args.count (string_bytes line))
          (λ line e. line_is s c.args.count (string_bytes line) plane.arcs plane.faces plane.boxes.items features numbers laid c.in_ok-numbers.ensures.exact e)
          c.text_of.ensures.exact;
    }
