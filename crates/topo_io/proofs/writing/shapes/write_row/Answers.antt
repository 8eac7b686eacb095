use Rattle.std.proofs.Common.{arith}
use Rattle.std.proofs.lemmas.Result.{on_ok_weaker}
use Rattle.topo_io.proofs.TextLemmas.{row_written}
use Rattle.topo_io.proofs.writing.shapes.write_row.Goals as goal

pub returns : goal.returns
returns c =
    record { written = on_ok_weaker c.write_properties.result (λ h. row_written c.args.keys.now c.args.row.now c.args.out.now c.extend.new.self c.write_properties.new.out (omega arith) c.in_ok-extend.ensures.ok h) c.write_properties.ensures.written }
