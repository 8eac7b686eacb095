use Rattle.std.proofs.Common.{arith}
use Rattle.json_values.proofs.Indexing.{index_done}
use Rattle.json_values.proofs.growing_fields.index_of.Goals as goal

pub returns : goal.returns
returns c = record { exact = index_done c.fields.inside.fields.items c.args.fields.now c.loop-i.i _ c.fields.view_is (omega (arith, c.loop-i-test.false, c.len-i-end.ensures)) c.fields.invariant.1 c.loop-i.invariant.0 }
