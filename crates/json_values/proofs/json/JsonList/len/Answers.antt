use Rattle.std.proofs.Common.{arith}
use Rattle.json_values.proofs.Seen.{length-items_seen}
use Rattle.json_values.proofs.json.JsonList.len.Goals as goal

pub returns : goal.returns
returns c = rw (← c.self.view_is) (record { count = omega (arith, length-items_seen c.self.inside.items.items) })
