use Rattle.std.proofs.Common.{arith}
use Rattle.json_values.proofs.Seen.{items_list-seen}
use Rattle.json_values.proofs.json.JsonList.as_slice.Goals as goal

pub returns : goal.returns
returns c = rw (← c.self.view_is) (record { all = rw (items_list-seen c.self.inside.items.items) (grind (arith, c.deref.ensures.value)) })
