use Rattle.json_values.proofs.Seen.{items_list-pushed}
use Rattle.json_values.proofs.json.JsonList.push.Goals as goal

pub returns-clause-ok : goal.returns-clause-ok
returns-clause-ok c = rw (c.in_ok-push.ensures.items, ← c.self.view_is) (items_list-pushed c.self.inside.items.items c.args.item)
