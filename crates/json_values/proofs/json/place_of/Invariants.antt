use Rattle.json_values.specs.Seen.{members_seen}
use Rattle.json_values.proofs.Putting.{Differs}
use Rattle.json_values.proofs.json.place_of.Given as goal

abbrev pub invariant-loop-i : goal.invariant-loop-i
invariant-loop-i l = Differs (members_seen l.fields) l.name l.i
