-- Points of one part see links of one arc.
use Rattle.printed_laws.proofs.JoinedParts.{polygons_are_parts}
use Rattle.printed_laws.proofs.polygons_are_parts.Goals as goal

pub returns : goal.returns
returns c = record { holds = polygons_are_parts }
