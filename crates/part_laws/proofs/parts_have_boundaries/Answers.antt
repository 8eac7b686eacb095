-- A part with no boundary would have all places, and so the outside.
use Rattle.part_laws.proofs.BoundedLaws.{parts_have_boundaries}
use Rattle.part_laws.proofs.parts_have_boundaries.Goals as goal

pub returns : goal.returns
returns c = record { holds = parts_have_boundaries }
