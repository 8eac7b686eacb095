-- By the chains of arcs between faces.
use Rattle.part_laws.proofs.ClassLemmas.{parts_are_classes}
use Rattle.part_laws.proofs.parts_are_classes.Goals as goal

pub returns : goal.returns
returns c = record { holds = parts_are_classes }
