-- A point just left of the link that the sector begins with, near enough to the vertex.
use Rattle.point_laws.proofs.SeenSectors.{sectors_are_seen}
use Rattle.point_laws.proofs.sectors_are_seen.Goals as goal

pub returns : goal.returns
returns c = record { holds = sectors_are_seen }
