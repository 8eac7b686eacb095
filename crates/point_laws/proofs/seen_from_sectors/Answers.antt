-- By the plane grown so that the point is a grid point, with one link more, between it and the vertex.
use Rattle.point_laws.proofs.Sectors.{seen_from_sectors}
use Rattle.point_laws.proofs.seen_from_sectors.Goals as goal

pub returns : goal.returns
returns c = record { holds = seen_from_sectors }
