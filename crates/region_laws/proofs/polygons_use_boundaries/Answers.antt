-- A polygon of a trace is the trace of its part alone.
use Rattle.region_laws.proofs.OnePart.{polygons_use_boundaries}
use Rattle.region_laws.proofs.polygons_use_boundaries.Goals as goal

pub returns : goal.returns
returns c = record { holds = polygons_use_boundaries }
