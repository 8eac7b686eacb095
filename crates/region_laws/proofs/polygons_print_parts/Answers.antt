-- A trace holds its set of faces, and the set follows the region.
use Rattle.region_laws.proofs.Prints.{polygons_print_parts}
use Rattle.region_laws.proofs.polygons_print_parts.Goals as goal

pub returns : goal.returns
returns c = record { holds = polygons_print_parts }
