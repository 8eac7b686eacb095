-- The law is proved in `proofs/ByRegions.antt`.
use Rattle.line_laws.proofs.ByRegions.{paths_cut_by_regions}
use Rattle.line_laws.proofs.paths_cut_by_regions.Goals as goal

pub returns : goal.returns
returns c = record { holds = paths_cut_by_regions }
