-- The law is proved in `proofs/Pictured.antt`.
use Rattle.picture_laws.proofs.Pictured.{each_region_is_pictured}
use Rattle.picture_laws.proofs.each_region_is_pictured.Goals as goal

pub returns : goal.returns
returns c = record { holds = each_region_is_pictured }
