-- The side of a link has the label of the points that see the link from there.
use Rattle.region_laws.proofs.TieLaws.{cleaned_by_regions}
use Rattle.region_laws.proofs.cleaned_by_regions.Goals as goal

pub returns : goal.returns
returns c = record { holds = cleaned_by_regions }
