use Rattle.std.proofs.Common.{ap, ◌∙◌, List}
use Rattle.grid_base.specs.declared.kinds.Kind.{Kind}
use Rattle.geojson_io.specs.Layering.{kinds_from}
use Rattle.geojson_io.proofs.KindLemmas.{kinds_found}
use Rattle.geojson_io.proofs.reading.layering.kinds_of.Goals as goal

pub loop-feature-init : goal.loop-feature-init
loop-feature-init c = ap (λ (ks : List Kind). kinds_from ks c.args.features.now) c.new-kinds.ensures.items ∙ kinds_found c.args.features.now
