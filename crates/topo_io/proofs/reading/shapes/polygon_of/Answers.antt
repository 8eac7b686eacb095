use Rattle.std.proofs.Common.{sym, subst, List}
use Rattle.json_values.specs.Json.{JsonValue}
use Rattle.json_values.specs.Seen.{json_value}
use Rattle.json_values.specs.declared.json.Json.{Json}
use Rattle.topo_io.specs.Reads.{Answers}
use Rattle.topo_io.specs.Shapes.{polygon_of}
use Rattle.topo_io.specs.Stitching.{rings_of}
use Rattle.topo_io.proofs.reading.shapes.polygon_of.Goals as goal

pub returns-in-List-clause-read : goal.returns-in-List-clause-read
returns-in-List-clause-read c =
    let r = c.rings_of.result in
    let new = c.rings_of.new.left in
    subst (λ (j : Json). Answers (polygon_of c.args.arcs.now (json_value j)) c.args.left.now r new) (sym c.in-List.is)
    (subst (λ (vs : List JsonValue). Answers (rings_of c.args.arcs.now vs) c.args.left.now r new) c.as_slice.ensures.all c.rings_of.ensures.read)
