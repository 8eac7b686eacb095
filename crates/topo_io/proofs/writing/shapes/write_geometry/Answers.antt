use Rattle.std.proofs.Common.{◌∷◌, []}
use Rattle.std.proofs.lemmas.Result.{on_ok_weaker}
use Rattle.topo_io.specs.Texts.{shape_text, row_member}
use Rattle.topo_io.proofs.TextLemmas.{three}
use Rattle.topo_io.proofs.writing.shapes.write_geometry.Goals as goal

pub returns : goal.returns
returns c =
    record {
      written = on_ok_weaker c.push.result (λ h.
          three c.args.out.now (shape_text c.args.numbering.now.numbers.items c.args.shape.now) (row_member c.args.keys.now c.args.row.now) (125 ∷ []) c.write_shape.new.out c.write_row.new.out c.push.new.self
          c.in_ok-write_shape.ensures.written c.in_ok-write_row.ensures.written h) c.push.ensures.ok;
    }
