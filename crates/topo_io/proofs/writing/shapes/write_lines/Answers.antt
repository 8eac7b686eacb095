use Rattle.std.proofs.Common.{codes, ◌∙◌, ap, ◌++◌}
use Rattle.std.proofs.lemmas.Result.{on_ok_weaker}
use Rattle.topo_io.specs.Texts.{indexes_text}
use Rattle.topo_io.proofs.TextLemmas.{one_written, many_written}
use Rattle.topo_io.proofs.writing.shapes.write_lines.Goals as goal

pub returns-in_ok-write_type-in-len1 : goal.returns-in_ok-write_type-in-len1
returns-in_ok-write_type-in-len1 c =
    record {
      written = on_ok_weaker c.write_path.result (λ h.
          one_written (codes "LineString") (codes "MultiLineString") (codes "arcs") (indexes_text c.args.numbering.now.numbers.items) c.args.lines.now c.line-item.result c.args.out.now c.write_type.new.out c.write_path.new.out
          c.in-len1.len_at_least c.in-len1.len_below c.line-item.is c.in_ok-write_type-in-len1.ensures.written (h ∙ ap (λ ys. c.write_type.new.out ++ indexes_text c.args.numbering.now.numbers.items ys) c.as_slice.ensures.all)) c.write_path.ensures.written;
    }

pub returns-in_ok-write_type-in_default : goal.returns-in_ok-write_type-in_default
returns-in_ok-write_type-in_default c =
    record {
      written = on_ok_weaker c.write_paths.result (λ h.
          many_written (codes "LineString") (codes "MultiLineString") (codes "arcs") (indexes_text c.args.numbering.now.numbers.items) c.args.lines.now c.args.out.now c.write_type-in_default.new.out c.write_paths.new.out
          c.in_default.len_at_least c.in_ok-write_type-in_default.ensures.written h) c.write_paths.ensures.written;
    }
