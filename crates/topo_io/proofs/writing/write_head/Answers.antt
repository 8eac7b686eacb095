use Rattle.std.proofs.Common.{◌≡◌, ◌∙◌, ◌∷◌, [], ◌++◌, ap, pos, codes}
use Rattle.std.proofs.lemmas.Result.{on_ok_weaker}
use Rattle.numerals.specs.Decimal.{of_grid, decimal_text}
use Rattle.geojson_io.specs.Texts.{grid_text}
use Rattle.topo_io.proofs.TextLemmas.{five}
use Rattle.topo_io.proofs.writing.write_head.Goals as goal

pub returns : goal.returns
returns c =
    let scale : c.of_grid-scale.result ≡ of_grid (pos 1) c.args.places = c.of_grid-scale.ensures.exact in
    record {
      written = on_ok_weaker c.extend-2.result (λ h.
          five c.args.out.now (codes "{\"type\":\"Topology\",\"transform\":{\"scale\":[") (grid_text c.args.places (pos 1)) (44 ∷ []) (grid_text c.args.places (pos 1)) (codes "],\"translate\":[0,0]},\"objects\":{")
          c.extend.new.self c.print_into.new.out c.push.new.self c.print_into-2.new.out c.extend-2.new.self c.in_ok-extend.ensures.ok
          (c.in_ok-print_into.ensures.ok ∙ ap (λ g. c.extend.new.self ++ decimal_text g) scale) c.in_ok-push.ensures.ok (c.in_ok-print_into-2.ensures.ok ∙ ap (λ g. c.push.new.self ++ decimal_text g) scale) h) c.extend-2.ensures.ok;
    }
