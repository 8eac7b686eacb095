use Rattle.std.proofs.Common.{◌∙◌, ◌++◌, ap, codes}
use Rattle.std.proofs.lemmas.Result.{on_ok_weaker}
use Rattle.topo_io.proofs.TextLemmas.{five}
use Rattle.topo_io.proofs.writing.shapes.write_type.Goals as goal

pub returns : goal.returns
returns c =
    record {
      written = on_ok_weaker c.extend-5.result (λ h.
          five c.args.out.now (codes "{\"type\":\"") c.args.name.now (codes "\",\"") c.args.member.now (codes "\":") c.extend.new.self c.extend-2.new.self c.extend-3.new.self c.extend-4.new.self c.extend-5.new.self
          c.in_ok-extend.ensures.ok (c.in_ok-extend-2.ensures.ok ∙ ap (λ w. c.extend.new.self ++ w) c.as_bytes.ensures.value) c.in_ok-extend-3.ensures.ok (c.in_ok-extend-4.ensures.ok ∙ ap (λ w. c.extend-3.new.self ++ w) c.as_bytes-2.ensures.value) h) c.extend-5.ensures.ok;
    }
