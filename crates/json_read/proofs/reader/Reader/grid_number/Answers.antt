use Rattle.std.proofs.Common.{rules, FitsSigned, to_z-of_z}
use Rattle.std.specs.Int.{w64}
use Rattle.json_read.proofs.Straight.{front_read}
use Rattle.json_read.proofs.reader.Reader.grid_number.Goals as goal

pub returns : goal.returns
returns c = record {
  read = λ d.
      let fits : FitsSigned w64 c.in-Some.number = search rules in
      simp to_z-of_z (front_read d c.args.places c.in-Some.size c.in-Some.number _ _ _ _ c.skip_white.ensures.exact c.in-Some.ensures.found c.split_at.ensures.back c.skip_white-2.ensures.exact);
}
