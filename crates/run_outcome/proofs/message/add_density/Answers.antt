use Rattle.std.proofs.Common.{codes, decimal}
use Rattle.topo_io.proofs.TextLemmas.{three}
use Rattle.run_outcome.proofs.message.add_density.Goals as goal

pub returns-clause-added : goal.returns-clause-added
returns-clause-added c =
    three c.args.line.now.bytes (codes "TooDense with ") (decimal c.args.count) (codes " links")
    c.push_str.new.self.bytes c.add_number.new.line.bytes c.push_str-2.new.self.bytes
    c.push_str.ensures.bytes c.add_number.ensures.added c.push_str-2.ensures.bytes
