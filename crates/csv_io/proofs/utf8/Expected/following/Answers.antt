use Rattle.std.proofs.Common.{◌-◌, arith}
use Rattle.csv_io.proofs.CsvUtf8.{can_end, follow_less}
use Rattle.csv_io.proofs.utf8.Expected.following.Goals as goal

pub returns-else-more-eq0-clause-ends : goal.returns-else-more-eq0-clause-ends
returns-else-more-eq0-clause-ends c = can_end 128 192 (c.args.more - 1) (omega arith)

pub returns-else-more-eq0-clause-same : goal.returns-else-more-eq0-clause-same
returns-else-more-eq0-clause-same c = follow_less c.args.more (c.args.more - 1) (omega (arith, c.if-more-eq0.false))
