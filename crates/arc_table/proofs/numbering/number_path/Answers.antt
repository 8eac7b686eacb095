use Rattle.std.proofs.Common.{arith}
use Rattle.arc_table.proofs.Order.{along_path}
use Rattle.arc_table.proofs.Numbered.{along_start, along_whole}
use Rattle.arc_table.proofs.numbering.number_path.Goals as goal

pub loop-i-init : goal.loop-i-init
loop-i-init c = (c.requires, along_start c.args.net.now c.args.numbering.now c.args.path.now)

pub loop-i-preserved : goal.loop-i-preserved
loop-i-preserved c = (
  c.in_ok-last.ensures.numbering,
  along_path c.args.net.now c.args.numbering.now c.loop-i.numbering c.number_step.new.numbering c.args.path.now c.loop-i.i c.index-path-i.result c.index-path-i-in-loop-i.result c.new.result (omega arith) (omega arith)
      c.index-path-i.is c.index-path-i-in-loop-i.is c.new.ensures.made c.loop-i.invariant.1 c.in_ok-last.ensures.along,
)

pub returns-clause-along : goal.returns-clause-along
returns-clause-along c = along_whole c.args.net.now c.args.numbering.now c.loop-i.numbering c.args.path.now c.loop-i.i (omega arith) c.loop-i.invariant.1
