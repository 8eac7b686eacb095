use Rattle.std.proofs.Common.{refl, subst, take, arith}
use Rattle.csv_io.specs.CsvUtf8.{Expects}
use Rattle.csv_io.proofs.CsvUtf8.{expects_more, expects_not, expects_end, expects_next}
use Rattle.csv_io.proofs.utf8.utf8_fault.Goals as goal

pub loop-i-preserved : goal.loop-i-preserved
loop-i-preserved c = expects_more c.args.bytes.now c.loop-i.i _ c.loop-i.expected c.in-Some.next c.loop-i-test.true refl c.loop-i.invariant c.in-Some.ensures.next

pub returns-in-None : goal.returns-in-None
returns-in-None c = record { exact = expects_not c.args.bytes.now c.loop-i.i _ c.loop-i.expected c.loop-i-test.true refl c.loop-i.invariant c.in-None.ensures.none }

pub returns-in-First : goal.returns-in-First
returns-in-First c = record { exact = expects_end c.args.bytes.now c.loop-i.i (omega (arith, c.loop-i-test.false)) (subst (Expects (take c.loop-i.i c.args.bytes.now)) c.in-First.is c.loop-i.invariant) }

pub returns-in-Next : goal.returns-in-Next
returns-in-Next c = record { exact = expects_next c.args.bytes.now c.loop-i.i c.in-Next.low c.in-Next.high c.in-Next.more (omega (arith, c.loop-i-test.false)) (subst (Expects (take c.loop-i.i c.args.bytes.now)) c.in-Next.is c.loop-i.invariant) }
