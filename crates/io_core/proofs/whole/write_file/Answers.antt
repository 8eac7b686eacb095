use Rattle.std.proofs.Common.{arith, length-drop}
use Rattle.std.proofs.lemmas.List.{take_rest}
use Rattle.io_core.proofs.Reading.{NeverFell-trans}
use Rattle.io_core.proofs.FileReading.{NoneFell-trans, Puts-piece}
use Rattle.io_core.proofs.whole.write_file.Goals as goal

pub loop-done-preserved : goal.loop-done-preserved
loop-done-preserved g c = record {
  within = omega (arith, c.in_ok-done.ensures.some, length-drop c.loop-done.done c.args.bytes.now);
  written = Puts-piece _ _ _ _ _ _ _ _ (take_rest c.args.bytes.now c.loop-done.done) c.loop-done.invariant.written c.in_ok-done.ensures.appends;
  writes_kept = NoneFell-trans _ _ _ c.loop-done.invariant.writes_kept c.in_ok-done.ensures.cause.kept;
  reads_kept = NoneFell-trans _ _ _ c.loop-done.invariant.reads_kept c.in_ok-done.ensures.reads;
  bytes_kept = NeverFell-trans _ _ _ c.loop-done.invariant.bytes_kept c.in_ok-done.ensures.counted;
}
