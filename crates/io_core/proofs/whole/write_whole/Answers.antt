use Rattle.std.proofs.Common.{arith, ◌∙◌, length-drop}
use Rattle.std.proofs.lemmas.List.{take_rest}
use Rattle.io_core.proofs.Reading.{NeverFell-trans, Appends-piece}
use Rattle.io_core.proofs.whole.write_whole.Goals as goal

pub loop-done-preserved : goal.loop-done-preserved
loop-done-preserved g c = record {
  within = omega (arith, c.in_ok-done.ensures.some, length-drop c.loop-done.done c.args.bytes.now);
  told = c.in_ok-done.ensures.told ∙ c.loop-done.invariant.told;
  written = Appends-piece _ _ _ _ _ _ _ (take_rest c.args.bytes.now c.loop-done.done) c.loop-done.invariant.written c.in_ok-done.ensures.appends;
  kept = NeverFell-trans _ _ _ c.loop-done.invariant.kept c.in_ok-done.ensures.cause.kept;
}
