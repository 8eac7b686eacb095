use Rattle.std.proofs.Common.{length}
use Rattle.run_chain.proofs.running.+run_commands.Given as goal

abbrev pub decreases-run_commands : goal.decreases-run_commands
decreases-run_commands g l = length l.commands.now
