-- The exit status of a run.
use Rattle.std.specs.Prelude.{ℕ}
use Rattle.run_outcome.specs.declared.outcome.Outcome.{Outcome}
use Rattle.run_outcome.specs.declared.outcome.Outcome.TheVariants.{Done, BadWords, ReadFault, Missing, TooLong, BadInput, TooDense, Refused, WriteFault, Memory}

abbrev pub status_number : Outcome → ℕ
status_number Done = 0
status_number (BadWords word why) = 1
status_number (BadInput source why) = 2
status_number (TooLong source) = 2
status_number (TooDense count) = 2
status_number (Refused command why) = 3
status_number (ReadFault source) = 4
status_number (Missing source) = 4
status_number (WriteFault command) = 5
status_number Memory = 6
