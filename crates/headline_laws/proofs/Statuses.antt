-- The status of each outcome.
use Rattle.std.proofs.Common.{refl}
use Rattle.run_outcome.specs.declared.outcome.Outcome.TheVariants as end
use Rattle.headline_laws.specs.Outcomes.{StatusesAreOfTheModel}

pub statuses : StatusesAreOfTheModel
statuses end.Done = refl
statuses (end.BadWords n why) = refl
statuses (end.ReadFault n) = refl
statuses (end.Missing n) = refl
statuses (end.TooLong n) = refl
statuses (end.BadInput n why) = refl
statuses (end.TooDense count) = refl
statuses (end.Refused n why) = refl
statuses (end.WriteFault n) = refl
statuses end.Memory = refl
