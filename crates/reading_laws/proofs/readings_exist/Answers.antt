use Rattle.reading_laws.proofs.Readings.{readings_exist}
use Rattle.reading_laws.proofs.readings_exist.Goals as goal

pub returns : goal.returns
returns c = record { holds = readings_exist }
