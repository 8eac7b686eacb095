use Rattle.csv_io.proofs.CsvUtf8.{first_of_two}
use Rattle.csv_io.proofs.utf8.Expected.second_of_two.Goals as goal

pub returns : goal.returns
returns c = record { next = first_of_two c.args.first c.requires.least c.requires.greatest }
