use Rattle.std.proofs.Common.{◌≢◌}
use Rattle.csv.specs.Writing.{writer_setup}
use Rattle.csv.specs.declared.writer.QuoteStyle.TheVariants as style
use Rattle.csv_io.proofs.writing.write_record.Goals as goal
use Rattle.csv_io.proofs.writing.write_record.Goals.{in-Ok, in-Err}

pub returns-clause-text : goal.returns-clause-text
returns-clause-text c =
    let plain : (writer_setup c.args.writer.now).style ≢ style.NonNumeric = rw (c.requires.between.0) (λ e. cc e) in
    elim c.match-write_byte_record.branch [
      | in-Ok w ↦ rw w.result-is (rw (c.requires.between.0) at (w.in-Ok.ensures.bytes c.requires.between.1 c.requires.between.2 plain))
      | in-Err w ↦ rw w.result-is tt
    ]
