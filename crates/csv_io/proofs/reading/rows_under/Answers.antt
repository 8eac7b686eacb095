use Rattle.csv_io.proofs.CsvReading.{values_read}
use Rattle.csv_io.proofs.reading.rows_under.Goals as goal

pub returns : goal.returns
returns c = record {
  exact = values_read c.args.string_fields.now c.in_ok-texts.texts c.args.names.now _ c.as_slice.result.now c.in_ok-numbers.numbers.items c.in_ok-out.out
      c.in_ok-texts.ensures.all c.in_ok-numbers.ensures.exact c.as_slice.ensures.value c.in_ok-out.ensures.exact;
}
