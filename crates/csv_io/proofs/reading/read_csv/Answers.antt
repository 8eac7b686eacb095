use Rattle.std.proofs.Common.{ap, ◌∙◌, map}
use Rattle.csv.specs.Records.{fields_of}
use Rattle.csv_io.proofs.CsvReading.{text_read}
use Rattle.csv_io.proofs.reading.read_csv.Goals as goal

pub returns : goal.returns
returns c = record {
  exact = text_read c.args.string_fields.now c.args.room.rows c.args.bytes.now (map fields_of c.as_slice.result.now) c.table_of.result
      c.in_default.ensures.exact (ap (map fields_of) c.as_slice.ensures.value ∙ c.in_ok-records.ensures.exact) c.table_of.ensures.exact;
}
