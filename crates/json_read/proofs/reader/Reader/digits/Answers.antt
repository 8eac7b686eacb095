use Rattle.json_read.proofs.Whiles.{digits_left}
use Rattle.json_read.proofs.reader.Reader.digits.Goals as goal

pub returns : goal.returns
returns c = record { exact = digits_left c.args.self.now.rest.now c.digit_count.result c.digit_count.ensures.count }
