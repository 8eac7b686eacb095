use Rattle.json_read.proofs.AsciiStrings.{ascii_part}
use Rattle.json_read.proofs.reader.Reader.string.Goals as goal

pub returns-in_ok-of-in-Some : goal.returns-in_ok-of-in-Some
returns-in_ok-of-in-Some c = record { read = λ r. ascii_part r c.in-Some.text.now _ _ _ c.in_ok-of-in-Some.ensures.copied c.in-Some.ensures.some }
