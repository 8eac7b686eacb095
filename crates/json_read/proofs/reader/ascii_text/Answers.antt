use Rattle.json_read.proofs.AsciiStrings.{alone_utf8}
use Rattle.json_read.proofs.reader.ascii_text.Goals as goal

pub from_utf8_unchecked-requires : goal.from_utf8_unchecked-requires
from_utf8_unchecked-requires c = alone_utf8 _ c.requires.alone
