use Rattle.json_read.proofs.Straight.{text_read}
use Rattle.json_read.proofs.reader.Reader.plain_text.Goals as goal

pub returns : goal.returns
returns c = record { read = λ d. text_read d c.in_ok-text.text.now _ _ _ _ _ c.skip_white.ensures.exact (c.take.ensures.taken c.if-not-take.false) c.in_ok-text.ensures.some c.skip_white-2.ensures.exact }
