use Rattle.json_read.proofs.AsciiStrings.{alone_at, front_closes}
use Rattle.json_read.proofs.reader.Reader.ascii_string.Goals as goal

pub ascii_text-requires : goal.ascii_text-requires
ascii_text-requires c = record { alone = alone_at c.ascii_count.result c.args.self.now.rest.now _ c.ascii_count.ensures.count c.split_at.ensures.front }

pub returns-in-Some-clause-some : goal.returns-in-Some-clause-some
returns-in-Some-clause-some c =
    front_closes c.ascii_count.result c.args.self.now.rest.now _ _ _ _ c.ascii_count.ensures.count c.split_at.ensures.front c.split_at.ensures.back c.in-Some.ensures.found c.ascii_text.ensures.exact
