use Rattle.std.proofs.Common.{◌+◌}
use Rattle.cmd_words.specs.Seen.{row_seen}
use Rattle.cmd_words.specs.Words.{words_from}
use Rattle.cmd_words.proofs.Past.{group_taken}
use Rattle.cmd_words.proofs.reading.take_group.Goals as goal

pub returns : goal.returns
returns c =
    record {
      exact = λ refuses right. group_taken refuses c.args.places c.args.so_far.now c.args.number (words_from (c.args.number + 1) c.args.rest.now) (row_seen c.args.row.now) c.args.group.now c.take_words.new.group c.finish.new.so_far c.finish.result
          (c.in_ok-take_words.ensures.exact refuses right) c.finish.ensures.exact;
    }
