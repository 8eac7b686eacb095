use Rattle.std.proofs.Common.{◌≡◌, ◌+◌, ◌∙◌, ap, sym, false, codes}
use Rattle.std.specs.Str.{bytes_eq}
use Rattle.cmd_words.specs.Seen.{row_seen}
use Rattle.cmd_words.specs.Groups.{empty_group}
use Rattle.cmd_words.specs.Words.{words_from}
use Rattle.cmd_words.proofs.Past.{command_taken}
use Rattle.cmd_words.proofs.reading.take_command.Goals as goal

pub returns : goal.returns
returns c =
    let e : bytes_eq c.args.word.now (codes "-i") ≡ false = sym c.eq.ensures ∙ c.if-eq.false in
    let row = row_seen c.in-Some.row.now in
    let words = words_from (c.args.number + 1) c.args.rest.now in
    record {
      exact = λ refuses right. command_taken refuses c.args.places c.args.so_far.now c.args.number c.args.word.now words row c.new-group.result c.take_group.new.so_far c.take_group.result e c.in-Some.ensures.exact
          (c.new-group.ensures.empty ∙ ap empty_group c.reads_standard.ensures.exact) (c.take_group.ensures.exact refuses right);
    }
