use Rattle.std.proofs.Common.{◌++◌, ℕ, codes, decimal, ap, sym, ◌∙◌}
use Rattle.topo_io.proofs.TextLemmas.{three}
use Rattle.cmd_words.specs.declared.fault.WordWhy.{WordWhy}
use Rattle.run_outcome.specs.Messages.{Text, expr_kind, word_kind}
use Rattle.run_outcome.proofs.message.add_word_why.Goals as goal

pub returns-in-BadExpression-clause-added : goal.returns-in-BadExpression-clause-added
returns-in-BadExpression-clause-added c =
    let old = c.args.line.now.bytes in
    let at = codes " at " ++ decimal c.from.result in
    three old (codes "BadExpression ") c.expr_kind.result.now at
    c.push_str-in-BadExpression.new.self.bytes c.push_str-in-BadExpression-2.new.self.bytes c.add_numbered.new.line.bytes
    c.push_str-in-BadExpression.ensures.bytes c.push_str-in-BadExpression-2.ensures.bytes c.add_numbered.ensures.added
    ∙ ap (λ (kind : Text). old ++ (codes "BadExpression " ++ (kind ++ at))) c.expr_kind.ensures.exact
    ∙ ap (λ (n : ℕ). old ++ (codes "BadExpression " ++ (expr_kind c.in-BadExpression.why ++ (codes " at " ++ decimal n)))) c.from.ensures
    ∙ sym (ap (λ (w : WordWhy). old ++ word_kind w) c.in-BadExpression.is)

pub returns-in-TooManyWords-clause-added : goal.returns-in-TooManyWords-clause-added
returns-in-TooManyWords-clause-added c =
    c.push_str-in-TooManyWords.ensures.bytes ∙ sym (ap (λ (w : WordWhy). c.args.line.now.bytes ++ word_kind w) c.in-TooManyWords.is)
