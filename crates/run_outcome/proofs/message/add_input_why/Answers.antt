use Rattle.std.proofs.Common.{◌++◌, ℕ, codes, decimal, ap, sym, ◌∙◌}
use Rattle.run_sources.specs.declared.fault.InputWhy.{InputWhy}
use Rattle.run_outcome.specs.Messages.{input_text}
use Rattle.run_outcome.proofs.message.add_input_why.Goals as goal

pub returns-in-RepeatedName-clause-added : goal.returns-in-RepeatedName-clause-added
returns-in-RepeatedName-clause-added c =
    c.add_numbered-in-RepeatedName.ensures.added
    ∙ ap (λ (n : ℕ). c.args.line.now.bytes ++ (codes "RepeatedName in column " ++ decimal n)) c.from-in-RepeatedName.ensures
    ∙ sym (ap (λ (w : InputWhy). c.args.line.now.bytes ++ input_text w) c.in-RepeatedName.is)

pub returns-in-TooManyRows-clause-added : goal.returns-in-TooManyRows-clause-added
returns-in-TooManyRows-clause-added c =
    c.add_numbered-in-TooManyRows.ensures.added
    ∙ ap (λ (n : ℕ). c.args.line.now.bytes ++ (codes "TooManyRows in row " ++ decimal n)) c.from-in-TooManyRows.ensures
    ∙ sym (ap (λ (w : InputWhy). c.args.line.now.bytes ++ input_text w) c.in-TooManyRows.is)

pub returns-in-UnequalRow-clause-added : goal.returns-in-UnequalRow-clause-added
returns-in-UnequalRow-clause-added c =
    c.add_numbered-in-UnequalRow.ensures.added
    ∙ ap (λ (n : ℕ). c.args.line.now.bytes ++ (codes "UnequalRow in row " ++ decimal n)) c.from-in-UnequalRow.ensures
    ∙ sym (ap (λ (w : InputWhy). c.args.line.now.bytes ++ input_text w) c.in-UnequalRow.is)
