use Rattle.std.proofs.Common.{◌++◌, ℕ, codes, decimal, ap, sym, ◌∙◌}
use Rattle.table_rows.specs.declared.fault.TableWhy.{TableWhy}
use Rattle.run_outcome.specs.Messages.{table_text}
use Rattle.run_outcome.proofs.message.add_table_why.Goals as goal

pub returns-in-FieldTwice-clause-added : goal.returns-in-FieldTwice-clause-added
returns-in-FieldTwice-clause-added c =
    c.add_numbered-in-FieldTwice.ensures.added
    ∙ ap (λ (n : ℕ). c.args.line.now.bytes ++ (codes "FieldTwice item " ++ decimal n)) c.from-in-FieldTwice.ensures
    ∙ sym (ap (λ (w : TableWhy). c.args.line.now.bytes ++ table_text w) c.in-FieldTwice.is)

pub returns-in-NotBoolean-clause-added : goal.returns-in-NotBoolean-clause-added
returns-in-NotBoolean-clause-added c =
    c.add_numbered-in-NotBoolean.ensures.added
    ∙ ap (λ (n : ℕ). c.args.line.now.bytes ++ (codes "NotBoolean in row " ++ decimal n)) c.from-in-NotBoolean.ensures
    ∙ sym (ap (λ (w : TableWhy). c.args.line.now.bytes ++ table_text w) c.in-NotBoolean.is)

pub returns-in-NotNumber-clause-added : goal.returns-in-NotNumber-clause-added
returns-in-NotNumber-clause-added c =
    c.add_numbered-in-NotNumber.ensures.added
    ∙ ap (λ (n : ℕ). c.args.line.now.bytes ++ (codes "NotNumber in row " ++ decimal n)) c.from-in-NotNumber.ensures
    ∙ sym (ap (λ (w : TableWhy). c.args.line.now.bytes ++ table_text w) c.in-NotNumber.is)
