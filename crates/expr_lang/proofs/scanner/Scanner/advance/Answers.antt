use Rattle.expr_lang.proofs.Boundaries.{passes_ascii}
use Rattle.expr_lang.proofs.scanner.Scanner.advance.Goals as goal

pub returns : goal.returns
returns c = record { next = passes_ascii c.next.result _ _ c.requires c.next.ensures.exact }
