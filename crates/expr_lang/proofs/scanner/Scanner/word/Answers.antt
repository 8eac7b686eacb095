use Rattle.std.proofs.Common.{sym, subst}
use Rattle.expr_lang.specs.Tokens.{is_name_byte}
use Rattle.expr_lang.proofs.Boundaries.{Front, drop_while_front}
use Rattle.expr_lang.proofs.scanner.Scanner.word.Goals as goal

pub front_of-requires : goal.front_of-requires
front_of-requires c = subst (Front c.args.self.now.rest.now) (sym c.name_bytes.ensures.exact) (drop_while_front is_name_byte c.args.self.now.rest.now)
