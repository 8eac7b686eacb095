use Rattle.std.proofs.Common.{◌≡◌, ◌-◌, length, length-append, subst, arith, ap}
use Rattle.std.specs.Str.{IsCharBoundary}
use Rattle.std.proofs.lemmas.Str.{IsCharBoundary-at_seam}
use Rattle.expr_lang.proofs.scanner.front_of.Goals as goal

pub range-requires-clause-end_boundary : goal.range-requires-clause-end_boundary
range-requires-clause-end_boundary c =
    let text = c.args.text.now in
    let rest = c.args.rest.now in
    let front = c.requires.0 in
    let size : length front ≡ length text - length rest = omega (arith, ap length c.requires.1, length-append front rest) in
    subst (IsCharBoundary text) size (IsCharBoundary-at_seam text front rest c.requires.1 c.utf8.rest)
