use Rattle.expr_lang.proofs.Scanning.{scan_first, scan_next, scan_smaller, scan_ends}
use Rattle.expr_lang.proofs.scanner.tokens.Goals as goal

pub loop-first-init : goal.loop-first-init
loop-first-init c = scan_first c.args.text.now _ _ c.new-tokens.ensures.items c.skip_white.ensures.exact

pub loop-first-smaller : goal.loop-first-smaller
loop-first-smaller c = scan_smaller c.in-Some.first _ _ _ c.in_ok-token.token c.in-Some.ensures.exact c.in_ok-token.ensures.exact c.skip_white-in-Some.ensures.exact

pub loop-first-preserved : goal.loop-first-preserved
loop-first-preserved c = scan_next c.args.text.now _ _ c.in-Some.first _ _ _ c.in_ok-token.token c.loop-first.invariant c.in-Some.ensures.exact c.in_ok-token.ensures.exact c.skip_white-in-Some.ensures.exact c.in_ok-push.ensures.items

pub returns : goal.returns
returns c = record { exact = scan_ends c.args.text.now _ _ c.loop-first.invariant c.in_default.ensures.exact }
