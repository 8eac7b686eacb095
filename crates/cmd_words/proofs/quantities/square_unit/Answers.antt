use Rattle.std.proofs.Common.{arith, lit<, ◌≤◌, ◌^◌}
use Rattle.std.proofs.Math.Nat.{one-le-pow, pow-le-pow_right}
use Rattle.cmd_words.proofs.quantities.square_unit.Goals as goal

pub returns-clause-some : goal.returns-clause-some
returns-clause-some c =
    let some = one-le-pow c.saturating_sub.result 10 (lit< tt) in
    rw c.pow.ensures (omega (arith, some))

pub returns-clause-small : goal.returns-clause-small
returns-clause-small c =
    let fewer : c.saturating_sub.result ≤ 18 = rw c.saturating_sub.ensures (omega arith) in
    let most : 10 ^ c.saturating_sub.result ≤ 10 ^ 18 = pow-le-pow_right (lit< tt) fewer in
    rw c.pow.ensures most
