use Rattle.std.proofs.Common.{sym, subst, ℕ}
use Rattle.arc_table.specs.Numbering.{ComesRound, LeadsTo, GoesRound, IsBegin, BeginsLeast, IsLeastAlong, IsRoundFrom, HaveMarksTogether}
use Rattle.arc_table.proofs.Rounds.{goes_round, least_first, least_round, together_back, starts_there, together_first}
use Rattle.arc_table.proofs.Runs.{twin}
use Rattle.arc_table.proofs.numbering.start_of.Goals as goal

pub returns-in-None-clause-begins : goal.returns-in-None-clause-begins
returns-in-None-clause-begins c =
    let net = c.args.net.now in
    let h = c.args.h in
    let round : ComesRound net.onward.items (twin net h) = subst (ComesRound net.onward.items) c.twin-back.ensures.exact c.in-None.ensures.exact in
    goes_round net h c.requires round c.least_round.result (subst (λ (j : ℕ). IsRoundFrom net j c.least_round.result) c.twin-back.ensures.exact c.least_round.ensures.round)

pub returns-in-None-clause-least : goal.returns-in-None-clause-least
returns-in-None-clause-least c =
    let net = c.args.net.now in
    let h = c.args.h in
    let k = c.least_round.result in
    let round : ComesRound net.onward.items (twin net h) = subst (ComesRound net.onward.items) c.twin-back.ensures.exact c.in-None.ensures.exact in
    least_round net h c.requires round k (subst (λ (j : ℕ). IsRoundFrom net j k) c.twin-back.ensures.exact c.least_round.ensures.round)
    (subst (λ (j : ℕ). GoesRound net j → IsLeastAlong net j k) c.twin-back.ensures.exact c.least_round.ensures.least)

pub returns-in-None-clause-together : goal.returns-in-None-clause-together
returns-in-None-clause-together c =
    let net = c.args.net.now in
    let k = c.least_round.result in
    together_back net c.args.h k c.requires (subst (λ (j : ℕ). IsRoundFrom net j k) c.twin-back.ensures.exact c.least_round.ensures.round)

pub returns-in-Some-clause-begins : goal.returns-in-Some-clause-begins
returns-in-Some-clause-begins c =
    let net = c.args.net.now in
    let h = c.args.h in
    let lead : LeadsTo net.onward.items (twin net h) c.in-Some.last = subst (λ (j : ℕ). LeadsTo net.onward.items j c.in-Some.last) c.twin-back.ensures.exact c.in-Some.ensures.exact in
    subst (IsBegin net) (sym c.twin.ensures.exact) (starts_there net h c.in-Some.last c.requires lead)

pub returns-in-Some-clause-least : goal.returns-in-Some-clause-least
returns-in-Some-clause-least c =
    let net = c.args.net.now in
    let h = c.args.h in
    let lead : LeadsTo net.onward.items (twin net h) c.in-Some.last = subst (λ (j : ℕ). LeadsTo net.onward.items j c.in-Some.last) c.twin-back.ensures.exact c.in-Some.ensures.exact in
    subst (BeginsLeast net) (sym c.twin.ensures.exact) (least_first net h c.in-Some.last c.requires lead)

pub returns-in-Some-clause-together : goal.returns-in-Some-clause-together
returns-in-Some-clause-together c =
    let net = c.args.net.now in
    let h = c.args.h in
    let lead : LeadsTo net.onward.items (twin net h) c.in-Some.last = subst (λ (j : ℕ). LeadsTo net.onward.items j c.in-Some.last) c.twin-back.ensures.exact c.in-Some.ensures.exact in
    subst (HaveMarksTogether net h) (sym c.twin.ensures.exact) (together_first net h c.in-Some.last c.requires lead)
