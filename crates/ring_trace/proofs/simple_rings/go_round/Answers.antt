use Rattle.std.proofs.Common.{◌≡◌, ◌∙◌, sym, ap, subst, arith, ℕ, ◌<◌, Bool, true, false, List, length, get_or}
use Rattle.std.proofs.lemmas.List.{get_or-set_same, get_or_default}
use Rattle.std.proofs.lemmas.Result.{on_ok_weaker}
use Rattle.ring_trace.specs.Pairing.{AreApart}
use Rattle.ring_trace.specs.Ways.{IsMarkedWay, start_in}
use Rattle.ring_trace.proofs.RoundLemmas.{gone_still, one_free_less, round_begun, round_more, round_closed, round_same, rings_same, way_to, at_rest, rest_on, whole_same, count_free}
use Rattle.ring_trace.proofs.simple_rings.go_round.Goals as goal

pub loop-walk-init : goal.loop-walk-init
loop-walk-init c =
    let before = c.args.walk.now in
    let first = c.args.first in
    let onward = before.onward.items in
    let vertices = before.vertices.items in
    let gone = before.is_gone.items in
    let call = c.in_ok-at.ensures in
    let small : first < length gone = (let l = c.requires.first in let e = c.requires.walk.gone_each in omega arith) in
    let way = at_rest before (start_in vertices first) c.requires.rest.done c.requires.rest.marked in
    record {
      walk = call.walk;
      count = call.count;
      rings = call.rings;
      at = call.next;
      kept = call.kept;
      gone = ap (λ (bs : List Bool). get_or bs first false) call.gone ∙ get_or-set_same gone first true false small;
      stays = λ k h. ap (λ (bs : List Bool). get_or bs k false) call.gone ∙ gone_still gone first k small h;
      onward = call.onward;
      vertices = call.vertices;
      way = way_to c.go_along.new.walk vertices first _ _ call.vertices call.follows (call.leads (start_in vertices first) way);
      simple = rings_same c.go_along.new.walk before c.go_along.new.rings call.onward call.vertices (call.simple (start_in vertices first) way c.requires.rest.simple);
      round = round_same call.onward call.gone call.follows (round_begun onward gone first small c.requires.new c.requires.rest.led);
    }

pub loop-walk-preserved : goal.loop-walk-preserved
loop-walk-preserved c =
    let before = c.loop-walk.walk in
    let h = c.loop-walk.invariant in
    let at = c.loop-walk.at in
    let first = c.args.first in
    let vertices = before.vertices.items in
    let gone = before.is_gone.items in
    let call = c.in_ok-at-2.ensures in
    let small : at < length gone = (let l = h.at in let n = h.count in let e = h.walk.gone_each in omega arith) in
    let free : get_or gone at false ≡ false = sym (c.index.ensures ∙ get_or_default gone at c.index.result.now false small) ∙ c.loop-walk-test.true in
    record {
      walk = call.walk;
      count = call.count ∙ h.count;
      rings = whole_same h.count call.rings;
      at = (let n = call.next in let m = h.count in omega arith);
      kept = call.kept;
      gone = ap (λ (bs : List Bool). get_or bs first false) call.gone ∙ gone_still gone at first small h.gone;
      stays = λ k g. ap (λ (bs : List Bool). get_or bs k false) call.gone ∙ gone_still gone at k small (h.stays k g);
      onward = call.onward ∙ h.onward;
      vertices = call.vertices ∙ h.vertices;
      way = way_to c.go_along-in-loop-walk.new.walk vertices first _ _ call.vertices call.follows (call.leads (start_in vertices first) h.way);
      simple = rings_same c.go_along-in-loop-walk.new.walk before c.go_along-in-loop-walk.new.rings call.onward call.vertices (call.simple (start_in vertices first) h.way h.simple);
      round = round_same call.onward call.gone call.follows (round_more before.onward.items gone first at small free h.round);
    }

pub loop-walk-smaller : goal.loop-walk-smaller
loop-walk-smaller c =
    let h = c.loop-walk.invariant in
    let at = c.loop-walk.at in
    let gone = c.loop-walk.walk.is_gone.items in
    let small : at < length gone = (let l = h.at in let n = h.count in let e = h.walk.gone_each in omega arith) in
    let free : get_or gone at false ≡ false = sym (c.index.ensures ∙ get_or_default gone at c.index.result.now false small) ∙ c.loop-walk-test.true in
    let less = one_free_less gone at small free in
    let same = ap count_free c.in_ok-at-2.ensures.gone in
    omega arith

pub returns-clause-gone : goal.returns-clause-gone
returns-clause-gone c = on_ok_weaker c.close.result (λ e. ap (λ (bs : List Bool). get_or bs c.args.first false) e ∙ c.loop-walk.invariant.gone) c.close.ensures.gone

pub returns-clause-stays : goal.returns-clause-stays
returns-clause-stays c = on_ok_weaker c.close.result (λ e k h. ap (λ (bs : List Bool). get_or bs k false) e ∙ c.loop-walk.invariant.stays k h) c.close.ensures.gone

pub returns-clause-onward : goal.returns-clause-onward
returns-clause-onward c = on_ok_weaker c.close.result (λ e. e ∙ c.loop-walk.invariant.onward) c.close.ensures.onward

pub returns-clause-vertices : goal.returns-clause-vertices
returns-clause-vertices c = on_ok_weaker c.close.result (λ e. e ∙ c.loop-walk.invariant.vertices) c.close.ensures.vertices

pub returns-clause-rest : goal.returns-clause-rest
returns-clause-rest c =
    let h = c.loop-walk.invariant in
    let walk = c.loop-walk.walk in
    let first = c.args.first in
    let at = c.loop-walk.at in
    let vertices = walk.vertices.items in
    let small : at < length walk.is_gone.items = (let l = h.at in let n = h.count in let e = h.walk.gone_each in omega arith) in
    let gone : get_or walk.is_gone.items at false ≡ true = sym (c.index.ensures ∙ get_or_default walk.is_gone.items at c.index.result.now false small) ∙ c.loop-walk-test.false in
    let apart : AreApart walk.onward.items = subst (λ (xs : List ℕ). AreApart xs) (sym h.onward) c.requires.apart in
    let back = round_closed walk.onward.items walk.is_gone.items first at apart h.walk.gone_each gone h.round in
    let way : IsMarkedWay walk (start_in vertices first) (start_in vertices first) = subst (λ (k : ℕ). IsMarkedWay walk (start_in vertices first) (start_in vertices k)) back.0 h.way in
    rest_on c.close.result c.close.new.walk walk c.close.new.rings c.close.ensures.onward c.close.ensures.vertices c.close.ensures.gone c.close.ensures.done (c.close.ensures.marked way.marked) back.1 (c.close.ensures.simple (start_in vertices first) way h.simple)
