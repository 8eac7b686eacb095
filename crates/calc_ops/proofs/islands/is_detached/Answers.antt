use Rattle.std.proofs.Common.{◌≡◌, ◌∙◌, sym, ap, true, get_or, take, arith}
use Rattle.std.specs.List.{list_all}
use Rattle.std.proofs.lemmas.List.{take_all}
use Rattle.std.proofs.lemmas.List.Folds.{list_all_at, list_all_more}
use Rattle.std.proofs.lemmas.Bool.{and_from}
use Rattle.calc_ops.specs.Islands.{stands_alone}
use Rattle.calc_ops.proofs.islands.is_detached.Goals as goal

pub loop-arc-preserved : goal.loop-arc-preserved
loop-arc-preserved c = λ sets h.
    let test = stands_alone c.args.f.now sets c.args.n in
    let around = c.args.around.now in
    let i = c.loop-arc.arc-index in
    let a = c.arc-item.result in
    let here : test (get_or around i a) ≡ true = ap test (sym c.arc-item.is) ∙ sym (c.stands_alone.ensures.exact sets h) ∙ c.if-not-stands_alone.false in
    list_all_more test around i a c.loop-arc-test.true ∙ and_from (list_all test (take i around)) (test (get_or around i a)) (c.loop-arc.invariant sets h) here

pub returns-then-not-stands_alone : goal.returns-then-not-stands_alone
returns-then-not-stands_alone c = record {
  exact = λ sets h.
      let test = stands_alone c.args.f.now sets c.args.n in
      let around = c.args.around.now in
      let a = c.arc-item.result in
      sym (list_all_at test around c.loop-arc.arc-index a c.loop-arc-test.true (ap test (sym c.arc-item.is) ∙ sym (c.stands_alone.ensures.exact sets h) ∙ c.if-not-stands_alone.true));
}

pub returns : goal.returns
returns c = record {
  exact = λ sets h.
      let test = stands_alone c.args.f.now sets c.args.n in
      let done = c.loop-arc-test.false in
      sym (ap (list_all test) (sym (take_all c.loop-arc.arc-index c.args.around.now (omega arith))) ∙ c.loop-arc.invariant sets h);
}
