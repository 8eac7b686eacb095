use Rattle.std.proofs.Common.{◌≡◌, ◌∙◌, inl, inr, sym, ap, subst, arith, ℕ, true, get_or}
use Rattle.std.proofs.lemmas.Bool.{cases_lt}
use Rattle.std.proofs.lemmas.Option.{slice_get_within, get_or_from_slice_get}
use Rattle.plane_model.specs.Points.{at}
use Rattle.plane_model.specs.Parity.{is_below}
use Rattle.link_search.specs.Descent.{IsNotAbove}
use Rattle.link_search.specs.declared.links.ArcLink.{ArcLink}
use Rattle.link_search.proofs.RayLemmas.{found_after}
use Rattle.link_search.proofs.search.topmost_of_all.Goals as goal

pub loop-i-preserved : goal.loop-i-preserved
loop-i-preserved c =
    let links = c.args.links.now in
    let p = c.args.p in
    let l : ArcLink = c.index-links-i.result in
    let h = c.loop-i.invariant in
    let u = c.upper-topmost.ensures.exact in
    record {
      found = found_after links p c.loop-i.topmost l c.upper-topmost.result (c.loop-i.i, c.loop-i-test.true, sym c.index-links-i.is) u h.found;
      kept = λ k b n. u.kept k b (h.kept k b n);
      all = λ j k less e b. elim (cases_lt j c.loop-i.i) [
        | inl before ↦ u.kept k b (h.all j k before e b)
        | inr from ↦
            (let same : c.loop-i.i ≡ j = omega arith in
            let one : l ≡ k = c.index-links-i.is ∙ ap (λ (n : ℕ). get_or links n l) same ∙ get_or_from_slice_get links j k l e in
            subst (λ (m : ArcLink). IsNotAbove p m c.upper-topmost.result) one (u.this (subst (λ (m : ArcLink). is_below (at p) m.link ≡ true) (sym one) b)))
      ];
    }

pub returns-clause-all : goal.returns-clause-all
returns-clause-all c = λ i k e b.
    let done = c.loop-i-test.false in
    let end = c.loop-i.auto.i-end in
    let within = slice_get_within c.args.links.now i k e in
    c.loop-i.invariant.all i k (omega arith) e b
