use Rattle.std.proofs.Common.{◌≡◌, ◌∙◌, ◌<◌, inl, inr, sym, ap, subst, arith, ℕ, pos, get_or, length, Contains}
use Rattle.std.specs.Prelude.{◌≤ℤ◌}
use Rattle.std.proofs.lemmas.Bool.{cases_lt}
use Rattle.std.proofs.lemmas.Option.{get_or_from_slice_get, slice_get_within}
use Rattle.plane_model.specs.Points.{same_point, cross}
use Rattle.plane_model.proofs.PointOrder.{clash, same_point_from, same_point_to}
use Rattle.link_search.specs.Topmost.{HasGridEnds}
use Rattle.link_search.specs.Rows.{start_at}
use Rattle.link_search.specs.declared.links.ArcLink.{ArcLink}
use Rattle.link_search.proofs.CornerLemmas.{turned_self}
use Rattle.link_search.proofs.RowLemmas.{start_is}
use Rattle.link_search.proofs.rows.first_round.Goals as goal

pub loop-j-init : goal.loop-j-init
loop-j-init c =
    let links = c.args.links.now in
    let i = c.args.i in
    let r = c.index-links-i.result in
    record {
      there = (i, c.requires.there, sym c.index-links-i.is);
      leaves = sym (start_is links i r c.requires.there (sym c.index-links-i.is));
      first = λ m k a b e.
          (let same : i ≡ m = omega arith in
          subst (λ (x : ArcLink). pos 0 ≤ℤ cross r.link x.link) (c.index-links-i.is ∙ ap (λ (n : ℕ). get_or links n r) same ∙ get_or_from_slice_get links m k r e) (turned_self r.link));
    }

pub returns-then-not-is_same : goal.returns-then-not-is_same
returns-then-not-is_same c =
    let links = c.args.links.now in
    let h = c.loop-j.invariant in
    let j = c.loop-j.j in
    let some = c.loop-j.auto.j in
    let l : j < length links = c.loop-j-test.true in
    record {
      exact = record {
        there = h.there;
        leaves = h.leaves;
        first = λ m k a e same. elim (cases_lt m j) [
          | inl less ↦ h.first m k a less e
          | inr more ↦
              (let one : c.low.result ≡ c.low-in-loop-j.result =
              c.low.ensures.lesser ∙ ap (λ (x : ArcLink). x.link.start) (sym c.index-links-j.is) ∙ sym (start_is links j c.index-links-j.result l (sym c.index-links-j.is)) ∙ same j (omega arith) more ∙ sym h.leaves ∙ sym c.low-in-loop-j.ensures.lesser in
              clash (same_point c.low.result c.low-in-loop-j.result) (same_point_to c.low.result c.low-in-loop-j.result one) (sym c.if-not-is_same.ensures.exact))
        ];
      };
    }

pub loop-j-preserved : goal.loop-j-preserved
loop-j-preserved c =
    let links = c.args.links.now in
    let h = c.loop-j.invariant in
    let j = c.loop-j.j in
    let l : j < length links = c.loop-j-test.true in
    let next = c.index-links-j-in-loop-j.result in
    let result = c.first_of_two-first.result in
    let u = c.first_of_two-first.ensures.exact in
    let here : next.link.start ≡ start_at links c.args.i =
    sym (start_is links j next l (sym c.index-links-j-in-loop-j.is)) ∙ start_is links j c.index-links-j.result l (sym c.index-links-j.is) ∙ ap (λ (x : ArcLink). x.link.start) c.index-links-j.is ∙ sym c.low.ensures.lesser
    ∙ same_point_from c.low.result c.low-in-loop-j.result (sym c.if-not-is_same.ensures.exact) ∙ c.low-in-loop-j.ensures.lesser ∙ h.leaves in
    record {
      there = elim u.one [
        | inl e ↦ subst (Contains links) (sym e) h.there
        | inr e ↦ subst (Contains links) (sym e) (j, l, sym c.index-links-j-in-loop-j.is)
      ];
      leaves = elim u.one [
        | inl e ↦ ap (λ (x : ArcLink). x.link.start) e ∙ h.leaves
        | inr e ↦ ap (λ (x : ArcLink). x.link.start) e ∙ here
      ];
      first = λ m k a b e. elim (cases_lt m j) [
        | inl less ↦ u.to_others k (subst HasGridEnds (get_or_from_slice_get links m k k e) (c.requires.ordered m k (slice_get_within links m k e))).ordered (h.first m k a less e)
        | inr more ↦
            (let same : j ≡ m = omega arith in
            subst (λ (x : ArcLink). pos 0 ≤ℤ cross result.link x.link) (c.index-links-j-in-loop-j.is ∙ ap (λ (n : ℕ). get_or links n next) same ∙ get_or_from_slice_get links m k next e) u.to_next)
      ];
    }

pub returns : goal.returns
returns c =
    let links = c.args.links.now in
    let h = c.loop-j.invariant in
    let done = c.loop-j-test.false in
    record {
      exact = record {
        there = h.there;
        leaves = h.leaves;
        first = λ m k a e same. (let l = slice_get_within links m k e in h.first m k a (omega arith) e);
      };
    }
