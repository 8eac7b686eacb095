use Rattle.std.proofs.Common.{◌++◌, ◌∙◌, ap, subst, drop}
use Rattle.std.proofs.lemmas.List.Sorted.{IsPermutation-refl}
use Rattle.plane_model.specs.Points.{Path}
use Rattle.hot_pixels.specs.Chains.{DoRise}
use Rattle.hot_pixels.proofs.chains.go_rising.Goals as goal

pub returns-then-do_rise-clause-did : goal.returns-then-do_rise-clause-did
returns-then-do_rise-clause-did c _ = record {
  sorted = c.args.points.items;
  moved = IsPermutation-refl c.args.points.items;
  rise = subst (DoRise c.args.s.now) c.deref.ensures.value (c.do_rise.ensures.yes c.if-do_rise.true);
  appended = c.in_ok-append.ensures.ok ∙ ap (λ (xs : Path). c.args.path.now ++ xs) (c.after_first.ensures.exact ∙ ap (drop 1) c.deref-then-do_rise.ensures.value);
}

pub returns-clause-did : goal.returns-clause-did
returns-clause-did c _ = record {
  sorted = c.in_ok-sorted.sorted;
  moved = c.in_ok-sorted.ensures.made.moved;
  rise = subst (DoRise c.args.s.now) c.as_slice.ensures.all (c.do_rise-2.ensures.yes c.if-not-do_rise.false);
  appended = c.in_ok-append-2.ensures.ok ∙ ap (λ (xs : Path). c.args.path.now ++ xs) (c.after_first-2.ensures.exact ∙ ap (drop 1) c.as_slice-2.ensures.all);
}
