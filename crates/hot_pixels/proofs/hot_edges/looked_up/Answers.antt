use Rattle.std.proofs.Common.{◌≡◌, ◌++◌, ◌∙◌, inl, inr, sym, ap, subst, ℕ, Bool, false, List, Option, Some, filter}
use Rattle.std.specs.List.{slice_get}
use Rattle.plane_model.specs.Points.{GridPoint}
use Rattle.plane_model.specs.Pixel.{meets}
use Rattle.hot_pixels.specs.declared.meetings.Meeting.{Meeting}
use Rattle.hot_pixels.specs.Meetings.{AreBack}
use Rattle.hot_pixels.specs.Marking.{ends_of, others_of}
use Rattle.hot_pixels.proofs.InnerLemmas.{with_ends_are}
use Rattle.hot_pixels.proofs.hot_edges.looked_up.Goals as goal

pub returns-then-has_no_mark : goal.returns-then-has_no_mark
returns-then-has_no_mark c =
    let i = c.args.i in
    record {
      made = inl (
        subst (λ (marks : List Bool). slice_get marks i ≡ Some false) c.deref.ensures.value (c.has_no_mark.ensures.exact.0 c.if-has_no_mark.true),
        λ last points e b. c.in_ok-gathered.ensures.made points (subst (λ (o : Option ℕ). AreBack c.deref-then-has_no_mark.result.now o points) (sym (c.last_of.ensures.exact last (subst (λ (lasts : List (Option ℕ)). slice_get lasts i ≡ Some last) (sym c.deref-then-has_no_mark-2.ensures.value) e)))
            (subst (λ (meetings : List Meeting). AreBack meetings last points) (sym c.deref-then-has_no_mark.ensures.value) b)),
      );
    }

pub returns : goal.returns
returns c =
    let s = c.args.s.now in
    let inner = c.args.marking.now.inner.items in
    let met : c.in_ok-met.met.items ≡ filter (meets s) inner = c.in_ok-met.ensures.exact ∙ ap (filter (meets s)) c.deref-2.ensures.value in
    record {
      made = inr (
        (λ e. absurd (let t = c.has_no_mark.ensures.exact.1 (subst (λ (marks : List Bool). slice_get marks c.args.i ≡ Some false) (sym c.deref.ensures.value) e) in let f = c.if-has_no_mark.false in cc)),
        with_ends_are s (filter (meets s) inner) c.in_ok-searched.searched.items (c.in_ok-searched.ensures.exact ∙ ap (λ (xs : List GridPoint). ends_of s ++ others_of s xs) (c.deref-3.ensures.value ∙ met)),
      );
    }
