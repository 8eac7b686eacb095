use Rattle.std.proofs.Common.{◌≡◌, ◌∙◌, ap, sym, arith, [], length, get_or}
use Rattle.std.specs.Prelude.{slice_get, slice_range}
use Rattle.face_walk.proofs.FaceListLemmas.{list_in, span_within}
use Rattle.face_walk.proofs.face_lists.FaceLists.at.Goals as goal

pub part-requires : goal.part-requires
part-requires g c =
    let inside = c.self.inside in
    let span = c.span_at-span.result in
    let read : slice_get c.deref.result.now c.num.result ≡ slice_get inside.spans.items c.args.face = λ i. slice_get (c.deref.ensures.value i) (c.num.ensures.exact i) in
    let place = span_within (length inside.items.items) inside.spans.items c.args.face span c.self.invariant (sym read ∙ c.span_at-span.ensures.exact) in
    let size : length c.deref-2.result.now ≡ length inside.items.items = ap length c.deref-2.ensures.value in
    record { ordered = place.ordered; within = omega (arith, place.within, size) }

pub returns : goal.returns
returns g c =
    let inside = c.self.inside in
    let span = c.span_at-span.result in
    let read : slice_get c.deref.result.now c.num.result ≡ slice_get inside.spans.items c.args.face = λ i. slice_get (c.deref.ensures.value i) (c.num.ensures.exact i) in
    record {
      exact = c.part.ensures.exact ∙ (λ i. slice_range (c.deref-2.ensures.value i) span.start span.stop)
          ∙ sym (list_in inside.items.items inside.spans.items c.args.face span (sym read ∙ c.span_at-span.ensures.exact))
          ∙ (λ i. get_or (c.self.view_is i) c.args.face []);
    }
