use Rattle.std.proofs.Common.{◌≡◌, ◌∙◌, ◌<◌, ℕ, List, [], Some, length, ap, sym, arith}
use Rattle.std.specs.Prelude.{slice_get, slice_index_or}
use Rattle.std.proofs.lemmas.Option.{slice_get-get_or, slice_get_past}
use Rattle.span_pool.specs.SpanPool.{cut}
use Rattle.span_pool.proofs.Cutting.{length-cut}
use Rattle.bucket_grid.proofs.number_lists.NumberLists.get.Goals as goal

pub returns-then-place-len : goal.returns-then-place-len
returns-then-place-len c =
    let ends = c.self.inside.ends in
    let lists : List (List ℕ) = cut 0 ends.items c.self.inside.numbers.items in
    let count : length lists ≡ length ends.items = length-cut 0 ends.items c.self.inside.numbers.items in
    let past = c.if-place-len.true in
    record { lookup = sym (ap (λ (xs : List (List ℕ)). slice_get xs c.args.place) (sym c.self.view_is) ∙ slice_get_past lists c.args.place (omega (arith, c.len.ensures, ends.ok.0))) }

pub returns : goal.returns
returns c =
    let ends = c.self.inside.ends in
    let lists : List (List ℕ) = cut 0 ends.items c.self.inside.numbers.items in
    let place = c.args.place in
    let count : length lists ≡ length ends.items = length-cut 0 ends.items c.self.inside.numbers.items in
    let there : place < length lists = omega (arith, c.if-place-len.false, c.len.ensures, ends.ok.0) in
    let read : slice_index_or lists place [] ≡ c.span_in.result.now = sym (c.span_in.ensures.exact ∙ (λ i. slice_index_or (cut 0 (c.deref-2.ensures.value i) (c.deref.ensures.value i)) place [])) in
    record { lookup = sym (ap (λ (xs : List (List ℕ)). slice_get xs place) (sym c.self.view_is) ∙ slice_get-get_or lists place [] there ∙ ap Some read) }
