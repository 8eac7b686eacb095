use Rattle.std.proofs.Common.{ap, ◌∙◌, arith}
use Rattle.std.proofs.lemmas.Result.{on_ok_weaker}
use Rattle.plane_model.specs.Points.{Segment}
use Rattle.hot_pixels.specs.Parting.{left_numbers}
use Rattle.hot_pixels.proofs.FoundLemmas.{among_pairs, parted_by_line, parts_there}
use Rattle.hot_pixels.proofs.parting.+add_crossings_parted.Goals as goal

pub returns-then-lines-eq0 : goal.returns-then-lines-eq0
returns-then-lines-eq0 t c = record { ok = on_ok_weaker c.add_crossings_among.result (λ e. among_pairs c.args.edges.now c.args.near.now c.args.points.now.items c.add_crossings_among.new.points.items e) c.add_crossings_among.ensures.added }

pub returns-in_default : goal.returns-in_default
returns-in_default t c = record { ok = on_ok_weaker c.add_crossings_among-in_default.result (λ e. among_pairs c.args.edges.now c.args.near.now c.args.points.now.items c.add_crossings_among-in_default.new.points.items e) c.add_crossings_among-in_default.ensures.added }

pub returns-then-not-is_helpful : goal.returns-then-not-is_helpful
returns-then-not-is_helpful t c = record {
  ok =
      on_ok_weaker c.add_crossings_among-then-not-is_helpful.result (λ e. among_pairs c.args.edges.now c.args.near.now c.args.points.now.items c.add_crossings_among-then-not-is_helpful.new.points.items e) c.add_crossings_among-then-not-is_helpful.ensures.added;
}

pub add_crossings_parted-requires : goal.add_crossings_parted-requires
add_crossings_parted-requires t c = (omega arith, parts_there c.in-Some.line c.args.edges.now c.args.near.now c.deref.result.now c.requires (c.deref.ensures.value ∙ c.in_ok-left.ensures.exact))

pub add_crossings_parted-requires-2 : goal.add_crossings_parted-requires-2
add_crossings_parted-requires-2 t c = (omega arith, parts_there c.back.result c.args.edges.now c.args.near.now c.deref-2.result.now c.requires (c.deref-2.ensures.value ∙ c.in_ok-right.ensures.exact))

pub returns : goal.returns
returns t c = record {
  ok =
      on_ok_weaker c.add_crossings_parted-2.result (λ right.
      parted_by_line c.in-Some.line c.args.edges.now c.args.near.now c.deref.result.now c.deref-2.result.now c.args.points.now.items c.add_crossings_parted.new.points.items c.add_crossings_parted-2.new.points.items
      (c.deref.ensures.value ∙ c.in_ok-left.ensures.exact)
      (c.deref-2.ensures.value ∙ c.in_ok-right.ensures.exact ∙ ap (λ (way : Segment). left_numbers way c.args.edges.now c.args.near.now) c.back.ensures.exact)
      c.in_ok-add_crossings_parted.ensures.ok right) c.add_crossings_parted-2.ensures.ok;
}
