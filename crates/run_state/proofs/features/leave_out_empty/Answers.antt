use Rattle.std.proofs.Common.{rules, ap, ◌∙◌, List, length, not}
use Rattle.std.proofs.lemmas.Fn.{filter_same}
use Rattle.std.proofs.lemmas.List.{length-map}
use Rattle.std.specs.List.{range_with_len}
use Rattle.run_plane.specs.Shapes.{is_empty, shape_at, with_geometry}
use Rattle.run_plane.specs.declared.layer.Shape.{Shape}
use Rattle.run_state.proofs.Numbers.{shapes_left}
use Rattle.run_state.proofs.features.leave_out_empty.Goals as goal

pub returns : goal.returns
returns c =
    let old = c.args.shapes.now.items in
    let left = filter_same _ (λ (shape : Shape). not (is_empty shape)) _ (λ x b f' k. search rules) _ _ c.retain.ensures.filtered ∙ shapes_left old in
    record {
      left = left;
      count = ap (λ (shapes : List Shape). length shapes) left ∙ length-map (with_geometry old (range_with_len 0 (length old))) (shape_at old);
    }
