use Rattle.std.proofs.Common.{◌≡◌, ◌∙◌, ◌++◌, ◌∷◌, [], List, ℕ, All, ap, sym, subst, map, length, codes}
use Rattle.geojson_io.specs.Texts.{separated}
use Rattle.topo_io.specs.ArcLayerContent.{ArcLayerContent}
use Rattle.topo_io.specs.Arcs.{LayerIsBelow, is_named, marks_before, numbers_of_marks}
use Rattle.topo_io.specs.Texts.{head_text, object_text, arcs_text}
use Rattle.topo_io.proofs.TextLemmas.{five}
use Rattle.topo_io.proofs.writing.write_topojson.Goals as goal

pub write_objects-requires : goal.write_objects-requires
write_objects-requires c =
    let count : length c.args.arcs.now ≡ length c.in_ok-numbering.numbering.numbers.items = sym (c.in_ok-numbering.ensures.count ∙ c.count.ensures.exact) in
    subst (λ (ls : List ArcLayerContent). All (LayerIsBelow (length c.in_ok-numbering.numbering.numbers.items)) ls) (sym c.as_slice-2.ensures.all)
    (subst (λ (n : ℕ). All (LayerIsBelow n) c.args.layers.now) count c.requires.there)

pub returns : goal.returns
returns c =
    let layers = c.args.layers.now in
    let arcs = c.args.arcs.now in
    let marks : is_named c.count.result c.as_slice.result.now ≡ is_named (length arcs) layers = (λ i. is_named (c.count.ensures.exact i) (c.as_slice.ensures.all i)) in
    let numbers : c.in_ok-numbering.numbering.numbers.items ≡ marks_before 0 (is_named (length arcs) layers) = c.in_ok-numbering.ensures.numbers ∙ ap (marks_before 0) marks in
    let used : c.in_ok-numbering.numbering.used ≡ numbers_of_marks 0 (is_named (length arcs) layers) = c.in_ok-numbering.ensures.used ∙ ap (numbers_of_marks 0) marks in
    record {
      exact =
          five [] (head_text c.args.places) (separated (44 ∷ []) (map (object_text (marks_before 0 (is_named (length arcs) layers))) layers)) (codes "},\"arcs\":[")
          (arcs_text (numbers_of_marks 0 (is_named (length arcs) layers)) arcs) (codes "]}\n")
          c.write_head.new.out c.write_objects.new.out c.extend.new.self c.write_arcs.new.out c.extend-2.new.self
          (c.in_ok-write_head.ensures.written ∙ ap (λ w. w ++ head_text c.args.places) c.new-out.ensures.empty)
          (c.in_ok-write_objects.ensures.written ∙ (λ i. c.write_head.new.out ++ separated (44 ∷ []) (map (object_text (numbers i)) (c.as_slice-2.ensures.all i))))
          c.in_ok-extend.ensures.ok
          (c.in_ok-write_arcs.ensures.written ∙ (λ i. c.extend.new.self ++ arcs_text ((c.as_slice-3.ensures.all ∙ used) i) arcs))
          c.in_ok-extend-2.ensures.ok;
    }
