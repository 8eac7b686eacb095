-- Layers that are merged.
use Rattle.std.proofs.Common.{◌≡◌, refl, sym, ap, ◌∙◌, subst, Bool, List, [], ◌∷◌, map, Some, Result, Ok, Err}
use Rattle.std.specs.List.{AllZip, flat_map}
use Rattle.std.proofs.lemmas.List.Elements.{All-cons}
use Rattle.grid_base.specs.declared.kinds.Kind.{Kind}
use Rattle.json_values.specs.Table.{TableContent}
use Rattle.table_terms.specs.Refusals.{on_ok}
use Rattle.table_rows.specs.Merge.{merge_tables}
use Rattle.table_rows.specs.declared.fault.TableWhy.{TableWhy}
use Rattle.run_plane.specs.declared.layer.Layer.{Layer}
use Rattle.run_plane.specs.declared.layer.Shape.{Shape}
use Rattle.run_state.specs.Stops.{table_refusal}
use Rattle.run_tables.specs.Made.{IsMerged}
use Rattle.chain_model.specs.Outcome.{RefuseWhy}
use Rattle.chain_model.specs.State.{StateLayer}
use Rattle.chain_model.specs.Features.{in_layer, merged_layers}
use Rattle.layer_laws.specs.Shown.{View, LayerShows, ShapeShows}
use Rattle.layer_laws.specs.Reasons.{RefusedAlike}
use Rattle.layer_laws.specs.Tables.{AreOfOneKind, MergedLayersShow, MergedShows}
use Rattle.layer_laws.proofs.Zipped.{zip_flat_map, zip_same, zip_with_all}

-- what an answer of the tables makes of the state's layers
abbrev pub merged_of : StateLayer → List StateLayer → Result TableContent TableWhy → Result (List (List StateLayer)) RefuseWhy
merged_of l ls answer = on_ok (in_layer answer) (λ (t : TableContent).
    Ok ((record l { table = t; shapes = flat_map (λ (m : StateLayer). m.shapes) (l ∷ ls) } ∷ []) ∷ map (λ (m : StateLayer). []) ls))

merge_refused : (l : StateLayer) (ls : List StateLayer) (answer : Result TableContent TableWhy) → RefusedAlike (table_refusal answer) (merged_of l ls answer)
merge_refused l ls (Ok t) = ((record l { table = t; shapes = flat_map (λ (m : StateLayer). m.shapes) (l ∷ ls) } ∷ []) ∷ map (λ (m : StateLayer). []) ls, refl)
merge_refused l ls (Err why) = refl

-- a layer of a kind, and the state's
abbrev OfKind : View → Kind → Layer → StateLayer → Type 0
OfKind v k layer l = LayerShows v layer l × (layer.kind ≡ k)

shapes_of_kind : (v : View) (k : Kind) (layer : Layer) (l : StateLayer) → OfKind v k layer l → AllZip (ShapeShows v k) layer.shapes.items l.shapes
shapes_of_kind v k layer l h = subst (λ (kind : Kind). AllZip (ShapeShows v kind) layer.shapes.items l.shapes) h.1 h.0.shapes

module _ (v : View) (first : Layer) (layers : List Layer) (l : StateLayer) (ls : List StateLayer) (shown : LayerShows v first l) (others : AllZip (LayerShows v) layers ls) (alike : AreOfOneKind first layers) (force : Bool) where
  abbrev answer : Result TableContent TableWhy
  answer = merge_tables (map (λ (layer : Layer). layer.table) (first ∷ layers)) force

  same_tables : map (λ (m : StateLayer). m.table) (l ∷ ls) ≡ map (λ (layer : Layer). layer.table) (first ∷ layers)
  same_tables = sym (zip_same (LayerShows v) (λ (layer : Layer). layer.table) (λ (m : StateLayer). m.table) (λ layer m h. sym h.table) (first ∷ layers) (l ∷ ls) (shown, others))

  same_answer : merged_layers force (l ∷ ls) ≡ merged_of l ls answer
  same_answer = ap (λ (ts : List TableContent). merged_of l ls (merge_tables ts force)) same_tables

  nothing_put : ◌≡◌ {A = List (List StateLayer)} (map (λ (m : StateLayer). []) ls) (map (λ (other : Layer). []) layers)
  nothing_put = sym (zip_same (LayerShows v) {C = List StateLayer} (λ (other : Layer). []) (λ (m : StateLayer). []) (λ layer m h. refl) layers ls others)

  all_shapes : AllZip (ShapeShows v first.kind) (flat_map (λ (layer : Layer). layer.shapes.items) (first ∷ layers)) (flat_map (λ (m : StateLayer). m.shapes) (l ∷ ls))
  all_shapes = zip_flat_map (OfKind v first.kind) (ShapeShows v first.kind) (λ (layer : Layer). layer.shapes.items) (λ (m : StateLayer). m.shapes) (shapes_of_kind v first.kind) (first ∷ layers) (l ∷ ls)
      (zip_with_all (LayerShows v) (λ (layer : Layer). layer.kind ≡ first.kind) (first ∷ layers) (l ∷ ls) (shown, others) (All-cons (λ (layer : Layer). layer.kind ≡ first.kind) first layers refl alike))

  merged_shows : (made : Layer) → IsMerged force (first ∷ layers) made → MergedShows v made layers (merged_layers force (l ∷ ls))
  merged_shows made is =
      let begins : first ≡ is.first = let same : Some first ≡ Some is.first = is.begins in cc in
      let kind : made.kind ≡ first.kind = is.kind ∙ sym (ap (λ (layer : Layer). layer.kind) begins) in
      record {
        merged = record l { table = made.table; shapes = flat_map (λ (m : StateLayer). m.shapes) (l ∷ ls) };
        answers = same_answer ∙ ap (merged_of l ls) is.table ∙ ap (λ (rest : List (List StateLayer)). Ok ((record l { table = made.table; shapes = flat_map (λ (m : StateLayer). m.shapes) (l ∷ ls) } ∷ []) ∷ rest)) nothing_put;
        shows = record {
          name = shown.name ∙ ap (λ (layer : Layer). layer.name) begins ∙ sym is.name;
          kind = shown.kind ∙ sym kind;
          table = refl;
          shapes = subst (λ (k : Kind). AllZip (ShapeShows v k) made.shapes.items (flat_map (λ (m : StateLayer). m.shapes) (l ∷ ls))) (sym kind)
              (subst (λ (held : List Shape). AllZip (ShapeShows v first.kind) held (flat_map (λ (m : StateLayer). m.shapes) (l ∷ ls))) (sym is.shapes) all_shapes);
        };
      }

pub merged_layers_show : MergedLayersShow
merged_layers_show v first layers [] shown alike force = absurd shown
merged_layers_show v first layers (l ∷ ls) shown alike force = (
  merged_shows v first layers l ls shown.0 shown.1 alike force,
  subst (RefusedAlike (table_refusal (merge_tables (map (λ (layer : Layer). layer.table) (first ∷ layers)) force))) (sym (same_answer v first layers l ls shown.0 shown.1 alike force))
      (merge_refused l ls (merge_tables (map (λ (layer : Layer). layer.table) (first ∷ layers)) force)),
)
