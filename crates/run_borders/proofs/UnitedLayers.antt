-- The layers of a union: their tables and sets of faces, and the rows that the items choose.
use Rattle.std.proofs.Common.{◌≡◌, ◌<◌, ◌+◌, ℕ, true, false, List, [], ◌∷◌, ◌++◌, All, length, get_or, take, sym, subst, subst₂, ◌∙◌}
use Rattle.std.proofs.lemmas.List.{map-append}
use Rattle.std.proofs.lemmas.List.Elements.{All-weaker}
use Rattle.json_values.specs.Table.{TableContent}
use Rattle.face_walk.specs.Places.{FaceTable}
use Rattle.union_ops.specs.Choices.{IsChoiceFrom}
use Rattle.union_ops.specs.Union.{IsItemOf}
use Rattle.union_ops.specs.UnionTable.{IsOfTables}
use Rattle.union_ops.specs.declared.union_lists.UnionItem.{UnionItem}
use Rattle.job_terms.specs.declared.job.Target.{Target}
use Rattle.run_plane.specs.declared.layer.Layer.{Layer}
use Rattle.run_state.specs.Targets.{is_selected, targets}
use Rattle.run_state.specs.declared.state.HeldLayer.{HeldLayer}
use Rattle.run_state.proofs.TargetLemmas.{other_next, target_next}
use Rattle.run_state.specs.FaceSets.{sets_in}
use Rattle.run_borders.specs.Uniting.{AreGathered, row_counts, set_counts}

-- ---- one layer more

gathered_more : (layers : List Layer) (layer : Layer) (tables : List TableContent) (sets : List (List (List ℕ))) (table : TableContent) (own : List (List ℕ)) →
    table ≡ layer.table → own ≡ sets_in layer.shapes.items → length table.rows ≡ length own →
    AreGathered layers tables sets → AreGathered (layers ++ layer ∷ []) (tables ++ table ∷ []) (sets ++ own ∷ [])
gathered_more layers layer tables sets table own of_table of_set same kept = record {
  of_tables = (λ i. kept.of_tables i ++ of_table i ∷ []) ∙ sym (map-append (λ (l : Layer). l.table) layers (layer ∷ []));
  of_sets = (λ i. kept.of_sets i ++ of_set i ∷ []) ∙ sym (map-append (λ (l : Layer). sets_in l.shapes.items) layers (layer ∷ []));
  each = map-append (λ (t : TableContent). length t.rows) tables (table ∷ []) ∙ (λ i. kept.each i ++ same i ∷ []) ∙ sym (map-append (λ (o : List (List ℕ)). length o) sets (own ∷ []));
}

module _ (t : Target) (xs : List HeldLayer) (i : ℕ) (item : HeldLayer) (tables tables' : List TableContent) (sets sets' : List (List (List ℕ))) where
  pub gathered_on : (table : TableContent) (own : List (List ℕ)) → i < length xs → item ≡ get_or xs i item → is_selected t item ≡ true → tables' ≡ tables ++ table ∷ [] → sets' ≡ sets ++ own ∷ [] →
      table ≡ item.layer.table → own ≡ sets_in item.layer.shapes.items → length table.rows ≡ length own →
      AreGathered (targets t (take i xs)) tables sets → AreGathered (targets t (take (i + 1) xs)) tables' sets'
  gathered_on table own within is on more_tables more_sets of_table of_set same kept =
      let more = gathered_more (targets t (take i xs)) item.layer tables sets table own of_table of_set same kept in
      subst (λ (layers : List Layer). AreGathered layers tables' sets') (sym (target_next t xs i item within is on))
      (subst₂ (AreGathered (targets t (take i xs) ++ item.layer ∷ [])) (sym more_tables) (sym more_sets) more)

  pub gathered_off : i < length xs → item ≡ get_or xs i item → is_selected t item ≡ false → tables' ≡ tables → sets' ≡ sets →
      AreGathered (targets t (take i xs)) tables sets → AreGathered (targets t (take (i + 1) xs)) tables' sets'
  gathered_off within is off same_tables same_sets kept =
      subst (λ (layers : List Layer). AreGathered layers tables' sets') (sym (other_next t xs i item within is off))
      (subst₂ (AreGathered (targets t (take i xs))) (sym same_tables) (sym same_sets) kept)

-- ---- the items choose features of the layers, and these have a row each

pub of_tables : (faces : FaceTable) (layers : List (List (List ℕ))) (tables : List TableContent) (items : List UnionItem) → row_counts tables ≡ set_counts layers → All (IsItemOf faces layers) items →
    All (IsOfTables tables) items
of_tables faces layers tables items same of_layers =
    All-weaker (IsItemOf faces layers) (IsOfTables tables) (λ item h. subst (λ (counts : List ℕ). IsChoiceFrom counts item.choice) (sym same) h.from) items of_layers
