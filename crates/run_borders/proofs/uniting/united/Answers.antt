use Rattle.std.proofs.Common.{◌∙◌, All, List, ℕ, ap, map, refl, subst, sym}
use Rattle.json_values.specs.Table.{TableContent}
use Rattle.face_sets.specs.Sets.{IsSetOf}
use Rattle.union_ops.specs.Union.{IsUnion}
use Rattle.union_ops.specs.UnionTable.{IsUnionTable}
use Rattle.run_plane.specs.OnPlane.{AreOn}
use Rattle.run_state.specs.Targets.{targets}
use Rattle.run_state.proofs.OnPlane.{all_targets_on}
use Rattle.run_borders.specs.Uniting.{item_shape}
use Rattle.run_borders.proofs.OnPlane.{items_on, layer_sets_inner}
use Rattle.run_borders.proofs.uniting.united.Goals as goal

pub union_sets-requires-clause-faces : goal.union_sets-requires-clause-faces
union_sets-requires-clause-faces c =
    let plane = c.args.plane.now in
    let layers = targets c.args.target.now c.args.layers.now in
    subst (λ (sets : List (List (List ℕ))). All (All (IsSetOf plane.faces)) sets) (sym c.in_ok-tables.ensures.gathered.of_sets) (layer_sets_inner plane layers (all_targets_on plane c.args.target.now c.args.layers.now c.requires.on))

pub returns : goal.returns
returns c =
    let faces = c.args.plane.now.faces in
    let items = c.in_ok-items.items in
    let gathered = c.in_ok-tables.ensures.gathered in
    let shapes = c.in_ok-shapes.ensures.exact ∙ ap (map item_shape) c.into_vec.ensures.all in
    record {
      made = record {
        first = c.first_target-first.result.now;
        begins = sym c.first_target-first.ensures.first;
        name = c.in_ok-copy_text.ensures.copied;
        kind = refl;
        items = items;
        are = subst (λ (sets : List (List (List ℕ))). IsUnion faces sets items) gathered.of_sets c.in_ok-items.ensures.exact;
        table = subst (λ (tables : List TableContent). IsUnionTable tables items c.in_ok-table.table) gathered.of_tables c.in_ok-table.ensures.exact;
        shapes = shapes;
      };
      on = subst (AreOn c.args.plane.now) (sym shapes) (items_on c.args.plane.now c.in_ok-tables.field-0.sets items c.in_ok-items.ensures.items);
    }
