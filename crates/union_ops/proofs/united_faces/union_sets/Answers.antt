use Rattle.std.proofs.lemmas.List.Sorted.{ranks_by}
use Rattle.union_ops.specs.Union.{IsUnion, choice_at}
use Rattle.union_ops.proofs.ChoiceOrder.{choices_total}
use Rattle.union_ops.proofs.UnionLemmas.{is_union, each_item_is, cover_once}
use Rattle.union_ops.proofs.united_faces.union_sets.Goals as goal

pub pieces_by_key-requires : goal.pieces_by_key-requires
pieces_by_key-requires c = record { built = c.requires.built; ordered = ranks_by choices_total (choice_at c.in_ok-choices.choices) }

pub returns : goal.returns
returns c =
    let t = c.args.f.now in
    let layers = c.args.layers.now in
    let items = c.in_ok-items.items in
    let u : IsUnion t layers items = is_union t layers c.in_ok-choices.choices c.in_ok-choices.ensures.exact c.requires.faces c.in_ok-pieces.pieces.items c.in_ok-pieces.ensures.exact items c.in_ok-items.ensures.exact in
    record { exact = u; each_once = cover_once t layers c.requires.faces items u; items = each_item_is t layers c.requires.faces items u }
