use Rattle.std.proofs.Common.{sym, subst, ℕ, List, All, length}
use Rattle.std.proofs.lemmas.List.Elements.{All-append, All-map, All-weaker}
use Rattle.face_sets.specs.Sets.{IsSetOf}
use Rattle.region_ops.specs.declared.item_lists.PartItem.{PartItem}
use Rattle.region_ops.specs.Exploded.{items_of}
use Rattle.region_ops.specs.Items.{IsPart}
use Rattle.region_ops.proofs.exploded_sets.push_pieces.Goals as goal

pub returns-clause-parts : goal.returns-clause-parts
returns-clause-parts c =
    let f = c.args.f.now in
    let P = IsPart f (length c.args.old.now) in
    let item : List ℕ → PartItem = λ piece. record { feature = c.args.n; set = piece } in
    let pieces = c.into_vec.result.items in
    let all_inner = subst (All (IsSetOf f)) (sym c.into_vec.ensures.all) c.in_ok-pieces.ensures.inner in
    subst (λ (items : List PartItem). All P items) (sym c.in_ok-push_items.ensures.exact)
    (All-append P c.args.items.now (items_of c.args.n pieces) c.requires.so_far
    (All-map P item pieces
    (All-weaker (IsSetOf f) (λ (piece : List ℕ). P (item piece)) (λ piece inner. record { feature = c.requires.number; inner = inner }) pieces all_inner)))
