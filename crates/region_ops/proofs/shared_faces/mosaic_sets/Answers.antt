use Rattle.std.proofs.lemmas.Cmp.{nat_list_cmp_total}
use Rattle.std.proofs.lemmas.List.Sorted.{ranks_by}
use Rattle.face_walk.specs.Holders.{list_at}
use Rattle.region_ops.specs.Mosaic.{IsMosaic}
use Rattle.region_ops.proofs.MosaicLemmas.{is_mosaic, each_shared, each_inner}
use Rattle.region_ops.proofs.shared_faces.mosaic_sets.Goals as goal

pub pieces_by_key-requires : goal.pieces_by_key-requires
pieces_by_key-requires c = record { built = c.requires.built; ordered = ranks_by nat_list_cmp_total (list_at c.in_ok-owners.owners) }

pub returns : goal.returns
returns c =
    let t = c.args.f.now in
    let sets = c.args.old.now in
    let items = c.in_ok-items.items in
    let u : IsMosaic t sets items = is_mosaic t sets c.in_ok-owners.owners c.in_ok-owners.ensures.exact c.requires.faces c.in_ok-pieces.pieces.items c.in_ok-pieces.ensures.exact items c.in_ok-items.ensures.exact in
    record { exact = u; shared = each_shared t sets c.requires.faces items u; inner = each_inner t sets c.requires.faces items u }
