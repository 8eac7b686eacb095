-- Items that hold a set of inner faces: parts with the number of their set, and pieces of a mosaic.
use Rattle.std.specs.Prelude.{ℕ, ◌<◌}
use Rattle.face_walk.specs.Places.{FaceTable}
use Rattle.face_sets.specs.Sets.{IsSetOf}
use Rattle.region_ops.specs.declared.item_lists.MosaicItem.{MosaicItem}
use Rattle.region_ops.specs.declared.item_lists.PartItem.{PartItem}

-- a part of one of `count` sets
pub record IsPart (faces : FaceTable) (count : ℕ) (item : PartItem) : Type 0 where
  pub feature : item.feature < count
  pub inner : IsSetOf faces item.set

pub record IsPiece (faces : FaceTable) (item : MosaicItem) : Type 0 where
  pub inner : IsSetOf faces item.set
