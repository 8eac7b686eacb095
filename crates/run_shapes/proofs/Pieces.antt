-- Pieces of shapes, with the numbers of their features.
use Rattle.std.proofs.Common.{◌≡◌, ℕ, ◌+◌, ◌<◌, List, [], ◌∷◌, ◌++◌, All, length, get_or, map, replicate, take, refl, sym, ap, subst, ◌∙◌, arith, append-nil, length-append}
use Rattle.std.specs.List.{flat_map, enumerate_from}
use Rattle.std.proofs.lemmas.Grind.{flat_map-append}
use Rattle.std.proofs.lemmas.List.{take_more, length-replicate, length-take-le}
use Rattle.std.proofs.lemmas.List.Elements.{All-append, All-map, All-replicate, All-weaker}
use Rattle.plane_model.specs.Points.{GridPoint}
use Rattle.plane_model.specs.Arcs.{SignedArc}
use Rattle.face_walk.specs.Places.{FaceTable}
use Rattle.region_ops.specs.Items.{IsPart}
use Rattle.region_ops.specs.declared.item_lists.PartItem.{PartItem}
use Rattle.region_ops.proofs.ExplodedLemmas.{enumerate_push}
use Rattle.run_shapes.specs.Exploding.{one_path, one_point, repeated, split_paths, split_points, split_shape}
use Rattle.run_plane.specs.declared.layer.Shape.{Shape}

pub some_paths : (paths : List (List SignedArc)) → 0 < length paths → split_paths paths ≡ map one_path paths
some_paths [] h = absurd (omega arith)
some_paths (path ∷ paths) h = refl

pub some_points : (points : List GridPoint) → 0 < length points → split_points points ≡ map one_point points
some_points [] h = absurd (omega arith)
some_points (p ∷ points) h = refl

-- the numbers of the pieces of one shape more
pub repeated_on : (shapes : List Shape) (n : ℕ) (s : Shape) → n < length shapes → s ≡ get_or shapes n s →
    flat_map repeated (enumerate_from 0 (take (n + 1) shapes)) ≡ flat_map repeated (enumerate_from 0 (take n shapes)) ++ replicate (length (split_shape s)) n
repeated_on shapes n s l is =
    ap (λ (ss : List Shape). flat_map repeated (enumerate_from 0 ss)) (take_more shapes n s l ∙ ap (λ (x : Shape). take n shapes ++ x ∷ []) (sym is))
    ∙ ap (flat_map repeated) (enumerate_push 0 n (take n shapes) s (let e = length-take-le n shapes (omega arith) in omega arith))
    ∙ flat_map-append repeated (enumerate_from 0 (take n shapes)) ((n, s) ∷ [])
    ∙ ap (λ (ns : List ℕ). flat_map repeated (enumerate_from 0 (take n shapes)) ++ ns) (append-nil (replicate (length (split_shape s)) n))

module _ (shapes : List Shape) (n : ℕ) (s : Shape) (there : n < length shapes) (is : s ≡ get_or shapes n s) where
  pub numbers_more : (numbers now : List ℕ) (added : ℕ) → numbers ≡ flat_map repeated (enumerate_from 0 (take n shapes)) → added ≡ length (split_shape s) → now ≡ numbers ++ replicate added n → now ≡ flat_map repeated (enumerate_from 0 (take (n + 1) shapes))
  numbers_more numbers now added before many pushed =
      pushed ∙ ap (λ (ns : List ℕ). ns ++ replicate added n) before
      ∙ ap (λ (m : ℕ). flat_map repeated (enumerate_from 0 (take n shapes)) ++ replicate m n) many
      ∙ sym (repeated_on shapes n s there is)

  pub pieces_more : (pieces now : List Shape) → pieces ≡ flat_map split_shape (take n shapes) → now ≡ pieces ++ split_shape s → now ≡ flat_map split_shape (take (n + 1) shapes)
  pieces_more pieces now before pushed =
      pushed ∙ ap (λ (ss : List Shape). ss ++ split_shape s) before
      ∙ sym
      (ap (flat_map split_shape) (take_more shapes n s there ∙ ap (λ (x : Shape). take n shapes ++ x ∷ []) (sym is))
      ∙ flat_map-append split_shape (take n shapes) (s ∷ [])
      ∙ ap (λ (ss : List Shape). flat_map split_shape (take n shapes) ++ ss) (append-nil (split_shape s)))

pub numbers_below : (numbers now : List ℕ) (count n added : ℕ) → n < count → All (λ (k : ℕ). k < count) numbers → now ≡ numbers ++ replicate added n → All (λ (k : ℕ). k < count) now
numbers_below numbers now count n added l before pushed =
    subst (All (λ (k : ℕ). k < count)) (sym pushed) (All-append (λ (k : ℕ). k < count) numbers (replicate added n) before (All-replicate (λ (k : ℕ). k < count) added n l))

pub as_many : (numbers now : List ℕ) (pieces shown more : List Shape) (n added : ℕ) → length pieces ≡ length numbers → added ≡ length more → now ≡ numbers ++ replicate added n → shown ≡ pieces ++ more → length shown ≡ length now
as_many numbers now pieces shown more n added before many pushed shows =
    omega (arith, ap length pushed, ap length shows, length-append numbers (replicate added n), length-append pieces more, length-replicate added n)

-- the numbers of parts of `many` sets are below their count
pub features_below : (faces : FaceTable) (many count : ℕ) (items : List PartItem) (numbers : List ℕ) → All (IsPart faces many) items → many ≡ count → numbers ≡ map (λ (item : PartItem). item.feature) items → All (λ (n : ℕ). n < count) numbers
features_below faces many count items numbers parts same are =
    subst (All (λ (n : ℕ). n < count)) (sym are)
    (All-map (λ (n : ℕ). n < count) (λ (item : PartItem). item.feature) items
    (All-weaker (IsPart faces many) (λ (item : PartItem). item.feature < count) (λ item h. subst (λ (m : ℕ). item.feature < m) same h.feature) items parts))
