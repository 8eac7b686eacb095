use Rattle.std.proofs.Common.{rules, refl, ◌≡◌, ◌+◌, ◌-◌, ◌≤◌, ◌<◌, ℕ, Bool, true, false, List, [], map, length, take, drop, get_or, sym, subst, ◌∙◌, arith}
use Rattle.std.specs.List.Sorted.{IsPartitionPoint, IsPartitionedBy}
use Rattle.std.proofs.lemmas.List.{get_or_default}
use Rattle.std.proofs.lemmas.List.Sorted.{IsPartitionPoint-from_clause}
use Rattle.plane_model.specs.Points.{GridPoint, Path, same_point, is_before}
use Rattle.plane_model.specs.Arcs.{SignedArc}
use Rattle.arc_table.specs.Around.{IsTurned, IsAround, start_of}
use Rattle.arc_table.specs.Direction.{point_at}
use Rattle.arc_table.specs.Rows.{AreRows}
use Rattle.arc_table.proofs.RowTable.{row_around, row_bounds, none_at, parted}
use Rattle.arc_table.proofs.table.ArcTable.around.Goals as goal

-- the row of a node, as its bounds and the arcs are read
module _ (arcs : List Path) (outs lent : List SignedArc) (turned : IsTurned arcs (map (start_of arcs) outs) outs) (nodes : List GridPoint) (rows : List ℕ) (table : AreRows (map (start_of arcs) outs) nodes rows) (p : GridPoint) (k first stop : ℕ)
    (l : k < length nodes) (here : point_at nodes k ≡ p) (begins : first ≡ get_or rows k first) (ends : stop ≡ get_or rows (k + 1) stop) (whole : lent ≡ outs) where
  first_is : get_or rows k 0 ≡ first
  first_is = let n = table.each in sym (begins ∙ get_or_default rows k first 0 (omega arith))

  stop_is : get_or rows (k + 1) 0 ≡ stop
  stop_is = let n = table.each in sym (ends ∙ get_or_default rows (k + 1) stop 0 (omega arith))

  bounds : (first ≤ stop) × (stop ≤ length lent)
  bounds =
      let b = row_bounds arcs outs turned nodes rows table p k l here in (
        subst (λ (n : ℕ). first ≤ n) stop_is (subst (λ (n : ℕ). n ≤ get_or rows (k + 1) 0) first_is b.0),
        subst (λ (xs : List SignedArc). stop ≤ length xs) (sym whole) (subst (λ (n : ℕ). n ≤ length outs) stop_is b.1),
      )

  part_around : (part : List SignedArc) → part ≡ take (stop - first) (drop first lent) → IsAround arcs p part
  part_around part e = subst (IsAround arcs p) (sym (e ∙ (λ i. take (sym stop_is i - sym first_is i) (drop (sym first_is i) (whole i))))) (row_around arcs outs turned nodes rows table p k l here)

pub part_of-requires : goal.part_of-requires
part_of-requires c =
    let inside = c.self.inside in
    let b = bounds inside.arcs.spans inside.outs.items c.deref-3.result.now c.self.invariant.5 inside.nodes.items inside.rows.items c.self.invariant.1 c.args.p c.partition_point-k.result c.index.result.now c.index-2.result.now
    (subst (λ (xs : List GridPoint). c.partition_point-k.result < length xs) c.deref-2.ensures.value (c.if-not-stands_at.ensures.there refl))
    (subst (λ (xs : List GridPoint). point_at xs c.partition_point-k.result ≡ c.args.p) c.deref-2.ensures.value (c.if-not-stands_at.ensures.yes refl))
    c.index.ensures c.index-2.ensures c.deref-3.ensures.value in
    record { ordered = b.0; within = b.1 }

pub returns-clause-exact : goal.returns-clause-exact
returns-clause-exact c =
    let inside = c.self.inside in
    subst (λ (xs : List Path). IsAround xs c.args.p c.part_of.result.now) c.self.view_is
    (part_around inside.arcs.spans inside.outs.items c.deref-3.result.now c.self.invariant.5 inside.nodes.items inside.rows.items c.self.invariant.1 c.args.p c.partition_point-k.result c.index.result.now c.index-2.result.now
    (subst (λ (xs : List GridPoint). c.partition_point-k.result < length xs) c.deref-2.ensures.value (c.if-not-stands_at.ensures.there refl))
    (subst (λ (xs : List GridPoint). point_at xs c.partition_point-k.result ≡ c.args.p) c.deref-2.ensures.value (c.if-not-stands_at.ensures.yes refl))
    c.index.ensures c.index-2.ensures c.deref-3.ensures.value c.part_of.result.now c.part_of.ensures.exact)

pub returns-then-not-stands_at-clause-exact : goal.returns-then-not-stands_at-clause-exact
returns-then-not-stands_at-clause-exact c =
    let p = c.args.p in
    let arcs = c.self.inside.arcs.spans in
    let outs = c.self.inside.outs.items in
    let nodes = c.self.inside.nodes.items in
    let rows = c.self.inside.rows.items in
    let turned : IsTurned arcs (map (start_of arcs) outs) outs = c.self.invariant.5 in
    let table : AreRows (map (start_of arcs) outs) nodes rows = c.self.invariant.1 in
    let k = c.partition_point-k.result in
    let before : GridPoint → Bool = λ q. is_before q p in
    let at_k : IsPartitionPoint (λ (q : GridPoint). is_before q p ≡ true) (λ (q : GridPoint). is_before q p ≡ false) nodes k =
    subst (λ (xs : List GridPoint). IsPartitionPoint (λ (q : GridPoint). is_before q p ≡ true) (λ (q : GridPoint). is_before q p ≡ false) xs k) c.deref.ensures.value
    (IsPartitionPoint-from_clause before c.deref.result.now k c.partition_point-k.ensures.partitioned (subst (λ (xs : List GridPoint). IsPartitionedBy before xs) (sym c.deref.ensures.value) (parted nodes p table.ascending)) (λ a r f k. search rules)) in
    let off : k < length nodes → same_point (point_at nodes k) p ≡ false = subst (λ (xs : List GridPoint). k < length xs → same_point (point_at xs k) p ≡ false) c.deref-2.ensures.value (c.if-not-stands_at.ensures.no refl) in
    subst (λ (xs : List Path). IsAround xs p []) c.self.view_is (none_at arcs outs turned nodes rows table p k at_k off)
