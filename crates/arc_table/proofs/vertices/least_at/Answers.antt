use Rattle.std.proofs.Common.{rules, ◌≡◌, arith, true, false}
use Rattle.std.specs.List.Sorted.{IsPartitionPoint}
use Rattle.std.specs.Ordering.{is_lt}
use Rattle.std.proofs.lemmas.List.Sorted.{IsPartitionPoint-from_clause}
use Rattle.arc_table.specs.Lookup.{vertex_cmp}
use Rattle.arc_table.specs.declared.vertices.ArcVertex.{ArcVertex}
use Rattle.arc_table.proofs.LeastAt.{by_low, found_least, none_past, none_other}
use Rattle.arc_table.proofs.vertices.least_at.Goals as goal

pub returns-then-first-vertices : goal.returns-then-first-vertices
returns-then-first-vertices c =
    let vs = c.args.vertices.now in
    let low : ArcVertex = record { at = c.args.p; arc = 0 } in
    let first = c.partition_point-first.result in
    let at_first : IsPartitionPoint (λ (v : ArcVertex). is_lt (vertex_cmp v low) ≡ true) (λ (v : ArcVertex). is_lt (vertex_cmp v low) ≡ false) vs first =
    IsPartitionPoint-from_clause (λ (v : ArcVertex). is_lt (vertex_cmp v low)) vs first c.partition_point-first.ensures.partitioned (by_low vs c.requires.sorted low) (λ a r f k. search rules) in
    record { exact = none_past vs c.requires.sorted c.args.p first at_first (omega arith) }

pub returns-then-is_same : goal.returns-then-is_same
returns-then-is_same c =
    let vs = c.args.vertices.now in
    let low : ArcVertex = record { at = c.args.p; arc = 0 } in
    let first = c.partition_point-first.result in
    let at_first : IsPartitionPoint (λ (v : ArcVertex). is_lt (vertex_cmp v low) ≡ true) (λ (v : ArcVertex). is_lt (vertex_cmp v low) ≡ false) vs first =
    IsPartitionPoint-from_clause (λ (v : ArcVertex). is_lt (vertex_cmp v low)) vs first c.partition_point-first.ensures.partitioned (by_low vs c.requires.sorted low) (λ a r f k. search rules) in
    record { exact = found_least vs c.requires.sorted c.args.p first at_first c.index-vertices-first.result (omega arith) c.index-vertices-first.is (search rules) }

pub returns-else-is_same : goal.returns-else-is_same
returns-else-is_same c =
    let vs = c.args.vertices.now in
    let low : ArcVertex = record { at = c.args.p; arc = 0 } in
    let first = c.partition_point-first.result in
    let at_first : IsPartitionPoint (λ (v : ArcVertex). is_lt (vertex_cmp v low) ≡ true) (λ (v : ArcVertex). is_lt (vertex_cmp v low) ≡ false) vs first =
    IsPartitionPoint-from_clause (λ (v : ArcVertex). is_lt (vertex_cmp v low)) vs first c.partition_point-first.ensures.partitioned (by_low vs c.requires.sorted low) (λ a r f k. search rules) in
    record { exact = none_other vs c.requires.sorted c.args.p first at_first c.index-vertices-first.result (omega arith) c.index-vertices-first.is (search rules) }
