use Rattle.std.proofs.Common.{inr}
use Rattle.arc_table.specs.Numbering.{IsWay, IsWholeRun, AreWhole, links_along}
use Rattle.arc_table.specs.declared.numbering.Way.{Way}
use Rattle.arc_table.specs.declared.numbering.Numbering.{Numbering}
use Rattle.arc_table.proofs.Marks.{one_way_more, start_marked}
use Rattle.arc_table.proofs.WholeRuns.{whole_run, whole_after}
use Rattle.arc_table.proofs.numbering.number_from.Goals as goal

pub returns-clause-on : goal.returns-clause-on
returns-clause-on c =
    let net = c.args.net.now in
    let old = c.args.numbering.now in
    let start = c.args.start in
    let n = c.mark_way-steps.result in
    let marks = c.mark_way-steps.new.is_numbered.items in
    let before = c.requires.numbering in
    let links = links_along net old.ways.items in
    let new : Numbering = record { ways = c.push.new.self; is_numbered = c.mark_way-steps.new.is_numbered } in
    let way : Way = record { start = start; steps = n } in
    let added = c.mark_way-steps.ensures.marks links before.marks before.once in
    let run : IsWholeRun net n start =
    whole_run net old.is_numbered.items marks links start n c.mark_way-steps.ensures.some c.requires.there c.requires.begins before.marks before.whole.on added.0 added.1 c.mark_way-steps.ensures.on
    (c.mark_way-steps.ensures.stops links before.marks before.once) in
    let whole : AreWhole net marks =
    whole_after net old.is_numbered.items marks links start n c.mark_way-steps.ensures.some c.requires.there c.requires.begins before.marks before.whole.on added.0 added.1 c.mark_way-steps.ensures.on run in
    let fits : IsWay net way = record { there = c.requires.there; least = c.requires.least; some = c.mark_way-steps.ensures.some; on = c.mark_way-steps.ensures.on; whole = run } in
    one_way_more net old new way before fits c.in_ok-push.ensures.items c.mark_way-steps.ensures.each c.mark_way-steps.ensures.marks whole

pub returns-clause-one : goal.returns-clause-one
returns-clause-one c = inr (record { start = c.args.start; steps = c.mark_way-steps.result }, c.in_ok-push.ensures.items)

pub returns-clause-here : goal.returns-clause-here
returns-clause-here c =
    let new : Numbering = record { ways = c.push.new.self; is_numbered = c.mark_way-steps.new.is_numbered } in
    let way : Way = record { start = c.args.start; steps = c.mark_way-steps.result } in
    start_marked c.args.net.now c.args.numbering.now new way (returns-clause-on c).numbering c.requires.there c.mark_way-steps.ensures.some c.in_ok-push.ensures.items
