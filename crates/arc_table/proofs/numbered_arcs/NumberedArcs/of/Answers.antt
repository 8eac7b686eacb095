use Rattle.std.proofs.Common.{◌≡◌, List, map, ap, ◌∙◌}
use Rattle.plane_model.specs.Snapped.{links_of}
use Rattle.arc_table.specs.Numbering.{arc_points}
use Rattle.arc_table.specs.Along.{GoAlong}
use Rattle.arc_table.specs.declared.numbering.Way.{Way}
use Rattle.arc_table.proofs.Along.{go_along}
use Rattle.arc_table.proofs.Numbered.{covered, numbered}
use Rattle.arc_table.proofs.WholeArcs.{arcs_least, arcs_whole}
use Rattle.arc_table.proofs.numbered_arcs.NumberedArcs.of.Goals as goal

pub ways_of-requires : goal.ways_of-requires
ways_of-requires c =
    let made = c.requires.net in
    record { covered = covered c.args.net.net made.turns made.on c.args.d.now made.links made.steps }

pub invariant_of-result : goal.invariant_of-result
invariant_of-result c =
    let d = c.args.d.now in
    let net = c.args.net.net in
    let made = c.requires.net in
    let arcs : c.in_ok-arcs.arcs.spans ≡ map (arc_points net) c.in_ok-ways.ways.items = c.in_ok-arcs.ensures.exact ∙ ap (λ (ways : List Way). map (arc_points net) ways) c.deref-2.ensures.value in
    let along : GoAlong (links_of d) c.in_ok-arcs.arcs.spans = go_along net made.turns made.on (links_of d) made.links made.steps c.in_ok-ways.ways.items c.in_ok-arcs.arcs.spans c.in_ok-ways.ensures.exact arcs in
    (c.in_ok-arcs.ensures.long, c.in_ok-arcs.ensures.forward, along.once)

pub returns-clause-links : goal.returns-clause-links
returns-clause-links c =
    let d = c.args.d.now in
    let net = c.args.net.net in
    let made = c.requires.net in
    let arcs : c.in_ok-arcs.arcs.spans ≡ map (arc_points net) c.in_ok-ways.ways.items = c.in_ok-arcs.ensures.exact ∙ ap (λ (ways : List Way). map (arc_points net) ways) c.deref-2.ensures.value in
    go_along net made.turns made.on (links_of d) made.links made.steps c.in_ok-ways.ways.items c.in_ok-arcs.arcs.spans c.in_ok-ways.ensures.exact arcs

pub returns-clause-whole : goal.returns-clause-whole
returns-clause-whole c =
    let d = c.args.d.now in
    let net = c.args.net.net in
    let made = c.requires.net in
    let arcs : c.in_ok-arcs.arcs.spans ≡ map (arc_points net) c.in_ok-ways.ways.items = c.in_ok-arcs.ensures.exact ∙ ap (λ (ways : List Way). map (arc_points net) ways) c.deref-2.ensures.value in
    arcs_whole d net made.turns made.are_turns made.on made.links made.steps c.in_ok-ways.ways.items c.in_ok-arcs.arcs.spans c.in_ok-ways.ensures.exact.ways arcs

pub returns-clause-least : goal.returns-clause-least
returns-clause-least c =
    let d = c.args.d.now in
    let net = c.args.net.net in
    let made = c.requires.net in
    let arcs : c.in_ok-arcs.arcs.spans ≡ map (arc_points net) c.in_ok-ways.ways.items = c.in_ok-arcs.ensures.exact ∙ ap (λ (ways : List Way). map (arc_points net) ways) c.deref-2.ensures.value in
    arcs_least d net made.turns made.are_turns made.on made.links made.steps c.in_ok-ways.ways.items c.in_ok-arcs.arcs.spans c.in_ok-ways.ensures.exact.ways arcs

pub returns-clause-numbered : goal.returns-clause-numbered
returns-clause-numbered c =
    let d = c.args.d.now in
    let net = c.args.net.net in
    let made = c.requires.net in
    let arcs : c.in_ok-arcs.arcs.spans ≡ map (arc_points net) c.in_ok-ways.ways.items = c.in_ok-arcs.ensures.exact ∙ ap (λ (ways : List Way). map (arc_points net) ways) c.deref-2.ensures.value in
    numbered net made.turns made.on c.in_ok-ways.ways.items c.in_ok-arcs.arcs.spans c.in_ok-ways.ensures.exact.ways arcs d c.in_ok-ways.ensures.order
