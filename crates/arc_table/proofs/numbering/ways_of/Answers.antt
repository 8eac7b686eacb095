use Rattle.arc_table.proofs.Marks.{all_of}
use Rattle.arc_table.proofs.Numbered.{after_all}
use Rattle.arc_table.proofs.numbering.ways_of.Goals as goal

pub returns-clause-exact : goal.returns-clause-exact
returns-clause-exact c =
    let net = c.args.net.now in
    let last = c.number_boxes.new.numbering in
    let after = after_all net c.args.s.now c.in_ok-numbering.numbering c.number_polygon_features.new.numbering c.number_line_features.new.numbering last c.in_ok-numbering.ensures.none
    c.in_ok-number_polygon_features.ensures.along c.in_ok-number_line_features.ensures.along c.in_ok-number_boxes.ensures.along in
    all_of net last c.in_ok-number_boxes.ensures.numbering (λ h l. after.marked h l (c.requires.covered h l))

pub returns-clause-order : goal.returns-clause-order
returns-clause-order c =
    let net = c.args.net.now in
    let last = c.number_boxes.new.numbering in
    let after = after_all net c.args.s.now c.in_ok-numbering.numbering c.number_polygon_features.new.numbering c.number_line_features.new.numbering last c.in_ok-numbering.ensures.none
    c.in_ok-number_polygon_features.ensures.along c.in_ok-number_line_features.ensures.along c.in_ok-number_boxes.ensures.along in
    after.order
