use Rattle.std.proofs.Common.{rules, sym, ◌∙◌, arith, false}
use Rattle.std.proofs.lemmas.List.{get_or_read}
use Rattle.arc_table.proofs.Order.{along_new, along_marked}
use Rattle.arc_table.proofs.numbering.number_along.Goals as goal

pub returns-clause-here : goal.returns-clause-here
returns-clause-here c = c.start_of.ensures.together c.number_from.new.numbering.is_numbered.items c.in_ok-number_from.ensures.on.numbering.whole c.in_ok-number_from.ensures.here

pub returns-then-index-clause-along : goal.returns-then-index-clause-along
returns-then-index-clause-along c =
    let each = c.requires.numbering.each in
    along_marked c.args.net.now c.args.numbering.now c.args.h c.requires.there c.requires.numbering
    (sym (get_or_read c.args.numbering.now.is_numbered.items c.args.h c.index.result.now (let l = c.requires.there in omega arith) (search rules) false) ∙ c.if-index.true)

pub returns-clause-along : goal.returns-clause-along
returns-clause-along c =
    let each = c.requires.numbering.each in
    along_new c.args.net.now c.args.numbering.now c.number_from.new.numbering c.args.h c.requires.there c.requires.numbering c.in_ok-number_from.ensures.on c.in_ok-number_from.ensures.one
    (c.start_of.ensures.together c.number_from.new.numbering.is_numbered.items c.in_ok-number_from.ensures.on.numbering.whole c.in_ok-number_from.ensures.here)
    (sym (get_or_read c.args.numbering.now.is_numbered.items c.args.h c.index.result.now (let l = c.requires.there in omega arith) (search rules) false) ∙ c.if-index.false)
