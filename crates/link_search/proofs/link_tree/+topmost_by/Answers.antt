use Rattle.std.proofs.Common.{◌≡◌, ◌∙◌, sym, ap, Some}
use Rattle.std.specs.Prelude.{slice_get}
use Rattle.link_search.specs.Parting.{Parts, parts_of, levels}
use Rattle.link_search.proofs.TreeLemmas.{led_over, led_under}
use Rattle.link_search.proofs.link_tree.+topmost_by.Goals as goal

pub returns-then-is_below-clause-led : goal.returns-then-is_below-clause-led
returns-then-is_below-clause-led t c =
    let links = c.args.links.now in
    let p = c.args.p in
    let j = c.in-Over.j in
    let l = c.in-Some.l in
    let lower = parts_of c.in-Over.lower.value in
    let higher = parts_of c.deref-then-is_below.result.now in
    let is : parts_of c.args.tree.now ≡ levels j lower higher = ap parts_of c.in-Over.is ∙ ap (λ (parts : Parts). levels j lower parts) (ap parts_of (sym c.deref-then-is_below.ensures)) in
    let at_j : slice_get links j ≡ Some l = let e = c.in-Some.is in let f = c.link_at.ensures.exact in cc in
    let up = c.upper_at.ensures in
    let on = c.topmost_by-then-is_below.ensures in
    let l_below = sym c.if-is_below.ensures.exact in
    led_over links p (parts_of c.args.tree.now) lower higher j l c.upper_at.result c.topmost_by-then-is_below.result is at_j (sym c.if-not-is_over.ensures.exact) l_below up.found (up.this l at_j l_below) on.kept on.led

pub returns-else-is_below-clause-led : goal.returns-else-is_below-clause-led
returns-else-is_below-clause-led t c =
    let links = c.args.links.now in
    let p = c.args.p in
    let j = c.in-Over.j in
    let l = c.in-Some.l in
    let lower = parts_of c.deref-else-is_below.result.now in
    let higher = parts_of c.in-Over.higher.value in
    let is : parts_of c.args.tree.now ≡ levels j lower higher = ap parts_of c.in-Over.is ∙ ap (λ (parts : Parts). levels j parts higher) (ap parts_of (sym c.deref-else-is_below.ensures)) in
    let at_j : slice_get links j ≡ Some l = let e = c.in-Some.is in let f = c.link_at.ensures.exact in cc in
    led_under links p (parts_of c.args.tree.now) lower higher j l c.args.best c.topmost_by-else-is_below.result is at_j (sym c.if-not-is_over.ensures.exact) (sym c.if-is_below.ensures.exact) c.topmost_by-else-is_below.ensures.led
