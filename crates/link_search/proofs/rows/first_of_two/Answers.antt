use Rattle.std.proofs.Common.{rules, ◌≡◌, ◌∙◌, inl, inr, refl, sym, subst, arith, ℤ, pos, FitsSigned, to_z-of_z}
use Rattle.std.specs.Int.{w128}
use Rattle.std.specs.Prelude.{◌<ℤ◌, ◌≤ℤ◌}
use Rattle.std.proofs.lemmas.Int.{ints}
use Rattle.plane_model.specs.Points.{cross}
use Rattle.link_search.proofs.CornerLemmas.{turned_first, turned_self}
use Rattle.link_search.proofs.rows.first_of_two.Goals as goal

pub returns-then-turn-lt0 : goal.returns-then-turn-lt0
returns-then-turn-lt0 c =
    let f = c.args.first in
    let n = c.args.next in
    let fits : FitsSigned w128 c.turn.result = search rules in
    let e : c.turn.result ≡ cross f.link n.link = c.turn.ensures.exact ∙ (λ i. cross (record { start = c.low.ensures.lesser i; stop = c.high.ensures.greater i }) (record { start = (c.low.ensures.lesser ∙ sym c.requires.same) i; stop = c.high-2.ensures.greater i })) in
    let t = simp to_z-of_z at c.if-turn-lt0.true in
    let m : c.turn.result <ℤ pos 0 = omega (arith, ints) in
    let less : cross f.link n.link <ℤ pos 0 = subst (λ (z : ℤ). z <ℤ pos 0) e m in
    record {
      exact = record {
        one = inr refl;
        to_next = turned_self n.link;
        to_others = λ k o h. turned_first f.link k.link n.link c.requires.ordered.0.ordered o c.requires.ordered.1.ordered h less;
      };
    }

pub returns-else-turn-lt0 : goal.returns-else-turn-lt0
returns-else-turn-lt0 c =
    let f = c.args.first in
    let n = c.args.next in
    let fits : FitsSigned w128 c.turn.result = search rules in
    let e : c.turn.result ≡ cross f.link n.link = c.turn.ensures.exact ∙ (λ i. cross (record { start = c.low.ensures.lesser i; stop = c.high.ensures.greater i }) (record { start = (c.low.ensures.lesser ∙ sym c.requires.same) i; stop = c.high-2.ensures.greater i })) in
    let t = simp to_z-of_z at c.if-turn-lt0.false in
    let m : pos 0 ≤ℤ c.turn.result = omega (arith, ints) in
    record { exact = record { one = inl refl; to_next = subst (λ (z : ℤ). pos 0 ≤ℤ z) e m; to_others = λ k o h. h } }
