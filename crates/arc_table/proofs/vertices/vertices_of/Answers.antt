use Rattle.std.proofs.Common.{◌≡◌, ℕ, List, [], ◌++◌, ◌+◌, ◌-◌, map, take, drop, length, get_or, refl, sym, ap, ◌∙◌, add-one, arith}
use Rattle.plane_model.specs.Points.{GridPoint, Path}
use Rattle.arc_table.specs.Lookup.{inner_below, inner_of}
use Rattle.arc_table.specs.declared.vertices.ArcVertex.{ArcVertex}
use Rattle.arc_table.proofs.vertices.vertices_of.Goals as goal

-- the inner vertices of arc n appended to those of the arcs below n
one_more : (arcs : List Path) (n m k : ℕ) (before all : List ArcVertex) (points inner : Path) → before ≡ inner_below arcs n → all ≡ before ++ map (λ (p : GridPoint). record { at = p; arc = m }) inner
    → m ≡ n → k ≡ n → points ≡ get_or arcs k [] → inner ≡ take (length points - 1 - 1) (drop 1 points) → all ≡ inner_below arcs (n + 1)
one_more arcs n m k before all points inner e f g h same part =
    let whole : points ≡ get_or arcs n [] = same ∙ ap (λ (j : ℕ). get_or arcs j []) h in
    let two : length points - 1 - 1 ≡ length points - 2 = omega arith in
    let inside : inner ≡ inner_of (get_or arcs n []) = part ∙ ap (λ (j : ℕ). take j (drop 1 points)) two ∙ ap inner_of whole in
    f ∙ (λ i. e i ++ map (λ (p : GridPoint). record { at = p; arc = g i }) (inside i)) ∙ sym (ap (inner_below arcs) (add-one n))

pub loop-n-preserved : goal.loop-n-preserved
loop-n-preserved c =
    let points = c.get-points.result.now in
    one_more c.args.arcs.now.spans c.loop-n.n c.new-id.result c.new.result c.loop-n.vertices.items c.push_vertices.new.vertices.items points (take (length points - 1 - 1) (drop 1 points))
    c.loop-n.invariant c.in_ok-push_vertices.ensures.pushed c.new-id.ensures.made c.new.ensures.made c.get-points.ensures.exact refl
