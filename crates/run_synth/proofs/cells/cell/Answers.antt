use Rattle.std.proofs.Common.{◌≡◌, ◌∙◌, ap, ℕ, ◌+◌, ◌*◌, ◌%◌, ◌^◌}
use Rattle.std.proofs.lemmas.Result.{IfOk-weaker}
use Rattle.plane_model.specs.Points.{GridPoint, Path}
use Rattle.synth_model.specs.Draws.{drawn, next_state, state_after}
use Rattle.synth_model.specs.Cells.{cell_ring, point}
use Rattle.run_synth.specs.Rings.{ring_through}
use Rattle.run_synth.proofs.cells.cell.Goals as goal

-- the state after one draw more
onward : (s k a b : ℕ) → a ≡ state_after s k → b ≡ next_state a → b ≡ next_state (state_after s k)
onward s k a b e f = f ∙ ap (λ (n : ℕ). (n * 1103515245 + 12345) % 2 ^ 32) e

moved_on : (s a b c d e f : ℕ) → a ≡ next_state s → b ≡ next_state a → c ≡ next_state b → d ≡ next_state c → e ≡ next_state d → f ≡ next_state e →
    (a ≡ state_after s 1) × (b ≡ state_after s 2) × (c ≡ state_after s 3) × (d ≡ state_after s 4) × (e ≡ state_after s 5) × (f ≡ state_after s 6)
moved_on s a b c d e f one two three four five six =
    let at2 = onward s 1 a b one two in
    let at3 = onward s 2 b c at2 three in
    let at4 = onward s 3 c d at3 four in
    let at5 = onward s 4 d e at4 five in
    (one, at2, at3, at4, at5, onward s 5 e f at5 six)

-- the corners by the draws
through : (s x y : ℕ) (a b c d : GridPoint) (r1 r2 r3 r4 r5 r6 : ℕ) → a ≡ point x y → b ≡ point (x + 140 + r1) (y + r2) → c ≡ point (x + 140 + r3) (y + 140 + r4) → d ≡ point (x + r5) (y + 140 + r6) →
    r1 ≡ drawn (state_after s 1) → r2 ≡ drawn (state_after s 2) → r3 ≡ drawn (state_after s 3) → r4 ≡ drawn (state_after s 4) → r5 ≡ drawn (state_after s 5) → r6 ≡ drawn (state_after s 6) →
    ring_through a b c d ≡ cell_ring x y (λ (k : ℕ). drawn (state_after s k))
through s x y a b c d r1 r2 r3 r4 r5 r6 ea eb ec ed e1 e2 e3 e4 e5 e6 =
    (λ i. ring_through (ea i) (eb i) (ec i) (ed i))
    ∙ (λ i. ring_through (point x y) (point (x + 140 + e1 i) (y + e2 i)) (point (x + 140 + e3 i) (y + 140 + e4 i)) (point (x + e5 i) (y + 140 + e6 i)))

pub returns-clause-exact : goal.returns-clause-exact
returns-clause-exact c =
    let s = c.args.draws.now.state in
    let (e1, e2, e3, e4, e5, e6) = moved_on s c.next.new.self.state c.next-2.new.self.state c.next-3.new.self.state c.next-4.new.self.state c.next-5.new.self.state c.next-6.new.self.state
    c.next.ensures.stepped c.next-2.ensures.stepped c.next-3.ensures.stepped c.next-4.ensures.stepped c.next-5.ensures.stepped c.next-6.ensures.stepped in
    IfOk-weaker c.ring_through.result (λ (ring : Path). ring ≡ ring_through c.corner-first.result c.corner-second.result c.corner-third.result c.corner-fourth.result)
    (λ (ring : Path). ring ≡ cell_ring (100 * c.args.column) (100 * c.args.row) (λ (k : ℕ). drawn (state_after s k)))
    (λ ring e. e ∙ through s (100 * c.args.column) (100 * c.args.row) c.corner-first.result c.corner-second.result c.corner-third.result c.corner-fourth.result
    c.next.result c.next-2.result c.next-3.result c.next-4.result c.next-5.result c.next-6.result
    c.corner-first.ensures.exact c.corner-second.ensures.exact c.corner-third.ensures.exact c.corner-fourth.ensures.exact
    (c.next.ensures.exact ∙ ap (λ (n : ℕ). drawn n) e1) (c.next-2.ensures.exact ∙ ap (λ (n : ℕ). drawn n) e2) (c.next-3.ensures.exact ∙ ap (λ (n : ℕ). drawn n) e3)
    (c.next-4.ensures.exact ∙ ap (λ (n : ℕ). drawn n) e4) (c.next-5.ensures.exact ∙ ap (λ (n : ℕ). drawn n) e5) (c.next-6.ensures.exact ∙ ap (λ (n : ℕ). drawn n) e6))
    c.ring_through.ensures.exact

pub returns-clause-moved : goal.returns-clause-moved
returns-clause-moved c =
    let s = c.args.draws.now.state in
    let all = moved_on s c.next.new.self.state c.next-2.new.self.state c.next-3.new.self.state c.next-4.new.self.state c.next-5.new.self.state c.next-6.new.self.state
    c.next.ensures.stepped c.next-2.ensures.stepped c.next-3.ensures.stepped c.next-4.ensures.stepped c.next-5.ensures.stepped c.next-6.ensures.stepped in
    all.5
