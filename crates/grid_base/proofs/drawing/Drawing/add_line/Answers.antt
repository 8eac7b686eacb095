use Rattle.std.proofs.Common.{◌-◌, length, arith, List, ◌∷◌, [], ◌++◌, ◌∙◌, ap, subst, sym}
use Rattle.std.specs.Prelude.{All}
use Rattle.std.proofs.lemmas.List.{length-set}
use Rattle.std.proofs.lemmas.List.Elements.{All-set, All-push}
use Rattle.std.proofs.lemmas.Result.{on_ok_weaker}
use Rattle.plane_model.specs.Points.{Path}
use Rattle.grid_base.specs.Drawn.{IsPath, add_item}
use Rattle.grid_base.proofs.LastLemmas.{write_last, holds_of_last, after_push}
use Rattle.grid_base.proofs.RepeatLemmas.{is_path}
use Rattle.grid_base.proofs.drawing.Drawing.add_line.Goals as goal

pub invariant_of-self : goal.invariant_of-self
invariant_of-self c =
    let kept = c.self.invariant.0 in
    let lines = c.self.inside.lines.items in
    let feature = c.index_mut-feature.result.now in
    let before : All IsPath feature =
    holds_of_last (All IsPath) lines c.len-last.result feature (omega (arith, c.self.inside.lines.ok.0)) (let l = c.requires.feature in omega (arith, ap length (λ i. (c.self.view_is i).lines))) c.index_mut-feature.ensures.value kept.lines in
    let line : IsPath c.without_repeats-line.result = subst IsPath (sym c.without_repeats-line.ensures.exact) (is_path c.args.line c.requires.not_empty) in
    let after : All IsPath c.push.new.self =
    after_push (All IsPath) c.push.result feature (feature ++ c.without_repeats-line.result ∷ []) c.push.new.self c.push.ensures.ok c.push.ensures.err (All-push IsPath feature c.without_repeats-line.result before line) before in (
      record { rings = kept.rings; lines = All-set (All IsPath) lines (c.len-last.result - 1) c.push.new.self after kept.lines; boxes = kept.boxes },
      (c.self.invariant.1.0, (let l = c.self.invariant.1.1 in omega (arith, length-set lines (c.len-last.result - 1) c.push.new.self))),
      c.self.invariant.2,
    )

pub returns-clause-ok : goal.returns-clause-ok
returns-clause-ok c =
    let put : List Path → List Path = λ feature. feature ++ c.without_repeats-line.result ∷ [] in
    on_ok_weaker c.push.result (λ h. λ i. record (c.self.view_is i) { lines = (h ∙ ap (λ (line : Path). add_item line c.args.self.now.lines) c.without_repeats-line.ensures.exact) i })
    (write_last put c.self.inside.lines.items c.args.self.now.lines c.push.result c.len-last.result c.index_mut-feature.result.now c.push.new.self
    (λ i. (c.self.view_is i).lines) (omega (arith, c.self.inside.lines.ok.0)) c.requires.feature c.index_mut-feature.ensures.value c.push.ensures.ok)
