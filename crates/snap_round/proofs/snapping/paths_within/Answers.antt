use Rattle.std.proofs.Common.{◌≡◌, ◌≤◌, ◌∙◌, ap, subst, ℕ, Option}
use Rattle.std.specs.Prelude.{IfSome}
use Rattle.std.proofs.lemmas.Result.{IfOk-weaker}
use Rattle.std.proofs.lemmas.Option.{IfSome_then}
use Rattle.plane_model.specs.Drawing.{Drawing}
use Rattle.plane_model.specs.Snapped.{snapped, link_count}
use Rattle.snap_round.specs.Paths.{without_points}
use Rattle.snap_round.proofs.PathLemmas.{has_hot_paths, snapped_alike}
use Rattle.snap_round.proofs.snapping.paths_within.Goals as goal

pub snapped_paths-requires : goal.snapped_paths-requires
snapped_paths-requires c = has_hot_paths c.args.d.now c.args.hot.now.points c.requires.paths c.requires.hot

pub returns-in-Ok-clause-exact : goal.returns-in-Ok-clause-exact
returns-in-Ok-clause-exact c =
    let d = c.args.d.now in
    let paths = c.in-Ok.paths in
    let whole : paths ≡ without_points (snapped d) = c.in-Ok.ensures.exact ∙ ap without_points (snapped_alike d c.args.hot.now.points c.requires.hot) in
    IfOk-weaker c.few_paths.result (λ (found : Option Drawing). IfSome found (λ few. few ≡ paths)) (λ (found : Option Drawing). IfSome found (λ few. few ≡ without_points (snapped d)))
    (λ found h. IfSome_then found h (λ few e. e ∙ whole)) c.few_paths.ensures.kept

pub returns-in-Ok-clause-few : goal.returns-in-Ok-clause-few
returns-in-Ok-clause-few c =
    let d = c.args.d.now in
    let paths = c.in-Ok.paths in
    let whole : paths ≡ without_points (snapped d) = c.in-Ok.ensures.exact ∙ ap without_points (snapped_alike d c.args.hot.now.points c.requires.hot) in
    let count : link_count paths ≡ link_count (snapped d) = ap link_count whole in
    IfOk-weaker c.few_paths.result (λ (found : Option Drawing). IfSome found (λ few. link_count paths ≤ c.args.most)) (λ (found : Option Drawing). IfSome found (λ few. link_count (snapped d) ≤ c.args.most))
    (λ found h. IfSome_then found h (λ few e. subst (λ (n : ℕ). n ≤ c.args.most) count e)) c.few_paths.ensures.few
