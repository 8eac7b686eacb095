-- The paths of a line feature as arcs, path by path.
use Rattle.std.proofs.Common.{◌≡◌, sym, ap, ◌∙◌, subst, ℕ, ◌+◌, ◌<◌, Bool, true, false, List, [], ◌∷◌, ◌++◌, take, length, get_or, cond}
use Rattle.std.specs.Prelude.{MatchBool}
use Rattle.std.specs.List.{AllZip, filter}
use Rattle.std.proofs.lemmas.List.{append-nil}
use Rattle.std.proofs.lemmas.List.Elements.{filter_more}
use Rattle.plane_model.specs.Points.{Path}
use Rattle.plane_model.specs.Arcs.{SignedArc}
use Rattle.run_plane.specs.LineArcs.{AreArcsOfPath, AreLineArcs, GoesAlong, has_links}
use Rattle.run_plane.proofs.Growth.{zipped_on}

-- one path more
pub paths_more : (arcs lines : List Path) (i : ℕ) (path : Path) (old new : List (List SignedArc)) → i < length lines → path ≡ get_or lines i path →
    AreLineArcs arcs (take i lines) old → GoesAlong arcs path old new → AreLineArcs arcs (take (i + 1) lines) new
paths_more arcs lines i path old new l e h goes =
    subst (λ (ps : List Path). AllZip (AreArcsOfPath arcs) ps new) (sym next) (go (has_links path) goes)
  where
    next : filter has_links (take (i + 1) lines) ≡ filter has_links (take i lines) ++ cond (has_links path) (path ∷ []) []
    next = filter_more has_links lines i path l ∙ ap (λ (p : Path). filter has_links (take i lines) ++ cond (has_links p) (p ∷ []) []) (sym e)

    go : (b : Bool) → MatchBool b ((along : List SignedArc) × AreArcsOfPath arcs path along × (new ≡ old ++ along ∷ [])) (new ≡ old) →
        AllZip (AreArcsOfPath arcs) (filter has_links (take i lines) ++ cond b (path ∷ []) []) new
    go true g = subst (λ (ps : List (List SignedArc)). AllZip (AreArcsOfPath arcs) (filter has_links (take i lines) ++ path ∷ []) ps) (sym g.2) (zipped_on (AreArcsOfPath arcs) (filter has_links (take i lines)) old path g.0 h g.1)
    go false g = subst (λ (ps : List Path). AllZip (AreArcsOfPath arcs) ps new) (sym (append-nil (filter has_links (take i lines)))) (subst (λ (ps : List (List SignedArc)). AllZip (AreArcsOfPath arcs) (filter has_links (take i lines)) ps) (sym g) h)
