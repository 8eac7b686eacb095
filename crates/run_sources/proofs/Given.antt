-- Sources that were read in order, and one more after them.
use Rattle.std.proofs.Common.{◌++◌, ◌∷◌, [], ℕ, List, refl, subst}
use Rattle.job_terms.specs.declared.job.SourceWord.{SourceWord}
use Rattle.geojson_io.specs.LayerContent.{LayerContent}
use Rattle.run_sources.specs.declared.sources.Budget.{Budget}
use Rattle.run_sources.specs.Sources.{SourcesSeen, Grew, SourceGives, SourcesGive}

pub given_on : (places : ℕ) (sources : List SourceWord) (budget : Budget) (seen : SourcesSeen) (left : Budget) (middle : SourcesSeen) (all : List (List LayerContent))
    (source : SourceWord) (past : Budget) (after : SourcesSeen) (layers : List LayerContent) →
    SourcesGive places sources budget seen left middle all → SourceGives places source left past middle after layers → Grew middle after →
    SourcesGive places (sources ++ source ∷ []) budget seen past after (all ++ layers ∷ [])
given_on places [] budget seen left middle [] source past after layers h give grew =
    let give' = subst (λ (b : Budget). SourceGives places source b past middle after layers) h.0 give in
    let give'' = subst (λ (s : SourcesSeen). SourceGives places source budget past s after layers) h.1 give' in
    let grew' = subst (λ (s : SourcesSeen). Grew s after) h.1 grew in
    (past, after, give'', grew', (refl, refl))
given_on places [] budget seen left middle (l ∷ ls) source past after layers h give grew = absurd h
given_on places (s ∷ ss) budget seen left middle [] source past after layers h give grew = absurd h
given_on places (s ∷ ss) budget seen left middle (l ∷ ls) source past after layers h give grew =
    (h.0, h.1, h.2, h.3, given_on places ss h.0 h.1 left middle ls source past after layers h.4 give grew)
