-- Words and contents tell some outcome: refused words, or what stops sources, or a drawing that is too dense, or the
-- run by right answers, which exist, whose outputs have texts, since each region has polygons that fit it.
use Rattle.std.proofs.Common.{◌≡◌, refl, sym, subst, ℕ, Bool, true, false, List, [], ◌∷◌, None, Result, Ok, Err}
use Rattle.std.specs.Prelude.{MatchBool, if◌then◌else◌, nat_lt}
use Rattle.std.specs.List.{AllZip}
use Rattle.lists.specs.Lists.{joined_up}
use Rattle.plane_model.specs.Drawing.{Drawing, Polygon}
use Rattle.plane_model.specs.Snapped.{link_count, links_of, snapped}
use Rattle.plane_model.specs.SnappedRings.{HasClosedRings}
use Rattle.plane_snapping.proofs.SnappedLinks.{snapped_links_are_an_arrangement}
use Rattle.io_core.specs.Contents.{Content, FileMap}
use Rattle.geojson_io.specs.Geometries.{some_lines, some_points}
use Rattle.geojson_io.specs.LayerContent.{LayerContent}
use Rattle.geojson_io.specs.declared.shape.GeoShape.{GeoShape}
use Rattle.geojson_io.specs.declared.shape.GeoShape.TheVariants as geo
use Rattle.table_terms.specs.Names.{Text}
use Rattle.table_terms.specs.Refusals.{on_ok}
use Rattle.cmd_words.specs.Words.{JobWords, Reading}
use Rattle.job_terms.specs.declared.job.Chain.{Chain}
use Rattle.job_terms.specs.declared.job.Job.{Job}
use Rattle.job_terms.specs.declared.job.Job.TheVariants as job
use Rattle.region_model.specs.Answers.{Answers, AreRight, Plane, is_empty, plane_of}
use Rattle.region_model.specs.Printed.{Fits}
use Rattle.region_model.specs.Region.{Region}
use Rattle.synth_model.specs.Cells.{cells}
use Rattle.chain_model.specs.Beginning.{drawing_of}
use Rattle.chain_model.specs.Outcome.{Outcome, bad_words, done, too_dense}
use Rattle.chain_model.specs.Pictures.{IsTextOf, Shows, ShowsRegion, ShowsShape, text_in}
use Rattle.chain_model.specs.Running.{Begun, EachRunTells, Effect, IsEffectOf, JobTells, Output, Runs, RunsOrStops, SynthesizesOrStops, WordsTell, begins, begun_with, checked_density, file_of, link_limit, run_from}
use Rattle.chain_model.specs.Sources.{Readings, imported, whole_room}
use Rattle.chain_model.specs.State as state
use Rattle.chain_model.specs.State.{StateLayer}
use Rattle.chain_model.specs.Steps.{Written}
use Rattle.chain_model.specs.Synth.{synth_line}
use Rattle.word_model.specs.Words.{words_say}
use Rattle.answer_laws.proofs.Exist.{right_answers_exist}
use Rattle.answer_laws.proofs.Together.{each_region_is_printed}
use Rattle.outcome_laws.proofs.ClosedRings.{AllAreSound, cells_closed, drawing_closed, sources_sound}
use Rattle.outcome_laws.proofs.FaceCounts.{each_plane_has_a_face_count}
use Rattle.outcome_laws.proofs.WordTrees.{HasJob, words_read}

-- some outcome and effects are told
abbrev SomeEnd : (Outcome → List Effect → Type 0) → Type 0
SomeEnd tells = (outcome : Outcome) × (effects : List Effect) × tells outcome effects

-- ## Texts of what is written

module _ (d : Drawing) (closed : HasClosedRings d) (A : Answers) (right : AreRight (plane_of d) A) where
  region_shape : (r : Region) → (b : Bool) → is_empty (plane_of d) A r ≡ b → (s : GeoShape) × ShowsRegion (plane_of d) A r s
  region_shape r true e = (geo.Nothing, subst (λ (b : Bool). MatchBool b (geo.Nothing ≡ geo.Nothing) ((polygons : List Polygon) × (geo.Nothing ≡ geo.Polygons polygons) × Fits (plane_of d) A r polygons)) (sym e) refl)
  region_shape r false e =
      let (polygons, fit) = each_region_is_printed d A closed right r in
      let s : GeoShape = geo.Polygons polygons in
      (s, subst (λ (b : Bool). MatchBool b (s ≡ geo.Nothing) ((ps : List Polygon) × (s ≡ geo.Polygons ps) × Fits (plane_of d) A r ps)) (sym e) (polygons, refl, fit))

  shape_of : (s : state.Shape) → (drawn : GeoShape) × ShowsShape (plane_of d) A s drawn
  shape_of (state.region r) = region_shape r (is_empty (plane_of d) A r) refl
  shape_of (state.paths ps) = (some_lines ps, refl)
  shape_of (state.points ps) = (some_points ps, refl)
  shape_of state.no_shape = (geo.Nothing, refl)

  shapes_of : (ss : List state.Shape) → (drawn : List GeoShape) × AllZip (ShowsShape (plane_of d) A) ss drawn
  shapes_of [] = ([], tt)
  shapes_of (s ∷ ss) =
      let (drawn, shows) = shape_of s in
      let (more, show) = shapes_of ss in
      (drawn ∷ more, (shows, show))

  pictures_of : (ls : List StateLayer) → (pictures : List LayerContent) × AllZip (Shows (plane_of d) A) ls pictures
  pictures_of [] = ([], tt)
  pictures_of (l ∷ ls) =
      let (drawn, show) = shapes_of l.shapes in
      let (pictures, shows) = pictures_of ls in
      (record { name = l.name; kind = l.kind; table = l.table; shapes = drawn } ∷ pictures, (record { name = refl; kind = refl; table = refl; shapes = show }, shows))

  text_of : (places : ℕ) (w : Written) → (text : Text) × IsTextOf (plane_of d) A places w text
  text_of places w =
      let (pictures, shown) = pictures_of w.layers in
      (text_in w.form places (plane_of d).arcs pictures, record { pictures = pictures; shown = shown; is = refl })

  effects_of : (b : Begun) → b.plane ≡ plane_of d → (outs : List Output) → (effects : List Effect) × AllZip (IsEffectOf b A) outs effects
  effects_of b e [] = ([], tt)
  effects_of b e (o ∷ outs) =
      let (text, is) = text_of b.places o.written in
      let (effects, gives) = effects_of b e outs in (
        record { command = o.command; to = file_of o.written; text = text } ∷ effects,
        (record { command = refl; to = refl; text = subst (λ (P : Plane). IsTextOf P A b.places o.written text) (sym e) is }, gives),
      )

  -- ## Chains that have begun

  begun_runs : (c : Chain) (given : List (List LayerContent)) → SomeEnd (Runs (begun_with c given (plane_of d)))
  begun_runs c given =
      let b : Begun = begun_with c given (plane_of d) in
      let ran : List Output × Outcome = run_from b.plane A b.sources 1 b.state b.commands in
      let (effects, gives) = effects_of b refl ran.0 in
      (ran.1, effects, record { answers = A; right = right; links_meet_at_ends = (snapped_links_are_an_arrangement d).0; ends = refl; gives = gives })

drawn_runs : (c : Chain) (given : List (List LayerContent)) (d : Drawing) → HasClosedRings d → SomeEnd (RunsOrStops (on_ok (checked_density d) (λ (e : Drawing). Ok (begun_with c given (plane_of e)))))
drawn_runs c given d closed = go (nat_lt link_limit (link_count (snapped d)))
  where
    go : (b : Bool) → SomeEnd (RunsOrStops (on_ok (if b then Err (too_dense (link_count (snapped d))) else Ok d) (λ (e : Drawing). Ok (begun_with c given (plane_of e)))))
    go true = (too_dense (link_count (snapped d)), [], (refl, refl))
    go false = let (A, right) = right_answers_exist d closed in begun_runs d closed A right c given

chain_tells : (read : Readings) (files : FileMap) (input : Content) (c : Chain) → SomeEnd (RunsOrStops (begins read c files input))
chain_tells read files input c = go (imported read c.places files input 0 whole_room 1 c.sources) (sources_sound read c.places files input 0 whole_room 1 c.sources)
  where
    go : (r : Result (List (List LayerContent)) Outcome) → AllAreSound r →
        SomeEnd (RunsOrStops (on_ok r (λ (given : List (List LayerContent)). on_ok (checked_density (drawing_of (joined_up given) c.boxes)) (λ (d : Drawing). Ok (begun_with c given (plane_of d))))))
    go (Err o) h = (o, [], (refl, refl))
    go (Ok given) h = drawn_runs c given (drawing_of (joined_up given) c.boxes) (drawing_closed given c.boxes h)

-- ## Made-up mosaics

synth_tells : (seed n : ℕ) → SomeEnd (SynthesizesOrStops (checked_density (cells seed n)) n)
synth_tells seed n = go (nat_lt link_limit (link_count (snapped (cells seed n))))
  where
    go : (b : Bool) → SomeEnd (SynthesizesOrStops (if b then Err (too_dense (link_count (snapped (cells seed n)))) else Ok (cells seed n)) n)
    go true = (too_dense (link_count (snapped (cells seed n))), [], (refl, refl))
    go false =
        let d : Drawing = cells seed n in
        let (A, right) = right_answers_exist d (cells_closed seed n) in
        let arranged = snapped_links_are_an_arrangement d in
        let (faces, counted) = each_plane_has_a_face_count (links_of (snapped d)) arranged.0 arranged.1 in
        let line : Text = synth_line (plane_of d) A n faces in
        (done, record { command = 1; to = None; text = line } ∷ [], record { answers = A; right = right; line = line; is_line = (faces, counted, refl); ends = refl; gives = refl })

-- ## Whole runs

job_tells : (read : Readings) (files : FileMap) (input : Content) (j : Job) → SomeEnd (JobTells read files input j)
job_tells read files input (job.Synth seed n) = synth_tells seed n
job_tells read files input (job.Chain c) = chain_tells read files input c

words_tell : (read : Readings) (files : FileMap) (input : Content) (w : Reading JobWords) → HasJob w → SomeEnd (WordsTell read files input w)
words_tell read files input (Err e) h = (bad_words e.0 e.1, [], (refl, refl))
words_tell read files input (Ok w) h =
    let (outcome, effects, tells) = job_tells read files input h.0 in
    (outcome, effects, (h.0, h.1, tells))

pub each_run_tells : EachRunTells
each_run_tells read right words files input = words_tell read files input (words_say read.refusals words) (words_read read.refusals right.expressions words)
