-- The line that tells of a made-up mosaic.
use Rattle.std.proofs.Common.{◌≡◌, sym, ap, ap₂, ◌∙◌, subst, ℕ, ◌*◌, ℤ, List, length, map}
use Rattle.std.specs.Prelude.{count_by}
use Rattle.std.specs.List.{range_with_len}
use Rattle.std.proofs.lemmas.List.{length-map}
use Rattle.std.proofs.lemmas.List.FromFn.{length-map-range_with_len}
use Rattle.plane_model.specs.Points.{Path}
use Rattle.plane_model.specs.Snapped.{links_of, snapped}
use Rattle.plane_model.specs.Joined.{IsFaceCount}
use Rattle.grid_base.specs.declared.kinds.OverlapRule.TheVariants as rule
use Rattle.face_walk.specs.Places.{FaceTable}
use Rattle.face_laws.proofs.CountLemmas.{count_is_exact}
use Rattle.io_core.specs.Contents.{Content}
use Rattle.face_sets.specs.Sets.{area_of}
use Rattle.region_ops.specs.Cleaned.{IsCleaned}
use Rattle.region_model.specs.Region.{any_of, feature}
use Rattle.region_model.specs.Answers as answers
use Rattle.region_model.specs.PolygonCommands.{cleaned}
use Rattle.run_synth.specs.Told.{IsLineOf, all_faces, filled}
use Rattle.synth_model.specs.Cells.{cell, cells}
use Rattle.synth_model.specs.Line.{line_text}
use Rattle.chain_model.specs.Synth.{synth_line}
use Rattle.layer_laws.specs.Shown.{View, plane_of}
use Rattle.layer_laws.specs.Views.{IsViewOf}
use Rattle.layer_laws.proofs.Views.{views_exist}
use Rattle.headline_laws.specs.Mosaics.{LineShows, LinesOfMosaicsShow}
use Rattle.headline_laws.proofs.CellSets.{area_same, filled_same, has_point}
use Rattle.headline_laws.proofs.Dense.{not_dense}
use Rattle.headline_laws.proofs.BegunPlanes.{view_plane}

module _ (seed n : ℕ) (line : Content) (told : IsLineOf (snapped (cells seed n)) (n * n) line) (v : View) (is : IsViewOf (cells seed n) told.arcs told.faces told.boxes told.features v) where
  many : length told.features ≡ n * n
  many =
      told.laid.held.of_features.each
      ∙ length-map (cells seed n).polygons _
      ∙ length-map-range_with_len (cell seed n) 0 (n * n)

  line_here : line ≡ line_text (n * n) (length v.arcs) v.faces.count (filled told.cleaned) (area_of v.faces.areas (all_faces told.features))
  line_here =
      told.is
      ∙ ap₂ (λ (arcs : List Path) (faces : FaceTable). line_text (n * n) (length arcs) faces.count (filled told.cleaned) (area_of faces.areas (all_faces told.features))) (sym is.of_arcs) (sym is.of_faces)

  left : IsCleaned rule.MaxArea v.faces.areas told.features told.cleaned
  left = subst (λ (faces : FaceTable). IsCleaned rule.MaxArea faces.areas told.features told.cleaned) (sym is.of_faces) told.are_cleaned

  count_here : filled told.cleaned ≡ count_by (has_point v is.is_view) (map (cleaned (plane_of v) v.answers rule.MaxArea feature (n * n)) (range_with_len 0 (n * n)))
  count_here =
      filled_same v is.is_view told.features is.of_features rule.MaxArea told.cleaned left
      ∙ ap (λ (m : ℕ). count_by (has_point v is.is_view) (map (cleaned (plane_of v) v.answers rule.MaxArea feature m) (range_with_len 0 m))) many

  area_here : area_of v.faces.areas (all_faces told.features) ≡ answers.area_of (plane_of v) v.answers (any_of (map feature (range_with_len 0 (n * n))))
  area_here =
      area_same v is.is_view told.features is.of_features
      ∙ ap (λ (m : ℕ). answers.area_of (plane_of v) v.answers (any_of (map feature (range_with_len 0 m)))) many

  line_told : line ≡ synth_line (plane_of v) v.answers n v.faces.count
  line_told = line_here ∙ ap₂ (λ (count : ℕ) (area : ℤ). line_text (n * n) (length v.arcs) v.faces.count count area) count_here area_here

  counted : IsFaceCount (links_of (snapped v.drawing)) v.faces.count
  counted =
      let walked = is.is_view.walked in
      count_is_exact v.drawing v.arcs walked.table.long walked.table.links walked.table.whole v.faces walked.built

  plane_same : plane_of v ≡ answers.plane_of (cells seed n)
  plane_same = view_plane (cells seed n) told.arcs told.faces told.boxes told.features told.laid v is ∙ ap answers.plane_of is.of_drawing

  line_shows : LineShows seed n line
  line_shows = record { view = v; is_view = is.is_view; of_cells = is.of_drawing; plane = plane_same; is_line = (v.faces.count, counted, line_told) }

pub lines_show : LinesOfMosaicsShow
lines_show seed n line is_told = (not_dense (cells seed n) is_told.few, go (views_exist (cells seed n) told.arcs told.faces told.boxes told.features told.laid))
  where
    told : IsLineOf (snapped (cells seed n)) (n * n) line
    told = is_told.told

    go : (v : View) × IsViewOf (cells seed n) told.arcs told.faces told.boxes told.features v → LineShows seed n line
    go (v, is) = line_shows seed n line told v is
