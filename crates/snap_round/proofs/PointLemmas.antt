-- A drawing of points alone stays as it is, and has no links.
use Rattle.std.proofs.Common.{◌≡◌, sym, ap, ◌∙◌, List, [], map}
use Rattle.std.proofs.lemmas.List.{nil_from_length}
use Rattle.plane_model.specs.Points.{Path}
use Rattle.plane_model.specs.Drawing.{Drawing}
use Rattle.plane_model.specs.Hot.{hot_points}
use Rattle.plane_model.specs.Snapped.{snapped, snapped_path, links_of, link_count}
use Rattle.snap_round.specs.Snapping.{HasPointsAlone}

module _ (d : Drawing) (h : HasPointsAlone d) where
  no_polygons : d.polygons ≡ []
  no_polygons = nil_from_length d.polygons h.no_polygons

  no_lines : d.lines ≡ []
  no_lines = nil_from_length d.lines h.no_lines

  no_boxes : d.boxes ≡ []
  no_boxes = nil_from_length d.boxes h.no_boxes

  abbrev f : Path → Path
  f = snapped_path (hot_points d)

  mapped_none : {A : Type 0} (g : A → A) (xs : List A) → xs ≡ [] → xs ≡ map g xs
  mapped_none g xs e = e ∙ sym (ap (map g) e)

  pub points_stay : d ≡ snapped d
  points_stay = λ i. record d { polygons = mapped_none (map (map f)) d.polygons no_polygons i; lines = mapped_none (map f) d.lines no_lines i; boxes = mapped_none f d.boxes no_boxes i }

  pub no_links : links_of d ≡ []
  no_links = λ i. links_of (record d { polygons = no_polygons i; lines = no_lines i; boxes = no_boxes i })

  pub no_link_count : link_count (snapped d) ≡ 0
  no_link_count = ap link_count (sym points_stay) ∙ (λ i. link_count (record d { polygons = no_polygons i; lines = no_lines i; boxes = no_boxes i }))
