-- Pixels, crossings and small drawings, with the answers of an independent reference.
use Rattle.std.proofs.Common.{◌≡◌, refl, ℕ, ℤ, pos, negsuc, List, [], ◌∷◌, true, false, Some, None}
use Rattle.plane_model.specs.Points.{GridPoint, Segment}
use Rattle.plane_model.specs.Pixel.{meets, crossing_pixel}
use Rattle.plane_model.specs.Drawing.{Drawing}
use Rattle.plane_model.specs.Snapped.{snapped, links_of, link_count}

abbrev p : ℤ → ℤ → GridPoint
p x y = record { x = x; y = y }

abbrev s : ℤ → ℤ → ℤ → ℤ → Segment
s a b c d = record { start = p a b; stop = p c d }

pixel_0 : meets (s (negsuc 0) (pos 3) (negsuc 0) (pos 3)) (p (negsuc 0) (pos 3)) ≡ true
pixel_0 = refl

pixel_1 : meets (s (pos 0) (pos 1) (pos 1) (pos 3)) (p (pos 1) (pos 2)) ≡ true
pixel_1 = refl

pixel_2 : meets (s (pos 1) (pos 0) (pos 3) (pos 1)) (p (pos 2) (pos 1)) ≡ true
pixel_2 = refl

pixel_3 : meets (s (pos 1) (pos 0) (pos 2) (pos 1)) (p (pos 2) (pos 1)) ≡ true
pixel_3 = refl

pixel_4 : meets (s (pos 1) (negsuc 0) (negsuc 0) (pos 1)) (p (pos 0) (pos 0)) ≡ true
pixel_4 = refl

pixel_5 : meets (s (pos 4) (pos 1) (pos 0) (pos 4)) (p (pos 1) (pos 3)) ≡ true
pixel_5 = refl

pixel_6 : meets (s (pos 2) (pos 2) (pos 1) (pos 1)) (p (pos 1) (pos 1)) ≡ true
pixel_6 = refl

pixel_7 : meets (s (negsuc 0) (pos 3) (pos 1) (pos 1)) (p (pos 1) (pos 1)) ≡ true
pixel_7 = refl

pixel_8 : meets (s (pos 2) (negsuc 0) (pos 5) (pos 3)) (p (negsuc 0) (pos 0)) ≡ false
pixel_8 = refl

pixel_9 : meets (s (pos 1) (pos 2) (pos 0) (negsuc 0)) (p (pos 1) (pos 0)) ≡ false
pixel_9 = refl

crossing_0 : crossing_pixel (s (pos 0) (negsuc 0) (negsuc 0) (pos 2)) (s (pos 2) (negsuc 0) (pos 0) (negsuc 0)) ≡ Some (p (pos 0) (negsuc 0))
crossing_0 = refl

crossing_1 : crossing_pixel (s (pos 1) (pos 2) (pos 0) (negsuc 0)) (s (pos 1) (pos 0) (negsuc 0) (pos 0)) ≡ Some (p (pos 0) (pos 0))
crossing_1 = refl

crossing_2 : crossing_pixel (s (negsuc 0) (pos 3) (pos 3) (pos 2)) (s (negsuc 0) (pos 0) (negsuc 0) (pos 3)) ≡ Some (p (negsuc 0) (pos 3))
crossing_2 = refl

crossing_3 : crossing_pixel (s (negsuc 0) (pos 3) (pos 0) (pos 2)) (s (pos 5) (pos 0) (pos 0) (pos 2)) ≡ Some (p (pos 0) (pos 2))
crossing_3 = refl

abbrev drawing_0 : Drawing
drawing_0 = snapped (record { polygons = ((((p (pos 5) (pos 4) ∷ p (pos 0) (pos 6) ∷ p (pos 1) (pos 5) ∷ p (pos 5) (pos 4) ∷ []) ∷ []) ∷ []) ∷ (((p (pos 2) (pos 2) ∷ p (pos 4) (pos 6) ∷ p (pos 2) (pos 4) ∷ p (pos 2) (pos 2) ∷ []) ∷ []) ∷ []) ∷ []); lines = (((p (pos 1) (negsuc 0) ∷ p (pos 6) (pos 1) ∷ p (pos 6) (pos 5) ∷ []) ∷ []) ∷ []); points = ([]); boxes = ((p (pos 1) (pos 0) ∷ p (pos 6) (pos 0) ∷ p (pos 6) (pos 2) ∷ p (pos 1) (pos 2) ∷ p (pos 1) (pos 0) ∷ []) ∷ []) })

drawing_0-drawing : drawing_0 ≡ record { polygons = ((((p (pos 5) (pos 4) ∷ p (pos 3) (pos 5) ∷ p (pos 1) (pos 5) ∷ p (pos 0) (pos 6) ∷ p (pos 1) (pos 5) ∷ p (pos 3) (pos 5) ∷ p (pos 3) (pos 4) ∷ p (pos 5) (pos 4) ∷ []) ∷ []) ∷ []) ∷ (((p (pos 2) (pos 2) ∷ p (pos 3) (pos 4) ∷ p (pos 3) (pos 5) ∷ p (pos 4) (pos 6) ∷ p (pos 3) (pos 5) ∷ p (pos 2) (pos 4) ∷ p (pos 2) (pos 2) ∷ []) ∷ []) ∷ []) ∷ []); lines = (((p (pos 1) (negsuc 0) ∷ p (pos 4) (pos 0) ∷ p (pos 6) (pos 1) ∷ p (pos 6) (pos 2) ∷ p (pos 6) (pos 5) ∷ []) ∷ []) ∷ []); points = ([]); boxes = ((p (pos 1) (pos 0) ∷ p (pos 4) (pos 0) ∷ p (pos 6) (pos 0) ∷ p (pos 6) (pos 1) ∷ p (pos 6) (pos 2) ∷ p (pos 2) (pos 2) ∷ p (pos 1) (pos 2) ∷ p (pos 1) (pos 0) ∷ []) ∷ []) }
drawing_0-drawing = refl

drawing_0-links : links_of drawing_0 ≡ s (pos 0) (pos 6) (pos 1) (pos 5) ∷ s (pos 1) (negsuc 0) (pos 4) (pos 0) ∷ s (pos 1) (pos 0) (pos 1) (pos 2) ∷ s (pos 1) (pos 0) (pos 4) (pos 0) ∷ s (pos 1) (pos 2) (pos 2) (pos 2) ∷ s (pos 1) (pos 5) (pos 3) (pos 5) ∷ s (pos 2) (pos 2) (pos 2) (pos 4) ∷ s (pos 2) (pos 2) (pos 3) (pos 4) ∷ s (pos 2) (pos 2) (pos 6) (pos 2) ∷ s (pos 2) (pos 4) (pos 3) (pos 5) ∷ s (pos 3) (pos 4) (pos 3) (pos 5) ∷ s (pos 3) (pos 4) (pos 5) (pos 4) ∷ s (pos 3) (pos 5) (pos 4) (pos 6) ∷ s (pos 3) (pos 5) (pos 5) (pos 4) ∷ s (pos 4) (pos 0) (pos 6) (pos 0) ∷ s (pos 4) (pos 0) (pos 6) (pos 1) ∷ s (pos 6) (pos 0) (pos 6) (pos 1) ∷ s (pos 6) (pos 1) (pos 6) (pos 2) ∷ s (pos 6) (pos 2) (pos 6) (pos 5) ∷ []
drawing_0-links = refl

drawing_0-count : link_count drawing_0 ≡ 24
drawing_0-count = refl

abbrev drawing_1 : Drawing
drawing_1 = snapped (record { polygons = ((((p (pos 1) (pos 3) ∷ p (pos 6) (pos 1) ∷ p (pos 0) (pos 5) ∷ p (pos 1) (pos 3) ∷ []) ∷ []) ∷ []) ∷ []); lines = ([]); points = ((p (negsuc 0) (pos 5) ∷ []) ∷ []); boxes = ((p (pos 1) (pos 1) ∷ p (pos 3) (pos 1) ∷ p (pos 3) (pos 6) ∷ p (pos 1) (pos 6) ∷ p (pos 1) (pos 1) ∷ []) ∷ []) })

drawing_1-drawing : drawing_1 ≡ record { polygons = ((((p (pos 1) (pos 3) ∷ p (pos 3) (pos 2) ∷ p (pos 6) (pos 1) ∷ p (pos 3) (pos 3) ∷ p (pos 1) (pos 4) ∷ p (pos 0) (pos 5) ∷ p (pos 1) (pos 4) ∷ p (pos 1) (pos 3) ∷ []) ∷ []) ∷ []) ∷ []); lines = ([]); points = ((p (negsuc 0) (pos 5) ∷ []) ∷ []); boxes = ((p (pos 1) (pos 1) ∷ p (pos 3) (pos 1) ∷ p (pos 3) (pos 2) ∷ p (pos 3) (pos 3) ∷ p (pos 3) (pos 6) ∷ p (pos 1) (pos 6) ∷ p (pos 1) (pos 4) ∷ p (pos 1) (pos 3) ∷ p (pos 1) (pos 1) ∷ []) ∷ []) }
drawing_1-drawing = refl

drawing_1-links : links_of drawing_1 ≡ s (pos 0) (pos 5) (pos 1) (pos 4) ∷ s (pos 1) (pos 1) (pos 1) (pos 3) ∷ s (pos 1) (pos 1) (pos 3) (pos 1) ∷ s (pos 1) (pos 3) (pos 1) (pos 4) ∷ s (pos 1) (pos 3) (pos 3) (pos 2) ∷ s (pos 1) (pos 4) (pos 1) (pos 6) ∷ s (pos 1) (pos 4) (pos 3) (pos 3) ∷ s (pos 1) (pos 6) (pos 3) (pos 6) ∷ s (pos 3) (pos 1) (pos 3) (pos 2) ∷ s (pos 3) (pos 2) (pos 3) (pos 3) ∷ s (pos 3) (pos 2) (pos 6) (pos 1) ∷ s (pos 3) (pos 3) (pos 3) (pos 6) ∷ s (pos 3) (pos 3) (pos 6) (pos 1) ∷ []
drawing_1-links = refl

drawing_1-count : link_count drawing_1 ≡ 15
drawing_1-count = refl

abbrev drawing_2 : Drawing
drawing_2 = snapped (record { polygons = ((((p (pos 2) (pos 2) ∷ p (pos 4) (negsuc 0) ∷ p (pos 1) (pos 4) ∷ p (pos 0) (pos 2) ∷ p (negsuc 0) (pos 1) ∷ p (pos 2) (pos 2) ∷ []) ∷ []) ∷ []) ∷ []); lines = ([]); points = ((p (pos 0) (pos 4) ∷ []) ∷ []); boxes = ([]) })

drawing_2-drawing : drawing_2 ≡ record { polygons = ((((p (pos 2) (pos 2) ∷ p (pos 4) (negsuc 0) ∷ p (pos 2) (pos 2) ∷ p (pos 1) (pos 4) ∷ p (pos 0) (pos 2) ∷ p (negsuc 0) (pos 1) ∷ p (pos 2) (pos 2) ∷ []) ∷ []) ∷ []) ∷ []); lines = ([]); points = ((p (pos 0) (pos 4) ∷ []) ∷ []); boxes = ([]) }
drawing_2-drawing = refl

drawing_2-links : links_of drawing_2 ≡ s (negsuc 0) (pos 1) (pos 0) (pos 2) ∷ s (negsuc 0) (pos 1) (pos 2) (pos 2) ∷ s (pos 0) (pos 2) (pos 1) (pos 4) ∷ s (pos 1) (pos 4) (pos 2) (pos 2) ∷ s (pos 2) (pos 2) (pos 4) (negsuc 0) ∷ []
drawing_2-links = refl

drawing_2-count : link_count drawing_2 ≡ 6
drawing_2-count = refl
