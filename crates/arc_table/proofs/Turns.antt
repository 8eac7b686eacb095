-- The list of turns has exactly the points that are turns.
use Rattle.std.proofs.Common.{◌≡◌, inl, inr, refl, ap, ◌∙◌, subst, arith, ℕ, zero, suc, ◌+◌, ◌-◌, ◌<◌, Bool, true, false, ◌&&◌, nat_lt, List, [], ◌∷◌, ◌++◌, length, Contains}
use Rattle.std.specs.Prelude.{if◌then◌else◌}
use Rattle.std.specs.List.{flat_map}
use Rattle.std.proofs.lemmas.Bool.{and_parts, and_from}
use Rattle.std.proofs.lemmas.Bool.Decides.{Decides-ltb}
use Rattle.std.proofs.lemmas.List.Elements.{Contains-append_left, Contains-append_right, Contains-append_cases}
use Rattle.lists.proofs.Members.{Contains-head, Contains-later, Contains-nil, Contains-cases, Contains-flat_map, flat_map-Contains, Contains-joined_up, joined_up-Contains}
use Rattle.plane_model.specs.Points.{GridPoint, Path, same_point}
use Rattle.plane_model.specs.Drawing.{Drawing, rings_of}
use Rattle.plane_model.proofs.PointOrder.{same_point_from, same_point_to}
use Rattle.arc_table.specs.Direction.{point_at}
use Rattle.arc_table.specs.Nodes.{turns_back, ends_of, turns_at_start, turns_of_line, turns_of_ring, turns_of_drawing, TurnsBackAt, TurnsAtStart, EndsLine, IsRingOf, IsLineOf, IsTurn}

one_of_one : (x p : GridPoint) → Contains (x ∷ []) p → x ≡ p
one_of_one x p c = elim (Contains-cases x [] p c) [ inl e ↦ e | inr e ↦ Contains-nil p e ]

if_one : (b : Bool) (x p : GridPoint) → Contains (if b then x ∷ [] else []) p → (b ≡ true) × (x ≡ p)
if_one true x p c = (refl, one_of_one x p c)
if_one false x p c = Contains-nil p c

one_if : (b : Bool) (x p : GridPoint) → b ≡ true → x ≡ p → Contains (if b then x ∷ [] else []) p
one_if true x p e f = subst (Contains (x ∷ [])) f (Contains-head x [])
one_if false x p e f = absurd (let g : false ≡ true = e in cc)

later : (x p : GridPoint) (path : Path) → TurnsBackAt path p → TurnsBackAt (x ∷ path) p
later x p path h = let l = h.inside in record {
  place = suc h.place;
  inside = omega arith;
  same = h.same ∙ ap (point_at (x ∷ path)) (let e : suc (h.place + 2) ≡ suc h.place + 2 = omega arith in e);
  here = ap (point_at (x ∷ path)) (let e : suc h.place + 1 ≡ suc (h.place + 1) = omega arith in e) ∙ h.here;
}

pub back_at_turn : (path : Path) (p : GridPoint) → Contains (turns_back path) p → TurnsBackAt path p
back_at_turn [] p c = Contains-nil p c
back_at_turn (a ∷ []) p c = Contains-nil p c
back_at_turn (a ∷ b ∷ []) p c = Contains-nil p c
back_at_turn (a ∷ b ∷ r ∷ rest) p c = elim (Contains-append_cases (if same_point a r then b ∷ [] else []) (turns_back (b ∷ r ∷ rest)) p c) [
  | inl m ↦ (let e = if_one (same_point a r) b p m in record { place = 0; inside = omega arith; same = same_point_from a r e.0; here = e.1 })
  | inr m ↦ later a p (b ∷ r ∷ rest) (back_at_turn (b ∷ r ∷ rest) p m)
]

listed_back : (path : Path) (p : GridPoint) (k : ℕ) → suc (suc k) < length path → point_at path k ≡ point_at path (suc (suc k)) → point_at path (suc k) ≡ p → Contains (turns_back path) p
listed_back [] p k l e f = absurd (omega arith)
listed_back (a ∷ []) p k l e f = absurd (omega arith)
listed_back (a ∷ b ∷ []) p k l e f = absurd (omega arith)
listed_back (a ∷ b ∷ r ∷ rest) p zero l e f = Contains-append_left (if same_point a r then b ∷ [] else []) (turns_back (b ∷ r ∷ rest)) p (one_if (same_point a r) b p (same_point_to a r e) f)
listed_back (a ∷ b ∷ r ∷ rest) p (suc k) l e f =
    Contains-append_right (if same_point a r then b ∷ [] else []) (turns_back (b ∷ r ∷ rest)) p (listed_back (b ∷ r ∷ rest) p k (omega arith) e f)

listed_turn : (path : Path) (p : GridPoint) → TurnsBackAt path p → Contains (turns_back path) p
listed_turn path p h =
    let l = h.inside in
    listed_back path p h.place (omega arith) (h.same ∙ ap (point_at path) (let e : h.place + 2 ≡ suc (suc h.place) = omega arith in e))
    (ap (point_at path) (let e : suc h.place ≡ h.place + 1 = omega arith in e) ∙ h.here)

at_start : (ring : Path) (p : GridPoint) → Contains (turns_at_start ring) p → TurnsAtStart ring p
at_start ring p c =
    let e = if_one (nat_lt 2 (length ring) && same_point (point_at ring (length ring - 2)) (point_at ring 1)) (point_at ring 0) p c in
    let both = and_parts (nat_lt 2 (length ring)) (same_point (point_at ring (length ring - 2)) (point_at ring 1)) e.0 in
    record { long = (Decides-ltb 2 (length ring)).0 both.0; same = same_point_from (point_at ring (length ring - 2)) (point_at ring 1) both.1; here = e.1 }

listed_start : (ring : Path) (p : GridPoint) → TurnsAtStart ring p → Contains (turns_at_start ring) p
listed_start ring p h =
    one_if (nat_lt 2 (length ring) && same_point (point_at ring (length ring - 2)) (point_at ring 1)) (point_at ring 0) p
    (and_from (nat_lt 2 (length ring)) (same_point (point_at ring (length ring - 2)) (point_at ring 1)) ((Decides-ltb 2 (length ring)).1 h.long) (same_point_to (point_at ring (length ring - 2)) (point_at ring 1) h.same)) h.here

at_end : (line : Path) (p : GridPoint) → Contains (ends_of line) p → EndsLine line p
at_end [] p c = Contains-nil p c
at_end (a ∷ rest) p c = elim (Contains-cases a (point_at (a ∷ rest) (length (a ∷ rest) - 1) ∷ []) p c) [
  | inl e ↦ record { some = omega arith; ends = inl e }
  | inr m ↦ record { some = omega arith; ends = inr (one_of_one (point_at (a ∷ rest) (length (a ∷ rest) - 1)) p m) }
]

listed_end : (line : Path) (p : GridPoint) → EndsLine line p → Contains (ends_of line) p
listed_end [] p h = absurd (let l = h.some in omega arith)
listed_end (a ∷ rest) p h =
    let last = point_at (a ∷ rest) (length (a ∷ rest) - 1) in
    elim h.ends [
      | inl e ↦ subst (Contains (a ∷ last ∷ [])) e (Contains-head a (last ∷ []))
      | inr e ↦ Contains-later a (last ∷ []) p (subst (Contains (last ∷ [])) e (Contains-head last []))
    ]

module _ (d : Drawing) (p : GridPoint) where
  abbrev of_polygons : List GridPoint
  of_polygons = flat_map (λ feature. flat_map (λ polygon. flat_map turns_of_ring polygon) feature) d.polygons

  abbrev of_lines : List GridPoint
  of_lines = flat_map (λ feature. flat_map turns_of_line feature) d.lines

  abbrev of_boxes : List GridPoint
  of_boxes = flat_map turns_of_ring d.boxes

  ring_turn : (ring : Path) → IsRingOf d ring → Contains (turns_of_ring ring) p → IsTurn d p
  ring_turn ring c m = inr (ring, c, elim (Contains-append_cases (turns_at_start ring) (turns_back ring) p m) [ inl e ↦ inl (at_start ring p e) | inr e ↦ inr (back_at_turn ring p e) ])

  line_turn : (line : Path) → IsLineOf d line → Contains (turns_of_line line) p → IsTurn d p
  line_turn line c m = inl (line, c, elim (Contains-append_cases (ends_of line) (turns_back line) p m) [ inl e ↦ inl (at_end line p e) | inr e ↦ inr (back_at_turn line p e) ])

  pub turn_of_listed : Contains (turns_of_drawing d) p → IsTurn d p
  turn_of_listed c = elim (Contains-append_cases (of_polygons ++ of_lines) of_boxes p c) [
    | inl m ↦ elim (Contains-append_cases of_polygons of_lines p m) [
      | inl e ↦ (
          let f = flat_map-Contains (λ feature. flat_map (λ polygon. flat_map turns_of_ring polygon) feature) d.polygons p e in
          let g = flat_map-Contains (λ polygon. flat_map turns_of_ring polygon) f.0 p f.2 in
          let r = flat_map-Contains turns_of_ring g.0 p g.2 in
          ring_turn r.0 (Contains-append_left (flat_map rings_of d.polygons) d.boxes r.0 (Contains-flat_map rings_of d.polygons f.0 r.0 f.1 (Contains-joined_up f.0 g.0 r.0 g.1 r.1))) r.2)
      | inr e ↦ (
          let f = flat_map-Contains (λ feature. flat_map turns_of_line feature) d.lines p e in
          let r = flat_map-Contains turns_of_line f.0 p f.2 in
          line_turn r.0 (Contains-joined_up d.lines f.0 r.0 f.1 r.1) r.2)
    ]
    | inr m ↦ (let r = flat_map-Contains turns_of_ring d.boxes p m in ring_turn r.0 (Contains-append_right (flat_map rings_of d.polygons) d.boxes r.0 r.1) r.2)
  ]

  listed_of_ring : (ring : Path) → IsRingOf d ring → Contains (turns_of_ring ring) p → Contains (turns_of_drawing d) p
  listed_of_ring ring c m = elim (Contains-append_cases (flat_map rings_of d.polygons) d.boxes ring c) [
    | inl e ↦ (
        let f = flat_map-Contains rings_of d.polygons ring e in
        let g = joined_up-Contains f.0 ring f.2 in
        Contains-append_left (of_polygons ++ of_lines) of_boxes p (Contains-append_left of_polygons of_lines p
        (Contains-flat_map (λ feature. flat_map (λ polygon. flat_map turns_of_ring polygon) feature) d.polygons f.0 p f.1
        (Contains-flat_map (λ polygon. flat_map turns_of_ring polygon) f.0 g.0 p g.1 (Contains-flat_map turns_of_ring g.0 ring p g.2 m)))))
    | inr e ↦ Contains-append_right (of_polygons ++ of_lines) of_boxes p (Contains-flat_map turns_of_ring d.boxes ring p e m)
  ]

  listed_of_line : (line : Path) → IsLineOf d line → Contains (turns_of_line line) p → Contains (turns_of_drawing d) p
  listed_of_line line c m =
      let f = joined_up-Contains d.lines line c in
      Contains-append_left (of_polygons ++ of_lines) of_boxes p (Contains-append_right of_polygons of_lines p
      (Contains-flat_map (λ feature. flat_map turns_of_line feature) d.lines f.0 p f.1 (Contains-flat_map turns_of_line f.0 line p f.2 m)))

  pub listed_of_turn : IsTurn d p → Contains (turns_of_drawing d) p
  listed_of_turn h = elim h [
    | inl e ↦ listed_of_line e.0 e.1 (elim e.2 [
      | inl f ↦ Contains-append_left (ends_of e.0) (turns_back e.0) p (listed_end e.0 p f)
      | inr f ↦ Contains-append_right (ends_of e.0) (turns_back e.0) p (listed_turn e.0 p f)
    ])
    | inr e ↦ listed_of_ring e.0 e.1 (elim e.2 [
      | inl f ↦ Contains-append_left (turns_at_start e.0) (turns_back e.0) p (listed_start e.0 p f)
      | inr f ↦ Contains-append_right (turns_at_start e.0) (turns_back e.0) p (listed_turn e.0 p f)
    ])
  ]
