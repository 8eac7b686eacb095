-- The arcs between sets are those between the regions of the sets.
use Rattle.std.proofs.Common.{◌≡◌, refl, sym, ap, ◌∙◌, ℕ, ◌<◌, Bool, true, false, not, cond, ◌&&◌, nat_eq, Option, Some, None, List, [], ◌∷◌, filter, length, map, get_or}
use Rattle.std.specs.Prelude.{filter_map, is_some, slice_get}
use Rattle.std.specs.List.{cons_option, range_with_len}
use Rattle.std.proofs.lemmas.List.{get_or-map, length-map}
use Rattle.std.proofs.lemmas.List.FromFn.{fill_by_all}
use Rattle.lists.specs.Lists.{same_list}
use Rattle.plane_model.specs.Points.{Path}
use Rattle.plane_model.specs.Drawing.{Drawing}
use Rattle.plane_faces.specs.Places.{Place}
use Rattle.face_walk.specs.Places.{FaceTable}
use Rattle.line_ops.specs.Sided.{has_both, left_sets, right_sets, sided}
use Rattle.line_ops.specs.declared.sides.SidedArc.{SidedArc}
use Rattle.region_model.specs.Region.{Region, any_of}
use Rattle.region_model.specs.Answers.{Answers, is_nil}
use Rattle.region_model.specs.LineCommands as model
use Rattle.region_model.specs.LineCommands.{differs, holders_left, holders_right, is_inner, sided_arcs}
use Rattle.line_laws.specs.Regions.{AreFacesOf, BordersAreOfRegions, IsToldOf}
use Rattle.line_laws.proofs.ByRegions.{sets_are_holders}

-- ---- arcs with the sets at their sides, in the words of both definitions

module _ (arcs : List Path) (faces : FaceTable) (sets : List (List ℕ)) where
  abbrev left_at : ℕ → List ℕ
  left_at k = left_sets faces sets k

  abbrev right_at : ℕ → List ℕ
  right_at k = right_sets faces sets k

  abbrev pub with_sets : ℕ → model.SidedArc
  with_sets k = record { points = get_or arcs k []; left = left_sets faces sets k; right = right_sets faces sets k }

  abbrev with_first : ℕ → SidedArc
  with_first k = record { arc = k; left = slice_get (left_sets faces sets k) 0; right = slice_get (right_sets faces sets k) 0 }

  module _ {X : Type 0} (see : Path → Option ℕ → Option ℕ → X) where
    abbrev pub seen : SidedArc → X
    seen s = see (get_or arcs s.arc []) s.left s.right

    abbrev pub seen_so : model.SidedArc → X
    seen_so a = see a.points (slice_get a.left 0) (slice_get a.right 0)

    one_more : (k : ℕ) (more : List SidedArc) (others : List model.SidedArc) → map seen more ≡ map seen_so others → (b : Bool) →
        map seen (cons_option (cond b None (Some (with_first k))) more) ≡ map seen_so (cond (not b) (with_sets k ∷ others) others)
    one_more k more others e true = e
    one_more k more others e false = λ i. see (get_or arcs k []) (slice_get (left_at k) 0) (slice_get (right_at k) 0) ∷ e i

    pub apart_alike : (ks : List ℕ) → map seen (filter_map (sided faces sets) ks) ≡ map seen_so (filter differs (map with_sets ks))
    apart_alike [] = refl
    apart_alike (k ∷ ks) = one_more k (filter_map (sided faces sets) ks) (filter differs (map with_sets ks)) (apart_alike ks) (same_list nat_eq (left_at k) (right_at k))

  -- ---- those with sets at both sides

  some_first : (xs : List ℕ) → is_some (slice_get xs 0) ≡ not (is_nil xs)
  some_first [] = refl
  some_first (x ∷ xs) = refl

  abbrev arc_points : SidedArc → Path
  arc_points s = get_or arcs s.arc []

  abbrev its_points : model.SidedArc → Path
  its_points a = a.points

  one_inner : (k : ℕ) (more : List SidedArc) (others : List model.SidedArc) → map arc_points more ≡ map its_points others → (b : Bool) → map arc_points (cond b (with_first k ∷ more) more) ≡ map its_points (cond b (with_sets k ∷ others) others)
  one_inner k more others e true = λ i. get_or arcs k [] ∷ e i
  one_inner k more others e false = e

  inner_more : (k : ℕ) (more : List SidedArc) (others : List model.SidedArc) → map arc_points (filter has_both more) ≡ map its_points (filter is_inner others) → (b : Bool) →
      map arc_points (filter has_both (cons_option (cond b None (Some (with_first k))) more))
      ≡ map its_points (cond (not b && not (is_nil (left_at k)) && not (is_nil (right_at k))) (with_sets k ∷ filter is_inner others) (filter is_inner others))
  inner_more k more others e true = e
  inner_more k more others e false =
      (λ i. map arc_points (cond (some_first (left_at k) i && some_first (right_at k) i) (with_first k ∷ filter has_both more) (filter has_both more)))
      ∙ one_inner k (filter has_both more) (filter is_inner others) e (not (is_nil (left_at k)) && not (is_nil (right_at k)))

  pub inner_alike : (ks : List ℕ) → map arc_points (filter has_both (filter_map (sided faces sets) ks)) ≡ map its_points (filter is_inner (map with_sets ks))
  inner_alike [] = refl
  inner_alike (k ∷ ks) = inner_more k (filter_map (sided faces sets) ks) (map with_sets ks) (inner_alike ks) (same_list nat_eq (left_at k) (right_at k))

-- ---- by regions

module _ (d : Drawing) (arcs : List Path) (faces : FaceTable) (label : Place → ℕ) (on : AreFacesOf d arcs faces label) (A : Answers) (sets : List (List ℕ)) (regions : List Region) (many : length regions ≡ length sets)
    (tell : (i : ℕ) → i < length sets → IsToldOf d arcs label A (get_or sets i []) (get_or regions i (any_of []))) where
  abbrev with_holders : Path → model.SidedArc
  with_holders arc = record { points = arc; left = holders_left A regions arc; right = holders_right A regions arc }

  all_sided : map with_holders arcs ≡ map (with_sets arcs faces sets) (range_with_len 0 (length arcs))
  all_sided = fill_by_all (with_sets arcs faces sets) (map with_holders arcs) (length arcs) (with_holders []) (length-map arcs with_holders) (λ k l.
      let holders = sets_are_holders d arcs faces label on A sets regions many tell k l in
      get_or-map with_holders arcs k [] (with_holders []) l ∙ (λ i. record { points = get_or arcs k []; left = sym holders.0 i; right = sym holders.1 i }))

pub borders_are_of_regions : BordersAreOfRegions
borders_are_of_regions d arcs faces label on A sets regions many tell P same =
    let all : sided_arcs P A regions ≡ map (with_sets arcs faces sets) (range_with_len 0 (length arcs)) =
    ap (λ (paths : List Path). map (with_holders d arcs faces label on A sets regions many tell) paths) same ∙ all_sided d arcs faces label on A sets regions many tell in
    let apart = ap (λ (rows : List model.SidedArc). filter differs rows) all in
    let within = ap (λ (rows : List model.SidedArc). filter is_inner rows) all in
    record {
      points = apart_alike arcs faces sets (λ (path : Path) (l r : Option ℕ). path) (range_with_len 0 (length arcs)) ∙ ap (λ (rows : List model.SidedArc). map (λ (a : model.SidedArc). a.points) rows) (sym apart);
      left = apart_alike arcs faces sets (λ (path : Path) (l r : Option ℕ). l) (range_with_len 0 (length arcs)) ∙ ap (λ (rows : List model.SidedArc). map (λ (a : model.SidedArc). slice_get a.left 0) rows) (sym apart);
      right = apart_alike arcs faces sets (λ (path : Path) (l r : Option ℕ). r) (range_with_len 0 (length arcs)) ∙ ap (λ (rows : List model.SidedArc). map (λ (a : model.SidedArc). slice_get a.right 0) rows) (sym apart);
      inner = inner_alike arcs faces sets (range_with_len 0 (length arcs)) ∙ ap (λ (rows : List model.SidedArc). map (λ (a : model.SidedArc). a.points) rows) (sym within);
    }
