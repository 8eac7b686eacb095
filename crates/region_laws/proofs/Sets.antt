-- Unions, meets and what is left of sets follow the like of regions.
use Rattle.std.proofs.Common.{◌≡◌, inl, inr, sym, ap, subst, ◌∙◌, arith, ℕ, ◌<◌, Bool, true, false, not, List, [], ◌∷◌, ◌++◌, Contains, length, filter, get_or, map, nat_eq, nat_lt}
use Rattle.std.specs.List.{flat_map, range_with_len}
use Rattle.std.proofs.lemmas.Bool.{false_from_ne_true}
use Rattle.std.proofs.lemmas.List.{get_or-map, length-map}
use Rattle.std.proofs.lemmas.List.Elements.{All-contains, Contains-append_left, Contains-append_right, Contains-append_cases}
use Rattle.lists.specs.Lists.{has}
use Rattle.lists.proofs.Ascending.{Contains-ascending, ascending-Contains}
use Rattle.lists.proofs.Members.{Contains-cases, Contains-filter, Contains-flat_map, Contains-head, Contains-later, Contains-map, Contains-nil, filter-Contains, flat_map-Contains, map-Contains}
use Rattle.plane_model.specs.Points.{RationalPoint, Path}
use Rattle.plane_model.specs.Drawing.{Drawing}
use Rattle.plane_faces.specs.Places.{Place}
use Rattle.face_sets.specs.Owners.{owners_of}
use Rattle.face_sets.proofs.BoundaryLemmas.{Contains_has, has_Contains}
use Rattle.face_sets.proofs.GapLemmas.{in_range, of_range}
use Rattle.face_sets.proofs.SetLemmas.{nat_order}
use Rattle.face_laws.proofs.HolderLemmas.{there_any, any_there}
use Rattle.region_ops.specs.Cleaned.{area_of, is_lost, ranks_before}
use Rattle.region_ops.specs.Cut.{meet, minus}
use Rattle.region_ops.specs.Dissolved.{set_at, union_of}
use Rattle.region_model.specs.Region.{Region, any_of, both, less, regions_of, Has, SomeHas}
use Rattle.region_laws.specs.Regions.{Follows}
use Rattle.region_model.specs.PolygonCommands.{regions_at}
use Rattle.region_laws.specs.Followed.{before, CleanedSetsAreFollowed, ClippedSetsAreFollowed, DissolvedSetsAreFollowed, ErasedSetsAreFollowed, MeetsAreFollowed, RemaindersAreFollowed, UnionsAreFollowed}
use Rattle.region_ops.proofs.OwnerSets.{in_owners, of_owners}

-- ---- any of some regions

module _ (d : Drawing) (arcs : List Path) (z : RationalPoint) where
  pub some_has : (rs : List Region) (r : Region) → Contains rs r → Has d arcs r z → SomeHas d arcs (regions_of rs) z
  some_has [] r c h = Contains-nil r c
  some_has (s ∷ rs) r c h = elim (Contains-cases s rs r c) [
    | inl e ↦ inl (subst (λ (t : Region). Has d arcs t z) (sym e) h)
    | inr more ↦ inr (some_has rs r more h)
  ]

  pub has_some : (rs : List Region) → SomeHas d arcs (regions_of rs) z → (r : Region) × Contains rs r × Has d arcs r z
  has_some [] h = absurd h
  has_some (s ∷ rs) (inl h) = (s, Contains-head s rs, h)
  has_some (s ∷ rs) (inr h) = let (r, there, has) = has_some rs h in (r, Contains-later s rs r there, has)

  -- the regions of some numbers
  pub some_at : (region : ℕ → Region) (numbers : List ℕ) (n : ℕ) → Contains numbers n → Has d arcs (region n) z → SomeHas d arcs (regions_of (regions_at region numbers)) z
  some_at region numbers n c h = some_has (regions_at region numbers) (region n) (Contains-map region numbers n c) h

  pub at_some : (region : ℕ → Region) (numbers : List ℕ) → SomeHas d arcs (regions_of (regions_at region numbers)) z → (n : ℕ) × Contains numbers n × Has d arcs (region n) z
  at_some region numbers h =
      let (r, there, has) = has_some (regions_at region numbers) h in
      let (n, in_numbers, is) = map-Contains region numbers r there in
      (n, in_numbers, subst (λ (t : Region). Has d arcs t z) (sym is) has)

-- ---- two sets

pub kept_out : (source : List ℕ) (k : ℕ) → (Contains source k → ⊥) → not (has nat_eq source k) ≡ true
kept_out source k out = ap not (false_from_ne_true (has nat_eq source k) (λ e. out (has_Contains source k e)))

pub out_kept : (source : List ℕ) (k : ℕ) → not (has nat_eq source k) ≡ true → Contains source k → ⊥
out_kept source k e c = let f : false ≡ true = ap not (sym (Contains_has source k c)) ∙ e in absurd (cc)

pub unions_are_followed : UnionsAreFollowed
unions_are_followed d arcs label f g r s in_f in_g z off a here = (
  λ h. Contains-ascending nat_lt nat_order (f ++ g) (label a) (elim h [
    | inl in_r ↦ Contains-append_left f g (label a) ((in_f z off a here).0 in_r)
    | inr (inl in_s) ↦ Contains-append_right f g (label a) ((in_g z off a here).0 in_s)
    | inr (inr none) ↦ absurd none
  ]),
  λ c. elim (Contains-append_cases f g (label a) (ascending-Contains nat_lt nat_order (f ++ g) (label a) c)) [
    | inl there ↦ inl ((in_f z off a here).1 there)
    | inr there ↦ inr (inl ((in_g z off a here).1 there))
  ],
)

pub meets_are_followed : MeetsAreFollowed
meets_are_followed d arcs label f g r s in_f in_g z off a here = (
  λ (in_r, in_s). Contains-filter (has nat_eq g) f (label a) ((in_f z off a here).0 in_r) (Contains_has g (label a) ((in_g z off a here).0 in_s)),
  λ c. (let (there, passes) = filter-Contains (has nat_eq g) f (label a) c in ((in_f z off a here).1 there, (in_g z off a here).1 (has_Contains g (label a) passes))),
)

pub remainders_are_followed : RemaindersAreFollowed
remainders_are_followed d arcs label f g r s in_f in_g z off a here = (
  λ (in_r, not_s). Contains-filter (λ (k : ℕ). not (has nat_eq g k)) f (label a) ((in_f z off a here).0 in_r) (kept_out g (label a) (λ c. not_s ((in_g z off a here).1 c))),
  λ c.
      (let (there, passes) = filter-Contains (λ (k : ℕ). not (has nat_eq g k)) f (label a) c in
      ((in_f z off a here).1 there, λ in_s. out_kept g (label a) passes ((in_g z off a here).0 in_s))),
)

-- ---- each set of a list

-- a set that a list was made by, from the set of that number
module _ (d : Drawing) (arcs : List Path) (label : Place → ℕ) (change : List ℕ → List ℕ) (lists : List (List ℕ)) (n : ℕ) (l : n < length (map change lists)) where
  there : n < length lists
  there = let many = length-map lists change in omega arith

  pub of_changed : (r : Region) → (n < length lists → Follows d arcs label (change (get_or lists n [])) r) → Follows d arcs label (get_or (map change lists) n []) r
  of_changed r h = subst (λ (set : List ℕ). Follows d arcs label set r) (sym (get_or-map change lists n [] [] there)) (h there)

pub clipped_sets_are_followed : ClippedSetsAreFollowed
clipped_sets_are_followed d arcs label sets region source s each in_source n l =
    of_changed d arcs label (meet source) sets n l (both (region n) s) (λ below. meets_are_followed d arcs label (get_or sets n []) source (region n) s (each n below) in_source)

pub erased_sets_are_followed : ErasedSetsAreFollowed
erased_sets_are_followed d arcs label sets region source s each in_source n l =
    of_changed d arcs label (minus source) sets n l (less (region n) s) (λ below. remainders_are_followed d arcs label (get_or sets n []) source (region n) s (each n below) in_source)

pub dissolved_sets_are_followed : DissolvedSetsAreFollowed
dissolved_sets_are_followed d arcs label sets region groups each members g l =
    of_changed d arcs label (union_of sets) groups g l (any_of (regions_at region (get_or groups g []))) (λ below z off a here.
    let group : List ℕ = get_or groups g [] in
    let member : (n : ℕ) → Contains group n → n < length sets = (λ n c. All-contains (λ (m : ℕ). m < length sets) group n (members g [] below) c) in (
      λ h.
          (let (n, in_group, held) = at_some d arcs z region group h in
          Contains-ascending nat_lt nat_order (flat_map (set_at sets) group) (label a) (Contains-flat_map (set_at sets) group n (label a) in_group ((each n (member n in_group) z off a here).0 held))),
      λ c.
          (let (n, in_group, in_set) = flat_map-Contains (set_at sets) group (label a) (ascending-Contains nat_lt nat_order (flat_map (set_at sets) group) (label a) c) in
          some_at d arcs z region group n in_group ((each n (member n in_group) z off a here).1 in_set)),
    ))

-- ---- what is left of sets

pub cleaned_sets_are_followed : CleanedSetsAreFollowed
cleaned_sets_are_followed d arcs label sets region rule areas cleaned each is n l =
    subst (λ (set : List ℕ). Follows d arcs label set (less (region n) (any_of (regions_at region (before rule areas sets n))))) (sym (is.kept n below)) left
  where
    below : n < length sets
    below = let e = is.count in omega arith

    ranks : ℕ → Bool
    ranks m = ranks_before rule m (area_of areas (set_at sets m)) n (area_of areas (set_at sets n))

    left : Follows d arcs label (filter (λ (k : ℕ). not (is_lost rule areas sets n k)) (set_at sets n)) (less (region n) (any_of (regions_at region (before rule areas sets n))))
    left z off a here = (
      λ (in_r, not_before).
          Contains-filter (λ (k : ℕ). not (is_lost rule areas sets n k)) (set_at sets n) (label a) ((each n below z off a here).0 in_r)
          (ap not (false_from_ne_true (is_lost rule areas sets n (label a)) (λ lost.
          let (m, owner, first) = any_there ranks (owners_of sets (label a)) lost in
          let (m_there, in_set) = of_owners sets (label a) m owner in
          not_before (some_at d arcs z region (before rule areas sets n) m (Contains-filter ranks (range_with_len 0 (length sets)) m (in_range (length sets) m m_there) first) ((each m m_there z off a here).1 in_set))))),
      λ c.
          (let (in_set, kept) = filter-Contains (λ (k : ℕ). not (is_lost rule areas sets n k)) (set_at sets n) (label a) c in (
            (each n below z off a here).1 in_set,
            λ h.
                let (m, in_before, held) = at_some d arcs z region (before rule areas sets n) h in
                let (in_all, first) = filter-Contains ranks (range_with_len 0 (length sets)) m in_before in
                let m_there = of_range (length sets) m in_all in
                let owner = in_owners sets (label a) m m_there ((each m m_there z off a here).0 held) in
                let lost : is_lost rule areas sets n (label a) ≡ true = there_any ranks (owners_of sets (label a)) m owner first in
                let clash : false ≡ true = ap not (sym lost) ∙ kept in
                absurd (cc),
          )),
    )
