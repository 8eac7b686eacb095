-- Each region of a drawing has a set of inner faces that follows it, and so the answers that commands ask of regions.
use Rattle.std.proofs.Common.{◌≡◌, inl, inr, refl, sym, ap, subst, arith, ℕ, zero, suc, ◌<◌, Bool, not, List, [], ◌∷◌, All, Contains, length, filter, get_or, nat_eq, nat_lt}
use Rattle.std.specs.Prelude.{◌↔◌}
use Rattle.std.specs.List.{range_with_len}
use Rattle.std.specs.List.Sorted.{IsStrictlyIncreasing}
use Rattle.std.proofs.lemmas.Bool.{cases_lt}
use Rattle.std.proofs.lemmas.List.Elements.{All-contains, All-cons, All-nil, Contains-get_or}
use Rattle.std.proofs.lemmas.List.FromFn.{fill_by_all}
use Rattle.std.proofs.lemmas.Option.{get_or_from_slice_get}
use Rattle.lists.specs.Lists.{has, joined_up}
use Rattle.lists.proofs.Ascending.{ascending-Contains, ascending-IsAscending}
use Rattle.lists.proofs.Members.{Contains-filter, Contains-nil, filter-Contains, joined_up-Contains}
use Rattle.plane_model.specs.Points.{Segment, Path}
use Rattle.plane_model.specs.Drawing.{Drawing}
use Rattle.plane_model.specs.Snapped.{links_of, snapped}
use Rattle.plane_faces.specs.Places.{Place}
use Rattle.face_walk.specs.Crossings.{outer_of}
use Rattle.face_walk.specs.Holders.{AreHolders, HolderTable, list_at}
use Rattle.face_walk.specs.Places.{FaceTable}
use Rattle.face_sets.specs.Gaps.{has_outer, outside_of}
use Rattle.face_sets.specs.Joined.{AreParts}
use Rattle.face_sets.specs.Sets.{IsInnerFace, IsSetOf}
use Rattle.face_sets.proofs.BoundaryLemmas.{Contains_has, has_Contains}
use Rattle.face_sets.proofs.GapLemmas.{gaps_inner, outside_rises, in_range, of_range}
use Rattle.face_sets.proofs.SetLemmas.{from_ascending, nat_order}
use Rattle.region_ops.specs.Cut.{meet, minus}
use Rattle.region_ops.specs.Filled.{all_faces}
use Rattle.std.proofs.lemmas.List.Kept.{IsStrictlyIncreasing-filter}
use Rattle.region_model.specs.Region.{Region, Regions, feature, box, any, both, less, part, gap, no_regions, one_more, any_of, regions_of, Has}
use Rattle.region_model.specs.Answers.{AreSides, HasSome}
use Rattle.region_model.specs.PolygonCommands.{regions_at}
use Rattle.region_laws.specs.Regions.{Follows, FollowEach}
use Rattle.region_laws.specs.Followed.{HasFacesWith, IsWalked}
use Rattle.region_laws.specs.Answered.{AnswersExist, RegionsHaveSets, plane_with}
use Rattle.region_laws.specs.Gaps.{FollowGaps}
use Rattle.region_laws.proofs.Answered.{layers_are_followed, parts_are_told, sides_are_told}
use Rattle.region_laws.proofs.Gaps.{gaps_are_followed}
use Rattle.region_laws.proofs.Held.{boxes_are_followed, features_are_followed}
use Rattle.region_laws.proofs.MosaicTold.{rising_range}
use Rattle.region_laws.proofs.PartLaws.{parts_are_followed}
use Rattle.region_laws.proofs.PartsExist.{parts_exist}
use Rattle.region_laws.proofs.Sets.{meets_are_followed, remainders_are_followed}

module _ (d : Drawing) (arcs : List Path) (faces : FaceTable) (label : Place → ℕ) (walked : IsWalked d arcs faces label) (labels : HolderTable) (held : AreHolders arcs (snapped d) faces labels) where
  -- a set of inner faces that follows the region
  pub record HasSet (r : Region) : Type 0 where
    pub set : List ℕ
    pub rising : IsStrictlyIncreasing set
    pub inner : IsSetOf faces set
    pub follows : Follows (snapped d) arcs label set r

  -- and so it is with each of some regions
  pub record HaveSets (rs : Regions) : Type 0 where
    pub regions : List Region
    pub are : regions_of regions ≡ rs
    pub sets : List (List ℕ)
    pub many : length regions ≡ length sets
    pub inner : All (IsSetOf faces) sets
    pub each : FollowEach (snapped d) arcs label sets (λ n. get_or regions n (any_of []))

  -- ---- features and boxes

  outer_there : outer_of faces < faces.count
  outer_there = walked.built.numbered.below 0 0 (let counted = walked.built.places_counted in omega arith)

  pub no_holder : (n : ℕ) → Contains (list_at labels.holders (outer_of faces)) n → ⊥
  no_holder n c =
      let (i, listed, owner) = ((held.owned (outer_of faces) outer_there).each n).0 c in
      Contains-nil i (subst (λ (list : List ℕ). Contains list i) held.held.outer_free listed)

  pub no_box : (n : ℕ) → Contains (list_at labels.boxes (outer_of faces)) n → ⊥
  no_box n c = Contains-nil n (subst (λ (list : List ℕ). Contains list n) held.boxed.outer_free c)

  module _ (lists : List (List ℕ)) (n : ℕ) (free : Contains (list_at lists (outer_of faces)) n → ⊥) where
    abbrev listed : List ℕ
    listed = filter (λ (k : ℕ). has nat_eq (list_at lists k) n) (range_with_len 0 faces.count)

    listed_with : HasFacesWith faces lists n listed
    listed_with k below = (
      λ c. has_Contains (list_at lists k) n (filter-Contains (λ (j : ℕ). has nat_eq (list_at lists j) n) (range_with_len 0 faces.count) k c).1,
      λ c. Contains-filter (λ (j : ℕ). has nat_eq (list_at lists j) n) (range_with_len 0 faces.count) k (in_range faces.count k below) (Contains_has (list_at lists k) n c),
    )

    listed_rises : IsStrictlyIncreasing listed
    listed_rises = IsStrictlyIncreasing-filter (λ (k : ℕ). has nat_eq (list_at lists k) n) (range_with_len 0 faces.count) (from_ascending (range_with_len 0 faces.count) (rising_range 0 faces.count))

    listed_inner : IsSetOf faces listed
    listed_inner i e l =
        let k : ℕ = get_or listed i e in
        let (in_all, with_n) = filter-Contains (λ (j : ℕ). has nat_eq (list_at lists j) n) (range_with_len 0 faces.count) k (Contains-get_or listed i e l) in
        record {
          there = of_range faces.count k in_all;
          not_outer = λ found. free (subst (λ (j : ℕ). Contains (list_at lists j) n) (sym (get_or_from_slice_get faces.places 0 k 0 found)) (has_Contains (list_at lists k) n with_n));
        }

  -- the faces that hold a feature, or a box
  pub of_feature : (n : ℕ) → HasSet (feature n)
  of_feature n = record {
    set = listed labels.holders n (no_holder n);
    rising = listed_rises labels.holders n (no_holder n);
    inner = listed_inner labels.holders n (no_holder n);
    follows = features_are_followed d arcs faces label walked labels held n (listed labels.holders n (no_holder n)) (listed_with labels.holders n (no_holder n));
  }

  pub of_box : (n : ℕ) → HasSet (box n)
  of_box n = record {
    set = listed labels.boxes n (no_box n);
    rising = listed_rises labels.boxes n (no_box n);
    inner = listed_inner labels.boxes n (no_box n);
    follows = boxes_are_followed d arcs faces label walked labels held n (listed labels.boxes n (no_box n)) (listed_with labels.boxes n (no_box n));
  }

  -- ---- any, both, less

  of_any : (rs : Regions) → HaveSets rs → HasSet (any rs)
  of_any rs h = record {
    set = all_faces h.sets;
    rising = from_ascending (all_faces h.sets) (ascending-IsAscending nat_lt nat_order (joined_up h.sets));
    inner = inner;
    follows = subst (λ (some : Regions). Follows (snapped d) arcs label (all_faces h.sets) (any some)) h.are (layers_are_followed (snapped d) arcs label h.sets h.regions (h.many, h.each));
  }
    where
      inner : IsSetOf faces (all_faces h.sets)
      inner i e l =
          let k : ℕ = get_or (all_faces h.sets) i e in
          let (set, in_sets, in_set) = joined_up-Contains h.sets k (ascending-Contains nat_lt nat_order (joined_up h.sets) k (Contains-get_or (all_faces h.sets) i e l)) in
          All-contains (IsInnerFace faces) set k (All-contains (IsSetOf faces) h.sets set h.inner in_sets) in_set

  kept_inner : (p : ℕ → Bool) (set : List ℕ) → IsSetOf faces set → IsSetOf faces (filter p set)
  kept_inner p set inner i e l = All-contains (IsInnerFace faces) set (get_or (filter p set) i e) inner (filter-Contains p set (get_or (filter p set) i e) (Contains-get_or (filter p set) i e l)).0

  of_both : (r s : Region) → HasSet r → HasSet s → HasSet (both r s)
  of_both r s h k = record {
    set = meet k.set h.set;
    rising = IsStrictlyIncreasing-filter (λ (f : ℕ). has nat_eq k.set f) h.set h.rising;
    inner = kept_inner (λ (f : ℕ). has nat_eq k.set f) h.set h.inner;
    follows = meets_are_followed (snapped d) arcs label h.set k.set r s h.follows k.follows;
  }

  of_less : (r s : Region) → HasSet r → HasSet s → HasSet (less r s)
  of_less r s h k = record {
    set = minus k.set h.set;
    rising = IsStrictlyIncreasing-filter (λ (f : ℕ). not (has nat_eq k.set f)) h.set h.rising;
    inner = kept_inner (λ (f : ℕ). not (has nat_eq k.set f)) h.set h.inner;
    follows = remainders_are_followed (snapped d) arcs label h.set k.set r s h.follows k.follows;
  }

  -- ---- parts and gaps

  nothing : (r : Region) → (HasSome (plane_with d arcs) r → ⊥) → HasSet r
  nothing r none = record {
    set = [];
    rising = λ k within. absurd (omega arith);
    inner = All-nil (IsInnerFace faces);
    follows = λ z off a here. (λ h. absurd (none (z, off, h)), λ c. Contains-nil (label a) c);
  }

  parts_of_set : (set : List ℕ) → IsStrictlyIncreasing set → (parts : List (List ℕ)) × AreParts faces set parts
  parts_of_set set rising = parts_exist arcs faces walked.built set rising

  of_part : (r : Region) (j : ℕ) → HasSet r → HasSet (part r j)
  of_part r j h = go (parts_of_set h.set h.rising)
    where
      go : (parts : List (List ℕ)) × AreParts faces h.set parts → HasSet (part r j)
      go (parts, are) = elim (cases_lt j (length parts)) [
        | inl below ↦ record {
          set = get_or parts j [];
          rising = are.ascending j [] below;
          inner = λ i e l. All-contains (IsInnerFace faces) h.set (get_or (get_or parts j []) i e) h.inner ((are.divided.faces j [] below).faces i e l);
          follows = (parts_are_followed d arcs faces label walked h.set h.inner r h.follows parts are).each j below;
        }
        | inr beyond ↦ nothing (part r j) (λ some. (let l = (parts_are_told d arcs faces label walked h.set h.inner r h.follows parts are j).1 some in omega arith))
      ]

  -- the gaps of some regions
  pub record HaveGaps (rs : Regions) : Type 0 where
    pub regions : List Region
    pub are : regions_of regions ≡ rs
    pub gaps : List (List ℕ)
    pub rising : All IsStrictlyIncreasing gaps
    pub inner : All (IsSetOf faces) gaps
    pub follow : FollowGaps (snapped d) arcs label gaps regions

  gaps_of : (rs : Regions) → HaveSets rs → HaveGaps rs
  gaps_of rs h = go (parts_of_set (outside_of faces (all_faces h.sets)) (outside_rises (all_faces h.sets) faces.count))
    where
      listed_so : h.regions ≡ regions_at (λ (n : ℕ). get_or h.regions n (any_of [])) (range_with_len 0 (length h.sets))
      listed_so = fill_by_all (λ (n : ℕ). get_or h.regions n (any_of [])) h.regions (length h.sets) (any_of []) h.many (λ n l. refl)

      go : (parts : List (List ℕ)) × AreParts faces (outside_of faces (all_faces h.sets)) parts → HaveGaps rs
      go (parts, are) =
          let some : List (List ℕ) = filter (λ (piece : List ℕ). not (has_outer faces piece)) parts in
          record {
            regions = h.regions;
            are = h.are;
            gaps = some;
            rising = λ i e l. All-contains IsStrictlyIncreasing parts (get_or some i e) are.ascending (filter-Contains (λ (piece : List ℕ). not (has_outer faces piece)) parts (get_or some i e) (Contains-get_or some i e l)).0;
            inner = gaps_inner faces (all_faces h.sets) parts are.divided.faces;
            follow = subst (λ (regions : List Region). FollowGaps (snapped d) arcs label some regions) (sym listed_so)
                (gaps_are_followed d arcs faces label walked h.sets h.inner (λ (n : ℕ). get_or h.regions n (any_of [])) h.each some (record { parts = parts; are_parts = are; shut_in = refl }));
          }

  of_gap : (rs : Regions) (j : ℕ) → HaveGaps rs → HasSet (gap rs j)
  of_gap rs j h = subst (λ (some : Regions). HasSet (gap some j)) h.are (elim (cases_lt j (length h.gaps)) [
    | inl below ↦ record { set = get_or h.gaps j []; rising = h.rising j [] below; inner = h.inner j [] below; follows = h.follow.each j below }
    | inr beyond ↦ nothing (gap (regions_of h.regions) j) (λ some. (let (z, off, there) = some in let l = h.follow.only j z off there in omega arith))
  ])

  -- ---- lists of regions

  no_sets : HaveSets no_regions
  no_sets = record { regions = []; are = refl; sets = []; many = refl; inner = All-nil (IsSetOf faces); each = λ n l. absurd (omega arith) }

  more_sets : (r : Region) (rs : Regions) → HasSet r → HaveSets rs → HaveSets (one_more r rs)
  more_sets r rs h k = record {
    regions = r ∷ k.regions;
    are = ap (λ (some : Regions). one_more r some) k.are;
    sets = h.set ∷ k.sets;
    many = ap suc k.many;
    inner = All-cons (IsSetOf faces) h.set k.sets h.inner k.inner;
    each = each;
  }
    where
      each : (n : ℕ) → n < length (h.set ∷ k.sets) → Follows (snapped d) arcs label (get_or (h.set ∷ k.sets) n []) (get_or (r ∷ k.regions) n (any_of []))
      each zero l = h.follows
      each (suc n) l = k.each n (omega arith)

  mutual
    pub set_of : (r : Region) → HasSet r
    set_of (feature n) = of_feature n
    set_of (box n) = of_box n
    set_of (any rs) = of_any rs (sets_of rs)
    set_of (both r s) = of_both r s (set_of r) (set_of s)
    set_of (less r s) = of_less r s (set_of r) (set_of s)
    set_of (part r j) = of_part r j (set_of r)
    set_of (gap rs j) = of_gap rs j (gaps_of rs (sets_of rs))

    pub sets_of : (rs : Regions) → HaveSets rs
    sets_of no_regions = no_sets
    sets_of (one_more r rs) = more_sets r rs (set_of r) (sets_of rs)

pub regions_have_sets : RegionsHaveSets
regions_have_sets d arcs faces label walked labels held r =
    let h = set_of d arcs faces label walked labels held r in
    (h.set, h.rising, h.inner, h.follows)

-- ---- answers

pub answers_exist : AnswersExist
answers_exist d arcs faces label walked labels held inside = (
  record { left = λ r. (told r).0; right = λ r. (told r).1; inside = inside; parts = λ r. length (parts r).0; gaps = λ rs. length (gaps rs).gaps },
  refl,
  record {
    sides = λ r. (told r).2;
    parts = λ r j. (let h = set_of d arcs faces label walked labels held r in parts_are_told d arcs faces label walked h.set h.inner r h.follows (parts r).0 (parts r).1 j);
    gaps = λ rs j. counted rs (gaps rs) j;
  },
)
  where
    told : (r : Region) → (left : Segment → Bool) × (right : Segment → Bool) × AreSides (links_of (snapped d)) (Has (snapped d) arcs r) left right
    told r = let h = set_of d arcs faces label walked labels held r in sides_are_told d arcs faces label walked h.set r h.follows

    parts : (r : Region) → (some : List (List ℕ)) × AreParts faces (set_of d arcs faces label walked labels held r).set some
    parts r = let h = set_of d arcs faces label walked labels held r in parts_exist arcs faces walked.built h.set h.rising

    gaps : (rs : Regions) → HaveGaps d arcs faces label walked labels held rs
    gaps rs = gaps_of d arcs faces label walked labels held rs (sets_of d arcs faces label walked labels held rs)

    counted : (rs : Regions) (h : HaveGaps d arcs faces label walked labels held rs) (j : ℕ) → (j < length h.gaps) ↔ HasSome (plane_with d arcs) (gap rs j)
    counted rs h j = subst (λ (some : Regions). (j < length h.gaps) ↔ HasSome (plane_with d arcs) (gap some j)) h.are (λ l. h.follow.some j l, λ some. (let (z, off, there) = some in h.follow.only j z off there))
