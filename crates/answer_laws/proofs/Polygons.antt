-- Rings that use a boundary once, one of them an exterior, make a polygon that fits it: begun at their least arcs, and
-- holes in order of these.
use Rattle.std.proofs.Common.{◌≡◌, ◌⊎◌, inl, inr, sym, subst, arith, ℕ, ◌<◌, ◌≤◌, Bool, List, [], ◌∷◌, ◌++◌, Contains, append_assoc, pos}
use Rattle.std.specs.Prelude.{◌<ℤ◌, All, AllPairs}
use Rattle.std.specs.List.Sorted.{IsPermutation}
use Rattle.std.proofs.lemmas.Bool.{cases_lt}
use Rattle.std.proofs.lemmas.Grind.{flat_map-append}
use Rattle.std.proofs.lemmas.List.Elements.{All-append, All-cons, All-contains, All-contains_itself, All-head, All-nil, All-tail, All-weaker, Contains-append_left, Contains-append_right}
use Rattle.std.proofs.lemmas.List.Kept.{AllPairs-cons}
use Rattle.std.proofs.lemmas.List.Sorted.{All-permutation, Contains-permutation, IsPermutation-append, IsPermutation-append_comm, IsPermutation-cons, IsPermutation-middle, IsPermutation-refl, IsPermutation-sym, IsPermutation-trans}
use Rattle.part_laws.proofs.FitLaws.{ring_is_simple}
use Rattle.lists.proofs.Members.{Contains-flat_map}
use Rattle.plane_model.specs.Points.{Segment, Path, reversed}
use Rattle.plane_model.specs.Arcs.{arcs_of}
use Rattle.plane_model.specs.Arrangement.{IsArrangement, IsDistinct}
use Rattle.plane_model.specs.Boundary.{boundary_by}
use Rattle.plane_model.specs.Drawing.{Drawing, Polygon, steps, steps_of_paths}
use Rattle.plane_model.specs.Joined.{IsClosed}
use Rattle.plane_model.specs.Rings.{BeginsAtLeastArc, FitsPart, IsSimple, UsesOnce, least_arc, turn_at_least}
use Rattle.plane_model.specs.Snapped.{links_of}
use Rattle.plane_faces.specs.Rings.{IsRing}
use Rattle.plane_faces.proofs.Lists.{all_left, all_right}
use Rattle.plane_faces.proofs.Runs.{ring_closed}
use Rattle.answer_laws.proofs.Bounding.{boundary_distinct, boundary_one_way, distinct_joined, distinct_moved}
use Rattle.answer_laws.proofs.LeastArcs.{IsBegun, begun_ring, first_of}

-- ---- steps of paths in other orders

exchanged : (xs ys zs : List Segment) → IsPermutation (xs ++ (ys ++ zs)) (ys ++ (xs ++ zs))
exchanged xs ys zs =
    subst (λ (ss : List Segment). IsPermutation ss (ys ++ (xs ++ zs))) (append_assoc xs ys zs)
    (subst (IsPermutation ((xs ++ ys) ++ zs)) (append_assoc ys xs zs) (IsPermutation-append (xs ++ ys) (ys ++ xs) zs zs (IsPermutation-append_comm xs ys) (IsPermutation-refl zs)))

taken_out : (before : List Path) (ring : Path) (after : List Path) → IsPermutation (steps_of_paths (before ++ ring ∷ after)) (steps ring ++ steps_of_paths (before ++ after))
taken_out before ring after =
    subst (λ (ss : List Segment). IsPermutation ss (steps ring ++ steps_of_paths (before ++ after))) (sym (flat_map-append steps before (ring ∷ after)))
    (subst (λ (ss : List Segment). IsPermutation (steps_of_paths before ++ (steps ring ++ steps_of_paths after)) (steps ring ++ ss)) (sym (flat_map-append steps before after)) (exchanged (steps_of_paths before) (steps ring) (steps_of_paths after)))

-- ---- rings in order of their keys

module _ (key : Path → ℕ) where
  abbrev pub Rising : List Path → Type 0
  Rising [] = Unit {0}
  Rising (ring ∷ rings) = All (λ other. key ring < key other) rings × Rising rings

  abbrev pub Differing : List Path → Type 0
  Differing [] = Unit {0}
  Differing (ring ∷ rings) = All (λ other. key ring ≡ key other → ⊥) rings × Differing rings

  pub rising_pairs : (rings : List Path) → Rising rings → AllPairs (λ g h. key g < key h) rings
  rising_pairs [] h = λ i j d less below. absurd (omega arith)
  rising_pairs (ring ∷ rings) h = AllPairs-cons (λ g h. key g < key h) ring rings h.0 (rising_pairs rings h.1)

  -- the same rings, with the same steps
  pub record IsSorted (rings sorted : List Path) : Type 0 where
    pub rising : Rising sorted
    pub same : IsPermutation rings sorted
    pub same_steps : IsPermutation (steps_of_paths rings) (steps_of_paths sorted)

  inserted : (ring : Path) (rings : List Path) → Rising rings → All (λ other. key ring ≡ key other → ⊥) rings → (sorted : List Path) × IsSorted (ring ∷ rings) sorted
  inserted ring [] up apart = (ring ∷ [], record { rising = (All-nil (λ other. key ring < key other), tt); same = IsPermutation-refl (ring ∷ []); same_steps = IsPermutation-refl (steps_of_paths (ring ∷ [])) })
  inserted ring (other ∷ rings) up apart = go (cases_lt (key ring) (key other)) (inserted ring rings up.1 (All-tail (λ r. key ring ≡ key r → ⊥) other rings apart))
    where
      differs : key ring ≡ key other → ⊥
      differs = All-head (λ r. key ring ≡ key r → ⊥) other rings apart

      go : (key ring < key other) ⊎ (key other ≤ key ring) → ((sorted : List Path) × IsSorted (ring ∷ rings) sorted) → (sorted : List Path) × IsSorted (ring ∷ other ∷ rings) sorted
      go (inl less) later = (
        ring ∷ other ∷ rings,
        record {
          rising = (All-cons (λ r. key ring < key r) other rings less (All-weaker (λ r. key other < key r) (λ r. key ring < key r) (λ r more. (omega arith)) rings up.0), up);
          same = IsPermutation-refl (ring ∷ other ∷ rings);
          same_steps = IsPermutation-refl (steps_of_paths (ring ∷ other ∷ rings));
        },
      )
      go (inr more) (sorted, is) =
          let less : key other < key ring = strictly (key other) (key ring) more (λ e. differs (sym e)) in (
            other ∷ sorted,
            record {
              rising = (All-permutation (λ r. key other < key r) (ring ∷ rings) sorted is.same (All-cons (λ r. key other < key r) ring rings less up.0), is.rising);
              same =
                  IsPermutation-trans (ring ∷ other ∷ rings) (other ∷ ring ∷ rings) (other ∷ sorted) (IsPermutation-sym (other ∷ ring ∷ rings) (ring ∷ other ∷ rings) (IsPermutation-middle (other ∷ []) ring rings))
                  (IsPermutation-cons other (ring ∷ rings) sorted is.same);
              same_steps =
                  IsPermutation-trans (steps_of_paths (ring ∷ other ∷ rings)) (steps other ++ (steps ring ++ steps_of_paths rings)) (steps other ++ steps_of_paths sorted)
                  (exchanged (steps ring) (steps other) (steps_of_paths rings))
                  (IsPermutation-append (steps other) (steps other) (steps_of_paths (ring ∷ rings)) (steps_of_paths sorted) (IsPermutation-refl (steps other)) is.same_steps);
            },
          )
        where
          strictly : (m n : ℕ) → m ≤ n → (m ≡ n → ⊥) → m < n
          strictly m n low apart = elim (cases_lt m n) [ inl l ↦ l | inr l ↦ absurd (apart (omega arith)) ]

  pub sorted_exist : (rings : List Path) → Differing rings → (sorted : List Path) × IsSorted rings sorted
  sorted_exist [] h = ([], record { rising = tt; same = IsPermutation-refl []; same_steps = IsPermutation-refl [] })
  sorted_exist (ring ∷ rings) h =
      let (sorted, is) = sorted_exist rings h.1 in
      let (all, with_ring) = inserted ring sorted is.rising (All-permutation (λ r. key ring ≡ key r → ⊥) rings sorted is.same h.0) in (
        all,
        record {
          rising = with_ring.rising;
          same = IsPermutation-trans (ring ∷ rings) (ring ∷ sorted) all (IsPermutation-cons ring rings sorted is.same) with_ring.same;
          same_steps =
              IsPermutation-trans (steps_of_paths (ring ∷ rings)) (steps_of_paths (ring ∷ sorted)) (steps_of_paths all)
              (IsPermutation-append (steps ring) (steps ring) (steps_of_paths rings) (steps_of_paths sorted) (IsPermutation-refl (steps ring)) is.same_steps) with_ring.same_steps;
        },
      )

-- ---- the rings of a boundary

-- of the rings one turns left, all others right
pub record HasExterior (rings : List Path) : Type 0 where
  pub before : List Path
  pub exterior : Path
  pub after : List Path
  pub are : rings ≡ before ++ exterior ∷ after
  pub turns_left : pos 0 <ℤ turn_at_least exterior
  pub turn_right : All (λ hole. turn_at_least hole <ℤ pos 0) (before ++ after)

module _ (s : Drawing) (arr : IsArrangement (links_of s)) (distinct : IsDistinct (links_of s)) (left right : Segment → Bool) where
  abbrev S : List Segment
  S = links_of s

  abbrev arcs : List Path
  arcs = arcs_of s (links_of s)

  abbrev B : List Segment
  B = boundary_by left right (links_of s)

  abbrev Begun : Path → Type 0
  Begun ring = IsBegun s arr distinct left right ring

  abbrev Within : List Segment → Type 0
  Within ss = (t : Segment) → Contains ss t → Contains (boundary_by left right (links_of s)) t

  all_begun : (rings : List Path) → All IsRing rings → Within (steps_of_paths rings) → (others : List Path) × All Begun others × IsPermutation (steps_of_paths rings) (steps_of_paths others)
  all_begun [] h within = ([], All-nil Begun, IsPermutation-refl [])
  all_begun (ring ∷ rings) h within =
      let (other, is, same) = begun_ring s arr distinct left right ring (All-head IsRing ring rings h) (λ t c. within t (Contains-append_left (steps ring) (steps_of_paths rings) t c)) in
      let (others, are, same_rest) = all_begun rings (All-tail IsRing ring rings h) (λ t c. within t (Contains-append_right (steps ring) (steps_of_paths rings) t c)) in
      (other ∷ others, All-cons Begun other others is are, IsPermutation-append (steps ring) (steps other) (steps_of_paths rings) (steps_of_paths others) same same_rest)

  -- two rings don't begin with one arc: they would go along its first step both, the same way or each its own
  firsts_differ : (g h : Path) → Begun g → Begun h → Within (steps g) → Within (steps h) → ((t : Segment) → Contains (steps g) t → Contains (steps h) t → ⊥) → least_arc arcs g ≡ least_arc arcs h → ⊥
  firsts_differ g h is_g is_h in_g in_h apart e =
      go (first_of s arr distinct left right (least_arc arcs g)) is_g.has_first
      (subst (λ (n : ℕ). Contains (steps h) (first_of s arr distinct left right n) ⊎ Contains (steps h) (reversed (first_of s arr distinct left right n))) (sym e) is_h.has_first)
    where
      go : (t : Segment) → Contains (steps g) t ⊎ Contains (steps g) (reversed t) → Contains (steps h) t ⊎ Contains (steps h) (reversed t) → ⊥
      go t (inl c) (inl k) = apart t c k
      go t (inl c) (inr k) = boundary_one_way left right S arr distinct t (in_g t c) (in_h (reversed t) k)
      go t (inr c) (inl k) = boundary_one_way left right S arr distinct t (in_h t k) (in_g (reversed t) c)
      go t (inr c) (inr k) = apart (reversed t) c k

  all_differ : (rings : List Path) → All Begun rings → Within (steps_of_paths rings) → IsDistinct (steps_of_paths rings) → Differing (least_arc arcs) rings
  all_differ [] h within once = tt
  all_differ (ring ∷ rings) h within once =
      let (rest, apart) = distinct_joined (steps ring) (steps_of_paths rings) once in (
        All-weaker (Contains rings) (λ other. least_arc arcs ring ≡ least_arc arcs other → ⊥)
            (λ other c. firsts_differ ring other (All-head Begun ring rings h) (All-contains Begun rings other (All-tail Begun ring rings h) c) (λ t k. within t (Contains-append_left (steps ring) (steps_of_paths rings) t k))
            (λ t k. within t (Contains-append_right (steps ring) (steps_of_paths rings) t (Contains-flat_map steps rings other t c k))) (λ t k m. apart t k (Contains-flat_map steps rings other t c m)))
            rings (All-contains_itself rings),
        all_differ rings (All-tail Begun ring rings h) (λ t k. within t (Contains-append_right (steps ring) (steps_of_paths rings) t k)) rest,
      )

  -- whatever rings use the boundary once have an exterior
  pub polygon_fits : (rings : List Path) → UsesOnce (boundary_by left right (links_of s)) rings → All IsRing rings → ((others : List Path) → UsesOnce (boundary_by left right (links_of s)) others → All IsRing others → HasExterior others) →
      (polygon : Polygon) × FitsPart (arcs_of s (links_of s)) (boundary_by left right (links_of s)) polygon
  polygon_fits rings uses are_rings exterior_of =
      let (others, begun, same) = all_begun rings are_rings (λ t c. Contains-permutation (steps_of_paths rings) B t (IsPermutation-sym B (steps_of_paths rings) uses.steps_once) c) in
      let once : IsPermutation B (steps_of_paths others) = IsPermutation-trans B (steps_of_paths rings) (steps_of_paths others) uses.steps_once same in
      let rings_again : All IsRing others = All-weaker Begun IsRing (λ ring is. is.is_ring) others begun in
      let e = exterior_of others (record { closed = All-weaker IsRing IsClosed ring_closed others rings_again; steps_once = once }) rings_again in
      ordered others begun once e
    where
      ordered : (others : List Path) → All Begun others → IsPermutation B (steps_of_paths others) → HasExterior others → (polygon : Polygon) × FitsPart arcs B polygon
      ordered others begun once e =
          let all : All Begun (e.before ++ e.exterior ∷ e.after) = subst (All Begun) e.are begun in
          let first : Begun e.exterior = All-head Begun e.exterior e.after (all_right Begun e.before (e.exterior ∷ e.after) all) in
          let rest : All Begun (e.before ++ e.after) = All-append Begun e.before e.after (all_left Begun e.before (e.exterior ∷ e.after) all) (All-tail Begun e.exterior e.after (all_right Begun e.before (e.exterior ∷ e.after) all)) in
          let out : IsPermutation B (steps_of_paths (e.exterior ∷ (e.before ++ e.after))) =
          IsPermutation-trans B (steps_of_paths (e.before ++ e.exterior ∷ e.after)) (steps e.exterior ++ steps_of_paths (e.before ++ e.after)) (subst (λ (rs : List Path). IsPermutation B (steps_of_paths rs)) e.are once) (taken_out e.before e.exterior e.after) in
          let within : Within (steps_of_paths (e.exterior ∷ (e.before ++ e.after))) = (λ t c. Contains-permutation (steps_of_paths (e.exterior ∷ (e.before ++ e.after))) B t (IsPermutation-sym B (steps_of_paths (e.exterior ∷ (e.before ++ e.after))) out) c) in
          let differ = all_differ (e.exterior ∷ (e.before ++ e.after)) (All-cons Begun e.exterior (e.before ++ e.after) first rest) within (distinct_moved B (steps_of_paths (e.exterior ∷ (e.before ++ e.after))) out (boundary_distinct left right S arr distinct)) in
          let (holes, is) = sorted_exist (least_arc arcs) (e.before ++ e.after) differ.1 in
          let each : All Begun (e.exterior ∷ holes) = All-cons Begun e.exterior holes first (All-permutation Begun (e.before ++ e.after) holes is.same rest) in (
            e.exterior ∷ holes,
            record {
              uses = record {
                closed = All-weaker Begun IsClosed (λ ring b. ring_closed ring b.is_ring) (e.exterior ∷ holes) each;
                steps_once = IsPermutation-trans B (steps_of_paths (e.exterior ∷ (e.before ++ e.after))) (steps_of_paths (e.exterior ∷ holes)) out
                    (IsPermutation-append (steps e.exterior) (steps e.exterior) (steps_of_paths (e.before ++ e.after)) (steps_of_paths holes) (IsPermutation-refl (steps e.exterior)) is.same_steps);
              };
              simple = All-weaker Begun IsSimple (λ ring b. ring_is_simple ring b.is_ring) (e.exterior ∷ holes) each;
              order = (e.turns_left, All-permutation (λ hole. turn_at_least hole <ℤ pos 0) (e.before ++ e.after) holes is.same e.turn_right, rising_pairs (least_arc arcs) holes is.rising);
              begins = All-weaker Begun (BeginsAtLeastArc arcs) (λ ring b. b.begins) (e.exterior ∷ holes) each;
            },
          )
