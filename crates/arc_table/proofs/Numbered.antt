-- The numbers of arcs, from the order in which paths step along them.
use Rattle.std.proofs.Common.{◌≡◌, refl, sym, ap, ◌∙◌, subst, arith, ℕ, ◌+◌, ◌<◌, ◌≤◌, List, [], ◌∷◌, ◌++◌, map, take, length, get_or, All, Contains, Option, Some, None}
use Rattle.std.specs.List.{flat_map}
use Rattle.std.specs.List.Sorted.{IsPermutation}
use Rattle.std.proofs.lemmas.List.{append-nil, length-map, get_or-map, take_all}
use Rattle.std.proofs.lemmas.Option.{slice_get-get_or}
use Rattle.std.proofs.lemmas.List.Sorted.{Contains-permutation, IsPermutation-sym}
use Rattle.lists.specs.Lists.{joined_up}
use Rattle.lists.proofs.Ascending.{ascending-Contains}
use Rattle.lists.proofs.Members.{Contains-nil}
use Rattle.plane_model.specs.Points.{GridPoint, Segment, Path, link_between, link_before}
use Rattle.plane_model.specs.Drawing.{Drawing, steps, rings_of, paths_of}
use Rattle.plane_model.specs.Snapped.{links_of}
use Rattle.plane_model.proofs.PointOrder.{link_before-IsStrictOrder}
use Rattle.arc_table.specs.Steps.{AreLinks, AreOnward, AreSteps, IsPlace}
use Rattle.arc_table.specs.Numbering.{link_at, step_at, arc_points, IsWay}
use Rattle.plane_model.specs.Joined.{links_of_arc}
use Rattle.arc_table.specs.Order.{way_at, links_of_way, links_stepped, AreInOrder, AreNumbered, IsAfter, GoesAlong}
use Rattle.arc_table.specs.declared.half_links.Net.{Net}
use Rattle.arc_table.specs.declared.numbering.Way.{Way}
use Rattle.arc_table.specs.declared.numbering.Numbering.{Numbering}
use Rattle.arc_table.proofs.Along.{link_there, one_arc}
use Rattle.arc_table.proofs.Order.{along_none, along_both, along_lists, stepped_joined}

-- ---- lists of lists

pub joined_flat : (xs : List (List Path)) → flat_map (λ (feature : List Path). feature) xs ≡ joined_up xs
joined_flat [] = refl
joined_flat (x ∷ xs) = ap (λ (paths : List Path). x ++ paths) (joined_flat xs)

pub flat_ones : (xs : List Path) → flat_map (λ (path : Path). path ∷ []) xs ≡ xs
flat_ones [] = refl
flat_ones (x ∷ xs) = ap (λ (paths : List Path). x ∷ paths) (flat_ones xs)

pub stepped_one : (x : Path) → map link_between (steps x) ≡ links_stepped (x ∷ [])
stepped_one x = ap (map link_between) (sym (append-nil (steps x)))

all_stepped : (d : Drawing) → (links_stepped (flat_map rings_of d.polygons) ++ links_stepped (flat_map (λ (feature : List Path). feature) d.lines)) ++ links_stepped (flat_map (λ (path : Path). path ∷ []) d.boxes) ≡ links_stepped (paths_of d)
all_stepped d =
    let R = flat_map rings_of d.polygons in
    let L = joined_up d.lines in
    (λ i. (links_stepped R ++ links_stepped (joined_flat d.lines i)) ++ links_stepped (flat_ones d.boxes i))
    ∙ ap (λ (ls : List Segment). ls ++ links_stepped d.boxes) (sym (stepped_joined R L))
    ∙ sym (stepped_joined (R ++ L) d.boxes)

none_stepped : (path : Path) → map link_between (steps (take 1 path)) ≡ []
none_stepped [] = refl
none_stepped (p ∷ rest) = refl

pub missing_of : (steps : List Segment) (s : Segment) (place : Option ℕ) → IsPlace steps s place → ((h : ℕ) → place ≡ Some h → ⊥) → Contains steps s → ⊥
missing_of steps s None is other = is
missing_of steps s (Some h) is other = λ c. other h refl

module _ (net : Net) where
  -- before the first step of a path
  pub along_start : (numbering : Numbering) (path : Path) → GoesAlong net numbering numbering (map link_between (steps (take 1 path)))
  along_start numbering path = subst (GoesAlong net numbering numbering) (sym (none_stepped path)) (along_none net numbering)

  -- after its last
  pub along_whole : (a b : Numbering) (path : Path) (i : ℕ) → length path ≤ i → GoesAlong net a b (map link_between (steps (take i path))) → GoesAlong net a b (map link_between (steps path))
  along_whole a b path i l = subst (λ (ps : Path). GoesAlong net a b (map link_between (steps ps))) (take_all i path l)

  -- after one item more of a slice
  pub along_items : {A : Type 0} (g : A → List Path) (a b c : Numbering) (xs : List A) (i : ℕ) (x : A) (L : List Segment) → i < length xs → x ≡ get_or xs i x → L ≡ links_stepped (g x)
      → GoesAlong net a b (links_stepped (flat_map g (take i xs))) → GoesAlong net b c L → GoesAlong net a c (links_stepped (flat_map g (take (i + 1) xs)))
  along_items g a b c xs i x L l is = along_lists net g a b c xs i i x L (slice_get-get_or xs i x l ∙ ap Some (sym is)) refl

  -- after all of them
  pub along_all : {A : Type 0} (g : A → List Path) (a b : Numbering) (xs : List A) (i : ℕ) → length xs ≤ i → GoesAlong net a b (links_stepped (flat_map g (take i xs))) → GoesAlong net a b (links_stepped (flat_map g xs))
  along_all g a b xs i l = subst (λ ys. GoesAlong net a b (links_stepped (flat_map g ys))) (take_all i xs l)

  none_after : (numbering : Numbering) → numbering.ways.items ≡ [] → IsAfter net [] numbering
  none_after numbering e =
      let none : length numbering.ways.items ≡ 0 = ap (λ (ways : List Way). length ways) e in
      record {
        marked = λ h l c. absurd (Contains-nil (link_at net h) c);
        begun = λ n l. absurd (let f = none in omega arith);
        order = λ m n j p q r c. absurd (let f = none in omega arith);
      }

  -- all paths of the drawing have been stepped along
  pub after_all : (d : Drawing) (a b c e : Numbering) → a.ways.items ≡ []
      → GoesAlong net a b (links_stepped (flat_map rings_of d.polygons))
      → GoesAlong net b c (links_stepped (flat_map (λ (feature : List Path). feature) d.lines))
      → GoesAlong net c e (links_stepped (flat_map (λ (path : Path). path ∷ []) d.boxes))
      → IsAfter net (links_stepped (paths_of d)) e
  after_all d a b c e none p q r =
      let A = links_stepped (flat_map rings_of d.polygons) in
      let B = links_stepped (flat_map (λ (feature : List Path). feature) d.lines) in
      let C = links_stepped (flat_map (λ (path : Path). path ∷ []) d.boxes) in
      subst (λ (ls : List Segment). IsAfter net ls e) (all_stepped d) ((along_both net a c e (A ++ B) C (along_both net a b c A B p q) r).more [] (none_after a none))

  module _ (turns : List GridPoint) (on : AreOnward net.steps net.twins.items turns net.onward.items (length net.steps)) where
    -- each link of the table is stepped along
    pub covered : (d : Drawing) → AreLinks (links_of d) → AreSteps (links_of d) net.steps → (h : ℕ) → h < length net.steps → Contains (links_stepped (paths_of d)) (link_at net h)
    covered d links made h l = ascending-Contains link_before link_before-IsStrictOrder (links_stepped (paths_of d)) (link_at net h) (link_there net turns on (links_of d) links made h l)

    module _ (ways : List Way) (arcs : List Path) (are : All (IsWay net) ways) (is : arcs ≡ map (arc_points net) ways) where
      count : length arcs ≡ length ways
      count = ap (λ (paths : List Path). length paths) is ∙ length-map ways (arc_points net)

      same_links : (n : ℕ) → n < length ways → IsPermutation (links_of_way net ways n) (links_of_arc arcs n)
      same_links n l =
          let no_way : Way = record { start = 0; steps = 0 } in
          subst (λ (path : Path). IsPermutation (links_of_way net ways n) (map link_between (steps path)))
          (sym (ap (λ (paths : List Path). get_or paths n []) is ∙ get_or-map (arc_points net) ways n no_way [] l)) (one_arc net turns on (way_at ways n) (are n no_way l))

      pub numbered : (d : Drawing) → AreInOrder net (links_stepped (paths_of d)) ways → AreNumbered d arcs
      numbered d order = record {
        order = λ m n j p q r c.
            (let s = count in
            let o = order m n j p (omega arith) r
            (Contains-permutation (links_of_arc arcs n) (links_of_way net ways n) (step_at (links_stepped (paths_of d)) j) (IsPermutation-sym (links_of_way net ways n) (links_of_arc arcs n) (same_links n (omega arith))) c) in
            (o.0, o.1, Contains-permutation (links_of_way net ways m) (links_of_arc arcs m) (step_at (links_stepped (paths_of d)) o.0) (same_links m (omega arith)) o.2));
      }
