-- Commands on lines and points make the same of the same answers, and what they make goes along links.
use Rattle.std.proofs.Common.{◌≡◌, refl, sym, ap, subst, Bool, true, false, not, ◌||◌, List, [], ◌∷◌, filter}
use Rattle.std.specs.Prelude.{if◌then◌else◌}
use Rattle.std.proofs.Math.Path.{fun_ext}
use Rattle.lists.specs.Lists.{numbers_where}
use Rattle.plane_model.specs.Points.{GridPoint, Path, Segment}
use Rattle.region_model.specs.Region.{Region}
use Rattle.region_model.specs.Answers.{Answers, Plane}
use Rattle.region_model.specs.LineCommands.{SidedArc, arc_points, arcs_used, clipped_path, clipped_points, differs, dissolved_paths, erased_path, erased_points, first_passes, holders_left, holders_right, inner_lines, is_inner, is_inside, on_left, on_right, outer_and_inner, put_step, runs_where, side_of_first, sided_arcs}
use Rattle.region_model.specs.PlaceCommands.{around_points, has_inside, points_inside}
use Rattle.outcome_laws.specs.Laws.{IsAlong}
use Rattle.outcome_laws.proofs.Every.{Every, SameAt, every_all, every_by, every_filter, every_map, every_place, same_any, same_filter, same_map, same_numbers}
use Rattle.outcome_laws.proofs.ArcSteps.{Goes, from_to}
use Rattle.outcome_laws.proofs.Planes.{IsVertex, IsWalked}
use Rattle.outcome_laws.proofs.Alike.{AreAlike, right_alike}

-- ## The steps of a path that pass

module _ (S : List Segment) (f g : Segment → Bool) (same : (s : Segment) → IsAlong S s → f s ≡ g s) where
  passes_same : (path : Path) → Goes S path → first_passes f path ≡ first_passes g path
  passes_same [] h = refl
  passes_same (p ∷ []) h = refl
  passes_same (p ∷ q ∷ rest) h = same (from_to p q) h.0

  runs_same : (path : Path) → Goes S path → runs_where f path ≡ runs_where g path
  runs_same [] h = refl
  runs_same (p ∷ []) h = refl
  runs_same (p ∷ q ∷ rest) h = λ i. if same (from_to p q) h.0 i then put_step (passes_same (q ∷ rest) h.1 i) p q (runs_same (q ∷ rest) h.1 i) else runs_same (q ∷ rest) h.1 i

module _ (S : List Segment) (test : Segment → Bool) where
  -- runs of which the first begins at q
  record FirstBegins (q : GridPoint) (runs : List Path) : Type 0 where
    run : Path
    more : List Path
    is : runs ≡ (q ∷ run) ∷ more

  begins : (q : GridPoint) (rest : Path) → first_passes test (q ∷ rest) ≡ true → FirstBegins q (runs_where test (q ∷ rest))
  begins q [] e = absurd (let f : false ≡ true = e in cc)
  begins q (r ∷ rest) e = subst (λ (b : Bool). FirstBegins q (if b then put_step (first_passes test (r ∷ rest)) q r (runs_where test (r ∷ rest)) else runs_where test (r ∷ rest))) (sym e) (go (first_passes test (r ∷ rest)) (runs_where test (r ∷ rest)))
    where
      go : (b : Bool) (runs : List Path) → FirstBegins q (put_step b q r runs)
      go true [] = record { run = r ∷ []; more = []; is = refl }
      go true (run ∷ runs) = record { run = run; more = runs; is = refl }
      go false runs = record { run = r ∷ []; more = runs; is = refl }

  runs_go : (path : Path) → Goes S path → Every (Goes S) (runs_where test path)
  runs_go [] h = tt
  runs_go (p ∷ []) h = tt
  runs_go (p ∷ q ∷ rest) h = go (test (from_to p q)) (first_passes test (q ∷ rest)) refl (runs_go (q ∷ rest) h.1)
    where
      go : (a b : Bool) → first_passes test (q ∷ rest) ≡ b → Every (Goes S) (runs_where test (q ∷ rest)) → Every (Goes S) (if a then put_step b p q (runs_where test (q ∷ rest)) else runs_where test (q ∷ rest))
      go false b e later = later
      go true false e later = ((h.0, tt), later)
      go true true e later =
          let first : FirstBegins q (runs_where test (q ∷ rest)) = begins q rest e in
          let both : Every (Goes S) ((q ∷ first.run) ∷ first.more) = subst (Every (Goes S)) first.is later in
          subst (λ (runs : List Path). Every (Goes S) (put_step true p q runs)) (sym first.is) ((h.0, both.0), both.1)

-- ## What is made goes along links

module _ (P : Plane) where
  pub clipped_goes : (A : Answers) (source : Region) (path : Path) → Goes P.links path → Every (Goes P.links) (clipped_path A source path)
  clipped_goes A source path h = runs_go P.links (is_inside A source) path h

  pub erased_goes : (A : Answers) (source : Region) (path : Path) → Goes P.links path → Every (Goes P.links) (erased_path A source path)
  erased_goes A source path h = runs_go P.links (λ (s : Segment). not (is_inside A source s)) path h

  module _ (walked : IsWalked P) where
    pub dissolved_go : (paths : List Path) → Every (Goes P.links) (dissolved_paths P paths)
    dissolved_go paths = every_map (λ n. Unit {0}) (Goes P.links) (arc_points P) (λ n u. every_place (Goes P.links) [] tt P.arcs walked.arcs n) (arcs_used P paths) (every_all (λ n. Unit {0}) (λ n. tt) (arcs_used P paths))

    sided_go : (A : Answers) (rs : List Region) → Every (λ a. Goes P.links a.points) (sided_arcs P A rs)
    sided_go A rs = every_map (Goes P.links) (λ (a : SidedArc). Goes P.links a.points) (λ (arc : Path). record { points = arc; left = holders_left A rs arc; right = holders_right A rs arc }) (λ arc h. h) P.arcs walked.arcs

    pub outer_go : (A : Answers) (rs : List Region) → Every (λ a. Goes P.links a.points) (outer_and_inner P A rs)
    outer_go A rs = every_filter (λ (a : SidedArc). Goes P.links a.points) differs (sided_arcs P A rs) (sided_go A rs)

    pub inner_go : (A : Answers) (rs : List Region) → Every (Goes P.links) (inner_lines P A rs)
    inner_go A rs = every_map (λ (a : SidedArc). Goes P.links a.points) (Goes P.links) (λ (a : SidedArc). a.points) (λ a h. h) (filter is_inner (sided_arcs P A rs))
        (every_filter (λ (a : SidedArc). Goes P.links a.points) is_inner (sided_arcs P A rs) (sided_go A rs))

-- ## The same is made

module _ (P : Plane) (A B : Answers) (alike : AreAlike P A B) where
  inside_same : (source : Region) (s : Segment) → IsAlong P.links s → is_inside A source s ≡ is_inside B source s
  inside_same source s a = λ i. alike.left source s a i || right_alike P A B alike source s a i

  pub clipped_same : (source : Region) (path : Path) → Goes P.links path → clipped_path A source path ≡ clipped_path B source path
  clipped_same source path h = runs_same P.links (is_inside A source) (is_inside B source) (inside_same source) path h

  pub erased_same : (source : Region) (path : Path) → Goes P.links path → erased_path A source path ≡ erased_path B source path
  erased_same source path h = runs_same P.links (λ (s : Segment). not (is_inside A source s)) (λ (s : Segment). not (is_inside B source s)) (λ s a. ap not (inside_same source s a)) path h

  pub clipped_points_same : (source : Region) (ps : List GridPoint) → Every (IsVertex P) ps → clipped_points A source ps ≡ clipped_points B source ps
  clipped_points_same source ps h = same_filter (A.inside source) (B.inside source) ps (every_by (IsVertex P) (SameAt (A.inside source) (B.inside source)) (alike.inside source) ps h)

  pub erased_points_same : (source : Region) (ps : List GridPoint) → Every (IsVertex P) ps → erased_points A source ps ≡ erased_points B source ps
  erased_points_same source ps h = same_filter (λ (p : GridPoint). not (A.inside source p)) (λ (p : GridPoint). not (B.inside source p)) ps
      (every_by (IsVertex P) (SameAt (λ (p : GridPoint). not (A.inside source p)) (λ (p : GridPoint). not (B.inside source p))) (λ p c. ap not (alike.inside source p c)) ps h)

  -- the side of an arc is that of its first step
  first_same : (f g : Segment → Bool) → ((s : Segment) → IsAlong P.links s → f s ≡ g s) → (arc : Path) → Goes P.links arc → side_of_first f arc ≡ side_of_first g arc
  first_same f g same [] h = refl
  first_same f g same (p ∷ []) h = refl
  first_same f g same (p ∷ q ∷ rest) h = same (from_to p q) h.0

  pub sided_same : IsWalked P → (rs : List Region) → sided_arcs P A rs ≡ sided_arcs P B rs
  sided_same walked rs = same_map (side A) (side B) P.arcs (every_by (Goes P.links) (SameAt (side A) (side B)) one P.arcs walked.arcs)
    where
      side : Answers → Path → SidedArc
      side C arc = record { points = arc; left = holders_left C rs arc; right = holders_right C rs arc }

      one : (arc : Path) → Goes P.links arc → side A arc ≡ side B arc
      one arc h =
          let left : (λ (r : Region). side_of_first (on_left A r) arc) ≡ (λ (r : Region). side_of_first (on_left B r) arc) = fun_ext (λ r. first_same (on_left A r) (on_left B r) (alike.left r) arc h) in
          let right : (λ (r : Region). side_of_first (on_right A r) arc) ≡ (λ (r : Region). side_of_first (on_right B r) arc) = fun_ext (λ r. first_same (on_right A r) (on_right B r) (right_alike P A B alike r) arc h) in
          λ i. record { points = arc; left = numbers_where (left i) rs; right = numbers_where (right i) rs }

  -- ## Places

  has_same : (r : Region) (ps : List GridPoint) → Every (IsVertex P) ps → has_inside A r ps ≡ has_inside B r ps
  has_same r ps h = same_any (A.inside r) (B.inside r) ps (every_by (IsVertex P) (SameAt (A.inside r) (B.inside r)) (alike.inside r) ps h)

  pub around_same : (rs : List Region) (ps : List GridPoint) → Every (IsVertex P) ps → around_points A rs ps ≡ around_points B rs ps
  around_same rs ps h = ap (λ (test : Region → Bool). numbers_where test rs) (fun_ext (λ r. has_same r ps h))

  pub lists_same : (lists : List (List GridPoint)) (r : Region) → Every (Every (IsVertex P)) lists → points_inside A lists r ≡ points_inside B lists r
  lists_same lists r h = same_numbers (has_inside A r) (has_inside B r) 0 lists (every_by (Every (IsVertex P)) (SameAt (has_inside A r) (has_inside B r)) (has_same r) lists h)
