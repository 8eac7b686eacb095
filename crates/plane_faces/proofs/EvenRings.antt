-- An even list of links is, in some order, the links of rings; a balanced list of darts is the darts of rings.
use Rattle.std.proofs.Common.{◌≡◌, inl, inr, ℕ, suc, ◌+◌, refl, sym, ap, subst, ◌∙◌, arith, Bool, true, false, not, cond, List, [], ◌∷◌, ◌++◌}
use Rattle.std.specs.Prelude.{All, Contains}
use Rattle.std.specs.List.Sorted.{IsPermutation}
use Rattle.std.proofs.lemmas.List.Elements.{All-contains}
use Rattle.std.proofs.lemmas.List.Sorted.{All-permutation}
use Rattle.lists.specs.Lists.{last_of}
use Rattle.lists.proofs.Members.{Contains-head}
use Rattle.plane_parity.proofs.Cut.{xor-self}
use Rattle.plane_parity.proofs.Telescope.{odd_count-append, odd_count-ends, same_point-true, same_point-self}
use Rattle.plane_parity.proofs.ClosedRun.{run_ends}
use Rattle.plane_model.proofs.PointOrder.{before_to}
use Rattle.plane_model.specs.Points.{GridPoint, Segment, is_before, same_point, Path}
use Rattle.plane_model.specs.Parity.{xor, odd_count}
use Rattle.plane_model.specs.Arrangement.{IsBefore}
use Rattle.plane_model.specs.EvenList.{IsEven}
use Rattle.plane_model.specs.Rotation.{Dart, tail, head}
use Rattle.plane_faces.proofs.Runs.{between, links_from, links_of_runs, dart_between, darts_of_runs, darts_from}
use Rattle.plane_faces.specs.Rings.{links_of_path, IsRing, darts_of_path}
use Rattle.plane_faces.proofs.Lists.{find, count, count_append, count-permutation, count_none, odd_count-permutation, odd_of_none, all_right}
use Rattle.plane_faces.proofs.Order.{before_not_back, before_not_itself}
use Rattle.plane_faces.proofs.Tracing.{Traces, rings, edges_from, edges_of, edges_of_all}

ordered_apart : (r q : GridPoint) → IsBefore r q → (r ≡ q → ⊥) × (q ≡ r → ⊥)
ordered_apart r q h = (λ e. before_not_itself q (subst (λ (p : GridPoint). IsBefore p q) e h), λ e. before_not_itself q (subst (λ (p : GridPoint). IsBefore p q) (sym e) h))

same_point-other : (p q : GridPoint) → (q ≡ p → ⊥) → same_point p q ≡ false
same_point-other p q n = go (same_point p q) refl
  where
    go : (b : Bool) → same_point p q ≡ b → b ≡ false
    go true e = absurd (n (same_point-true p q e))
    go false e = refl

-- ---- links

abbrev link : GridPoint → GridPoint → Segment
link p q = record { start = p; stop = q }

between_on : (p q : GridPoint) → IsBefore p q → between p q ≡ link p q
between_on p q h = ap (λ (b : Bool). cond b (link p q) (link q p)) (before_to p q h)

between_back : (p q : GridPoint) → IsBefore p q → between q p ≡ link p q
between_back p q h = ap (λ (b : Bool). cond b (link q p) (link p q)) (before_not_back p q h)

abbrev Ordered : Segment → Type 0
Ordered l = IsBefore l.start l.stop

abbrev EvenLinks : List Segment → Type 0
EvenLinks L = IsEven L × All Ordered L

ends_at : GridPoint → Segment → Bool
ends_at p l = xor (same_point p l.start) (same_point p l.stop)

even_at : (L : List Segment) → IsEven L → (p : GridPoint) → odd_count (ends_at p) L ≡ false
unfolding ends_at
even_at L h p = odd_count-ends (same_point p) L ∙ h p

from_even_at : (L : List Segment) → ((p : GridPoint) → odd_count (ends_at p) L ≡ false) → IsEven L
unfolding ends_at
from_even_at L h p = sym (odd_count-ends (same_point p) L) ∙ h p

run_at : (p q : GridPoint) (run : List GridPoint) → odd_count (ends_at p) (edges_from between q run) ≡ xor (same_point p q) (same_point p (last_of q run))
unfolding ends_at
run_at p q run = ap (odd_count (ends_at p)) (same q run) ∙ odd_count-ends (same_point p) (links_from q run) ∙ run_ends (same_point p) q run
  where
    same : (q : GridPoint) (run : List GridPoint) → edges_from between q run ≡ links_from q run
    same q [] = refl
    same q (r ∷ run) = ap (λ (ls : List Segment). between q r ∷ ls) (same r run)

link_traces : Traces between EvenLinks
unfolding ends_at
link_traces = record {
  shuffled = λ L M h b. (from_even_at M (λ p. sym (odd_count-permutation (ends_at p) L M h) ∙ even_at L b.0 p), All-permutation Ordered L M h b.1);
  ends = λ x M b.
      let o : Ordered x = All-contains Ordered (x ∷ M) x b.1 (Contains-head x M) in
      (x.start, x.stop, sym (between_on x.start x.stop o), (ordered_apart x.start x.stop o).0);
  more = λ q run M open' b. more q run M open' b.0 (all_right Ordered (edges_from between q run) M b.1);
  rest = λ p run M h b. (
    from_even_at M (λ r.
        ap (λ (x : Bool). xor x (odd_count (ends_at r) M)) (sym (closed r p run h))
        ∙ sym (odd_count-append (ends_at r) (edges_from between p run) M)
        ∙ even_at (edges_from between p run ++ M) b.0 r),
    all_right Ordered (edges_from between p run) M b.1,
  );
}
  where
    closed : (r p : GridPoint) (run : List GridPoint) → last_of p run ≡ p → odd_count (ends_at r) (edges_from between p run) ≡ false
    closed r p run h = run_at r p run ∙ ap (λ (q : GridPoint). xor (same_point r p) (same_point r q)) h ∙ xor-self (same_point r p)

    of_xor : (a b : Bool) → xor a b ≡ false → a ≡ true → b ≡ true
    of_xor true true e f = refl
    of_xor true false e f = sym e
    of_xor false b e f = let g : false ≡ true = f in absurd (cc)

    none : (t : Segment → Bool) (M : List Segment) → ((k : Segment) → Contains M k → t k ≡ false) → odd_count t M ≡ true → ⊥
    none t M h e = let f : true ≡ false = sym e ∙ odd_of_none t M (count_none t M h) in absurd (cc)

    more : (q : GridPoint) (run : List GridPoint) (M : List Segment) → (last_of q run ≡ q → ⊥) → IsEven (edges_from between q run ++ M) → All Ordered M → (r : GridPoint) × Contains M (between r q) × (r ≡ q → ⊥)
    more q run M open' even ordered = elim (find (ends_at q) M) [
      | inl f ↦ at f.0 f.1 (same_point q f.0.start) refl (same_point q f.0.stop) refl f.2 (All-contains Ordered M f.0 ordered f.1)
      | inr n ↦ absurd (none (ends_at q) M n odd)
    ]
      where
        odd : odd_count (ends_at q) M ≡ true
        odd = of_xor (odd_count (ends_at q) (edges_from between q run)) (odd_count (ends_at q) M)
            (sym (odd_count-append (ends_at q) (edges_from between q run) M) ∙ even_at (edges_from between q run ++ M) even q)
            (run_at q q run ∙ ap (λ (b : Bool). xor b (same_point q (last_of q run))) (same_point-self q) ∙ ap not (same_point-other q (last_of q run) open'))

        at : (k : Segment) → Contains M k → (a : Bool) → same_point q k.start ≡ a → (b : Bool) → same_point q k.stop ≡ b → xor (same_point q k.start) (same_point q k.stop) ≡ true → Ordered k → (r : GridPoint) × Contains M (between r q) × (r ≡ q → ⊥)
        at k c true e b f h o =
            let s : k.start ≡ q = same_point-true q k.start e in
            (k.stop, subst (Contains M) (sym (between_back k.start k.stop o) ∙ ap (between k.stop) s) c, λ i. (ordered_apart k.start k.stop o).1 (i ∙ sym s))
        at k c false e true f h o =
            let s : k.stop ≡ q = same_point-true q k.stop f in
            (k.start, subst (Contains M) (sym (between_on k.start k.stop o) ∙ ap (between k.start) s) c, λ i. (ordered_apart k.start k.stop o).0 (i ∙ sym s))
        at k c false e false f h o = let g : false ≡ true = sym (ap (λ (x : Bool). xor x (same_point q k.stop)) e ∙ f) ∙ h in absurd (cc)

links_of_all : (runs : List Path) → edges_of_all between runs ≡ links_of_runs runs
links_of_all [] = refl
links_of_all (run ∷ runs) = ap (λ (ls : List Segment). ls ++ edges_of_all between runs) (one run) ∙ ap (λ (ls : List Segment). links_of_path run ++ ls) (links_of_all runs)
  where
    from : (p : GridPoint) (run : List GridPoint) → edges_from between p run ≡ links_from p run
    from p [] = refl
    from p (q ∷ run) = ap (λ (ls : List Segment). between p q ∷ ls) (from q run)

    one : (run : List GridPoint) → edges_of between run ≡ links_of_path run
    one [] = refl
    one (p ∷ run) = from p run

pub rings_of_even : (L : List Segment) → All (λ l. IsBefore l.start l.stop) L → IsEven L → (runs : List Path) × All IsRing runs × IsPermutation (links_of_runs runs) L
rings_of_even L ordered even =
    let r = rings between EvenLinks link_traces L (even, ordered) in
    (r.0, r.1, subst (λ (ls : List Segment). IsPermutation ls L) (links_of_all r.0) r.2)

-- ---- darts

pub between_tail : (p q : GridPoint) → tail (dart_between p q) ≡ p
between_tail p q = go (is_before p q)
  where
    go : (b : Bool) → tail (record { link = cond b (link p q) (link q p); forward = b }) ≡ p
    go true = refl
    go false = refl

pub between_head : (p q : GridPoint) → head (dart_between p q) ≡ q
between_head p q = go (is_before p q)
  where
    go : (b : Bool) → head (record { link = cond b (link p q) (link q p); forward = b }) ≡ q
    go true = refl
    go false = refl

-- a dart is the one between its ends
pub dart_is_between : (d : Dart) → IsBefore d.link.start d.link.stop → dart_between (tail d) (head d) ≡ d
dart_is_between d o = go d.link d.forward o
  where
    go : (l : Segment) (f : Bool) → IsBefore l.start l.stop → dart_between (tail (record { link = l; forward = f })) (head (record { link = l; forward = f })) ≡ record { link = l; forward = f }
    go l true o = ap (λ (b : Bool). record { link = cond b (link l.start l.stop) (link l.stop l.start); forward = b }) (before_to l.start l.stop o)
    go l false o = ap (λ (b : Bool). record { link = cond b (link l.stop l.start) (link l.start l.stop); forward = b }) (before_not_back l.start l.stop o)

dart_apart : (d : Dart) → IsBefore d.link.start d.link.stop → tail d ≡ head d → ⊥
dart_apart d o = go d.link d.forward o
  where
    go : (l : Segment) (f : Bool) → IsBefore l.start l.stop → tail (record { link = l; forward = f }) ≡ head (record { link = l; forward = f }) → ⊥
    go l true o e = (ordered_apart l.start l.stop o).0 e
    go l false o e = (ordered_apart l.start l.stop o).1 e

abbrev leaves : GridPoint → Dart → Bool
leaves p d = same_point p (tail d)

abbrev arrives : GridPoint → Dart → Bool
arrives p d = same_point p (head d)

abbrev pub IsBalanced : List Dart → Type 0
IsBalanced D = (p : GridPoint) → count (leaves p) D ≡ count (arrives p) D

abbrev OrderedDart : Dart → Type 0
OrderedDart d = IsBefore d.link.start d.link.stop

abbrev BalancedDarts : List Dart → Type 0
BalancedDarts D = IsBalanced D × All OrderedDart D

abbrev one : Bool → ℕ
one b = cond b 1 0

run_counts : (p q : GridPoint) (run : List GridPoint) → count (leaves p) (edges_from dart_between q run) + one (same_point p (last_of q run)) ≡ count (arrives p) (edges_from dart_between q run) + one (same_point p q)
unfolding count
run_counts p q [] = refl
run_counts p q (r ∷ run) =
    let h : count (leaves p) (edges_from dart_between r run) + one (same_point p (last_of r run)) ≡ count (arrives p) (edges_from dart_between r run) + one (same_point p r) = run_counts p r run in
    go (same_point p q) (leaves p (dart_between q r)) (ap (same_point p) (between_tail q r)) (same_point p r) (arrives p (dart_between q r)) (ap (same_point p) (between_head q r)) h
  where
    a : ℕ
    a = count (leaves p) (edges_from dart_between r run)

    b : ℕ
    b = count (arrives p) (edges_from dart_between r run)

    go : (s t : Bool) → t ≡ s → (u v : Bool) → v ≡ u → a + one (same_point p (last_of r run)) ≡ b + one u → cond t (suc a) a + one (same_point p (last_of r run)) ≡ cond v (suc b) b + one s
    go true true e true true f h = omega arith
    go true true e false false f h = omega arith
    go false false e true true f h = omega arith
    go false false e false false f h = omega arith
    go true false e u v f h = let i : false ≡ true = e in absurd (cc)
    go false true e u v f h = let i : true ≡ false = e in absurd (cc)
    go s t e true false f h = let i : false ≡ true = f in absurd (cc)
    go s t e false true f h = let i : true ≡ false = f in absurd (cc)

dart_traces : Traces dart_between BalancedDarts
dart_traces = record {
  shuffled = λ L M h b. (λ p. sym (count-permutation (leaves p) L M h) ∙ b.0 p ∙ count-permutation (arrives p) L M h, All-permutation OrderedDart L M h b.1);
  ends = λ x M b.
      let o : OrderedDart x = All-contains OrderedDart (x ∷ M) x b.1 (Contains-head x M) in
      (tail x, head x, sym (dart_is_between x o), dart_apart x o);
  more = λ q run M open' b. more q run M open' b.0 (all_right OrderedDart (edges_from dart_between q run) M b.1);
  rest = λ p run M h b. (
    λ r.
        let a = count_append (leaves r) (edges_from dart_between p run) M in
        let c = count_append (arrives r) (edges_from dart_between p run) M in
        let e = b.0 r in
        let k = run_counts r p run in
        let l : one (same_point r (last_of p run)) ≡ one (same_point r p) = ap (λ (q : GridPoint). one (same_point r q)) h in
        omega (arith, a, c, e, k, l),
    all_right OrderedDart (edges_from dart_between p run) M b.1,
  );
}
  where
    more : (q : GridPoint) (run : List GridPoint) (M : List Dart) → (last_of q run ≡ q → ⊥) → IsBalanced (edges_from dart_between q run ++ M) → All OrderedDart M → (r : GridPoint) × Contains M (dart_between r q) × (r ≡ q → ⊥)
    more q run M open' balanced ordered = elim (find (arrives q) M) [
      | inl f ↦
          let s : head f.0 ≡ q = same_point-true q (head f.0) f.2 in
          let o : OrderedDart f.0 = All-contains OrderedDart M f.0 ordered f.1 in
          (tail f.0, subst (Contains M) (sym (dart_is_between f.0 o) ∙ ap (dart_between (tail f.0)) s) f.1, λ i. dart_apart f.0 o (i ∙ sym s))
      | inr n ↦ absurd (clash (count_none (arrives q) M n))
    ]
      where
        clash : count (arrives q) M ≡ 0 → ⊥
        clash z =
            let a = count_append (leaves q) (edges_from dart_between q run) M in
            let c = count_append (arrives q) (edges_from dart_between q run) M in
            let e = balanced q in
            let k = run_counts q q run in
            let l : one (same_point q (last_of q run)) ≡ 0 = ap one (same_point-other q (last_of q run) open') in
            let m : one (same_point q q) ≡ 1 = ap one (same_point-self q) in
            omega (arith, a, c, e, k, l, m, z)

darts_of_all : (runs : List Path) → edges_of_all dart_between runs ≡ darts_of_runs runs
darts_of_all [] = refl
darts_of_all (run ∷ runs) = ap (λ (ds : List Dart). ds ++ edges_of_all dart_between runs) (one' run) ∙ ap (λ (ds : List Dart). darts_of_path run ++ ds) (darts_of_all runs)
  where
    from : (p : GridPoint) (run : List GridPoint) → edges_from dart_between p run ≡ darts_from p run
    from p [] = refl
    from p (q ∷ run) = ap (λ (ds : List Dart). dart_between p q ∷ ds) (from q run)

    one' : (run : List GridPoint) → edges_of dart_between run ≡ darts_of_path run
    one' [] = refl
    one' (p ∷ run) = from p run

pub rings_of_balanced : (D : List Dart) → All (λ d. IsBefore d.link.start d.link.stop) D → IsBalanced D → (runs : List Path) × All IsRing runs × IsPermutation (darts_of_runs runs) D
rings_of_balanced D ordered balanced =
    let r = rings dart_between BalancedDarts dart_traces D (balanced, ordered) in
    (r.0, r.1, subst (λ (ds : List Dart). IsPermutation ds D) (darts_of_all r.0) r.2)
