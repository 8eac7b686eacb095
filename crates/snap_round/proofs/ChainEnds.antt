-- The chain of a segment between hot points goes from its start to its stop, and the chains of a path join.
use Rattle.std.proofs.Common.{◌≡◌, refl, sym, ap, ◌∙◌, subst, arith, ℕ, ◌+◌, ◌-◌, ◌<◌, ◌≤◌, Bool, true, List, [], ◌∷◌, ◌++◌, length, get_or, take, drop, filter, Contains, append_assoc, cond}
use Rattle.std.proofs.Math.Seq.{take-length}
use Rattle.std.specs.List.{flat_map}
use Rattle.std.proofs.lemmas.List.{at_drop_more, at_drop_all, append-nil}
use Rattle.lists.specs.Lists.{drop_repeats, last_of}
use Rattle.lists.proofs.Members.{Contains-head, Contains-later, Contains-filter, filter-Contains}
use Rattle.lists.proofs.Ascending.{IsAscending, ascending-IsAscending, ascending-Contains, Contains-ascending, first_of_ascending, last_of_ascending}
use Rattle.plane_model.specs.Points.{GridPoint, Path, Segment, same_point}
use Rattle.plane_model.specs.Pixel.{Meets, meets}
use Rattle.plane_model.specs.Drawing.{steps}
use Rattle.plane_model.specs.Hot.{chain_among, is_passed_before}
use Rattle.plane_model.specs.Joined.{IsClosed}
use Rattle.plane_model.specs.Snapped.{joined_chains}
use Rattle.plane_model.proofs.PointOrder.{same_point_to}
use Rattle.plane_snapping.proofs.MeetsComputed.{meets_is_computed}
use Rattle.plane_snapping.proofs.Passing.{meets_start, meets_stop, start_is_first, stop_is_last, passed-IsStrictOrder}
use Rattle.plane_snapping.proofs.Steps.{last_of-append}
use Rattle.grid_base.specs.Drawn.{without_repeats}
use Rattle.snap_round.specs.Joining.{steps_after, chain_after, IsHotPath, AreChainsOf}

record Ends (hot : List GridPoint) (s : Segment) : Type 0 where
  rest : Path
  starts : chain_among hot s ≡ s.start ∷ rest
  stops : last_of s.start rest ≡ s.stop

chain_ends : (hot : List GridPoint) (s : Segment) → Contains hot s.start → Contains hot s.stop → Ends hot s
chain_ends hot s from to =
    let strict = passed-IsStrictOrder s in
    let met : List GridPoint = filter (meets s) hot in
    let up = ascending-IsAscending (is_passed_before s) strict met in
    let is_met : (g : GridPoint) → Contains (chain_among hot s) g → Meets s g = λ g c. (meets_is_computed s g).0 (filter-Contains (meets s) hot g (ascending-Contains (is_passed_before s) strict met g c)).1 in
    let starts = Contains-ascending (is_passed_before s) strict met s.start (Contains-filter (meets s) hot s.start from ((meets_is_computed s s.start).1 (meets_start s))) in
    let stops = Contains-ascending (is_passed_before s) strict met s.stop (Contains-filter (meets s) hot s.stop to ((meets_is_computed s s.stop).1 (meets_stop s))) in
    let f = first_of_ascending (is_passed_before s) (chain_among hot s) s.start up starts (λ g c. start_is_first s g (is_met g c)) in
    let l = last_of_ascending (is_passed_before s) s.start (chain_among hot s) s.stop up stops (λ g c. stop_is_last s g (is_met g c)) in
    record { rest = f.0; starts = f.1; stops = sym (ap (last_of s.start) f.1) ∙ l }

steps_are : (p : GridPoint) (run : Path) → steps_after p run ≡ steps (p ∷ run)
steps_are p [] = refl
steps_are p (q ∷ run) = ap (λ (t : List Segment). record { start = p; stop = q } ∷ t) (steps_are q run)

-- the points after the first of a chain
after_start : (hot : List GridPoint) (s : Segment) (e : Ends hot s) → chain_after hot s ≡ e.rest
after_start hot s e = ap (drop 1) e.starts

-- the chains of the steps after p end where the path ends
joined_last : (hot : List GridPoint) (p : GridPoint) (run : Path) → ((q : GridPoint) → Contains (p ∷ run) q → Contains hot q) → last_of p (flat_map (chain_after hot) (steps_after p run)) ≡ last_of p run
joined_last hot p [] h = refl
joined_last hot p (q ∷ run) h =
    let s : Segment = record { start = p; stop = q } in
    let K = flat_map (chain_after hot) (steps_after q run) in
    let e = chain_ends hot s (h p (Contains-head p (q ∷ run))) (h q (Contains-later p (q ∷ run) q (Contains-head q run))) in
    ap (λ (c : Path). last_of p (c ++ K)) (after_start hot s e)
    ∙ last_of-append p e.rest K
    ∙ ap (λ (z : GridPoint). last_of z K) e.stops
    ∙ joined_last hot q run (λ r c. h r (Contains-later p (q ∷ run) r c))

drop_same : (p : GridPoint) (xs : Path) → drop_repeats same_point (p ∷ p ∷ xs) ≡ drop_repeats same_point (p ∷ xs)
drop_same p xs = ap (λ (b : Bool). cond b (drop_repeats same_point (p ∷ xs)) (p ∷ drop_repeats same_point (p ∷ xs))) (same_point_to p p refl)

joined_snaps : (hot : List GridPoint) (p : GridPoint) (run : Path) → ((q : GridPoint) → Contains (p ∷ run) q → Contains hot q) → without_repeats (p ∷ flat_map (chain_among hot) (steps_after p run)) ≡ joined_chains hot (p ∷ run)
joined_snaps hot p [] h = refl
joined_snaps hot p (q ∷ run) h =
    let s : Segment = record { start = p; stop = q } in
    let J = flat_map (chain_among hot) (steps_after q run) in
    let e = chain_ends hot s (h p (Contains-head p (q ∷ run))) (h q (Contains-later p (q ∷ run) q (Contains-head q run))) in
    ap (λ (c : Path). without_repeats (p ∷ c ++ J)) e.starts
    ∙ drop_same p (e.rest ++ J)
    ∙ sym (ap (λ (c : Path). without_repeats (c ++ J)) e.starts)
    ∙ ap (λ (ts : List Segment). without_repeats (flat_map (chain_among hot) ts)) (steps_are p (q ∷ run))

-- paths that go on alike, after the same points
same_after : (x : GridPoint) (xs ys zs : Path) → without_repeats (last_of x xs ∷ ys) ≡ without_repeats (last_of x xs ∷ zs) → without_repeats (x ∷ xs ++ ys) ≡ without_repeats (x ∷ xs ++ zs)
same_after x [] ys zs h = h
same_after x (y ∷ xs) ys zs h = ap (λ (t : Path). cond (same_point x y) t (x ∷ t)) (same_after y xs ys zs h)

-- a chain's first point is where the one before ends
starts_once : (hot : List GridPoint) (p : GridPoint) (run : Path) → ((q : GridPoint) → Contains (p ∷ run) q → Contains hot q) → without_repeats (p ∷ flat_map (chain_after hot) (steps_after p run)) ≡ without_repeats (p ∷ flat_map (chain_among hot) (steps_after p run))
starts_once hot p [] h = refl
starts_once hot p (q ∷ run) h =
    let s : Segment = record { start = p; stop = q } in
    let J = flat_map (chain_among hot) (steps_after q run) in
    let K = flat_map (chain_after hot) (steps_after q run) in
    let e = chain_ends hot s (h p (Contains-head p (q ∷ run))) (h q (Contains-later p (q ∷ run) q (Contains-head q run))) in
    let more = starts_once hot q run (λ r c. h r (Contains-later p (q ∷ run) r c)) in
    ap (λ (c : Path). without_repeats (p ∷ c ++ K)) (after_start hot s e)
    ∙ same_after p e.rest K J (subst (λ (z : GridPoint). without_repeats (z ∷ K) ≡ without_repeats (z ∷ J)) (sym e.stops) more)
    ∙ sym (drop_same p (e.rest ++ J))
    ∙ sym (ap (λ (c : Path). without_repeats (p ∷ c ++ J)) e.starts)

pub chains_of_path : (hot : List GridPoint) (p : GridPoint) (run joined : Path) → IsHotPath hot (p ∷ run) → joined ≡ p ∷ flat_map (chain_after hot) (steps_after p run) → AreChainsOf hot (p ∷ run) joined
chains_of_path hot p run joined h e = record {
  snapped = ap without_repeats e ∙ starts_once hot p run h.all_hot ∙ joined_snaps hot p run h.all_hot ∙ sym (ap (joined_chains hot) h.is_path.no_repeats);
  some = λ n. let f : p ∷ flat_map (chain_after hot) (steps_after p run) ≡ [] = sym e ∙ n in cc;
  closed = λ c. subst IsClosed (sym e) (joined_last hot p run h.all_hot ∙ c);
}

-- ---- a loop that appends chains

pub chains_more : (f : Segment → Path) (all out more chain : Path) (from p : GridPoint) (s : Segment) (xs : Path) (i : ℕ) → i < length xs → p ≡ get_or xs i p → all ≡ out ++ flat_map f (steps_after from (drop i xs)) → more ≡ out ++ chain → chain ≡ f s → s ≡ record { start = from; stop = p } → all ≡ more ++ flat_map f (steps_after p (drop (i + 1) xs))
chains_more f all out more chain from p s xs i l e h m k n =
    let rest : Path = flat_map f (steps_after p (drop (i + 1) xs)) in
    h ∙ ap (λ (t : Path). out ++ t) (at_drop_more (λ (ys : Path). flat_map f (steps_after from ys)) xs i p l ∙ ap (λ (y : GridPoint). f (record { start = from; stop = y }) ++ flat_map f (steps_after y (drop (i + 1) xs))) (sym e))
    ∙ sym (append_assoc out (f (record { start = from; stop = p })) rest)
    ∙ ap (λ (t : Path). (out ++ t) ++ rest) (sym (k ∙ ap f n))
    ∙ ap (λ (t : Path). t ++ rest) (sym m)

pub chains_all : (f : Segment → Path) (all out : Path) (from : GridPoint) (xs : Path) (i : ℕ) → length xs ≤ i → all ≡ out ++ flat_map f (steps_after from (drop i xs)) → out ≡ all
chains_all f all out from xs i l h = sym (h ∙ ap (λ (t : Path). out ++ t) (at_drop_all (λ (ys : Path). flat_map f (steps_after from ys)) xs i l) ∙ append-nil out)

-- the same, where the steps are those of a path's slice
pub chains_of_slice : (hot : List GridPoint) (path none first joined : Path) (p q : GridPoint) → IsHotPath hot path → p ≡ get_or path 0 p → q ≡ get_or path 0 q → none ≡ [] → first ≡ none ++ p ∷ [] → joined ≡ first ++ flat_map (chain_after hot) (steps_after q (take (length path - 1) (drop 1 path))) → AreChainsOf hot path joined
chains_of_slice hot [] none first joined p q h e f m n k = absurd (h.is_path.not_empty refl)
chains_of_slice hot (x ∷ xs) none first joined p q h e f m n k =
    let long : length (x ∷ xs) - 1 ≡ length xs = omega arith in
    let rest : take (length (x ∷ xs) - 1) xs ≡ xs = ap (λ (t : ℕ). take t xs) long ∙ take-length xs in
    let begun : first ≡ x ∷ [] = n ∙ (λ i. m i ++ e i ∷ []) in
    chains_of_path hot x xs joined h (k ∙ (λ i. begun i ++ flat_map (chain_after hot) (steps_after (f i) (rest i))))

-- the points of a path's slice are hot
pub hot_slice : (hot : List GridPoint) (path : Path) (q : GridPoint) → IsHotPath hot path → q ≡ get_or path 0 q → (p : GridPoint) → Contains (q ∷ take (length path - 1) (drop 1 path)) p → Contains hot p
hot_slice hot [] q h e p c = absurd (h.is_path.not_empty refl)
hot_slice hot (x ∷ xs) q h e p c =
    let long : length (x ∷ xs) - 1 ≡ length xs = omega arith in
    let rest : take (length (x ∷ xs) - 1) xs ≡ xs = ap (λ (t : ℕ). take t xs) long ∙ take-length xs in
    h.all_hot p (subst (λ (ys : Path). Contains ys p) (λ i. e i ∷ rest i) c)

-- the points that are hot before a step and after it
pub step_hot : (hot : List GridPoint) (from : GridPoint) (rest : Path) (k : ℕ) (p : GridPoint) → ((q : GridPoint) → Contains (from ∷ rest) q → Contains hot q) → k < length rest → p ≡ get_or rest k p → Contains hot p
step_hot hot from rest k p h l e = h p (Contains-later from rest p (k, l, sym e))

-- ---- a segment of no length has no link

last_there : (x : GridPoint) (xs : Path) → Contains (x ∷ xs) (last_of x xs)
last_there x [] = Contains-head x []
last_there x (y ∷ ys) = Contains-later x (y ∷ ys) (last_of y ys) (last_there y ys)

pub no_link_in_place : (hot : List GridPoint) (p : GridPoint) → Contains hot p → length (chain_among hot (record { start = p; stop = p })) - 1 ≡ 0
no_link_in_place hot p c =
    let s : Segment = record { start = p; stop = p } in
    let e = chain_ends hot s c c in
    let strict = passed-IsStrictOrder s in
    let up : IsAscending (is_passed_before s) (p ∷ e.rest) = subst (IsAscending (is_passed_before s)) e.starts (ascending-IsAscending (is_passed_before s) strict (filter (meets s) hot)) in
    ap (λ (chain : Path). length chain - 1) e.starts ∙ alone e.rest up e.stops
  where
    alone : (rest : Path) → IsAscending (is_passed_before (record { start = p; stop = p })) (p ∷ rest) → last_of p rest ≡ p → length (p ∷ rest) - 1 ≡ 0
    alone [] up l = refl
    alone (q ∷ qs) up l =
        let s : Segment = record { start = p; stop = p } in
        absurd ((passed-IsStrictOrder s).irreflexive p (subst (λ (z : GridPoint). is_passed_before s p z ≡ true) l (up.0 (last_of q qs) (last_there q qs))))
