-- Crossings that are added: those of pairs, of segments that a line parts, and of one list after the other.
use Rattle.std.proofs.Common.{◌≡◌, inl, inr, sym, ap, ◌∙◌, subst, arith, ℕ, ◌+◌, ◌-◌, ◌<◌, ◌≤◌, List, ◌++◌, append_assoc, length, get_or, take, drop, All, Some, Contains, true}
use Rattle.std.proofs.lemmas.List.{at_drop_more, at_drop_all, append-nil, take_all, length-drop}
use Rattle.std.specs.List.{slice_get}
use Rattle.std.proofs.lemmas.Bool.{cases_lt}
use Rattle.std.proofs.lemmas.List.Elements.{All-filter, Contains-append_left, Contains-append_right, Contains-append_cases}
use Rattle.lists.proofs.Members.{Contains-filter}
use Rattle.plane_model.specs.Points.{GridPoint, Segment, reversed}
use Rattle.hot_pixels.specs.Spots.{crossings_with, crossings_among}
use Rattle.hot_pixels.specs.Found.{AddsCrossings, HoldCrossings, HasCrossingsAmong, HasCrossingsBefore}
use Rattle.hot_pixels.specs.Parting.{is_left_by, left_numbers}
use Rattle.hot_pixels.proofs.CrossingLemmas.{pair_at, listed_crosses, pairs_listed}
use Rattle.hot_pixels.proofs.PartingLemmas.{on_one_side}

-- ---- pairs

pub among_pairs : (edges : List Segment) (near : List ℕ) (old new : List GridPoint) → new ≡ old ++ crossings_among edges near → HasCrossingsAmong edges near old new
among_pairs edges near old new e = record {
  adds = record {
    kept = λ g c. subst (λ (xs : List GridPoint). Contains xs g) (sym e) (Contains-append_left old (crossings_among edges near) g c);
    from = λ g c. elim (Contains-append_cases old (crossings_among edges near) g (subst (λ (xs : List GridPoint). Contains xs g) e c)) [
      | inl d ↦ inl d
      | inr d ↦ inr (listed_crosses edges near g d)
    ];
  };
  holds = record {
    all = λ i j g at_i at_j crosses. subst (λ (xs : List GridPoint). Contains xs g) (sym e) (Contains-append_right old (crossings_among edges near) g (pairs_listed edges near i j g at_i at_j crosses));
  };
}

-- each edge with those after it, one after the other
pub pairs_more : (edges : List Segment) (all out more : List GridPoint) (near rest : List ℕ) (k : ℕ) → k < length near → rest ≡ drop (k + 1) near → all ≡ out ++ crossings_among edges (drop k near) → more ≡ out ++ crossings_with edges (get_or near k 0) rest → all ≡ more ++ crossings_among edges (drop (k + 1) near)
pairs_more edges all out more near rest k l e h m =
    let later = crossings_among edges (drop (k + 1) near) in
    h ∙ ap (λ (t : List GridPoint). out ++ t) (at_drop_more (crossings_among edges) near k 0 l)
    ∙ sym (append_assoc out (crossings_with edges (get_or near k 0) (drop (k + 1) near)) later)
    ∙ ap (λ (t : List GridPoint). t ++ later) (sym (m ∙ ap (λ (xs : List ℕ). out ++ crossings_with edges (get_or near k 0) xs) e))

pub rest_is : (near : List ℕ) (k : ℕ) → take (length near - (k + 1)) (drop (k + 1) near) ≡ drop (k + 1) near
rest_is near k = let n = length-drop (k + 1) near in take_all (length near - (k + 1)) (drop (k + 1) near) (omega arith)

pub pairs_all : (edges : List Segment) (all out : List GridPoint) (near : List ℕ) (k : ℕ) → length near ≤ k → all ≡ out ++ crossings_among edges (drop k near) → out ≡ all
pairs_all edges all out near k l h = sym (h ∙ ap (λ (t : List GridPoint). out ++ t) (at_drop_all (crossings_among edges) near k l) ∙ append-nil out)

-- ---- one after the other

pub adds_none : (edges : List Segment) (points : List GridPoint) → AddsCrossings edges points points
adds_none edges points = record { kept = λ g c. c; from = λ g c. inl c }

pub adds_twice : (edges : List Segment) (old mid new : List GridPoint) → AddsCrossings edges old mid → AddsCrossings edges mid new → AddsCrossings edges old new
adds_twice edges old mid new a b = record {
  kept = λ g c. b.kept g (a.kept g c);
  from = λ g c. elim (b.from g c) [ inl d ↦ a.from g d | inr d ↦ inr d ];
}

pub none_before : (lists : List (List ℕ)) (edges : List Segment) (points : List GridPoint) → HasCrossingsBefore 0 lists edges points points
none_before lists edges points = record { adds = adds_none edges points; holds = λ place l near e. absurd (omega arith) }

pub one_before : (n : ℕ) (lists : List (List ℕ)) (edges : List Segment) (old mid new : List GridPoint) (near : List ℕ) → slice_get lists n ≡ Some near → HasCrossingsBefore n lists edges old mid → HasCrossingsAmong edges near mid new → HasCrossingsBefore (n + 1) lists edges old new
one_before n lists edges old mid new near is h k = record {
  adds = adds_twice edges old mid new h.adds k.adds;
  holds = λ place l other e. elim (cases_lt place n) [
    | inl b ↦ record { all = λ i j g at_i at_j crosses. k.adds.kept g ((h.holds place b other e).all i j g at_i at_j crosses) }
    | inr b ↦
        let at : place ≡ n = omega arith in
        let same : Some near ≡ Some other = sym is ∙ ap (λ (i : ℕ). slice_get lists i) (sym at) ∙ e in
        let one : near ≡ other = cc in
        subst (λ (xs : List ℕ). HoldCrossings edges xs new) one k.holds
  ];
}

pub fewer_before : (m n : ℕ) (lists : List (List ℕ)) (edges : List Segment) (old new : List GridPoint) → m ≤ n → HasCrossingsBefore n lists edges old new → HasCrossingsBefore m lists edges old new
fewer_before m n lists edges old new l h = record { adds = h.adds; holds = λ place k near e. h.holds place (omega arith) near e }

-- ---- parts on either side of a line

pub parts_there : (line : Segment) (edges : List Segment) (near left : List ℕ) → All (λ i. i < length edges) near → left ≡ left_numbers line edges near → All (λ i. i < length edges) left
parts_there line edges near left there e = subst (All (λ i. i < length edges)) (sym e) (All-filter (λ i. is_left_by line (slice_get edges i)) (λ i. i < length edges) near there)

pub parted_by_line : (line : Segment) (edges : List Segment) (near left right : List ℕ) (old mid new : List GridPoint) → left ≡ left_numbers line edges near → right ≡ left_numbers (reversed line) edges near →
    HasCrossingsAmong edges left old mid → HasCrossingsAmong edges right mid new → HasCrossingsAmong edges near old new
parted_by_line line edges near left right old mid new l r a b = record {
  adds = adds_twice edges old mid new a.adds b.adds;
  holds = record {
    all = λ i j g at_i at_j crosses.
        let p = pair_at edges i j g crosses in
        elim (on_one_side line p.s p.t g p.crosses p.apart) [
          | inl k ↦ b.adds.kept g (a.holds.all i j g (listed line left l i p.s at_i p.s_at k.0) (listed line left l j p.t at_j p.t_at k.1) crosses)
          | inr k ↦ b.holds.all i j g (listed (reversed line) right r i p.s at_i p.s_at k.0) (listed (reversed line) right r j p.t at_j p.t_at k.1) crosses
        ];
  };
}
  where
    listed : (way : Segment) (side : List ℕ) → side ≡ left_numbers way edges near → (i : ℕ) (s : Segment) → Contains near i → slice_get edges i ≡ Some s → is_left_by way (Some s) ≡ true → Contains side i
    listed way side e i s c is t = subst (λ (xs : List ℕ). Contains xs i) (sym e) (Contains-filter (λ k. is_left_by way (slice_get edges k)) near i c (ap (is_left_by way) is ∙ t))
