-- The features of a union lie apart.
use Rattle.std.proofs.Common.{◌≡◌, sym, subst, ◌∙◌, arith, suc, Bool, true, not, ◌&&◌, List, [], ◌∷◌, ◌++◌, AllPairs, Contains, filter, length, get_or, map}
use Rattle.std.specs.Prelude.{is_some}
use Rattle.std.specs.List.{flat_map, list_any, range_with_len}
use Rattle.std.proofs.lemmas.Bool.{and_parts}
use Rattle.std.proofs.lemmas.List.{map-append}
use Rattle.std.proofs.lemmas.List.Elements.{All-append, Contains-get_or}
use Rattle.std.proofs.lemmas.List.FromFn.{get_or-map-range_with_len, length-map-range_with_len}
use Rattle.std.proofs.lemmas.List.Kept.{AllPairs-cons}
use Rattle.lists.proofs.Ascending.{IsAscending}
use Rattle.lists.proofs.Members.{Contains-head, Contains-later, filter-Contains, flat_map-Contains, map-Contains}
use Rattle.plane_model.specs.Points.{RationalPoint}
use Rattle.union_ops.specs.Choices.{choice_before, has_number}
use Rattle.union_ops.proofs.ChoiceOrder.{choice_order}
use Rattle.region_model.specs.Region.{Region, part}
use Rattle.region_model.specs.Answers.{Plane, Answers, PointsOf, is_empty}
use Rattle.region_model.specs.PolygonCommands.{parts_of}
use Rattle.region_model.specs.UnionCommand.{Choice, choices, union_region}
use Rattle.region_laws.proofs.AscendingLists.{filter_ascends}
use Rattle.region_laws.proofs.InGroups.{seconds_of}
use Rattle.region_laws.proofs.Parts.{one_number}
use Rattle.union_laws.specs.United.{AreApart, UnitedAreApart}
use Rattle.union_laws.proofs.ChoiceLists.{choices_ascend, one_each}
use Rattle.union_laws.proofs.ChosenPoints.{left_by_choice, one_choice}

module _ (P : Plane) (A : Answers) (regions : List (List Region)) where
  abbrev left_by : Choice → Region
  left_by c = union_region regions c

  abbrev made_with : Choice → List (Choice × Region)
  made_with c = map (λ (r : Region). (c, r)) (parts_of A (left_by c))

  abbrev features : List Choice → List Region
  features cs = map (λ (m : Choice × Region). m.1) (flat_map made_with cs)

  -- a point of a part is one of what its choice leaves
  of_part : (c : Choice) (r : Region) → Contains (parts_of A (left_by c)) r → (z : RationalPoint) → PointsOf P r z → PointsOf P (left_by c) z
  of_part c r m z h = let (j, there, is) = map-Contains (part (left_by c)) (range_with_len 0 (A.parts (left_by c))) r m in (subst (λ (s : Region). PointsOf P s z) (sym is) h).0

  parts_apart : (c : Choice) → AllPairs (AreApart P) (parts_of A (left_by c))
  parts_apart c i j e l m z h k =
      let many = length-map-range_with_len (part (left_by c)) 0 (A.parts (left_by c)) in
      let at_i = get_or-map-range_with_len (part (left_by c)) 0 (A.parts (left_by c)) i i e (omega arith) (omega arith) in
      let at_j = get_or-map-range_with_len (part (left_by c)) 0 (A.parts (left_by c)) j j e (omega arith) (omega arith) in
      let in_i : PointsOf P (part (left_by c) i) z = subst (λ (s : Region). PointsOf P s z) at_i h in
      let in_j : PointsOf P (part (left_by c) j) z = subst (λ (s : Region). PointsOf P s z) at_j k in
      let same : i ≡ j = one_number _ P.arcs (PointsOf P (left_by c)) z i j in_i.1 in_j.1 in
      absurd (omega arith)

  pairs_join : (rs ss : List Region) → AllPairs (AreApart P) rs → AllPairs (AreApart P) ss → ((r s : Region) → Contains rs r → Contains ss s → AreApart P r s) → AllPairs (AreApart P) (rs ++ ss)
  pairs_join [] ss h k cross = k
  pairs_join (r ∷ rs) ss h k cross = AllPairs-cons (AreApart P) r (rs ++ ss)
      (All-append (AreApart P r) rs ss (λ j d l. h 0 (suc j) d (omega arith) (omega arith)) (λ j d l. cross r (get_or ss j d) (Contains-head r rs) (Contains-get_or ss j d l)))
      (pairs_join rs ss (λ i j d l m. h (suc i) (suc j) d (omega arith) (omega arith)) k (λ q s mq ms. cross q s (Contains-later r rs q mq) ms))

  -- what two choices leave
  choices_apart : (c e : Choice) → length c ≡ length regions → length e ≡ length regions → has_number c ≡ true → has_number e ≡ true → choice_before c e ≡ true → AreApart P (left_by c) (left_by e)
  choices_apart c e long as_long some also before z h k =
      let same : c ≡ e = one_choice P.drawing P.arcs z regions c e ((left_by_choice P.drawing P.arcs z regions c long some).0 h) ((left_by_choice P.drawing P.arcs z regions e as_long also).0 k) in
      choice_order.irreflexive e (subst (λ (f : Choice). choice_before f e ≡ true) same before)

  features_apart : (cs : List Choice) → IsAscending choice_before cs → ((c : Choice) → Contains cs c → (length c ≡ length regions) × (has_number c ≡ true)) → AllPairs (AreApart P) (features cs)
  features_apart [] up each = λ i j d l m. absurd (omega arith)
  features_apart (c ∷ cs) up each =
      let mine : List Region = parts_of A (left_by c) in
      let cross : (r s : Region) → Contains mine r → Contains (features cs) s → AreApart P r s = (λ r s mr ms z h k.
      let (pair, among, is) = map-Contains (λ (m : Choice × Region). m.1) (flat_map made_with cs) s ms in
      let (e, later, made) = flat_map-Contains made_with cs pair among in
      let (q, in_parts, pair_is) = map-Contains (λ (r : Region). (e, r)) (parts_of A (left_by e)) pair made in
      let same : q ≡ s = (λ t. (pair_is t).1) ∙ is in
      let (long, some) = each c (Contains-head c cs) in
      let (as_long, also) = each e (Contains-later c cs e later) in
      choices_apart c e long as_long some also (up.0 e later) z (of_part c r mr z h) (of_part e q in_parts z (subst (λ (t : Region). PointsOf P t z) (sym same) k))) in
      subst (AllPairs (AreApart P)) (sym (map-append (λ (m : Choice × Region). m.1) (made_with c) (flat_map made_with cs)))
      (subst (λ (rs : List Region). AllPairs (AreApart P) (rs ++ features cs)) (sym (seconds_of c mine))
      (pairs_join mine (features cs) (parts_apart c) (features_apart cs up.1 (λ e m. each e (Contains-later c cs e m))) cross))

pub united_are_apart : UnitedAreApart
united_are_apart P A regions = features_apart P A regions (filter leaves_some (choices regions)) (filter_ascends choice_before leaves_some (choices regions) (choices_ascend regions)) (λ c m.
    let (among, passes) = filter-Contains leaves_some (choices regions) c m in
    (one_each regions c among, (and_parts (list_any is_some c) (not (is_empty P A (union_region regions c))) passes).0))
  where
    leaves_some : Choice → Bool
    leaves_some c = list_any is_some c && not (is_empty P A (union_region regions c))
