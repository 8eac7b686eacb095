-- The union by the layers themselves, and its laws.
use Rattle.std.proofs.Common.{◌≡◌, refl, ◌∙◌, sym, ap, subst, arith, ℕ, suc, ◌<◌, Bool, true, List, [], ◌∷◌, ◌++◌, All, AllPairs, Contains, map, length, get_or}
use Rattle.std.specs.List.{range_with_len}
use Rattle.std.proofs.lemmas.List.{get_or-map, length-map}
use Rattle.std.proofs.lemmas.List.Elements.{All-append, All-map, All-weaker, All-contains, All-from_get_or, Contains-get_or}
use Rattle.std.proofs.lemmas.List.Kept.{AllPairs-cons}
use Rattle.lists.proofs.Members.{Contains-filter, filter-Contains, Contains-later, Contains-head, Contains-map, Contains-flat_map}
use Rattle.face_walk.specs.Places.{FaceTable}
use Rattle.face_sets.specs.Sets.{IsInnerFace, IsSetOf}
use Rattle.face_sets.proofs.GapLemmas.{in_range}
use Rattle.face_groups.specs.Groups.{AreGroupsOf, IsKeyed}
use Rattle.face_groups.specs.Pieces.{AreKeyPieces}
use Rattle.face_groups.specs.declared.pieces.Piece.{Piece}
use Rattle.face_groups.proofs.Groups.{AreKeyGroups, each_item, groups_made, key_groups, part_inside}
use Rattle.union_ops.specs.declared.union_lists.UnionItem.{UnionItem}
use Rattle.union_ops.specs.Choices.{Choice, choice_of, has_number, same_choice, choice_before, IsChoiceFrom, AreChoices}
use Rattle.union_ops.specs.Union.{faces_of, Group, item_of, items_of, items_of_groups, AreAscending, IsUnion, AreApart, IsHeld, CoverOnce, IsItemOf, choice_at, chosen_before, is_chosen}
use Rattle.union_ops.proofs.ChoiceOrder.{choice_order, same_from_test, test_from_same}
use Rattle.union_ops.proofs.ChoiceLemmas.{choice_from, number_inside, held_number}

module _ (t : FaceTable) (layers : List (List (List ℕ))) (choices : List Choice) (are : AreChoices layers t.count choices) (sets_inner : All (All (IsSetOf t)) layers) (pieces : List Piece) (made : AreKeyPieces t (is_chosen choices) (chosen_before choices) pieces) (items : List UnionItem) (listed : items ≡ map (item_of choices) pieces) where
  keyed : (k : ℕ) → k < t.count → has_number (choice_of layers k) ≡ true → IsKeyed t (is_chosen choices) k
  keyed k l some = record { inner = number_inside t k layers sets_inner some; has_key = ap has_number (are.exact k l) ∙ some }

  all : AreGroupsOf t (choice_at choices) (λ (g : Group). g.choice) (λ (g : Group). g.parts) (λ (g : Group). items_of g.choice g.parts) made.sets items
  all =
      let one : Choice → List ℕ → UnionItem = λ (choice : Choice) (part : List ℕ). record { choice = choice; set = part } in
      groups_made t (choice_at choices) (λ (g : Group). g.choice) (λ (g : Group). g.parts) one (λ (choice : Choice) (parts : List (List ℕ)). record { choice = choice; parts = parts })
      (λ choice parts. refl) (λ choice parts. refl) made.sets pieces made.are items listed

  groups : AreKeyGroups t (is_chosen choices) (choice_at choices) choice_before (λ (g : Group). g.choice) (λ (g : Group). g.parts) all.groups
  groups = key_groups t (is_chosen choices) (choice_at choices) choice_before choice_order (λ (g : Group). g.choice) (λ (g : Group). g.parts) (λ (g : Group). items_of g.choice g.parts) made.sets items made.by_key all

  some : (g : Group) → Contains all.groups g → has_number g.choice ≡ true
  some g c = let (k, p, is) = groups.used g c in ap has_number (sym is) ∙ p.has_key

  pub is_union : IsUnion t layers items
  is_union = record {
    groups = all.groups;
    in_order = groups.in_order;
    some = some;
    used = λ g c. let (k, p, is) = groups.used g c in (k, p.inner.there, sym (are.exact k p.inner.there) ∙ is);
    all = λ k l number. let (g, c, is) = groups.reached k (keyed k l number) in (g, c, is ∙ are.exact k l);
    parts = λ g c. groups.parts_are g c (λ (k : ℕ). same_choice (choice_of layers k) g.choice)
        (λ k l e. let is = same_from_test (choice_of layers k) g.choice e in (keyed k l (ap has_number is ∙ some g c), are.exact k l ∙ is))
        (λ k p is. test_from_same (choice_of layers k) g.choice (sym (are.exact k p.inner.there) ∙ is));
    listed = all.listed;
  }

-- ---- each item

module _ (t : FaceTable) (layers : List (List (List ℕ))) (sets_inner : All (All (IsSetOf t)) layers) (items : List UnionItem) (u : IsUnion t layers items) where
  -- faces of a part have the choice of its group
  alike : (g : Group) → Contains u.groups g → (part : List ℕ) → Contains g.parts part → All (λ k. choice_of layers k ≡ g.choice) part
  alike g c part d = All-from_get_or (λ k. choice_of layers k ≡ g.choice) part 0 (λ j m.
      let k = get_or part j 0 in
      same_from_test (choice_of layers k) g.choice
      (filter-Contains (λ (i : ℕ). same_choice (choice_of layers i) g.choice) (range_with_len 0 t.count) k
      (part_inside t (faces_of layers t.count g.choice) g.parts part k (u.parts g c) d (Contains-get_or part j 0 m))).1)

  item_of_part : (g : Group) → Contains u.groups g → (part : List ℕ) → Contains g.parts part → IsItemOf t layers (record { choice = g.choice; set = part })
  item_of_part g c part d = record {
    inner = All-weaker (λ k. choice_of layers k ≡ g.choice) (IsInnerFace t) (λ k is. number_inside t k layers sets_inner (ap has_number is ∙ u.some g c)) part (alike g c part d);
    alike = alike g c part d;
    some = u.some g c;
    from = (let (k, below, is) = u.used g c in subst (IsChoiceFrom (map (λ (sets : List (List ℕ)). length sets) layers)) is (choice_from layers k));
  }

  items_are : (groups : List Group) → ((g : Group) → Contains groups g → Contains u.groups g) → All (IsItemOf t layers) (items_of_groups groups)
  items_are groups into = each_item (λ (g : Group). g.parts) (λ (g : Group) (part : List ℕ). record { choice = g.choice; set = part }) (IsItemOf t layers) groups (λ g c part d. item_of_part g (into g c) part d)

  pub each_item_is : All (IsItemOf t layers) items
  each_item_is = subst (All (IsItemOf t layers)) (sym u.listed) (items_are u.groups (λ g c. c))

  -- ---- each face that some set has is in one item

  covered : (k : ℕ) → IsHeld layers k → (a : UnionItem) × Contains items a × Contains a.set k
  covered k held =
      let number = held_number layers k held in
      let below : k < t.count = (number_inside t k layers sets_inner number).there in
      let (g, c, is) = u.all k below number in
      let test : ℕ → Bool = λ (j : ℕ). same_choice (choice_of layers j) g.choice in
      let in_set : Contains (faces_of layers t.count g.choice) k =
      Contains-filter test (range_with_len 0 t.count) k (in_range t.count k below) (test_from_same (choice_of layers k) g.choice (sym is)) in
      let (i, l, d) = (u.parts g c).divided.each k in_set in
      let one : List ℕ → UnionItem = λ (part : List ℕ). record { choice = g.choice; set = part } in
      let part = get_or g.parts i [] in (
        one part,
        subst (λ (xs : List UnionItem). Contains xs (one part)) (sym u.listed)
            (Contains-flat_map (λ (h : Group). items_of h.choice h.parts) u.groups g (one part) c (Contains-map one g.parts part (Contains-get_or g.parts i [] l))),
        d,
      )

  -- items of one group have other faces
  apart_inside : (g : Group) → Contains u.groups g → AllPairs AreApart (items_of g.choice g.parts)
  apart_inside g c i j d less l =
      let one : List ℕ → UnionItem = λ (part : List ℕ). record { choice = g.choice; set = part } in
      let e = length-map g.parts one in
      let m : j < length g.parts = omega arith in
      let n : i < length g.parts = omega arith in
      let first : get_or (map one g.parts) i d ≡ one (get_or g.parts i []) = get_or-map one g.parts i [] d n in
      let second : get_or (map one g.parts) j d ≡ one (get_or g.parts j []) = get_or-map one g.parts j [] d m in
      λ k a b.
      let in_first : Contains (get_or g.parts i []) k = subst (λ (x : UnionItem). Contains x.set k) first a in
      let in_second : Contains (get_or g.parts j []) k = subst (λ (x : UnionItem). Contains x.set k) second b in
      let same : i ≡ j = (u.parts g c).divided.once i j k n m in_first in_second in
      omega arith

  -- and items of other choices
  apart_by_choice : (a b : UnionItem) → IsItemOf t layers a → IsItemOf t layers b → (a.choice ≡ b.choice → ⊥) → AreApart a b
  apart_by_choice a b h g other k c d =
      other (sym (All-contains (λ j. choice_of layers j ≡ a.choice) a.set k h.alike c) ∙ All-contains (λ j. choice_of layers j ≡ b.choice) b.set k g.alike d)

  later_choice : (gs : List Group) (choice : Choice) → ((h : Group) → Contains gs h → choice_before choice h.choice ≡ true) → All (λ (b : UnionItem). choice_before choice b.choice ≡ true) (items_of_groups gs)
  later_choice gs choice above = each_item (λ (h : Group). h.parts) (λ (h : Group) (part : List ℕ). record { choice = h.choice; set = part }) (λ (b : UnionItem). choice_before choice b.choice ≡ true) gs (λ h c part d. above h c)

  pairs_append : (xs ys : List UnionItem) → AllPairs AreApart xs → AllPairs AreApart ys → ((x : UnionItem) → Contains xs x → All (AreApart x) ys) → AllPairs AreApart (xs ++ ys)
  pairs_append [] ys h g cross = g
  pairs_append (x ∷ xs) ys h g cross = AllPairs-cons AreApart x (xs ++ ys)
      (All-append (AreApart x) xs ys (λ j d l. h 0 (suc j) d (omega arith) (omega arith)) (cross x (Contains-head x xs)))
      (pairs_append xs ys (λ i j d l m. h (suc i) (suc j) d (omega arith) (omega arith)) g (λ y c. cross y (Contains-later x xs y c)))

  apart_groups : (groups : List Group) → ((g : Group) → Contains groups g → Contains u.groups g) → AreAscending groups → AllPairs AreApart (items_of_groups groups)
  apart_groups [] into up = λ i j d l m. absurd (omega arith)
  apart_groups (g ∷ gs) into up =
      let one : List ℕ → UnionItem = λ (part : List ℕ). record { choice = g.choice; set = part } in
      let mine = items_of g.choice g.parts in
      let here = into g (Contains-head g gs) in
      let later : (h : Group) → Contains gs h → choice_before g.choice h.choice ≡ true =
      λ h c. subst (λ (x : Group). choice_before g.choice x.choice ≡ true) c.2 (up 0 (suc c.0) h (omega arith) (let l = c.1 in omega arith)) in
      let above = later_choice gs g.choice later in
      let items_in : All (IsItemOf t layers) mine = All-map (IsItemOf t layers) one g.parts (λ j e l. item_of_part g here (get_or g.parts j e) (Contains-get_or g.parts j e l)) in
      let alike_in : All (λ (a : UnionItem). a.choice ≡ g.choice) mine = All-map (λ (a : UnionItem). a.choice ≡ g.choice) one g.parts (λ j e l. refl) in
      let items_after = items_are gs (λ h c. into h (Contains-later g gs h c)) in
      pairs_append mine (items_of_groups gs) (apart_inside g here)
      (apart_groups gs (λ h c. into h (Contains-later g gs h c)) (λ i j d l m. up (suc i) (suc j) d (omega arith) (omega arith)))
      (λ a c j d l.
      let b = get_or (items_of_groups gs) j d in
      let is : a.choice ≡ g.choice = All-contains (λ (x : UnionItem). x.choice ≡ g.choice) mine a alike_in c in
      apart_by_choice a b (All-contains (IsItemOf t layers) mine a items_in c) (items_after j d l)
      (λ same. choice_order.irreflexive g.choice (subst (λ (e : Choice). choice_before g.choice e ≡ true) (sym same ∙ is) (above j d l))))

  pub cover_once : CoverOnce layers items
  cover_once = record { covered = covered; once = subst (AllPairs AreApart) (sym u.listed) (apart_groups u.groups (λ g c. c) u.in_order) }
