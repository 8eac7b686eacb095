-- The nonempty ascending lists of some numbers stand in lexicographic order.
use Rattle.std.proofs.Common.{◌≡◌, inl, inr, refl, sym, subst, ◌∙◌, arith, ℕ, Bool, true, false, not, cond, ◌&&◌, ◌||◌, List, [], ◌∷◌, ◌++◌, Contains, filter, map, nat_lt}
use Rattle.std.proofs.lemmas.Bool.{false_from_ne_true, or_left}
use Rattle.std.proofs.lemmas.List.Elements.{Contains-append_left, Contains-append_right, Contains-append_cases}
use Rattle.lists.specs.Lists.{list_before}
use Rattle.lists.proofs.Ascending.{IsAscending}
use Rattle.lists.proofs.Members.{Contains-cases, Contains-head, Contains-later, Contains-map, Contains-nil, filter-Contains, map-Contains}
use Rattle.face_sets.proofs.SetLemmas.{nat_order}
use Rattle.region_model.specs.PolygonCommands.{ascending_lists}

-- ---- ascending lists of anything

module _ {A : Type 0} (before : A → A → Bool) where
  pub filter_ascends : (p : A → Bool) (xs : List A) → IsAscending before xs → IsAscending before (filter p xs)
  filter_ascends p [] h = tt
  filter_ascends p (x ∷ xs) h = go (p x) (λ y c. h.0 y (filter-Contains p xs y c).0) (filter_ascends p xs h.1)
    where
      go : (b : Bool) → ((y : A) → Contains (filter p xs) y → before x y ≡ true) → IsAscending before (filter p xs) → IsAscending before (cond b (x ∷ filter p xs) (filter p xs))
      go true first rest = (first, rest)
      go false first rest = rest

  pub join_ascends : (xs ys : List A) → IsAscending before xs → IsAscending before ys → ((x y : A) → Contains xs x → Contains ys y → before x y ≡ true) → IsAscending before (xs ++ ys)
  join_ascends [] ys h k between = k
  join_ascends (x ∷ xs) ys h k between = (
    λ y c. elim (Contains-append_cases xs ys y c) [ inl there ↦ h.0 y there | inr there ↦ between x y (Contains-head x xs) there ],
    join_ascends xs ys h.1 k (λ z y cz cy. between z y (Contains-later x xs z cz) cy),
  )

-- ---- lists of numbers

abbrev list_less : List ℕ → List ℕ → Bool
list_less xs ys = list_before nat_lt xs ys

not_itself : (n : ℕ) → nat_lt n n ≡ false
not_itself n = false_from_ne_true (nat_lt n n) (nat_order.irreflexive n)

-- with one number before both
with_same : (n : ℕ) (xs ys : List ℕ) → list_less xs ys ≡ true → list_less (n ∷ xs) (n ∷ ys) ≡ true
with_same n xs ys h = (λ i. not_itself n i || (not (not_itself n i) && list_less xs ys)) ∙ h

with_lesser : (n m : ℕ) (xs ys : List ℕ) → nat_lt n m ≡ true → list_less (n ∷ xs) (m ∷ ys) ≡ true
with_lesser n m xs ys h = or_left (nat_lt n m) (not (nat_lt m n) && list_less xs ys) h

-- a list of some numbers: not empty, ascending, of these numbers
pub record IsListOf (ns xs : List ℕ) : Type 0 where
  pub some : xs ≡ [] → ⊥
  pub rising : IsAscending nat_lt xs
  pub within : (n : ℕ) → Contains xs n → Contains ns n

one_alone : (n : ℕ) (ns : List ℕ) → IsListOf (n ∷ ns) (n ∷ [])
one_alone n ns = record {
  some = λ e. absurd (cc);
  rising = ((λ y c. Contains-nil y c), tt);
  within = λ m c. elim (Contains-cases n [] m c) [ inl e ↦ (0, omega arith, e) | inr more ↦ Contains-nil m more ];
}

one_more : (n : ℕ) (ns xs : List ℕ) → IsAscending nat_lt (n ∷ ns) → IsListOf ns xs → IsListOf (n ∷ ns) (n ∷ xs)
one_more n ns xs up h = record {
  some = λ e. absurd (cc);
  rising = ((λ y c. up.0 y (h.within y c)), h.rising);
  within = λ m c. elim (Contains-cases n xs m c) [ inl e ↦ (0, omega arith, e) | inr more ↦ Contains-later n ns m (h.within m more) ];
}

of_more : (n : ℕ) (ns xs : List ℕ) → IsListOf ns xs → IsListOf (n ∷ ns) xs
of_more n ns xs h = record { some = h.some; rising = h.rising; within = λ m c. Contains-later n ns m (h.within m c) }

pub is_list_of : (ns : List ℕ) → IsAscending nat_lt ns → (xs : List ℕ) → Contains (ascending_lists ns) xs → IsListOf ns xs
is_list_of [] up xs c = Contains-nil xs c
is_list_of (n ∷ ns) up xs c =
    let rest : (ys : List ℕ) → Contains (ascending_lists ns) ys → IsListOf ns ys = is_list_of ns up.1 in
    elim (Contains-cases (n ∷ []) (map (λ (L : List ℕ). n ∷ L) (ascending_lists ns) ++ ascending_lists ns) xs c) [
      | inl e ↦ subst (IsListOf (n ∷ ns)) e (one_alone n ns)
      | inr more ↦ elim (Contains-append_cases (map (λ (L : List ℕ). n ∷ L) (ascending_lists ns)) (ascending_lists ns) xs more) [
        | inl there ↦ (let (ys, in_rest, is) = map-Contains (λ (L : List ℕ). n ∷ L) (ascending_lists ns) xs there in subst (IsListOf (n ∷ ns)) is (one_more n ns ys up (rest ys in_rest)))
        | inr there ↦ of_more n ns xs (rest xs there)
      ]
    ]

-- numbers of a list that come after one of its first are not that one
past : (n : ℕ) (ns : List ℕ) (x : ℕ) → nat_lt n x ≡ true → Contains (n ∷ ns) x → Contains ns x
past n ns x less c = elim (Contains-cases n ns x c) [
  | inl e ↦ absurd (nat_order.irreflexive x (subst (λ (m : ℕ). nat_lt m x ≡ true) e less))
  | inr more ↦ more
]

module _ (n : ℕ) (ns : List ℕ) (up : IsAscending nat_lt (n ∷ ns)) (rest : (ys : List ℕ) → IsListOf ns ys → Contains (ascending_lists ns) ys) where
  begun_with : (xs : List ℕ) → IsListOf (n ∷ ns) (n ∷ xs) → Contains (ascending_lists (n ∷ ns)) (n ∷ xs)
  begun_with [] h = Contains-head (n ∷ []) (map (λ (L : List ℕ). n ∷ L) (ascending_lists ns) ++ ascending_lists ns)
  begun_with (x ∷ xs) h =
      let tail : IsListOf ns (x ∷ xs) = record {
        some = λ e. absurd (cc);
        rising = h.rising.1;
        within = λ m c. past n ns m (h.rising.0 m c) (h.within m (Contains-later n (x ∷ xs) m c));
      } in
      Contains-later (n ∷ []) (map (λ (L : List ℕ). n ∷ L) (ascending_lists ns) ++ ascending_lists ns) (n ∷ x ∷ xs)
      (Contains-append_left (map (λ (L : List ℕ). n ∷ L) (ascending_lists ns)) (ascending_lists ns) (n ∷ x ∷ xs) (Contains-map (λ (L : List ℕ). n ∷ L) (ascending_lists ns) (x ∷ xs) (rest (x ∷ xs) tail)))

  begun_later : (m : ℕ) (xs : List ℕ) → Contains ns m → IsListOf (n ∷ ns) (m ∷ xs) → Contains (ascending_lists (n ∷ ns)) (m ∷ xs)
  begun_later m xs there h =
      let less : nat_lt n m ≡ true = up.0 m there in
      let all : IsListOf ns (m ∷ xs) = record {
        some = h.some;
        rising = h.rising;
        within = λ k c. elim (Contains-cases m xs k c) [
          | inl e ↦ subst (Contains ns) e there
          | inr more ↦ past n ns k (nat_order.trans n m k less (h.rising.0 k more)) (h.within k c)
        ];
      } in
      Contains-later (n ∷ []) (map (λ (L : List ℕ). n ∷ L) (ascending_lists ns) ++ ascending_lists ns) (m ∷ xs)
      (Contains-append_right (map (λ (L : List ℕ). n ∷ L) (ascending_lists ns)) (ascending_lists ns) (m ∷ xs) (rest (m ∷ xs) all))

  all_listed : (xs : List ℕ) → IsListOf (n ∷ ns) xs → Contains (ascending_lists (n ∷ ns)) xs
  all_listed [] h = absurd (h.some refl)
  all_listed (m ∷ xs) h = elim (Contains-cases n ns m (h.within m (Contains-head m xs))) [
    | inl e ↦ subst (λ (k : ℕ). Contains (ascending_lists (n ∷ ns)) (k ∷ xs)) e (begun_with xs (subst (λ (k : ℕ). IsListOf (n ∷ ns) (k ∷ xs)) (sym e) h))
    | inr there ↦ begun_later m xs there h
  ]

pub list_is_there : (ns : List ℕ) → IsAscending nat_lt ns → (xs : List ℕ) → IsListOf ns xs → Contains (ascending_lists ns) xs
list_is_there [] up [] h = absurd (h.some refl)
list_is_there [] up (x ∷ xs) h = Contains-nil x (h.within x (Contains-head x xs))
list_is_there (n ∷ ns) up xs h = all_listed n ns up (list_is_there ns up.1) xs h

-- ---- their order

same_front_ascends : (n : ℕ) (xss : List (List ℕ)) → IsAscending list_less xss → IsAscending list_less (map (λ (L : List ℕ). n ∷ L) xss)
same_front_ascends n [] h = tt
same_front_ascends n (xs ∷ xss) h = (
  λ ys c. (let (zs, there, is) = map-Contains (λ (L : List ℕ). n ∷ L) xss ys c in subst (λ (us : List ℕ). list_less (n ∷ xs) us ≡ true) is (with_same n xs zs (h.0 zs there))),
  same_front_ascends n xss h.1,
)

lesser_first : (n : ℕ) (xs ys : List ℕ) → (ys ≡ [] → ⊥) → ((m : ℕ) → Contains ys m → nat_lt n m ≡ true) → list_less (n ∷ xs) ys ≡ true
lesser_first n xs [] some less = absurd (some refl)
lesser_first n xs (m ∷ ys) some less = with_lesser n m xs ys (less m (Contains-head m ys))

nothing_first : (n : ℕ) (ys : List ℕ) → (ys ≡ [] → ⊥) → list_less (n ∷ []) (n ∷ ys) ≡ true
nothing_first n [] some = absurd (some refl)
nothing_first n (m ∷ ys) some = with_same n [] (m ∷ ys) refl

pub lists_ascend : (ns : List ℕ) → IsAscending nat_lt ns → IsAscending list_less (ascending_lists ns)
lists_ascend [] up = tt
lists_ascend (n ∷ ns) up =
    let listed : (ys : List ℕ) → Contains (ascending_lists ns) ys → IsListOf ns ys = is_list_of ns up.1 in
    let rest : IsAscending list_less (ascending_lists ns) = lists_ascend ns up.1 in
    let later : (xs ys : List ℕ) → Contains (ascending_lists ns) ys → list_less (n ∷ xs) ys ≡ true = (λ xs ys c. lesser_first n xs ys (listed ys c).some (λ m cm. up.0 m ((listed ys c).within m cm))) in (
      λ ys c. elim (Contains-append_cases (map (λ (L : List ℕ). n ∷ L) (ascending_lists ns)) (ascending_lists ns) ys c) [
        | inl there ↦ (let (zs, in_rest, is) = map-Contains (λ (L : List ℕ). n ∷ L) (ascending_lists ns) ys there in subst (λ (us : List ℕ). list_less (n ∷ []) us ≡ true) is (nothing_first n zs (listed zs in_rest).some))
        | inr there ↦ later [] ys there
      ],
      join_ascends list_less (map (λ (L : List ℕ). n ∷ L) (ascending_lists ns)) (ascending_lists ns) (same_front_ascends n (ascending_lists ns) rest) rest
          (λ xs ys cx cy. (let (zs, in_rest, is) = map-Contains (λ (L : List ℕ). n ∷ L) (ascending_lists ns) xs cx in subst (λ (us : List ℕ). list_less us ys ≡ true) is (later zs ys cy))),
    )
