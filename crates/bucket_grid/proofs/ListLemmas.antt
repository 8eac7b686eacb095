-- Lists of the numbers of boxes, one for each slab: how they fill.
use Rattle.std.proofs.Common.{◌≡◌, inl, inr, refl, sym, ap, ◌∙◌, arith, ℕ, ◌+◌, ◌<◌, ◌≤◌, max, Bool, true, false, cond, ◌&&◌, leb, List, [], ◌∷◌, ◌++◌, length, get_or, filter}
use Rattle.std.proofs.lemmas.Bool.{cases_lt}
use Rattle.std.proofs.lemmas.Bool.{le-leb, lt-leb, and_from, and_left, and_right}
use Rattle.std.proofs.lemmas.List.Elements.{filter-append}
use Rattle.grid_base.specs.Grid.{Corners}
use Rattle.bucket_grid.specs.declared.tree.Slabs.{Slabs}
use Rattle.bucket_grid.specs.Rects.{whole, share_point, boxes_near}
use Rattle.lists.specs.Lists.{numbers_from}
use Rattle.bucket_grid.proofs.Numbers.{filter-numbers_where}
use Rattle.bucket_grid.proofs.SlabLemmas.{slab_shares}
use Rattle.bucket_grid.specs.Slabs.{along, slab_at, reaches, AreListed, IsPutInto, DividesRect, slab_part}

pub put_done : (from end id k : ℕ) (xs ys : List (List ℕ)) → end ≤ k → k ≤ max from end → IsPutInto from k id xs ys → IsPutInto from end id xs ys
put_done from end id k xs ys l m h = record {
  count = h.count;
  there = λ j a b. h.there j a (omega arith);
  before = λ j a. h.before j a;
  past = λ j a. elim (cases_lt j from) [
    | inl b ↦ h.before j b
    | inr b ↦ h.past j (omega arith)
  ];
}

-- one box more
module _ (s : Slabs) (boxes : List Corners) (ids : List ℕ) (i from end : ℕ) (xs ys : List (List ℕ))
    (from_is : from ≡ slab_at s (along s.axis (get_or boxes i whole).low)) (end_is : end ≡ slab_at s (along s.axis (get_or boxes i whole).high) + 1)
    (before : AreListed s boxes ids xs) (put : IsPutInto from end i xs ys) where
  abbrev test : ℕ → ℕ → Bool
  test k j = reaches s k (get_or boxes j whole)

  listed_as : (k : ℕ) → k ≤ s.last → (b : Bool) → test k i ≡ b → get_or ys k [] ≡ get_or xs k [] ++ cond b (i ∷ []) [] → get_or ys k [] ≡ filter (test k) (ids ++ i ∷ [])
  listed_as k l b e f =
      f ∙ ap (λ (t : List ℕ). t ++ cond b (i ∷ []) []) (before.each k l) ∙ ap (λ (t : Bool). filter (test k) ids ++ cond t (i ∷ []) []) (sym e) ∙ sym (filter-append (test k) ids (i ∷ []))

  same_end : (t : List ℕ) → t ≡ t ++ []
  same_end [] = refl
  same_end (x ∷ t) = ap (λ (l : List ℕ). x ∷ l) (same_end t)

  listed_at : (k : ℕ) → k ≤ s.last → get_or ys k [] ≡ filter (test k) (ids ++ i ∷ [])
  listed_at k l = elim (cases_lt k from) [
    | inl m ↦ listed_as k l false
        (and_left (leb (slab_at s (along s.axis (get_or boxes i whole).low)) k) (leb k (slab_at s (along s.axis (get_or boxes i whole).high))) (lt-leb (slab_at s (along s.axis (get_or boxes i whole).low)) k (omega arith)))
        (put.before k m ∙ same_end (get_or xs k []))
    | inr m ↦ elim (cases_lt k end) [
      | inl n ↦ listed_as k l true
          (and_from (leb (slab_at s (along s.axis (get_or boxes i whole).low)) k) (leb k (slab_at s (along s.axis (get_or boxes i whole).high)))
          (le-leb (slab_at s (along s.axis (get_or boxes i whole).low)) k (omega arith)) (le-leb k (slab_at s (along s.axis (get_or boxes i whole).high)) (omega arith)))
          (put.there k m n)
      | inr n ↦ listed_as k l false
          (and_right (leb (slab_at s (along s.axis (get_or boxes i whole).low)) k) (leb k (slab_at s (along s.axis (get_or boxes i whole).high))) (lt-leb k (slab_at s (along s.axis (get_or boxes i whole).high)) (omega arith)))
          (put.past k n ∙ same_end (get_or xs k []))
    ]
  ]

  pub listed_more : AreListed s boxes (ids ++ i ∷ []) ys
  listed_more = record { count = put.count ∙ before.count; each = listed_at }

-- the numbers of the items that pass are the same under the same test
same_numbers : {A : Type 0} (n : ℕ) (p q : A → Bool) (xs : List A) → ((x : A) → p x ≡ q x) → numbers_from n p xs ≡ numbers_from n q xs
same_numbers n p q [] e = refl
same_numbers n p q (x ∷ xs) e = λ i. cond (e x i) (n ∷ same_numbers (n + 1) p q xs e i) (same_numbers (n + 1) p q xs e i)

-- the list of a slab has the boxes near its part of the rectangle
pub list_is : (s : Slabs) (boxes : List Corners) (rect : Corners) (near : List ℕ) (lists : List (List ℕ)) → DividesRect rect s → near ≡ boxes_near boxes rect → AreListed s boxes near lists →
    (k : ℕ) → k < length lists → get_or lists k [] ≡ boxes_near boxes (slab_part s k rect)
list_is s boxes rect near lists d e h k l =
    let n = h.count in
    h.each k (omega arith)
    ∙ ap (filter (λ i. reaches s k (get_or boxes i whole))) e
    ∙ filter-numbers_where (share_point rect) (reaches s k) whole boxes
    ∙ sym (same_numbers 0 (share_point (slab_part s k rect)) (λ b. share_point rect b && reaches s k b) boxes (slab_shares rect s d k (omega arith)))
