-- One item more of those that a loop goes over, each with its list.
use Rattle.std.proofs.Common.{◌≡◌, inl, inr, sym, ap, ◌∙◌, ℕ, ◌+◌, ◌<◌, List, [], ◌∷◌, ◌++◌, take, length, get_or, Some, None}
use Rattle.std.specs.Prelude.{slice_get}
use Rattle.std.specs.List.{flat_map}
use Rattle.std.proofs.lemmas.List.{flat_map_more, take_more}
use Rattle.std.proofs.lemmas.Option.{slice_get_cases, get_or_from_slice_get}

pub one_list_more : {A B : Type 0} (g : A → List B) (xs : List A) (i j : ℕ) (x y : A) (old before all : List B) → slice_get xs j ≡ Some x → j ≡ i → y ≡ x → before ≡ old ++ flat_map g (take i xs) → all ≡ before ++ g y → all ≡ old ++ flat_map g (take (i + 1) xs)
one_list_more g xs i j x y old before all found place same known more =
    let at : slice_get xs i ≡ Some x = sym (ap (slice_get xs) place) ∙ found in
    let here : i < length xs = elim (slice_get_cases xs i).1 [ inl r ↦ r.1 | inr r ↦ absurd (let f : Some x ≡ None = sym at ∙ r.1 in cc) ] in
    let last : get_or xs i x ≡ x = get_or_from_slice_get xs i x x at in
    more ∙ (λ k. known k ++ g (same k)) ∙ flat_map_more g old (take i xs) x
    ∙ ap (λ z. old ++ flat_map g (take i xs ++ z ∷ [])) (sym last)
    ∙ sym (ap (λ zs. old ++ flat_map g zs) (take_more xs i x here))
