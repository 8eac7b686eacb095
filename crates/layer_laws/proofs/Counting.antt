-- How many layers a state has after a command.
use Rattle.std.proofs.Common.{◌≡◌, refl, sym, ap, ◌∙◌, ℕ, suc, ◌+◌, arith, Bool, true, false, not, cond, List, [], ◌∷◌, ◌++◌, length, length-append, map, count_by, nat_eq, if◌then◌else◌}
use Rattle.std.specs.List.{AllZip}
use Rattle.std.proofs.lemmas.List.{length-map, map-append}
use Rattle.std.proofs.lemmas.List.Sums.{sum_by-cons}
use Rattle.lists.specs.Lists.{has, joined_up}
use Rattle.job_terms.specs.declared.job.Target.{Target}
use Rattle.run_state.specs.Targets.{is_selected, targets}
use Rattle.run_state.specs.declared.state.HeldLayer.{HeldLayer}
use Rattle.run_state.proofs.TargetLemmas.{other_first, target_first}
use Rattle.chain_model.specs.State.{State, StateLayer}
use Rattle.chain_model.specs.Targets.{new, old, placed, replaced}
use Rattle.layer_laws.specs.Shown.{View, LayerShows, StateShows}
use Rattle.layer_laws.specs.Targets.{target_numbers}
use Rattle.layer_laws.proofs.Numbered.{number_tells}
use Rattle.layer_laws.proofs.Placed.{Tells, first_told, replaced_off, replaced_on, rest_told}
use Rattle.layer_laws.proofs.Zipped.{zip_long}

-- ---- titles change no number

joined_of : {A B : Type 0} (f : A → B) (xs : List (List A)) → joined_up (map (map f) xs) ≡ map f (joined_up xs)
joined_of f [] = refl
joined_of {A} {B} f (x ∷ xs) = ap (λ (rest : List B). map f x ++ rest) (joined_of f xs) ∙ sym (map-append f x (joined_up xs))

pub joined_long : {A B : Type 0} (f : A → B) (xs : List (List A)) → length (joined_up (map (map f) xs)) ≡ length (joined_up xs)
joined_long f xs = ap length (joined_of f xs) ∙ length-map (joined_up xs) f

-- ---- layers that stay, and those put out

abbrev pub stays : Target → List HeldLayer → ℕ
stays t layers = count_by (λ (held : HeldLayer). not (is_selected t held)) layers

stays_on : (t : Target) (held : HeldLayer) (rest : List HeldLayer) (b : Bool) → is_selected t held ≡ b → stays t (held ∷ rest) ≡ cond (not b) 1 0 + stays t rest
stays_on t held rest b e =
    sum_by-cons (λ (other : HeldLayer). cond (not (is_selected t other)) 1 0) held rest ∙ ap (λ (c : Bool). cond (not c) 1 0 + stays t rest) e

module _ (v : View) (t : Target) (ns : List ℕ) where
  abbrev Longs : ℕ → List HeldLayer → List StateLayer → List (List StateLayer) → Type 0
  Longs n layers ls outs = length (replaced n ns ls outs) ≡ stays t layers + length (joined_up outs)

  one_longer : (n : ℕ) (held : HeldLayer) (layers : List HeldLayer) (l : StateLayer) (ls : List StateLayer) (outs : List (List StateLayer)) (b : Bool) → is_selected t held ≡ b → has nat_eq ns n ≡ b →
      length outs ≡ length (targets t (held ∷ layers)) → ((rest : List (List StateLayer)) → length rest ≡ length (targets t layers) → Longs (n + 1) layers ls rest) → Longs n (held ∷ layers) (l ∷ ls) outs
  one_longer n held layers l ls [] true e f many more =
      let some : length (targets t (held ∷ layers)) ≡ suc (length (targets t layers)) = ap length (target_first t held layers e) in
      absurd (omega (arith, some, many))
  one_longer n held layers l ls (out ∷ outs) true e f many more =
      let some : length (targets t (held ∷ layers)) ≡ suc (length (targets t layers)) = ap length (target_first t held layers e) in
      let here : length (replaced n ns (l ∷ ls) (out ∷ outs)) ≡ length (map new out ++ replaced (n + 1) ns ls outs) = ap length (replaced_on n ns l ls out outs f) in
      let both = length-append (map new out) (replaced (n + 1) ns ls outs) in
      let each = length-map out new in
      let put = length-append out (joined_up outs) in
      let stay = stays_on t held layers true e in
      let rest = more outs (omega (arith, some, many)) in
      omega (arith, here, both, each, put, stay, rest)
  one_longer n held layers l ls outs false e f many more =
      let same : length (targets t (held ∷ layers)) ≡ length (targets t layers) = ap length (other_first t held layers e) in
      let here : length (replaced n ns (l ∷ ls) outs) ≡ suc (length (replaced (n + 1) ns ls outs)) = ap length (replaced_off n ns l ls outs f) in
      let stay = stays_on t held layers false e in
      let rest = more outs (omega (arith, same, many)) in
      omega (arith, here, stay, rest)

  replaced_long : (n : ℕ) (layers : List HeldLayer) (ls : List StateLayer) → AllZip (λ (held : HeldLayer) (l : StateLayer). LayerShows v held.layer l) layers ls → Tells v t ns n layers → (outs : List (List StateLayer)) → length outs ≡ length (targets t layers) → Longs n layers ls outs
  replaced_long n [] [] h tells [] many = refl
  replaced_long n [] [] h tells (out ∷ outs) many = absurd (omega (arith, many))
  replaced_long n [] (l ∷ ls) h tells outs many = absurd h
  replaced_long n (held ∷ layers) [] h tells outs many = absurd h
  replaced_long n (held ∷ layers) (l ∷ ls) h tells outs many =
      one_longer n held layers l ls outs (is_selected t held) refl (first_told v t ns n held layers tells) many (λ rest long. replaced_long (n + 1) layers ls h.1 (rest_told v t ns n held layers tells) rest long)

module _ (v : View) (layers : List HeldLayer) (s : State) (h : StateShows v layers s) (t : Target) where
  pub placed_long : (keep : Bool) (outs : List (List StateLayer)) → length outs ≡ length (targets t layers) →
      length (placed s keep (target_numbers t layers) outs) ≡ (if keep then length layers else stays t layers) + length (joined_up outs)
  placed_long true outs many =
      let both = length-append (map old s.layers) (map new (joined_up outs)) in
      let each = length-map s.layers old in
      let put = length-map (joined_up outs) new in
      let long = zip_long (λ (held : HeldLayer) (l : StateLayer). LayerShows v held.layer l) layers s.layers h.layers in
      omega (arith, both, each, put, long)
  placed_long false outs many = replaced_long v t (target_numbers t layers) 0 layers s.layers h.layers (λ k d l. number_tells (is_selected t) 0 layers k d l) outs many
