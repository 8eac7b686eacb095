-- Targets and origins.
use Rattle.std.proofs.Common.{◌≡◌, refl, sym, ap, ◌∙◌, ℕ, ◌+◌, ◌-◌, Bool, true, false, true≢false, ◌&&◌, ◌||◌, List, [], ◌∷◌, length, map, filter, bytes_eq, Result, Ok, Err, if◌then◌else◌}
use Rattle.std.specs.List.{AllZip, list_all, list_any, range_with_len}
use Rattle.lists.specs.Lists.{numbers_from, numbers_where}
use Rattle.table_terms.specs.Names.{Text, has_name}
use Rattle.table_rows.proofs.Numbers.{numbers_where-none}
use Rattle.job_terms.specs.declared.job.Origin.TheVariants as origin
use Rattle.job_terms.specs.declared.job.Target.{Target}
use Rattle.job_terms.specs.declared.job.Target.TheVariants as target
use Rattle.face_sets.proofs.OwnerLemmas.{numbers-map}
use Rattle.run_plane.specs.declared.layer.Layer.{Layer}
use Rattle.run_state.specs.Targets.{has_target, is_layer, is_selected}
use Rattle.run_state.specs.declared.state.HeldLayer.{HeldLayer}
use Rattle.chain_model.specs.Outcome.{RefuseWhy, no_layer}
use Rattle.chain_model.specs.State.{State, StateLayer}
use Rattle.chain_model.specs.Targets.{layer_names, layers_at, selected, some_layers}
use Rattle.layer_laws.specs.Shown.{View, LayerShows, StateShows}
use Rattle.layer_laws.specs.Targets.{FirstLayersShow, OneLayerShows, OriginsShow, TargetShows, TargetsShow, target_numbers}
use Rattle.layer_laws.proofs.Numbered.{all_numbers_pass, any-map, zip_where}
use Rattle.layer_laws.proofs.Zipped.{zip_anywhere, zip_filter, zip_left, zip_long, zip_same}

-- ---- some numbers, or none

some_from : {A : Type 0} (n : ℕ) (test : A → Bool) (xs : List A) → list_any test xs ≡ true → some_layers (numbers_from n test xs) ≡ Ok (numbers_from n test xs)
some_from n test [] some = absurd (true≢false (sym some))
some_from n test (x ∷ xs) some = go (test x) some (some_from (n + 1) test xs)
  where
    go : (b : Bool) → (b || list_any test xs) ≡ true → (list_any test xs ≡ true → some_layers (numbers_from (n + 1) test xs) ≡ Ok (numbers_from (n + 1) test xs)) →
        some_layers (if b then n ∷ numbers_from (n + 1) test xs else numbers_from (n + 1) test xs) ≡ Ok (if b then n ∷ numbers_from (n + 1) test xs else numbers_from (n + 1) test xs)
    go true some more = refl
    go false some more = more some

none_from : {A : Type 0} (test : A → Bool) (xs : List A) → list_any test xs ≡ false → some_layers (numbers_where test xs) ≡ Err no_layer
none_from test xs none = ap some_layers (numbers_where-none test xs none)

-- an answer by two tests
abbrev by_tests : Bool → List ℕ → Result (List ℕ) RefuseWhy
by_tests named numbers = if named then some_layers numbers else Err no_layer

tests_pass : {A : Type 0} (named : Bool) (test : A → Bool) (xs : List A) → (named && list_any test xs) ≡ true → by_tests named (numbers_where test xs) ≡ Ok (numbers_where test xs)
tests_pass true test xs e = some_from 0 test xs e
tests_pass false test xs e = absurd (true≢false (sym e))

tests_fail : {A : Type 0} (named : Bool) (test : A → Bool) (xs : List A) → (named && list_any test xs) ≡ false → by_tests named (numbers_where test xs) ≡ Err no_layer
tests_fail true test xs e = none_from test xs e
tests_fail false test xs e = refl

-- ---- a target

-- each listed name is that of a layer
abbrev all_named : Target → List HeldLayer → Bool
all_named target.Default layers = true
all_named target.All layers = true
all_named (target.Names names) layers = list_all (is_layer layers) names

module _ (v : View) (layers : List HeldLayer) (s : State) (h : StateShows v layers s) where
  names_alike : layer_names s.layers ≡ map (λ (held : HeldLayer). held.layer.name) layers
  names_alike = sym (zip_same (λ (held : HeldLayer) (l : StateLayer). LayerShows v held.layer l) (λ (held : HeldLayer). held.layer.name) (λ (l : StateLayer). l.name) (λ held l shown. sym shown.name) layers s.layers h.layers)

  name_found : (name : Text) → has_name (layer_names s.layers) name ≡ is_layer layers name
  name_found name = ap (λ (names : List Text). has_name names name) names_alike ∙ any-map (bytes_eq name) (λ (held : HeldLayer). held.layer.name) layers

  numbers_named : (names : List Text) → numbers_where (has_name names) (layer_names s.layers) ≡ target_numbers (target.Names names) layers
  numbers_named names = ap (numbers_where (has_name names)) names_alike ∙ numbers-map 0 (has_name names) (λ (held : HeldLayer). held.layer.name) layers

  all_numbered : range_with_len 0 (length s.layers) ≡ target_numbers target.All layers
  all_numbered =
      ap (range_with_len 0) (sym (zip_long (λ (held : HeldLayer) (l : StateLayer). LayerShows v held.layer l) layers s.layers h.layers)) ∙ sym (all_numbers_pass 0 layers)

  -- the state selects by the same tests
  selected_by : (t : Target) → selected s t ≡ by_tests (all_named t layers) (target_numbers t layers)
  selected_by target.Default = ap some_layers h.target
  selected_by target.All = ap some_layers all_numbered
  selected_by (target.Names names) =
      let found : list_all (has_name (layer_names s.layers)) names ≡ list_all (is_layer layers) names = λ i. list_all (λ (name : Text). name_found name i) names in
      let numbers = numbers_named names in
      λ i. by_tests (found i) (numbers i)

  there_by : (t : Target) → has_target t layers ≡ (all_named t layers && list_any (is_selected t) layers)
  there_by target.Default = refl
  there_by target.All = refl
  there_by (target.Names names) = refl

  target_shows : (t : Target) → TargetShows v t layers s
  target_shows t = record {
    there = λ e. selected_by t ∙ tests_pass (all_named t layers) (is_selected t) layers (sym (there_by t) ∙ e);
    absent = λ e. selected_by t ∙ tests_fail (all_named t layers) (is_selected t) layers (sym (there_by t) ∙ e);
    show = zip_left (LayerShows v) (λ (held : HeldLayer). held.layer) (filter (is_selected t) layers) (layers_at s (target_numbers t layers))
        (zip_where (λ (held : HeldLayer) (l : StateLayer). LayerShows v held.layer l) (is_selected t) layers s.layers h.layers);
  }

pub targets_show : TargetsShow
targets_show v layers s h t = target_shows v layers s h t

-- ---- an origin

pub origins_show : OriginsShow
origins_show v layers s h owned sources owns (origin.Layer name) =
    zip_left (LayerShows v) (λ (held : HeldLayer). held.layer) (filter (λ (held : HeldLayer). bytes_eq name held.layer.name) layers) (filter (λ (l : StateLayer). bytes_eq name l.name) s.layers)
    (zip_filter (λ (held : HeldLayer) (l : StateLayer). LayerShows v held.layer l) (λ (held : HeldLayer). bytes_eq name held.layer.name) (λ (l : StateLayer). bytes_eq name l.name) (λ held l shown. ap (bytes_eq name) (sym shown.name)) layers s.layers h.layers)
origins_show v layers s h owned sources owns (origin.Source n) = zip_anywhere (AllZip (LayerShows v)) owned sources owns [] [] tt (n - 1)
origins_show v layers s h owned sources owns (origin.Area n) = tt

pub one_layer_shows : OneLayerShows
one_layer_shows v [] [] shown = refl
one_layer_shows v [] (l ∷ ls) shown = absurd shown
one_layer_shows v (layer ∷ layers) [] shown = absurd shown
one_layer_shows v (layer ∷ []) (l ∷ []) shown = shown.0
one_layer_shows v (layer ∷ []) (l ∷ m ∷ ls) shown = absurd shown.1
one_layer_shows v (layer ∷ other ∷ layers) (l ∷ []) shown = absurd shown.1
one_layer_shows v (layer ∷ other ∷ layers) (l ∷ m ∷ ls) shown = refl

-- ---- the first state

abbrev begun : Layer → HeldLayer
begun layer = record { layer = layer; is_default = true }

pub first_layers_show : FirstLayersShow
first_layers_show v layers ls shown = record {
  layers = zip_left (λ (held : HeldLayer) (l : StateLayer). LayerShows v held.layer l) begun layers ls shown;
  target = ap (range_with_len 0) (sym (zip_long (LayerShows v) layers ls shown)) ∙ sym (numbers-map 0 (λ (held : HeldLayer). held.is_default) begun layers ∙ all_numbers_pass 0 layers);
}
