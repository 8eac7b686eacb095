-- Where the outputs of a command go.
use Rattle.std.proofs.Common.{◌≡◌, refl, sym, ap, ◌∙◌, subst, ℕ, suc, ◌+◌, ◌<◌, arith, Bool, true, false, List, [], ◌∷◌, ◌++◌, length, map, drop, get_or, nat_eq, Result, Ok, Err, if◌then◌else◌}
use Rattle.std.specs.List.{AllZip, flat_map}
use Rattle.std.proofs.lemmas.Bool.{le-ltb, lt-ltb}
use Rattle.std.proofs.lemmas.List.{map-append}
use Rattle.lists.specs.Lists.{first_or, has, joined_up}
use Rattle.job_terms.specs.declared.job.Command.{Command}
use Rattle.job_terms.specs.declared.job.Target.{Target}
use Rattle.run_plane.specs.declared.layer.Layer.{Layer}
use Rattle.run_state.specs.Targets.{after_all, in_places, is_selected, placed, put_out, staying}
use Rattle.run_state.specs.declared.state.HeldLayer.{HeldLayer}
use Rattle.chain_model.specs.Outcome.{RefuseWhy, too_many_layers}
use Rattle.chain_model.specs.State.{State, StateLayer}
use Rattle.chain_model.specs.Targets as state
use Rattle.chain_model.specs.Targets.{Marked, new, old, replaced, state_of}
use Rattle.layer_laws.specs.Shown.{View, LayerShows, StateShows}
use Rattle.layer_laws.specs.Placing.{PlacedOutputsShow, PutOutShows, target_outputs}
use Rattle.layer_laws.specs.Targets.{target_numbers}
use Rattle.layer_laws.proofs.Numbered.{number_tells}
use Rattle.layer_laws.proofs.Zipped.{zip_joined, zip_joined_up, zip_long, zip_map, zip_numbers, zip_right, zip_weaker}

-- a layer with its mark, and the state's
abbrev pub MarkShows : View → HeldLayer → Marked → Type 0
MarkShows v held m = LayerShows v held.layer m.1 × (held.is_default ≡ m.0)

put_shows : (v : View) (out : List Layer) (ls : List StateLayer) → AllZip (LayerShows v) out ls → AllZip (MarkShows v) (map put_out out) (map new ls)
put_shows v out ls shown = zip_map (LayerShows v) (MarkShows v) put_out new (λ layer l h. (h, refl)) out ls shown

stay_shows : (v : View) (layers : List HeldLayer) (ls : List StateLayer) → AllZip (λ (held : HeldLayer) (l : StateLayer). LayerShows v held.layer l) layers ls → AllZip (MarkShows v) (map staying layers) (map old ls)
stay_shows v layers ls shown = zip_map (λ (held : HeldLayer) (l : StateLayer). LayerShows v held.layer l) (MarkShows v) staying old (λ held l h. (h, refl)) layers ls shown

-- ---- in their places

pub replaced_on : (n : ℕ) (ns : List ℕ) (l : StateLayer) (ls : List StateLayer) (out : List StateLayer) (outs : List (List StateLayer)) → has nat_eq ns n ≡ true → replaced n ns (l ∷ ls) (out ∷ outs) ≡ map new out ++ replaced (n + 1) ns ls outs
replaced_on n ns l ls out outs e = ap (λ (b : Bool). if b then map new out ++ replaced (n + 1) ns ls outs else old l ∷ replaced (n + 1) ns ls (out ∷ outs)) e

pub replaced_off : (n : ℕ) (ns : List ℕ) (l : StateLayer) (ls : List StateLayer) (outs : List (List StateLayer)) → has nat_eq ns n ≡ false → replaced n ns (l ∷ ls) outs ≡ old l ∷ replaced (n + 1) ns ls outs
replaced_off n ns l ls [] e = refl
replaced_off n ns l ls (out ∷ outs) e = ap (λ (b : Bool). if b then map new out ++ replaced (n + 1) ns ls outs else old l ∷ replaced (n + 1) ns ls (out ∷ outs)) e

module _ (v : View) (t : Target) (ns : List ℕ) where
  abbrev pub Tells : ℕ → List HeldLayer → Type 0
  Tells n layers = (k : ℕ) (d : HeldLayer) → k < length layers → has nat_eq ns (n + k) ≡ is_selected t (get_or layers k d)

  pub first_told : (n : ℕ) (held : HeldLayer) (layers : List HeldLayer) → Tells n (held ∷ layers) → has nat_eq ns n ≡ is_selected t held
  first_told n held layers tells = let first : n ≡ n + 0 = omega arith in ap (has nat_eq ns) first ∙ tells 0 held (omega arith)

  pub rest_told : (n : ℕ) (held : HeldLayer) (layers : List HeldLayer) → Tells n (held ∷ layers) → Tells (n + 1) layers
  rest_told n held layers tells k d l = let further : n + 1 + k ≡ n + suc k = omega arith in ap (has nat_eq ns) further ∙ tells (suc k) d (omega arith)

  -- what stands in the place of one layer, before what stands in the places of the others
  abbrev Places : ℕ → HeldLayer → List HeldLayer → StateLayer → List StateLayer → List (List Layer) → List (List StateLayer) → Bool → Type 0
  Places n held layers l ls outputs outs b =
      AllZip (MarkShows v) ((if b then map put_out (first_or [] outputs) else staying held ∷ []) ++ in_places t layers (drop 1 outputs)) (replaced n ns (l ∷ ls) outs)

  place_shows : (n : ℕ) (held : HeldLayer) (layers : List HeldLayer) (l : StateLayer) (ls : List StateLayer) (outputs : List (List Layer)) (outs : List (List StateLayer)) (b : Bool) → LayerShows v held.layer l → has nat_eq ns n ≡ b →
      AllZip (AllZip (LayerShows v)) (if b then first_or [] outputs ∷ target_outputs t layers (drop 1 outputs) else target_outputs t layers (drop 1 outputs)) outs →
      ((rest : List (List StateLayer)) → AllZip (AllZip (LayerShows v)) (target_outputs t layers (drop 1 outputs)) rest → AllZip (MarkShows v) (in_places t layers (drop 1 outputs)) (replaced (n + 1) ns ls rest)) →
      Places n held layers l ls outputs outs b
  place_shows n held layers l ls outputs [] true h e shown more = absurd shown
  place_shows n held layers l ls outputs (out ∷ outs) true h e shown more =
      subst (AllZip (MarkShows v) (map put_out (first_or [] outputs) ++ in_places t layers (drop 1 outputs))) (sym (replaced_on n ns l ls out outs e))
      (zip_joined (MarkShows v) (map put_out (first_or [] outputs)) (map new out) (in_places t layers (drop 1 outputs)) (replaced (n + 1) ns ls outs) (put_shows v (first_or [] outputs) out shown.0) (more outs shown.1))
  place_shows n held layers l ls outputs outs false h e shown more =
      subst (AllZip (MarkShows v) (staying held ∷ in_places t layers (drop 1 outputs))) (sym (replaced_off n ns l ls outs e)) ((h, refl), more outs shown)

  places_show : (n : ℕ) (layers : List HeldLayer) (ls : List StateLayer) → AllZip (λ (held : HeldLayer) (l : StateLayer). LayerShows v held.layer l) layers ls → Tells n layers → (outputs : List (List Layer)) (outs : List (List StateLayer)) →
      AllZip (AllZip (LayerShows v)) (target_outputs t layers outputs) outs → AllZip (MarkShows v) (in_places t layers outputs) (replaced n ns ls outs)
  places_show n [] [] h tells outputs outs shown = tt
  places_show n [] (l ∷ ls) h tells outputs outs shown = absurd h
  places_show n (held ∷ layers) [] h tells outputs outs shown = absurd h
  places_show n (held ∷ layers) (l ∷ ls) h tells outputs outs shown =
      place_shows n held layers l ls outputs outs (is_selected t held) h.0 (first_told n held layers tells) shown (λ rest more. places_show (n + 1) layers ls h.1 (rest_told n held layers tells) (drop 1 outputs) rest more)

-- ---- after all layers

all_put_out : (outputs : List (List Layer)) → flat_map (map put_out) outputs ≡ map put_out (joined_up outputs)
all_put_out [] = refl
all_put_out (out ∷ outputs) = ap (λ (rest : List HeldLayer). map put_out out ++ rest) (all_put_out outputs) ∙ sym (map-append put_out out (joined_up outputs))

module _ (v : View) (layers : List HeldLayer) (s : State) (h : StateShows v layers s) where
  after_all_show : (outputs : List (List Layer)) (outs : List (List StateLayer)) → AllZip (LayerShows v) (joined_up outputs) (joined_up outs) → AllZip (MarkShows v) (after_all layers outputs) (map old s.layers ++ map new (joined_up outs))
  after_all_show outputs outs shown =
      zip_joined (MarkShows v) (map staying layers) (map old s.layers) (flat_map (map put_out) outputs) (map new (joined_up outs)) (stay_shows v layers s.layers h.layers)
      (subst (λ (put : List HeldLayer). AllZip (MarkShows v) put (map new (joined_up outs))) (sym (all_put_out outputs)) (put_shows v (joined_up outputs) (joined_up outs) shown))

  marks_show : (c : Command) (keep : Bool) (outputs : List (List Layer)) (outs : List (List StateLayer)) → PutOutShows v c.target layers outputs outs →
      AllZip (MarkShows v) (if keep then after_all layers outputs else in_places c.target layers outputs) (state.placed s keep (target_numbers c.target layers) outs)
  marks_show c true outputs outs put =
      after_all_show outputs outs (subst (λ (all : List Layer). AllZip (LayerShows v) all (joined_up outs)) put.all (zip_joined_up (LayerShows v) (target_outputs c.target layers outputs) outs put.show))
  marks_show c false outputs outs put =
      places_show v c.target (target_numbers c.target layers) 0 layers s.layers h.layers (λ k d l. number_tells (is_selected c.target) 0 layers k d l) outputs outs put.show

-- ---- the state after it

pub state_shows : (v : View) (layers : List HeldLayer) (ms : List Marked) → AllZip (MarkShows v) layers ms → StateShows v layers (state_of ms)
state_shows v layers ms shown = record {
  layers = zip_right (λ (held : HeldLayer) (l : StateLayer). LayerShows v held.layer l) (λ (m : Marked). m.1) layers ms (zip_weaker (MarkShows v) (λ (held : HeldLayer) (m : Marked). LayerShows v held.layer m.1) (λ held m h. h.0) layers ms shown);
  target = sym (zip_numbers (MarkShows v) (λ (held : HeldLayer). held.is_default) (λ (m : Marked). m.0) (λ held m h. h.1) layers ms shown);
}

-- refused where they are too many
abbrev pub counted : List Marked → Bool → Result State RefuseWhy
counted ms many = if many then Err too_many_layers else Ok (state_of ms)

pub placed_outputs_show : PlacedOutputsShow
placed_outputs_show v layers s h c outputs outs put =
    let ms : List Marked = state.placed s c.keep (target_numbers c.target layers) outs in
    let shown : AllZip (MarkShows v) (placed c layers outputs) ms = marks_show v layers s h c c.keep outputs outs put in
    let long : length (placed c layers outputs) ≡ length ms = zip_long (MarkShows v) (placed c layers outputs) ms shown in
    record {
      few = λ few. (state_of ms, ap (counted ms) (le-ltb 1000 (length ms) (omega (arith, long, few))), state_shows v (placed c layers outputs) ms shown);
      many = λ many. ap (counted ms) (lt-ltb 1000 (length ms) (omega (arith, long, many)));
    }
