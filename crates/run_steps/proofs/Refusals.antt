-- The first refusal among the layers of a target, and that of an origin.
use Rattle.std.proofs.Common.{◌≡◌, inl, inr, MatchBool, ℕ, ◌+◌, ◌<◌, ◌≤◌, Bool, true, false, List, ◌∷◌, length, drop, Option, None, Some, Result, Ok, Err, if◌then◌else◌, refl, ap, sym, subst, ◌∙◌}
use Rattle.std.specs.Prelude.{slice_get}
use Rattle.std.proofs.lemmas.Bool.{lt-ltb, le-ltb}
use Rattle.std.proofs.lemmas.List.{at_drop_more, drop_all}
use Rattle.std.proofs.lemmas.Option.{get_or_from_slice_get}
use Rattle.table_terms.specs.Refusals.{first_refusal}
use Rattle.job_terms.specs.declared.job.Origin.{Origin}
use Rattle.job_terms.specs.declared.job.Origin.TheVariants as origin
use Rattle.job_terms.specs.declared.job.Target.{Target}
use Rattle.run_plane.specs.declared.layer.Layer.{Layer}
use Rattle.run_state.specs.Origins.{Owned, one_layer, origin_layers, refused_origin}
use Rattle.run_state.specs.Stops.{StopsAs, StopsFor, refusal_of}
use Rattle.run_state.specs.Targets.{is_selected, targets}
use Rattle.run_state.specs.declared.refusal.RefuseWhy.{RefuseWhy}
use Rattle.run_state.specs.declared.refusal.RefuseWhy.TheVariants.{TooManyLayers}
use Rattle.run_state.specs.declared.state.CommandStop.{CommandStop}
use Rattle.run_state.specs.declared.state.CommandStop.TheVariants as stop
use Rattle.run_state.specs.declared.state.HeldLayer.{HeldLayer}
use Rattle.run_state.proofs.Stops.{stops_second}
use Rattle.run_state.proofs.TargetLemmas.{target_first, other_first}
use Rattle.run_checks.specs.Checks.{refused_cut, refused_polygons}
use Rattle.run_steps.specs.Refusals.{FirstOf, RefusesIn, most_layers, refused_count}

-- ---- the origin

-- polygons that are there stop nothing but for memory
polygons_there : (r : Result Layer RefuseWhy) (s : CommandStop) → refused_polygons r ≡ None → StopsFor (refusal_of r) s → s ≡ stop.Memory
polygons_there (Ok layer) (stop.Refused why) e h = absurd (let n : None ≡ Some why = h in cc)
polygons_there (Ok layer) stop.Memory e h = refl
polygons_there (Err w) s e h = absurd (let n : Some w ≡ None = e in cc)

pub cut_set_there : (sources : Owned) (layers : List HeldLayer) (from : Origin) (s : CommandStop) → refused_cut sources layers from ≡ None → StopsFor (refused_origin sources layers from) s → s ≡ stop.Memory
cut_set_there sources layers (origin.Layer name) s e h = polygons_there (one_layer (origin_layers sources layers (origin.Layer name))) s e h
cut_set_there sources layers (origin.Source n) s e h = polygons_there (one_layer (origin_layers sources layers (origin.Source n))) s e h
cut_set_there sources layers (origin.Area n) (stop.Refused why) e h = absurd (let n : None ≡ Some why = h in cc)
cut_set_there sources layers (origin.Area n) stop.Memory e h = refl

-- ---- the first of two

pub past : (First Second : Option RefuseWhy → Type 0) (refusal : Option RefuseWhy) → First None → Second refusal → FirstOf First Second refusal
past First Second None f s = (f, s)
past First Second (Some why) f s = inr (f, s)

-- what stops the first stops both, and after a first that has none the second counts

pub stops_at_first : (First Second : Option RefuseWhy → Type 0) (s : CommandStop) → StopsAs First s → StopsAs (FirstOf First Second) s
stops_at_first First Second (stop.Refused why) h = inl h
stops_at_first First Second stop.Memory h = tt

pub stops_after : (First Second : Option RefuseWhy → Type 0) (s : CommandStop) → First None → StopsAs Second s → StopsAs (FirstOf First Second) s
stops_after First Second (stop.Refused why) f h = inr (f, h)
stops_after First Second stop.Memory f h = tt

-- ---- layer by layer

module _ (Refuses : Layer → Option RefuseWhy → Type 0) (t : Target) where
  abbrev RefusesAll : List HeldLayer → Option RefuseWhy → Type 0
  RefusesAll layers refusal = RefusesIn Refuses (targets t layers) refusal

  abbrev RefusesOne : Bool → HeldLayer → Option RefuseWhy → Type 0
  RefusesOne b held refusal = MatchBool b (Refuses held.layer refusal) (None ≡ refusal)

  one_on : (held : HeldLayer) (rest : List HeldLayer) (refusal : Option RefuseWhy) → is_selected t held ≡ true → FirstOf (Refuses held.layer) (RefusesAll rest) refusal → RefusesAll (held ∷ rest) refusal
  one_on held rest refusal e h = subst (λ (layers : List Layer). RefusesIn Refuses layers refusal) (sym (target_first t held rest e)) h

  one_off : (held : HeldLayer) (rest : List HeldLayer) (refusal : Option RefuseWhy) → is_selected t held ≡ false → RefusesAll rest refusal → RefusesAll (held ∷ rest) refusal
  one_off held rest refusal e h = subst (λ (layers : List Layer). RefusesIn Refuses layers refusal) (sym (other_first t held rest e)) h

  one_past : (held : HeldLayer) (rest : List HeldLayer) (refusal : Option RefuseWhy) (b : Bool) → is_selected t held ≡ b → RefusesOne b held None → RefusesAll rest refusal → RefusesAll (held ∷ rest) refusal
  one_past held rest refusal true e none h = one_on held rest refusal e (past (Refuses held.layer) (RefusesAll rest) refusal none h)
  one_past held rest refusal false e none h = one_off held rest refusal e h

  one_stops : (held : HeldLayer) (rest : List HeldLayer) (why : RefuseWhy) (b : Bool) → is_selected t held ≡ b → RefusesOne b held (Some why) → RefusesAll (held ∷ rest) (Some why)
  one_stops held rest why true e h = one_on held rest (Some why) e (inl h)
  one_stops held rest why false e h = absurd (let n : None ≡ Some why = h in cc)

  -- a list from a place on begins with the layer there
  from_place : (xs : List HeldLayer) (i : ℕ) (item : HeldLayer) → i < length xs → slice_get xs i ≡ Some item → drop i xs ≡ item ∷ drop (i + 1) xs
  from_place xs i item h there =
      at_drop_more (λ (ls : List HeldLayer). ls) xs i item h ∙ ap (λ (x : HeldLayer). x ∷ drop (i + 1) xs) (get_or_from_slice_get xs i item item there)

  -- what refuses the layers from a place on refuses all of them
  abbrev pub RefuseFrom : List HeldLayer → ℕ → Type 0
  RefuseFrom xs i = (refusal : Option RefuseWhy) → RefusesIn Refuses (targets t (drop i xs)) refusal → RefusesIn Refuses (targets t xs) refusal

  pub goes_past : (xs : List HeldLayer) (i : ℕ) (item : HeldLayer) → i < length xs → slice_get xs i ≡ Some item → RefuseFrom xs i → RefusesOne (is_selected t item) item None → RefuseFrom xs (i + 1)
  goes_past xs i item h there before none refusal rest =
      before refusal (subst (λ (layers : List HeldLayer). RefusesAll layers refusal) (sym (from_place xs i item h there)) (one_past item (drop (i + 1) xs) refusal (is_selected t item) refl none rest))

  pub stops_there : (xs : List HeldLayer) (i : ℕ) (item : HeldLayer) (s : CommandStop) → i < length xs → slice_get xs i ≡ Some item → RefuseFrom xs i →
      StopsAs (RefusesOne (is_selected t item) item) s → StopsAs (RefusesIn Refuses (targets t xs)) s
  stops_there xs i item (stop.Refused why) h there before stops =
      before (Some why) (subst (λ (layers : List HeldLayer). RefusesAll layers (Some why)) (sym (from_place xs i item h there)) (one_stops item (drop (i + 1) xs) why (is_selected t item) refl stops))
  stops_there xs i item stop.Memory h there before stops = tt

  -- after the last layer there is none that is refused
  pub all_pass : (xs : List HeldLayer) (i : ℕ) → length xs ≤ i → RefuseFrom xs i → RefusesIn Refuses (targets t xs) None
  all_pass xs i h before = before None (subst (λ (layers : List HeldLayer). RefusesAll layers None) (sym (drop_all i xs h)) refl)

-- ---- the number of layers

pub too_many : (n : ℕ) → most_layers < n → refused_count n ≡ Some TooManyLayers
too_many n h = ap (λ (b : Bool). if b then Some TooManyLayers else None) (lt-ltb most_layers n h)

pub few_enough : (n : ℕ) → n ≤ most_layers → refused_count n ≡ None
few_enough n h = ap (λ (b : Bool). if b then Some TooManyLayers else None) (le-ltb most_layers n h)

-- what is refused for the number, where nothing else is
pub stops_counted : (a : Option RefuseWhy) (n m : ℕ) (s : CommandStop) → a ≡ None → n ≡ m → StopsFor (refused_count n) s → StopsFor (first_refusal a (refused_count m)) s
stops_counted a n m s e is h = stops_second s a (refused_count m) e (subst (λ (k : ℕ). StopsFor (refused_count k) s) is h)

pub goes_counted : (a : Option RefuseWhy) (n m : ℕ) → a ≡ None → n ≡ m → refused_count n ≡ None → first_refusal a (refused_count m) ≡ None
goes_counted a n m e is h = ap (λ (x : Option RefuseWhy). first_refusal x (refused_count m)) e ∙ (ap refused_count (sym is) ∙ h)
