-- The outputs for each layer of a target, under the name of `name=`, and the first refusal among them.
use Rattle.std.proofs.Common.{◌≡◌, inl, inr, refl, sym, ap, ◌∙◌, subst, ℕ, suc, arith, Bool, true, false, List, [], ◌∷◌, ◌++◌, length, length-append, map, sum_by, Option, Some, None, Result, Ok, Err, MatchBool, if◌then◌else◌}
use Rattle.std.specs.Prelude.{unwrap_or}
use Rattle.std.specs.List.{AllZip}
use Rattle.std.proofs.lemmas.List.Sums.{sum_by-cons}
use Rattle.lists.specs.Lists.{joined_up}
use Rattle.io_core.specs.Contents.{Content}
use Rattle.table_terms.specs.Refusals.{on_ok}
use Rattle.job_terms.specs.declared.job.Command.{Command}
use Rattle.job_terms.specs.declared.job.LayerAction.{LayerAction}
use Rattle.run_plane.specs.declared.layer.Layer.{Layer}
use Rattle.run_state.specs.Origins.{Base}
use Rattle.run_state.specs.Targets.{is_selected, targets}
use Rattle.run_state.specs.declared.refusal.RefuseWhy.{RefuseWhy}
use Rattle.run_state.specs.declared.state.HeldLayer.{HeldLayer}
use Rattle.run_state.proofs.TargetLemmas.{other_first, target_first}
use Rattle.run_steps.specs.Commands.{IsTitled, PutsFor, Titles, title_or}
use Rattle.run_steps.specs.Refusals.{RefusesIn}
use Rattle.chain_model.specs.Outcome as state
use Rattle.chain_model.specs.State.{StateLayer}
use Rattle.chain_model.specs.Features.{Outputs}
use Rattle.chain_model.specs.Steps.{each_layer, titled}
use Rattle.layer_laws.specs.Shown.{View, LayerShows}
use Rattle.layer_laws.specs.Placing.{target_outputs}
use Rattle.layer_laws.specs.Reasons.{MakesAlike, OutputsShow, RefusedAlike, why_of}
use Rattle.layer_laws.proofs.Taking.{shapes_in}

-- ---- under a name

title_alike : (title : Option Content) (name : Content) → unwrap_or title name ≡ title_or title name
title_alike None name = refl
title_alike (Some title) name = refl

pub titled_shows : (v : View) (title : Option Content) (layer : Layer) (l : StateLayer) → LayerShows v layer l → (made : Layer) → IsTitled title layer made → LayerShows v made (titled title l)
titled_shows v title layer l h made is = record {
  name = title_alike title l.name ∙ ap (title_or title) h.name ∙ sym is.name;
  kind = h.kind ∙ sym is.kind;
  table = h.table ∙ sym is.table;
  shapes = shapes_in v layer made layer.shapes.items l.shapes h.shapes is.kind (ap (λ shapes. shapes.items) is.shapes);
}

all_titled : (v : View) (title : Option Content) (made : List Layer) (ls : List StateLayer) → AllZip (LayerShows v) made ls → (out : List Layer) → AllZip (IsTitled title) made out → AllZip (LayerShows v) out (map (titled title) ls)
all_titled v title [] [] h [] are = tt
all_titled v title [] [] h (layer ∷ out) are = absurd are
all_titled v title [] (l ∷ ls) h out are = absurd h
all_titled v title (layer ∷ made) [] h out are = absurd h
all_titled v title (layer ∷ made) (l ∷ ls) h [] are = absurd are
all_titled v title (layer ∷ made) (l ∷ ls) h (named ∷ out) are = (titled_shows v title layer l h.0 named are.0, all_titled v title made ls h.1 out are.1)

-- ---- of the outputs for each layer, those for the layers of the target

module _ (base : Base) (all : List HeldLayer) (c : Command) (a : LayerAction) where
  abbrev Puts : Layer → List Layer → Type 0
  Puts layer out = Titles base all c a layer out

  target_first_puts : (held : HeldLayer) (layers : List HeldLayer) (out : List Layer) (outputs : List (List Layer)) (b : Bool) → is_selected c.target held ≡ b → MatchBool b (Puts held.layer out) (out ≡ []) →
      AllZip Puts (targets c.target layers) (target_outputs c.target layers outputs) →
      AllZip Puts (targets c.target (held ∷ layers)) (if b then out ∷ target_outputs c.target layers outputs else target_outputs c.target layers outputs)
  target_first_puts held layers out outputs true e puts rest =
      subst (λ (ts : List Layer). AllZip Puts ts (out ∷ target_outputs c.target layers outputs)) (sym (target_first c.target held layers e)) (puts, rest)
  target_first_puts held layers out outputs false e none rest =
      subst (λ (ts : List Layer). AllZip Puts ts (target_outputs c.target layers outputs)) (sym (other_first c.target held layers e)) rest

  pub targets_put : (layers : List HeldLayer) (outputs : List (List Layer)) → AllZip (PutsFor base all c a) layers outputs → AllZip Puts (targets c.target layers) (target_outputs c.target layers outputs)
  targets_put [] [] puts = tt
  targets_put [] (out ∷ outputs) puts = absurd puts
  targets_put (held ∷ layers) [] puts = absurd puts
  targets_put (held ∷ layers) (out ∷ outputs) puts = target_first_puts held layers out outputs (is_selected c.target held) refl puts.0 (targets_put layers outputs puts.1)

  others_first : (held : HeldLayer) (out : List Layer) (theirs rest : List (List Layer)) (b : Bool) → MatchBool b (Puts held.layer out) (out ≡ []) → joined_up theirs ≡ joined_up rest → joined_up (if b then out ∷ theirs else theirs) ≡ joined_up (out ∷ rest)
  others_first held out theirs rest true puts same = ap (λ (more : List Layer). out ++ more) same
  others_first held out theirs rest false none same = same ∙ ap (λ (first : List Layer). first ++ joined_up rest) (sym none)

  -- the others put nothing out
  pub others_put : (layers : List HeldLayer) (outputs : List (List Layer)) → AllZip (PutsFor base all c a) layers outputs → joined_up (target_outputs c.target layers outputs) ≡ joined_up outputs
  others_put [] [] puts = refl
  others_put [] (out ∷ outputs) puts = absurd puts
  others_put (held ∷ layers) [] puts = absurd puts
  others_put (held ∷ layers) (out ∷ outputs) puts = others_first held out (target_outputs c.target layers outputs) outputs (is_selected c.target held) puts.0 (others_put layers outputs puts.1)

-- ---- layer by layer

-- an answer before those of the other layers
one_more : (first : Outputs) (rest : Result (List (List StateLayer)) state.RefuseWhy) (out : List StateLayer) (outs : List (List StateLayer)) → first ≡ Ok out → rest ≡ Ok outs →
    on_ok first (λ (o : List StateLayer). on_ok rest (λ (os : List (List StateLayer)). Ok (o ∷ os))) ≡ Ok (out ∷ outs)
one_more first rest out outs e f = λ i. on_ok (e i) (λ (o : List StateLayer). on_ok (f i) (λ (os : List (List StateLayer)). Ok (o ∷ os)))

-- whatever a run makes of a layer that it doesn't refuse shows what a state answers, and where it refuses it so does
-- the state
pub record LayerAlike (v : View) (Makes : List Layer → Type 0) (Refuses : Option RefuseWhy → Type 0) (answer : Outputs) : Type 0 where
  pub shows : Refuses None → (made : List Layer) → Makes made → OutputsShow v made answer
  pub refused : (refusal : Option RefuseWhy) → Refuses refusal → RefusedAlike refusal answer

-- where one refusal is told
pub alike_with : {v : View} {Makes : List Layer → Type 0} {refusal : Option RefuseWhy} {answer : Outputs} → MakesAlike v Makes refusal answer → LayerAlike v Makes (λ (told : Option RefuseWhy). refusal ≡ told) answer
alike_with {answer} alike = record {
  shows = λ none. alike.shows;
  refused = λ told is. subst (λ (o : Option RefuseWhy). RefusedAlike o answer) is alike.refused;
}

-- and where what is made is told of layers that aren't refused
pub alike_unless : {v : View} {Makes : List Layer → Type 0} {refusal : Option RefuseWhy} {answer : Outputs} → MakesAlike v (λ (made : List Layer). (refusal ≡ None) × Makes made) refusal answer →
    LayerAlike v Makes (λ (told : Option RefuseWhy). refusal ≡ told) answer
alike_unless {answer} alike = record {
  shows = λ none made makes. alike.shows made (none, makes);
  refused = λ told is. subst (λ (o : Option RefuseWhy). RefusedAlike o answer) is alike.refused;
}

module _ (v : View) (title : Option Content) (Makes : Layer → List Layer → Type 0) (Refuses : Layer → Option RefuseWhy → Type 0) (f : StateLayer → Outputs) where
  -- layers of a run, and the state's, of which the same is made
  abbrev pub Pairs : Layer → StateLayer → Type 0
  Pairs layer l = LayerAlike v (Makes layer) (Refuses layer) (f l)

  -- what is made of a layer, under its name
  pub record MakesTitled (layer : Layer) (out : List Layer) : Type 0 where
    pub made : List Layer
    pub makes : Makes layer made
    pub are : AllZip (IsTitled title) made out

  pub outputs_show : (ts : List Layer) (ls : List StateLayer) → AllZip Pairs ts ls → RefusesIn Refuses ts None → (outputs : List (List Layer)) → AllZip MakesTitled ts outputs →
      (outs : List (List StateLayer)) × (each_layer f ls ≡ Ok outs) × AllZip (AllZip (LayerShows v)) outputs (map (map (titled title)) outs)
  outputs_show [] [] pairs none [] made = ([], refl, tt)
  outputs_show [] [] pairs none (out ∷ outputs) made = absurd made
  outputs_show [] (l ∷ ls) pairs none outputs made = absurd pairs
  outputs_show (layer ∷ ts) [] pairs none outputs made = absurd pairs
  outputs_show (layer ∷ ts) (l ∷ ls) pairs none [] made = absurd made
  outputs_show (layer ∷ ts) (l ∷ ls) pairs none (out ∷ outputs) made =
      let first : OutputsShow v made.0.made (f l) = pairs.0.shows none.0 made.0.made made.0.makes in
      let (outs, is, shown) = outputs_show ts ls pairs.1 none.1 outputs made.1 in
      (first.outputs ∷ outs, one_more (f l) (each_layer f ls) first.outputs outs first.answers is, (all_titled v title made.0.made first.outputs first.show out made.0.are, shown))

  -- ---- refusals

  abbrev after : StateLayer → Outputs → Result (List (List StateLayer)) state.RefuseWhy → Result (List (List StateLayer)) state.RefuseWhy
  after l first rest = on_ok first (λ (out : List StateLayer). on_ok rest (λ (outs : List (List StateLayer)). Ok (out ∷ outs)))

  pub first_stops : (ts : List Layer) (ls : List StateLayer) → AllZip Pairs ts ls → (why : RefuseWhy) → RefusesIn Refuses ts (Some why) → each_layer f ls ≡ Err (why_of why)
  first_stops [] [] pairs why e = absurd (let none : None ≡ Some why = e in cc)
  first_stops [] (l ∷ ls) pairs why e = absurd pairs
  first_stops (layer ∷ ts) [] pairs why e = absurd pairs
  first_stops (layer ∷ ts) (l ∷ ls) pairs why (inl here) = ap (λ (r : Outputs). after l r (each_layer f ls)) (pairs.0.refused (Some why) here)
  first_stops (layer ∷ ts) (l ∷ ls) pairs why (inr later) =
      let (made, is) = pairs.0.refused None later.0 in
      let rest = first_stops ts ls pairs.1 why later.1 in
      λ i. after l (is i) (rest i)

  -- ---- and where none is refused, how many layers there are

  module _ (count : Layer → ℕ) (counted : (layer : Layer) (l : StateLayer) → LayerShows v layer l → (outs : List StateLayer) → f l ≡ Ok outs → length outs ≡ count layer) where
    abbrev Counts : List Layer → List StateLayer → Type 0
    Counts ts ls = (outs : List (List StateLayer)) × (each_layer f ls ≡ Ok outs) × (length outs ≡ length ts) × (length (joined_up outs) ≡ sum_by count ts)

    pub none_stops : (ts : List Layer) (ls : List StateLayer) → AllZip (λ (layer : Layer) (l : StateLayer). LayerShows v layer l × Pairs layer l) ts ls → RefusesIn Refuses ts None → Counts ts ls
    none_stops [] [] pairs none = ([], refl, refl, refl)
    none_stops [] (l ∷ ls) pairs none = absurd pairs
    none_stops (layer ∷ ts) [] pairs none = absurd pairs
    none_stops (layer ∷ ts) (l ∷ ls) pairs none =
        let (made, is) = pairs.0.1.refused None none.0 in
        let (outs, are, long, sum) = none_stops ts ls pairs.1 none.1 in
        let here : length made ≡ count layer = counted layer l pairs.0.0 made is in
        let both = length-append made (joined_up outs) in
        let all = sum_by-cons count layer ts in
        (made ∷ outs, one_more (f l) (each_layer f ls) made outs is are, ap suc long, omega (arith, both, here, sum, all))
