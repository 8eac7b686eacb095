-- How many layers a command leaves.
use Rattle.std.proofs.Common.{◌≡◌, ℕ, ◌+◌, zero, suc, Bool, true, false, not, cond, if◌then◌else◌, List, [], ◌∷◌, ◌++◌, length, map, MatchBool, count_by, sum_by, replicate, Option, Result, Ok, Some, None, ◌<◌, refl, ap, sym, ◌∙◌, arith, length-append}
use Rattle.std.specs.Prelude.{slice_get}
use Rattle.std.specs.List.{AllZip, enumerate_from, flat_map, position_or_len}
use Rattle.std.proofs.lemmas.List.{length-map}
use Rattle.std.proofs.lemmas.List.FromFn.{length-enumerate_from}
use Rattle.std.proofs.lemmas.List.Sums.{sum_by-cons}
use Rattle.io_core.specs.Contents.{Content}
use Rattle.table_rows.specs.Splitting.{split_rows}
use Rattle.table_rows.specs.declared.fault.TableWhy.{TableWhy}
use Rattle.table_rows.specs.declared.split.SplitItem.{SplitItem}
use Rattle.job_terms.specs.declared.job.Command.{Command}
use Rattle.job_terms.specs.declared.job.JointAction.{JointAction}
use Rattle.job_terms.specs.declared.job.JointAction.TheVariants as joint
use Rattle.job_terms.specs.declared.job.LayerAction.{LayerAction}
use Rattle.job_terms.specs.declared.job.LayerAction.TheVariants as action
use Rattle.job_terms.specs.declared.job.Target.{Target}
use Rattle.run_plane.specs.declared.layer.Layer.{Layer}
use Rattle.run_state.specs.Origins.{Base}
use Rattle.run_state.specs.Targets.{after_all, in_place, in_places, is_selected, placed, put_out, staying, targets}
use Rattle.run_state.specs.declared.state.HeldLayer.{HeldLayer}
use Rattle.run_state.proofs.TargetLemmas.{target_first, other_first}
use Rattle.run_tables.specs.Made.{HasTable, One}
use Rattle.run_tables.specs.Pieces.{ArePieces, IsPiece}
use Rattle.run_steps.specs.Commands.{IsTitled, MadeTogether, MakesOne, PutsFor, PutsOut, PutsTogether, Titles, at_first}
use Rattle.run_steps.specs.Refusals.{output_count, piece_count, stay_count}

-- ---- what is put out for one layer

one_counted : (P : Layer → Type 0) (outputs : List Layer) → One P outputs → length outputs ≡ 1
one_counted P [] h = absurd h
one_counted P (made ∷ []) h = refl
one_counted P (made ∷ other ∷ rest) h = absurd h

zipped_length : {A B : Type 0} (R : A → B → Type 0) (xs : List A) (ys : List B) → AllZip R xs ys → length ys ≡ length xs
zipped_length R [] [] h = refl
zipped_length R [] (y ∷ ys) h = absurd h
zipped_length R (x ∷ xs) [] h = absurd h
zipped_length R (x ∷ xs) (y ∷ ys) h = omega (arith, zipped_length R xs ys h.1)

pieces_counted : (layer : Layer) (items : List SplitItem) (made : List Layer) (answer : Result (List SplitItem) TableWhy) → answer ≡ Ok items → ArePieces layer items made → length made ≡ piece_count answer
pieces_counted layer [] made answer e h = one_counted (HasTable layer layer.table) made h ∙ sym (ap piece_count e)
pieces_counted layer (item ∷ items) made answer e h =
    let k : length made ≡ length items + 1 = omega (arith, zipped_length (IsPiece layer) (enumerate_from 1 (item ∷ items)) made h, length-enumerate_from 1 (item ∷ items)) in
    k ∙ sym (ap piece_count e)

made_counted : (base : Base) (layers : List HeldLayer) (a : LayerAction) (layer : Layer) (made : List Layer) → PutsOut base layers a layer made → length made ≡ output_count a layer
made_counted base layers (action.Clip from) layer made h = one_counted _ made h
made_counted base layers (action.Erase from) layer made h = one_counted _ made h
made_counted base layers (action.Dissolve spec group_points) layer made h = one_counted _ made h
made_counted base layers (action.Clean rule allow_empty gap) layer made h = one_counted _ made h
made_counted base layers action.Mosaic layer made h = one_counted _ made h
made_counted base layers action.InnerLines layer made h = one_counted _ made h
made_counted base layers (action.Lines fields) layer made h = one_counted _ made h
made_counted base layers action.Explode layer made h = one_counted _ made h
made_counted base layers (action.Join from spec) layer made h = one_counted _ made h.joined
made_counted base layers (action.SpatialJoin from spec) layer made h = one_counted _ made h.joined
made_counted base layers (action.Filter test invert remove_empty) layer made h = one_counted _ made h
made_counted base layers (action.FilterFields fields) layer made h = one_counted _ made h
made_counted base layers (action.RenameFields pairs) layer made h = one_counted _ made h
made_counted base layers (action.Split field) layer made h = pieces_counted layer h.items made (split_rows layer.table field) h.answers h.pieces
made_counted base layers (action.Each assigns) layer made h = one_counted _ made h
made_counted base layers (action.Sort key descending) layer made h = one_counted _ made h
made_counted base layers (action.Uniq key most invert) layer made h = one_counted _ made h
made_counted base layers (action.FilterIslands least_area least_links remove_empty) layer made h = one_counted _ made h

-- a command other than a split puts out one
pub makes_one : (a : LayerAction) → ((field : Option Content) → a ≡ action.Split field → ⊥) → MakesOne a
makes_one (action.Split field) n = absurd (n field refl)
makes_one _ n = tt

-- ---- layers that stay, and those put out

abbrev stays : Target → List HeldLayer → ℕ
stays t layers = count_by (λ (held : HeldLayer). not (is_selected t held)) layers

stays_on : (t : Target) (held : HeldLayer) (rest : List HeldLayer) (b : Bool) → is_selected t held ≡ b → stays t (held ∷ rest) ≡ cond (not b) 1 0 + stays t rest
stays_on t held rest b e =
    sum_by-cons (λ (other : HeldLayer). cond (not (is_selected t other)) 1 0) held rest ∙ ap (λ (c : Bool). cond (not c) 1 0 + stays t rest) e

module _ (base : Base) (all : List HeldLayer) (c : Command) (a : LayerAction) where
  abbrev puts : List HeldLayer → ℕ
  puts layers = sum_by (output_count a) (targets c.target layers)

  puts_on : (held : HeldLayer) (rest : List HeldLayer) → is_selected c.target held ≡ true → puts (held ∷ rest) ≡ output_count a held.layer + puts rest
  puts_on held rest e = ap (sum_by (output_count a)) (target_first c.target held rest e) ∙ sum_by-cons (output_count a) held.layer (targets c.target rest)

  puts_off : (held : HeldLayer) (rest : List HeldLayer) → is_selected c.target held ≡ false → puts (held ∷ rest) ≡ puts rest
  puts_off held rest e = ap (sum_by (output_count a)) (other_first c.target held rest e)

  titled_counted : (layer : Layer) (outputs : List Layer) → Titles base all c a layer outputs → length outputs ≡ output_count a layer
  titled_counted layer outputs h = zipped_length (IsTitled c.name) h.made outputs h.titled ∙ made_counted base all a layer h.made h.puts

  placed_on : (held : HeldLayer) (rest : List HeldLayer) (out : List Layer) (others : List HeldLayer) (b : Bool) → is_selected c.target held ≡ b →
      MatchBool b (Titles base all c a held.layer out) (out ≡ []) → length others ≡ stays c.target rest + puts rest →
      length (in_place c.target held out ++ others) ≡ stays c.target (held ∷ rest) + puts (held ∷ rest)
  placed_on held rest out others true e h i =
      let here : length (in_place c.target held out ++ others) ≡ length (map put_out out ++ others) = ap (λ (b : Bool). length ((if b then map put_out out else staying held ∷ []) ++ others)) e in
      let both = length-append (map put_out out) others in
      let each = length-map out put_out in
      let count = titled_counted held.layer out h in
      let stay = stays_on c.target held rest true e in
      let put = puts_on held rest e in
      omega (arith, here, both, each, count, stay, put, i)
  placed_on held rest out others false e h i =
      let here : length (in_place c.target held out ++ others) ≡ length ((staying held ∷ []) ++ others) = ap (λ (b : Bool). length ((if b then map put_out out else staying held ∷ []) ++ others)) e in
      let stay = stays_on c.target held rest false e in
      let put = puts_off held rest e in
      omega (arith, here, stay, put, i)

  in_places_counted : (layers : List HeldLayer) (outputs : List (List Layer)) → AllZip (PutsFor base all c a) layers outputs →
      length (in_places c.target layers outputs) ≡ stays c.target layers + puts layers
  in_places_counted [] [] h = omega arith
  in_places_counted [] (out ∷ outs) h = absurd h
  in_places_counted (held ∷ rest) [] h = absurd h
  in_places_counted (held ∷ rest) (out ∷ outs) h =
      placed_on held rest out (in_places c.target rest outs) (is_selected c.target held) refl h.0 (in_places_counted rest outs h.1)

  put_on : (held : HeldLayer) (rest : List HeldLayer) (out : List Layer) (others : List HeldLayer) (b : Bool) → is_selected c.target held ≡ b →
      MatchBool b (Titles base all c a held.layer out) (out ≡ []) → length others ≡ puts rest → length (map put_out out ++ others) ≡ puts (held ∷ rest)
  put_on held rest out others true e h i =
      let both = length-append (map put_out out) others in
      let each = length-map out put_out in
      let count = titled_counted held.layer out h in
      let put = puts_on held rest e in
      omega (arith, both, each, count, put, i)
  put_on held rest out others false e h i =
      let both = length-append (map put_out out) others in
      let each = length-map out put_out in
      let none : length out ≡ 0 = ap length h in
      let put = puts_off held rest e in
      omega (arith, both, each, none, put, i)

  put_counted : (layers : List HeldLayer) (outputs : List (List Layer)) → AllZip (PutsFor base all c a) layers outputs → length (flat_map (map put_out) outputs) ≡ puts layers
  put_counted [] [] h = omega arith
  put_counted [] (out ∷ outs) h = absurd h
  put_counted (held ∷ rest) [] h = absurd h
  put_counted (held ∷ rest) (out ∷ outs) h = put_on held rest out (flat_map (map put_out) outs) (is_selected c.target held) refl h.0 (put_counted rest outs h.1)

  each_counted : (layers : List HeldLayer) (outputs : List (List Layer)) (b : Bool) → AllZip (PutsFor base all c a) layers outputs →
      length (if b then after_all layers outputs else in_places c.target layers outputs) ≡ (if b then length layers else stays c.target layers) + puts layers
  each_counted layers outputs true h =
      let both = length-append (map staying layers) (flat_map (map put_out) outputs) in
      let each = length-map layers staying in
      omega (arith, both, each, put_counted layers outputs h)
  each_counted layers outputs false h = in_places_counted layers outputs h

-- ---- one layer in the place of the first target

rest_on : (t : Target) (held : HeldLayer) (rest others : List HeldLayer) (b : Bool) → is_selected t held ≡ b → length others ≡ stays t rest →
    length (in_place t held [] ++ others) ≡ stays t (held ∷ rest)
rest_on t held rest others true e i =
    let here : length (in_place t held [] ++ others) ≡ length others = ap (λ (b : Bool). length ((if b then map put_out [] else staying held ∷ []) ++ others)) e in
    omega (arith, here, stays_on t held rest true e, i)
rest_on t held rest others false e i =
    let here : length (in_place t held [] ++ others) ≡ length (staying held ∷ others) = ap (λ (b : Bool). length ((if b then map put_out [] else staying held ∷ []) ++ others)) e in
    omega (arith, here, stays_on t held rest false e, i)

rest_counted : (t : Target) (layers : List HeldLayer) → length (in_places t layers []) ≡ stays t layers
rest_counted t [] = omega arith
rest_counted t (held ∷ rest) = rest_on t held rest (in_places t rest []) (is_selected t held) refl (rest_counted t rest)

abbrev first_at : ℕ → Layer → List (List Layer)
first_at n made = replicate n [] ++ (made ∷ []) ∷ []

first_on : (t : Target) (made : Layer) (held : HeldLayer) (rest : List HeldLayer) → (0 < length (targets t rest) → length (in_places t rest (at_first t rest made)) ≡ stays t rest + 1) →
    (b : Bool) → is_selected t held ≡ b → 0 < length (targets t (held ∷ rest)) → length (in_places t (held ∷ rest) (at_first t (held ∷ rest) made)) ≡ stays t (held ∷ rest) + 1
first_on t made held rest onward true e some =
    let place : at_first t (held ∷ rest) made ≡ (made ∷ []) ∷ [] = ap (λ (b : Bool). first_at (cond (not b) (1 + position_or_len (is_selected t) rest) 0) made) e in
    let all : length (in_places t (held ∷ rest) (at_first t (held ∷ rest) made)) ≡ length (in_place t held (made ∷ []) ++ in_places t rest []) = ap (λ (outs : List (List Layer)). length (in_places t (held ∷ rest) outs)) place in
    let here : length (in_place t held (made ∷ []) ++ in_places t rest []) ≡ length (put_out made ∷ in_places t rest []) = ap (λ (b : Bool). length ((if b then map put_out (made ∷ []) else staying held ∷ []) ++ in_places t rest [])) e in
    omega (arith, all, here, rest_counted t rest, stays_on t held rest true e)
first_on t made held rest onward false e some =
    let next : 1 + position_or_len (is_selected t) rest ≡ suc (position_or_len (is_selected t) rest) = omega arith in
    let place : at_first t (held ∷ rest) made ≡ [] ∷ at_first t rest made =
    ap (λ (b : Bool). first_at (cond (not b) (1 + position_or_len (is_selected t) rest) 0) made) e ∙ ap (λ (k : ℕ). first_at k made) next in
    let all : length (in_places t (held ∷ rest) (at_first t (held ∷ rest) made)) ≡ length (in_place t held [] ++ in_places t rest (at_first t rest made)) = ap (λ (outs : List (List Layer)). length (in_places t (held ∷ rest) outs)) place in
    let here : length (in_place t held [] ++ in_places t rest (at_first t rest made)) ≡ length (staying held ∷ in_places t rest (at_first t rest made)) =
    ap (λ (b : Bool). length ((if b then map put_out [] else staying held ∷ []) ++ in_places t rest (at_first t rest made))) e in
    let left : length (targets t (held ∷ rest)) ≡ length (targets t rest) = ap length (other_first t held rest e) in
    omega (arith, all, here, onward (omega (arith, left, some)), stays_on t held rest false e)

first_counted : (t : Target) (made : Layer) (layers : List HeldLayer) → 0 < length (targets t layers) → length (in_places t layers (at_first t layers made)) ≡ stays t layers + 1
first_counted t made [] some = absurd (omega (arith, some))
first_counted t made (held ∷ rest) some = first_on t made held rest (first_counted t made rest) (is_selected t held) refl some

one_put : (n : ℕ) (made : Layer) → length (flat_map (map put_out) (first_at n made)) ≡ 1
one_put zero made = refl
one_put (suc n) made = one_put n made

joint_counted : (t : Target) (made : Layer) (layers : List HeldLayer) (b : Bool) → 0 < length (targets t layers) →
    length (if b then after_all layers (at_first t layers made) else in_places t layers (at_first t layers made)) ≡ (if b then length layers else stays t layers) + 1
joint_counted t made layers true some =
    let both = length-append (map staying layers) (flat_map (map put_out) (at_first t layers made)) in
    let each = length-map layers staying in
    omega (arith, both, each, one_put (position_or_len (is_selected t) layers) made)
joint_counted t made layers false some = first_counted t made layers some

-- ---- a command

some_first : (layers : List Layer) (first : Layer) → slice_get layers 0 ≡ Some first → 0 < length layers
some_first [] first h = absurd (let e : None ≡ Some first = h in cc)
some_first (layer ∷ layers) first h = omega arith

pub left_by_each : (base : Base) (layers : List HeldLayer) (c : Command) (a : LayerAction) (outputs : List (List Layer)) → AllZip (PutsFor base layers c a) layers outputs →
    length (placed c layers outputs) ≡ stay_count c layers + sum_by (output_count a) (targets c.target layers)
left_by_each base layers c a outputs h = each_counted base layers c a layers outputs c.keep h

some_made : (base : Base) (a : JointAction) (layers : List Layer) (made : Layer) → MadeTogether base a layers made → 0 < length layers
some_made base (joint.MergeLayers force) layers made h = some_first layers h.first h.begins
some_made base joint.Union layers made h = some_first layers h.first h.begins

pub left_together : (base : Base) (layers : List HeldLayer) (c : Command) (a : JointAction) (outputs : List (List Layer)) → PutsTogether base c a layers outputs →
    length (placed c layers outputs) ≡ stay_count c layers + 1
left_together base layers c a outputs h =
    let all : length (placed c layers outputs) ≡ length (placed c layers (at_first c.target layers h.titled)) = ap (λ (outs : List (List Layer)). length (placed c layers outs)) h.place in
    all ∙ joint_counted c.target h.titled layers c.keep (some_made base a (targets c.target layers) h.made h.of_all)
