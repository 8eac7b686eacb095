-- The layers that a command works on, the layer that it takes from elsewhere, and where its outputs go.
use Rattle.std.specs.Prelude.{ℕ, ◌+◌, ◌-◌, Bool, true, false, nat_lt, nat_eq, List, [], ◌∷◌, ◌++◌, map, filter, filter_map, length, slice_index_or, Option, Some, None, Result, Ok, Err, if◌then◌else◌}
use Rattle.std.specs.List.{list_all, enumerate_from, range_with_len}
use Rattle.std.specs.Str.{bytes_eq}
use Rattle.lists.specs.Lists.{numbers_where, has, joined_up}
use Rattle.grid_base.specs.declared.kinds.Kind.{Kind}
use Rattle.table_terms.specs.Names.{Text, has_name}
use Rattle.job_terms.specs.declared.job.Target.{Target}
use Rattle.job_terms.specs.declared.job.Target.TheVariants as target
use Rattle.job_terms.specs.declared.job.Origin.{Origin}
use Rattle.job_terms.specs.declared.job.Origin.TheVariants as origin
use Rattle.chain_model.specs.Outcome.{RefuseWhy, no_layer, many_layers, wrong_kind, too_many_layers}
use Rattle.chain_model.specs.State.{State, StateLayer}

-- ---- targets

abbrev pub layer_names : List StateLayer → List Text
layer_names ls = map (λ (l : StateLayer). l.name) ls

-- some layers, or NoLayer
abbrev pub some_layers : List ℕ → Result (List ℕ) RefuseWhy
some_layers [] = Err no_layer
some_layers (n ∷ ns) = Ok (n ∷ ns)

-- the numbers of the target layers, in layer order: each listed name is that of a layer, and there is some layer
abbrev pub selected : State → Target → Result (List ℕ) RefuseWhy
selected s target.Default = some_layers s.target
selected s target.All = some_layers (range_with_len 0 (length s.layers))
selected s (target.Names names) =
    if list_all (has_name (layer_names s.layers)) names then some_layers (numbers_where (has_name names) (layer_names s.layers)) else Err no_layer

-- the layers with these numbers, in layer order
abbrev pub layers_at : State → List ℕ → List StateLayer
layers_at s ns = filter_map (λ (m : ℕ × StateLayer). if has nat_eq ns m.0 then Some m.1 else None) (enumerate_from 0 s.layers)

-- all of them have an allowed kind
abbrev pub need_kinds : (Kind → Bool) → List StateLayer → Option RefuseWhy
need_kinds allowed ls = if list_all (λ (l : StateLayer). allowed l.kind) ls then None else Some wrong_kind

-- ---- sources

-- the layers of each source of the run, in order
abbrev pub SourceLayers : Type 0
SourceLayers = List (List StateLayer)

-- the layers of a name, or those of the file with this number, from 1, which belong to its command alone
abbrev pub origin_layers : SourceLayers → State → Origin → List StateLayer
origin_layers sources s (origin.Layer name) = filter (λ (l : StateLayer). bytes_eq name l.name) s.layers
origin_layers sources s (origin.Source n) = slice_index_or sources (n - 1) []
origin_layers sources s (origin.Area n) = []

-- just one layer
abbrev pub one_layer : List StateLayer → Result StateLayer RefuseWhy
one_layer [] = Err no_layer
one_layer (l ∷ []) = Ok l
one_layer (l ∷ k ∷ rest) = Err many_layers

-- ---- outputs

-- a layer, and whether a command has just put it out
abbrev pub Marked : Type 0
Marked = Bool × StateLayer

abbrev pub old : StateLayer → Marked
old l = (false, l)

abbrev pub new : StateLayer → Marked
new l = (true, l)

-- the outputs for each target in its place: ns are the targets' numbers, and the layers begin at number n
abbrev pub replaced : ℕ → List ℕ → List StateLayer → List (List StateLayer) → List Marked
replaced n ns [] outs = []
replaced n ns (l ∷ ls) [] = old l ∷ replaced (n + 1) ns ls []
replaced n ns (l ∷ ls) (out ∷ outs) =
    if has nat_eq ns n then map new out ++ replaced (n + 1) ns ls outs else old l ∷ replaced (n + 1) ns ls (out ∷ outs)

-- with `+` the targets stay and the outputs go to the end
abbrev pub placed : State → Bool → List ℕ → List (List StateLayer) → List Marked
placed s true ns outs = map old s.layers ++ map new (joined_up outs)
placed s false ns outs = replaced 0 ns s.layers outs

-- the outputs are the default target
abbrev pub state_of : List Marked → State
state_of ms = record { layers = map (λ (m : Marked). m.1) ms; target = numbers_where (λ (m : Marked). m.0) ms }

-- the most layers that a run may have
abbrev pub layer_limit : ℕ
layer_limit = 1000

abbrev pub with_outputs : State → Bool → List ℕ → List (List StateLayer) → Result State RefuseWhy
with_outputs s keep ns outs =
    if nat_lt layer_limit (length (placed s keep ns outs)) then Err too_many_layers else Ok (state_of (placed s keep ns outs))
