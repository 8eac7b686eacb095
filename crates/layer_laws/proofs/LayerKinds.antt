-- The kinds of layers that commands take.
use Rattle.std.proofs.Common.{◌≡◌, refl, sym, ap, ◌∙◌, Bool, true, false, not, ◌||◌, List, Option, Some, None, option_map, if◌then◌else◌}
use Rattle.std.specs.List.{AllZip, list_all}
use Rattle.grid_base.specs.declared.kinds.Kind.{Kind}
use Rattle.grid_base.specs.declared.kinds.Kind.TheVariants as kinds
use Rattle.table_terms.specs.Refusals.{first_refusal}
use Rattle.job_terms.specs.declared.job.Action.TheVariants as does
use Rattle.job_terms.specs.declared.job.LayerAction.{LayerAction}
use Rattle.job_terms.specs.declared.job.LayerAction.TheVariants as action
use Rattle.run_plane.specs.declared.layer.Layer.{Layer}
use Rattle.run_state.specs.declared.refusal.RefuseWhy.TheVariants.{WrongKind}
use Rattle.run_checks.specs.Checks as checks
use Rattle.chain_model.specs.Outcome as state
use Rattle.chain_model.specs.State.{StateLayer}
use Rattle.chain_model.specs.Steps.{first_kind, has_geometry, is_polygon, refused_kinds, takes}
use Rattle.layer_laws.specs.Shown.{View, LayerShows}
use Rattle.layer_laws.specs.Reasons.{why_of}
use Rattle.layer_laws.proofs.Zipped.{zip_all}

geometry_alike : (k : Kind) → has_geometry k ≡ checks.has_geometry k
geometry_alike kinds.Polygon = refl
geometry_alike kinds.Line = refl
geometry_alike kinds.Point = refl
geometry_alike kinds.Table = refl

pub polygons_alike : (k : Kind) → is_polygon k ≡ checks.is_polygon k
polygons_alike kinds.Polygon = refl
polygons_alike kinds.Line = refl
polygons_alike kinds.Point = refl
polygons_alike kinds.Table = refl

takes_alike : (a : LayerAction) (first k : Kind) → takes (does.Each a) first k ≡ checks.takes a k
takes_alike (action.Clip from) first k = geometry_alike k
takes_alike (action.Erase from) first k = geometry_alike k
takes_alike (action.Clean rule allow_empty gap) first k = polygons_alike k
takes_alike action.Mosaic first k = polygons_alike k
takes_alike action.InnerLines first k = polygons_alike k
takes_alike (action.Lines fields) first k = polygons_alike k
takes_alike action.Explode first k = geometry_alike k
takes_alike (action.FilterIslands least_area least_links remove_empty) first k = polygons_alike k
takes_alike (action.Filter test invert remove_empty) first k = ap (λ (b : Bool). not remove_empty || b) (geometry_alike k)
takes_alike a first k = refl

no_more : (o : Option state.RefuseWhy) → first_refusal o None ≡ o
no_more None = refl
no_more (Some why) = refl

pub told_alike : (b : Bool) → ◌≡◌ {A = Option state.RefuseWhy} (if b then None else Some state.wrong_kind) (option_map why_of (if b then None else Some WrongKind))
told_alike true = refl
told_alike false = refl

module _ (v : View) (a : LayerAction) (ts : List Layer) (ls : List StateLayer) (shown : AllZip (LayerShows v) ts ls) where
  taken_alike : refused_kinds (does.Each a) ls ≡ option_map why_of (if checks.takes_all a ts then None else Some WrongKind)
  taken_alike =
      let same : list_all (λ (l : StateLayer). takes (does.Each a) (first_kind ls) l.kind) ls ≡ checks.takes_all a ts =
      sym (zip_all (LayerShows v) (λ (layer : Layer). checks.takes a layer.kind) (λ (l : StateLayer). takes (does.Each a) (first_kind ls) l.kind) (λ layer l h. ap (checks.takes a) (sym h.kind) ∙ sym (takes_alike a (first_kind ls) l.kind)) ts ls shown) in
      ap (λ (b : Bool). if b then None else Some state.wrong_kind) same ∙ told_alike (checks.takes_all a ts)

  -- and nothing is looked at beside them
  pub only_taken : first_refusal (refused_kinds (does.Each a) ls) None ≡ option_map why_of (if checks.takes_all a ts then None else Some WrongKind)
  only_taken = no_more (refused_kinds (does.Each a) ls) ∙ taken_alike
