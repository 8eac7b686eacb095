-- What commands on rows and columns make of layers that lie on the plane lies on it.
use Rattle.std.proofs.Common.{sym, subst, ℕ, Bool, if◌then◌else◌, List, [], ◌∷◌, Option, Result}
use Rattle.std.specs.List.{AllZip, enumerate_from}
use Rattle.std.proofs.lemmas.List.Elements.{All-cons, All-nil}
use Rattle.io_core.specs.Contents.{Content}
use Rattle.json_values.specs.Table.{TableContent}
use Rattle.expr_lang.specs.declared.expr.Expr.{Expr}
use Rattle.table_rows.specs.declared.fault.TableWhy.{TableWhy}
use Rattle.table_rows.specs.declared.split.SplitItem.{SplitItem}
use Rattle.run_plane.specs.OnPlane.{AreLayersOn, AreOn, IsLayerOn, IsOn}
use Rattle.run_plane.specs.Shapes.{with_geometry}
use Rattle.run_plane.specs.declared.layer.Layer.{Layer}
use Rattle.run_plane.specs.declared.plane.Plane.{Plane}
use Rattle.run_plane.proofs.OnPlane.{all_joined, taken_on}
use Rattle.run_state.proofs.OnPlane.{features_on}
use Rattle.run_tables.specs.Made.{GivesTable, HasTable, IsFiltered, IsMerged, One, TakesNumbers}
use Rattle.run_tables.specs.Pieces.{ArePieces, IsPiece, IsSplit}

module _ (plane : Plane) where
  -- the one layer that is made
  pub one_on : (P : Layer → Type 0) → ((made : Layer) → P made → IsLayerOn plane made) → (outputs : List Layer) → One P outputs → AreLayersOn plane outputs
  one_on P each [] h = absurd h
  one_on P each (made ∷ []) h = All-cons (IsLayerOn plane) made [] (each made h) (All-nil (IsLayerOn plane))
  one_on P each (made ∷ other ∷ rest) h = absurd h

  table_on : (layer : Layer) (t : TableContent) → IsLayerOn plane layer → (made : Layer) → HasTable layer t made → IsLayerOn plane made
  table_on layer t on made h = subst (AreOn plane) (sym h.shapes) on

  pub given_on : (answer : Result TableContent TableWhy) (layer : Layer) → IsLayerOn plane layer → (made : Layer) → GivesTable answer layer made → IsLayerOn plane made
  given_on answer layer on made h = table_on layer h.given on made h.has

  pub numbers_on : (answer : Result (List ℕ) TableWhy) (layer : Layer) → IsLayerOn plane layer → (made : Layer) → TakesNumbers answer layer made → IsLayerOn plane made
  numbers_on answer layer on made h = features_on plane layer h.numbers made h.takes on

  pub filtered_on : (test : Option Expr) (invert remove_empty : Bool) (layer : Layer) → IsLayerOn plane layer → (made : Layer) → IsFiltered test invert remove_empty layer made → IsLayerOn plane made
  filtered_on test invert remove_empty layer on made h = features_on plane layer (if remove_empty then with_geometry layer.shapes.items h.kept else h.kept) made h.takes on

  pub merged_on : (force : Bool) (layers : List Layer) → AreLayersOn plane layers → (made : Layer) → IsMerged force layers made → IsLayerOn plane made
  merged_on force layers on made h = subst (AreOn plane) (sym h.shapes) (all_joined (IsOn plane) (λ (layer : Layer). layer.shapes.items) layers on)

  -- the layers that one is split into
  pieces_on : (layer : Layer) → IsLayerOn plane layer → (items : List (ℕ × SplitItem)) (made : List Layer) → AllZip (IsPiece layer) items made → AreLayersOn plane made
  pieces_on layer on [] [] h = All-nil (IsLayerOn plane)
  pieces_on layer on [] (piece ∷ made) h = absurd h
  pieces_on layer on (item ∷ items) [] h = absurd h
  pieces_on layer on (item ∷ items) (piece ∷ made) h =
      All-cons (IsLayerOn plane) piece made (subst (AreOn plane) (sym h.0.shapes) (taken_on plane layer.shapes.items item.1.rows on)) (pieces_on layer on items made h.1)

  all_pieces_on : (layer : Layer) → IsLayerOn plane layer → (items : List SplitItem) (made : List Layer) → ArePieces layer items made → AreLayersOn plane made
  all_pieces_on layer on [] made h = one_on (HasTable layer layer.table) (table_on layer layer.table on) made h
  all_pieces_on layer on (item ∷ items) made h = pieces_on layer on (enumerate_from 1 (item ∷ items)) made h

  pub split_on : (field : Option Content) (layer : Layer) → IsLayerOn plane layer → (made : List Layer) → IsSplit field layer made → AreLayersOn plane made
  split_on field layer on made h = all_pieces_on layer on h.items made h.pieces
