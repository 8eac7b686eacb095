-- A layer in pieces.
use Rattle.std.proofs.Common.{◌≡◌, refl, sym, ap, ◌∙◌, ℕ, ◌+◌, arith, List, [], ◌∷◌, ◌++◌, map, All, Option, Some, None, Result, Ok, Err, codes, decimal, append_assoc, if◌then◌else◌}
use Rattle.std.specs.List.{AllZip, enumerate_from}
use Rattle.std.proofs.lemmas.List.Elements.{All-head, All-tail}
use Rattle.json_values.specs.Table.{TableContent}
use Rattle.json_values.specs.declared.value.Value.{Value}
use Rattle.table_terms.specs.Names.{Text}
use Rattle.table_rows.specs.Splitting.{split_rows}
use Rattle.table_rows.specs.declared.fault.TableWhy.{TableWhy}
use Rattle.table_rows.specs.declared.split.SplitItem.{SplitItem}
use Rattle.table_terms.specs.Refusals.{on_ok}
use Rattle.region_model.specs.Answers.{is_nil}
use Rattle.run_plane.specs.Shapes.{shape_at}
use Rattle.run_plane.specs.declared.layer.Layer.{Layer}
use Rattle.run_state.specs.Stops.{table_refusal}
use Rattle.run_tables.specs.Made.{HasTable, One}
use Rattle.run_tables.specs.Pieces.{ArePieces, IsPiece, IsSplit, piece_name}
use Rattle.chain_model.specs.State as state
use Rattle.chain_model.specs.State.{StateLayer}
use Rattle.chain_model.specs.Features.{Outputs, in_layer, split_name, split_piece}
use Rattle.layer_laws.specs.Shown.{View, LayerShows}
use Rattle.layer_laws.specs.Reasons.{MakesAlike, RefusedAlike}
use Rattle.layer_laws.specs.Tables.{PiecesShow}
use Rattle.layer_laws.proofs.Below.{AreRowsOf, split_below}
use Rattle.layer_laws.proofs.TableCommands.{alike_by, table_shows}
use Rattle.layer_laws.proofs.Taking.{rows_show, taken_shapes}

-- ---- pieces

module _ (v : View) (layer : Layer) (l : StateLayer) (h : LayerShows v layer l) where
  name_alike : (n : ℕ) (value : Option Value) → split_name l n value ≡ piece_name layer.name (n + 1) value
  name_alike n None = append_assoc l.name (codes "-") (decimal (n + 1)) ∙ ap (λ (name : Text). name ++ (codes "-" ++ decimal (n + 1))) h.name
  name_alike n (Some value) = refl

  piece_shows : (n m : ℕ) → m ≡ n + 1 → (item : SplitItem) → AreRowsOf layer.table item → (made : Layer) → IsPiece layer (m, item) made → LayerShows v made (split_piece l (n, item))
  piece_shows n m next item below made is =
      let shown = rows_show v layer l h item.rows (map (shape_at layer.shapes.items) item.rows) (map (state.shape_at l) item.rows) (taken_shapes v layer l h item.rows below)
      (record made { name = layer.name }) (record { name = refl; kind = is.kind; table = is.table; shapes = is.shapes }) in
      record {
        name = name_alike n item.value ∙ ap (λ (k : ℕ). piece_name layer.name k item.value) (sym next) ∙ sym is.name;
        kind = shown.kind;
        table = shown.table;
        shapes = shown.shapes;
      }

  pieces_show : (n m : ℕ) → m ≡ n + 1 → (items : List SplitItem) → All (AreRowsOf layer.table) items → (made : List Layer) → AllZip (IsPiece layer) (enumerate_from m items) made →
      AllZip (LayerShows v) made (map (split_piece l) (enumerate_from n items))
  pieces_show n m next [] below [] are = tt
  pieces_show n m next [] below (piece ∷ made) are = absurd are
  pieces_show n m next (item ∷ items) below [] are = absurd are
  pieces_show n m next (item ∷ items) below (piece ∷ made) are = (
    piece_shows n m next item (All-head (AreRowsOf layer.table) item items below) piece are.0,
    pieces_show (n + 1) (m + 1) (ap (λ (k : ℕ). k + 1) next) items (All-tail (AreRowsOf layer.table) item items below) made are.1,
  )

-- the layer itself where it has no features
abbrev pub pieces_of : StateLayer → List SplitItem → List StateLayer
pieces_of l items = if is_nil items then l ∷ [] else map (split_piece l) (enumerate_from 0 items)

abbrev pub split_of : StateLayer → Result (List SplitItem) TableWhy → Outputs
split_of l answer = on_ok (in_layer answer) (λ (items : List SplitItem). Ok (pieces_of l items))

split_refused : (l : StateLayer) (answer : Result (List SplitItem) TableWhy) → RefusedAlike (table_refusal answer) (split_of l answer)
split_refused l (Ok items) = (pieces_of l items, refl)
split_refused l (Err why) = refl

module _ (v : View) (layer : Layer) (l : StateLayer) (h : LayerShows v layer l) where
  whole_shows : (made : List Layer) → One (HasTable layer layer.table) made → AllZip (LayerShows v) made (l ∷ [])
  whole_shows [] none = absurd none
  whole_shows (made ∷ []) has =
      let shown = table_shows v layer l h layer.table made has in
      (record { name = shown.name; kind = shown.kind; table = h.table ∙ shown.table; shapes = shown.shapes }, tt)
  whole_shows (made ∷ other ∷ rest) many = absurd many

  all_pieces_show : (items : List SplitItem) → All (AreRowsOf layer.table) items → (made : List Layer) → ArePieces layer items made → AllZip (LayerShows v) made (pieces_of l items)
  all_pieces_show [] below made whole = whole_shows made whole
  all_pieces_show (item ∷ items) below made are = pieces_show v layer l h 0 1 (omega arith) (item ∷ items) below made are

  split_alike : (field : Option Text) → MakesAlike v (IsSplit field layer) (table_refusal (split_rows layer.table field)) (split_of l (split_rows layer.table field))
  split_alike field = record {
    shows = λ made split. record {
      outputs = pieces_of l split.items;
      answers = ap (split_of l) split.answers;
      show = all_pieces_show split.items (split_below layer.table field split.items split.answers) made split.pieces;
    };
    refused = split_refused l (split_rows layer.table field);
  }

pub pieces_are_shown : PiecesShow
pieces_are_shown v layer l h field =
    alike_by v (λ (r : Result (List SplitItem) TableWhy). IsSplit field layer) (split_of l) (split_rows layer.table field) (split_rows l.table field) (ap (λ (t : TableContent). split_rows t field) h.table)
    (split_alike v layer l h field)
