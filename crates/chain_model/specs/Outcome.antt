-- How a run ends, and its exit status.
use Rattle.std.specs.Prelude.{ℕ}
use Rattle.geojson_io.specs.declared.fault.ShapeWhy.{ShapeWhy}
use Rattle.topo_io.specs.declared.fault.TopoWhy.{TopoWhy}
use Rattle.topo_io.specs.declared.fault.TopoPlace.{TopoPlace}
use Rattle.table_rows.specs.declared.fault.TableWhy.{TableWhy}
use Rattle.cmd_words.specs.declared.fault.WordWhy.{WordWhy}

-- why a source is refused: at a byte of it; in a feature of GeoJSON; at a place of a topology; in a column or a row of
-- a table
pub data InputWhy : Type 0 where
  syntax : ℕ → InputWhy
  depth : ℕ → InputWhy
  utf8 : ℕ → InputWhy
  shape : ShapeWhy → ℕ → InputWhy
  topo : TopoWhy → TopoPlace → InputWhy
  no_header : InputWhy
  repeated_name : ℕ → InputWhy
  too_many_rows : ℕ → InputWhy
  unequal_row : ℕ → InputWhy

-- why a command is refused
pub data RefuseWhy : Type 0 where
  no_layer : RefuseWhy
  many_layers : RefuseWhy
  wrong_kind : RefuseWhy
  lone_layer : RefuseWhy
  no_group_points : RefuseWhy
  name_twice : RefuseWhy
  too_many_layers : RefuseWhy
  in_table : TableWhy → RefuseWhy

-- words, sources and commands are counted from 1
pub data Outcome : Type 0 where
  done : Outcome
  bad_words : ℕ → WordWhy → Outcome
  read_fault : ℕ → Outcome
  missing : ℕ → Outcome
  too_long : ℕ → Outcome
  bad_input : ℕ → InputWhy → Outcome
  -- too many links: how many, repeats counted
  too_dense : ℕ → Outcome
  refused : ℕ → RefuseWhy → Outcome
  write_fault : ℕ → Outcome
  memory : Outcome

abbrev pub status_of : Outcome → ℕ
status_of done = 0
status_of (bad_words n why) = 1
status_of (bad_input n why) = 2
status_of (too_long n) = 2
status_of (too_dense count) = 2
status_of (refused n why) = 3
status_of (read_fault n) = 4
status_of (missing n) = 4
status_of (write_fault n) = 5
status_of memory = 6
