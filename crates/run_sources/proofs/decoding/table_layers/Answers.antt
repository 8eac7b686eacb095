use Rattle.std.proofs.Common.{◌∷◌, [], sym, subst, ap, ◌∙◌, All, Err}
use Rattle.io_core.specs.Contents.{Content}
use Rattle.geojson_io.specs.Sound.{LayerIsSound}
use Rattle.run_sources.specs.Decoding.{DecodesTable, table_layer}
use Rattle.run_sources.specs.declared.decoding.DecodeStop.{DecodeStop}
use Rattle.run_sources.proofs.Decoded.{table_refused, table_sound}
use Rattle.run_sources.proofs.decoding.table_layers.Goals as goal

pub returns-in_ok-layers_of_table-in-Ok : goal.returns-in_ok-layers_of_table-in-Ok
returns-in_ok-layers_of_table-in-Ok c = record {
  gives = record {
    table = c.in-Ok.table;
    read = c.in-Ok.ensures.exact;
    one = c.in_ok-layers_of_table-in-Ok.ensures.made ∙ ap (λ (title : Content). table_layer title c.in-Ok.table ∷ []) c.title_of.ensures.exact;
  };
  sound = subst (All LayerIsSound) (sym c.in_ok-layers_of_table-in-Ok.ensures.made) (table_sound _ c.in-Ok.table);
}

pub returns-in-Err : goal.returns-in-Err
returns-in-Err c = record {
  gives = subst (λ (stop : DecodeStop). DecodesTable c.args.room c.args.source.now c.args.bytes.now (Err stop)) (sym c.table_stop.ensures.exact)
      (table_refused c.args.room c.args.source.now c.args.bytes.now c.in-Err.fault c.in-Err.ensures.exact);
  sound = tt;
}
