use Rattle.run_texts.proofs.texts.table_text.Goals as goal

pub returns-clause-says : goal.returns-clause-says
returns-clause-says c =
    record {
      layer = c.in_ok-layer.layer.now;
      one = c.in_ok-layer.ensures.ok;
      is = c.in_ok-write_csv.ensures.exact;
    }
