use Rattle.run_state.proofs.OnPlane.{target_on}
use Rattle.run_texts.proofs.texts.geo_text.Goals as goal

pub picture_text-requires-clause-on : goal.picture_text-requires-clause-on
picture_text-requires-clause-on c = target_on c.args.base.now.plane.now c.args.target.now c.args.layers.now c.in_ok-layer.layer.now c.in_ok-layer.ensures.ok c.requires.on

pub returns-clause-says : goal.returns-clause-says
returns-clause-says c =
    let says = c.in_ok-picture_text.ensures.says in
    record {
      layer = c.in_ok-layer.layer.now;
      one = c.in_ok-layer.ensures.ok;
      picture = says.picture;
      shows = says.shows;
      is = says.is;
    }
