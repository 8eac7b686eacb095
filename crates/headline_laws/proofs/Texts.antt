-- There is a text of whatever an output writes.
use Rattle.std.proofs.Common.{refl}
use Rattle.chain_model.specs.Pictures.{text_in}
use Rattle.layer_laws.specs.Shown.{plane_of}
use Rattle.picture_laws.proofs.Pictured.{all_pictured}
use Rattle.headline_laws.specs.Texts.{EachOutputHasAText}

pub texts_there : EachOutputHasAText
texts_there v view base w =
    let (pictures, shown) = all_pictured v view w.layers in
    (text_in w.form base.places (plane_of v).arcs pictures, record { pictures = pictures; shown = shown; is = refl })
