-- Texts of layers that show those of the state.
use Rattle.std.proofs.Common.{◌≡◌, refl, sym, ap, ◌∙◌, subst, List, [], ◌∷◌, map, Result, Ok, Err}
use Rattle.std.specs.List.{AllZip}
use Rattle.io_core.specs.Contents.{Content}
use Rattle.geojson_io.specs.LayerContent.{LayerContent}
use Rattle.topo_io.specs.ArcLayerContent.{ArcLayerContent}
use Rattle.topo_io.specs.Texts.{topojson_text}
use Rattle.csv_io.specs.CsvText.{csv_text}
use Rattle.job_terms.specs.declared.job.OutForm.{OutForm}
use Rattle.job_terms.specs.declared.job.OutForm.TheVariants as form
use Rattle.run_plane.specs.declared.layer.Layer.{Layer}
use Rattle.run_state.specs.Origins.{Base, one_layer}
use Rattle.run_state.specs.declared.refusal.RefuseWhy.{RefuseWhy}
use Rattle.run_state.specs.declared.refusal.RefuseWhy.TheVariants.{NoLayer, ManyLayers}
use Rattle.run_texts.specs.Pictures.{IsPicture}
use Rattle.run_texts.specs.Tracing.{IsTracedLayer}
use Rattle.run_texts.specs.Written.{IsCsvText}
use Rattle.chain_model.specs.Pictures.{Shows, in_arcs, text_in}
use Rattle.chain_model.specs.State.{StateLayer}
use Rattle.layer_laws.specs.Shown.{View, IsView, IsSeenIn, LayerShows, plane_of}
use Rattle.headline_laws.specs.PictureTexts.{GeoTextsShow, TableTextsShow, TextIsOf, TextsExist, TextsShow, TopoTextsShow}
use Rattle.picture_laws.proofs.Layers.{pictures_show, traced_shows}
use Rattle.picture_laws.proofs.Pictured.{all_pictured}

-- an answer that is an error has no layer, and one that is a layer has no other
stops : (r : Result Layer RefuseWhy) (why : RefuseWhy) (x : Layer) → r ≡ Err why → r ≡ Ok x → ⊥
stops (Ok y) why x e f = absurd (cc)
stops (Err other) why x e f = absurd (cc)

gives : (r : Result Layer RefuseWhy) (x y : Layer) → r ≡ Ok x → r ≡ Ok y → x ≡ y
gives (Ok z) x y e f = cc
gives (Err other) x y e f = absurd (cc)

-- pictures of the state's layers, and their text
text_is_of : (v : View) (base : Base) (f : OutForm) (ls : List StateLayer) (text : Content) (pictures : List LayerContent) → AllZip (Shows (plane_of v) v.answers) ls pictures → text ≡ text_in f base.places v.arcs pictures → TextIsOf v base f ls text
text_is_of v base f ls text pictures shown is w same_form same_layers = record {
  pictures = pictures;
  shown = subst (λ (layers : List StateLayer). AllZip (Shows (plane_of v) v.answers) layers pictures) (sym same_layers) shown;
  is = is ∙ ap (λ (g : OutForm). text_in g base.places v.arcs pictures) (sym same_form);
}

pub geo_texts_show : GeoTextsShow
geo_texts_show v view base seen [] ls show text h = absurd (stops (one_layer []) NoLayer h.layer refl h.one)
geo_texts_show v view base seen (layer ∷ other ∷ layers) ls show text h = absurd (stops (one_layer (layer ∷ other ∷ layers)) ManyLayers h.layer refl h.one)
geo_texts_show v view base seen (layer ∷ []) [] show text h = absurd show
geo_texts_show v view base seen (layer ∷ []) (l ∷ m ∷ ls) show text h = absurd show.1
geo_texts_show v view base seen (layer ∷ []) (l ∷ []) show text h =
    let one : layer ≡ h.layer = gives (one_layer (layer ∷ [])) layer h.layer refl h.one in
    let drawn : IsPicture base.plane layer h.picture = subst (λ (x : Layer). IsPicture base.plane x h.picture) (sym one) h.shows in
    text_is_of v base form.Geo (l ∷ []) text (h.picture ∷ []) (pictures_show v view base.plane seen layer l show.0 h.picture drawn, tt) h.is

-- ---- topologies

-- each layer in arcs is that of a picture
pictured : (v : View) (view : IsView v) (base : Base) (seen : IsSeenIn v base.plane) (layers : List Layer) (ls : List StateLayer) (ts : List ArcLayerContent) → AllZip (LayerShows v) layers ls → AllZip (IsTracedLayer base.plane) layers ts →
    (pictures : List LayerContent) × AllZip (Shows (plane_of v) v.answers) ls pictures × (map (in_arcs v.arcs) pictures ≡ ts)
pictured v view base seen [] [] [] show traced = ([], tt, refl)
pictured v view base seen [] [] (t ∷ ts) show traced = absurd traced
pictured v view base seen [] (l ∷ ls) ts show traced = absurd show
pictured v view base seen (layer ∷ layers) [] ts show traced = absurd show
pictured v view base seen (layer ∷ layers) (l ∷ ls) [] show traced = absurd traced
pictured v view base seen (layer ∷ layers) (l ∷ ls) (t ∷ ts) show traced =
    let first = traced_shows v view base.plane seen layer l show.0 t traced.0 in
    let (pictures, shown, are) = pictured v view base seen layers ls ts show.1 traced.1 in
    (first.picture ∷ pictures, (first.shows, shown), λ i. first.is i ∷ are i)

pub topo_texts_show : TopoTextsShow
topo_texts_show v view base seen layers ls show text h =
    let (pictures, shown, are) = pictured v view base seen layers ls h.traced show h.each in
    text_is_of v base form.Topo ls text pictures shown (h.is ∙ (λ i. topojson_text base.places (seen.arcs i) (sym are i)))

-- ---- tables

-- where its layer has a picture
table_told : (v : View) (base : Base) (layers : List Layer) (ls : List StateLayer) → AllZip (LayerShows v) layers ls → (pictures : List LayerContent) → AllZip (Shows (plane_of v) v.answers) ls pictures → (text : Content) → IsCsvText layers text → TextIsOf v base form.Csv ls text
table_told v base [] ls show pictures shown text h = absurd (stops (one_layer []) NoLayer h.layer refl h.one)
table_told v base (layer ∷ other ∷ layers) ls show pictures shown text h = absurd (stops (one_layer (layer ∷ other ∷ layers)) ManyLayers h.layer refl h.one)
table_told v base (layer ∷ []) [] show pictures shown text h = absurd show
table_told v base (layer ∷ []) (l ∷ m ∷ ls) show pictures shown text h = absurd show.1
table_told v base (layer ∷ []) (l ∷ []) show [] shown text h = absurd shown
table_told v base (layer ∷ []) (l ∷ []) show (picture ∷ other ∷ pictures) shown text h = absurd shown.1
table_told v base (layer ∷ []) (l ∷ []) show (picture ∷ []) shown text h =
    let one : layer ≡ h.layer = gives (one_layer (layer ∷ [])) layer h.layer refl h.one in
    text_is_of v base form.Csv (l ∷ []) text (picture ∷ []) shown (h.is ∙ ap (λ (x : Layer). csv_text x.table) (sym one) ∙ ap csv_text (sym show.0.table ∙ sym shown.0.table))

pub table_texts_show : TableTextsShow
table_texts_show v view base layers ls show text h = let (pictures, shown) = all_pictured v view ls in table_told v base layers ls show pictures shown text h

-- ---- any form

pub texts_show : TextsShow
texts_show v view base seen layers ls show form.Geo text h = geo_texts_show v view base seen layers ls show text h
texts_show v view base seen layers ls show form.Csv text h = table_texts_show v view base layers ls show text h
texts_show v view base seen layers ls show form.Topo text h = topo_texts_show v view base seen layers ls show text h

-- ---- texts of whatever is written

pub texts_exist : TextsExist
texts_exist v view places w =
    let (pictures, shown) = all_pictured v view w.layers in
    (text_in w.form places v.arcs pictures, record { pictures = pictures; shown = shown; is = refl })
