-- The layers that commands begin with, as they are made one after another.
use Rattle.std.proofs.Common.{◌≡◌, refl, sym, ap, ◌∙◌, subst, arith, ℕ, zero, suc, ◌+◌, List, [], ◌∷◌, ◌++◌, map, drop, length, get_or, append_assoc}
use Rattle.std.specs.List.{AllZip, range_with_len}
use Rattle.std.specs.Vec.Iter.{into_iter_items}
use Rattle.std.proofs.lemmas.List.{append-nil, drop-drop}
use Rattle.std.proofs.lemmas.List.FromFn.{map-range_with_len_more}
use Rattle.lists.specs.Lists.{first_or}
use Rattle.plane_model.specs.Points.{Path}
use Rattle.plane_model.specs.Arcs.{SignedArc}
use Rattle.grid_base.specs.declared.kinds.Kind.{Kind}
use Rattle.grid_base.specs.declared.kinds.Kind.TheVariants as kinds
use Rattle.geojson_io.specs.LayerContent.{LayerContent}
use Rattle.job_terms.specs.declared.job.Owner.{Owner}
use Rattle.run_beginning.specs.BegunLayers.{AreBegun, AreBegunOfEach, AreShapes, AreSourcesBegun, IsBegunLayer, IsLineOf, Left, left_after, left_after_all, left_after_many, imported, of_command, of_import, owned, path_shape}
use Rattle.run_beginning.specs.DrawnLayers.{IsDrawn, IsDrawnSource}
use Rattle.run_beginning.specs.NextFeatures.{IsLeft}
use Rattle.run_beginning.specs.declared.drawing.DrawnLayer.{DrawnLayer}
use Rattle.run_beginning.specs.declared.drawing.DrawnSource.{DrawnSource}
use Rattle.run_beginning.specs.declared.beginning.Next.{Next}
use Rattle.run_plane.specs.LineArcs.{AreLineArcs}
use Rattle.run_plane.specs.declared.layer.Layer.{Layer}
use Rattle.run_plane.specs.declared.layer.Shape.{Shape}
use Rattle.run_sources.specs.declared.sources.ReadSource.{ReadSource}
use Rattle.run_beginning.proofs.DrawnLemmas.{none_of_none}

-- ---- shapes

first_dropped : {A : Type 0} (none : A) (n : ℕ) (xs : List A) → first_or none (drop n xs) ≡ get_or xs n none
first_dropped none zero [] = refl
first_dropped none zero (x ∷ xs) = refl
first_dropped none (suc n) [] = refl
first_dropped none (suc n) (x ∷ xs) = first_dropped none n xs

-- one shape more, of the first item that is left
pub shapes_more : {A : Type 0} (make : A → Shape) (none : A) (all left : List A) (n : ℕ) (item : A) (begun : List Shape) → begun ≡ map (λ (k : ℕ). make (get_or all k none)) (range_with_len 0 n) → left ≡ drop n all → item ≡ first_or none left →
    begun ++ make item ∷ [] ≡ map (λ (k : ℕ). make (get_or all k none)) (range_with_len 0 (n + 1))
shapes_more make none all left n item begun e f g =
    let is : item ≡ get_or all n none = g ∙ ap (first_or none) f ∙ first_dropped none n all in
    (λ i. e i ++ make (is i) ∷ []) ∙ sym (map-range_with_len_more (λ (k : ℕ). make (get_or all k none)) 0 n n (omega arith))

pub items_left : {A : Type 0} (all left rest : List A) (n : ℕ) → left ≡ drop n all → rest ≡ drop 1 left → rest ≡ drop (n + 1) all
items_left {A} all left rest n e f = f ∙ ap (λ (xs : List A). drop 1 xs) e ∙ drop-drop 1 n all

-- ---- the features that are left

arcs_at : (arcs : List Path) (lines : List (List Path)) (paths : List (List (List SignedArc))) (k : ℕ) → AllZip (AreLineArcs arcs) lines paths → AreLineArcs arcs (get_or lines k []) (get_or paths k [])
arcs_at arcs [] [] zero h = tt
arcs_at arcs [] [] (suc k) h = tt
arcs_at arcs [] (p ∷ paths) k h = absurd h
arcs_at arcs (l ∷ lines) [] k h = absurd h
arcs_at arcs (l ∷ lines) (p ∷ paths) zero h = h.0
arcs_at arcs (l ∷ lines) (p ∷ paths) (suc k) h = arcs_at arcs lines paths k h.1

each_line : (arcs : List Path) (lines : List (List Path)) (paths : List (List (List SignedArc))) (numbers : List ℕ) → AllZip (AreLineArcs arcs) lines paths → AllZip (IsLineOf arcs lines) numbers (map (path_shape paths) numbers)
each_line arcs lines paths [] h = tt
each_line arcs lines paths (k ∷ numbers) h = (arcs_at arcs lines paths k h, each_line arcs lines paths numbers h)

arcs_dropped : (arcs : List Path) (lines : List (List Path)) (paths : List (List (List SignedArc))) (n : ℕ) → AllZip (AreLineArcs arcs) lines paths → AllZip (AreLineArcs arcs) (drop n lines) (drop n paths)
arcs_dropped arcs lines paths zero h = h
arcs_dropped arcs [] [] (suc n) h = tt
arcs_dropped arcs [] (p ∷ paths) (suc n) h = absurd h
arcs_dropped arcs (l ∷ lines) [] (suc n) h = absurd h
arcs_dropped arcs (l ∷ lines) (p ∷ paths) (suc n) h = arcs_dropped arcs lines paths n h.1

module _ (arcs : List Path) (left : Left) (next : Next) (is : IsLeft arcs left next) where
  -- the next n of them are the lines of a layer
  pub lines_are : (given : LayerContent) (n : ℕ) (begun : List Shape) → kinds.Line ≡ given.kind → n ≡ length given.shapes → begun ≡ map (path_shape (into_iter_items next.lines)) (range_with_len 0 n) → AreShapes arcs left given.kind given.shapes begun
  lines_are given n begun kind counted e =
      subst (λ (k : Kind). AreShapes arcs left k given.shapes begun) kind
      (subst (λ (m : ℕ). AllZip (IsLineOf arcs left.lines) (range_with_len 0 m) begun) counted
      (subst (λ (shapes : List Shape). AllZip (IsLineOf arcs left.lines) (range_with_len 0 n) shapes) (sym e) (each_line arcs left.lines (into_iter_items next.lines) (range_with_len 0 n) is.lines)))

  -- and those after them are left
  pub after_lines : (given : LayerContent) (n : ℕ) (new : Next) → kinds.Line ≡ given.kind → n ≡ length given.shapes → into_iter_items new.faces ≡ into_iter_items next.faces → into_iter_items new.lines ≡ drop n (into_iter_items next.lines) → IsLeft arcs (left_after given left) new
  after_lines given n new kind counted faces lines = subst (λ (l : Left). IsLeft arcs l new) (λ i. left_after_many (kind i) (counted i) left) (record {
    faces = faces ∙ is.faces;
    lines = subst (λ (paths : List (List (List SignedArc))). AllZip (AreLineArcs arcs) (drop n left.lines) paths) (sym lines) (arcs_dropped arcs left.lines (into_iter_items next.lines) n is.lines);
  })

-- ---- layers

-- what was begun, with more after it
abbrev pub Goes : List Path → Left → List LayerContent → List Layer → Left → List LayerContent → Type 0
Goes arcs start all begun left given = (more : List Layer) → AreBegun arcs left given more → AreBegun arcs start all (begun ++ more)

-- layers that go on to all of them, over features that are left
pub record LayersGo (arcs : List Path) (start : Left) (all : List LayerContent) (begun : List Layer) (next : Next) (items : List DrawnLayer) : Type 0 where
  pub left : Left
  pub given : List LayerContent
  pub drawn : AllZip IsDrawn given items
  pub goes : Goes arcs start all begun left given
  pub after : left_after_all given left ≡ left_after_all all start
  pub is_left : IsLeft arcs left next

module _ (arcs : List Path) (start : Left) (all : List LayerContent) where
  pub layers_begin : (items : List DrawnLayer) (begun : List Layer) (next : Next) → begun ≡ [] → AllZip IsDrawn all items → IsLeft arcs start next → LayersGo arcs start all begun next items
  layers_begin items begun next none drawn is = record {
    left = start;
    given = all;
    drawn = drawn;
    goes = λ more h. subst (λ (ls : List Layer). AreBegun arcs start all (ls ++ more)) (sym none) h;
    after = refl;
    is_left = is;
  }

  pub layers_more : (begun new : List Layer) (next next' : Next) (items rest : List DrawnLayer) (layer : DrawnLayer) (made : Layer) → items ≡ layer ∷ rest → new ≡ begun ++ made ∷ [] →
      ((left : Left) (g : LayerContent) → IsLeft arcs left next → IsDrawn g layer → IsBegunLayer arcs left g made × IsLeft arcs (left_after g left) next') → LayersGo arcs start all begun next items → LayersGo arcs start all new next' rest
  layers_more begun new next next' items rest layer made e grown makes go = of go.given (subst (λ (ls : List DrawnLayer). AllZip IsDrawn go.given ls) e go.drawn) go.goes go.after
    where
      of : (given : List LayerContent) → AllZip IsDrawn given (layer ∷ rest) → Goes arcs start all begun go.left given → left_after_all given go.left ≡ left_after_all all start → LayersGo arcs start all new next' rest
      of [] drawn goes after = absurd drawn
      of (g ∷ gs) drawn goes after =
          let is = makes go.left g go.is_left drawn.0 in
          record {
            left = left_after g go.left;
            given = gs;
            drawn = drawn.1;
            goes = λ more h. subst (λ (ls : List Layer). AreBegun arcs start all ls) (sym (append_assoc begun (made ∷ []) more) ∙ ap (λ (ls : List Layer). ls ++ more) (sym grown)) (goes (made ∷ more) (is.0, h));
            after = after;
            is_left = is.1;
          }

  module _ (begun : List Layer) (next : Next) (items : List DrawnLayer) (none : items ≡ []) (go : LayersGo arcs start all begun next items) where
    none_given : go.given ≡ []
    none_given = none_of_none IsDrawn go.given (subst (λ (ls : List DrawnLayer). AllZip IsDrawn go.given ls) none go.drawn)

    pub layers_end : AreBegun arcs start all begun
    layers_end = subst (λ (ls : List Layer). AreBegun arcs start all ls) (append-nil begun) (go.goes [] (subst (λ (gs : List LayerContent). AreBegun arcs go.left gs []) (sym none_given) tt))

    pub left_at_end : IsLeft arcs (left_after_all all start) next
    left_at_end = subst (λ (l : Left). IsLeft arcs l next) (sym (ap (λ (gs : List LayerContent). left_after_all gs go.left) none_given) ∙ go.after) go.is_left

-- ---- sources

abbrev pub owners_of : List ReadSource → List Owner
owners_of read = map (λ (source : ReadSource). source.owner) read

abbrev pub layers_of : List ReadSource → List (List LayerContent)
layers_of read = map (λ (source : ReadSource). source.layers) read

-- what the sources so far began as, with more after it
pub record SourcesGo (arcs : List Path) (start : Left) (all : List ReadSource) (layers : List Layer) (sources : List (List Layer)) (next : Next) (items : List DrawnSource) : Type 0 where
  pub left : Left
  pub is_left : IsLeft arcs left next
  pub given : List ReadSource
  pub drawn : AllZip IsDrawnSource given items
  pub seen : List (List Layer)
  pub each : (more : List (List Layer)) → AreBegunOfEach arcs left (layers_of given) more → AreBegunOfEach arcs start (layers_of all) (seen ++ more)
  pub of_imports : (more : List (List Layer)) → layers ++ imported (owners_of given) more ≡ imported (owners_of all) (seen ++ more)
  pub of_commands : (more : List (List Layer)) → sources ++ owned (owners_of given) more ≡ owned (owners_of all) (seen ++ more)

module _ (arcs : List Path) (start : Left) (all : List ReadSource) where
  pub sources_begin : (layers : List Layer) (sources : List (List Layer)) (next : Next) (items : List DrawnSource) → layers ≡ [] → sources ≡ [] → IsLeft arcs start next → AllZip IsDrawnSource all items → SourcesGo arcs start all layers sources next items
  sources_begin layers sources next items e f is drawn = record {
    left = start;
    is_left = is;
    given = all;
    drawn = drawn;
    seen = [];
    each = λ more h. h;
    of_imports = λ more. ap (λ (ls : List Layer). ls ++ imported (owners_of all) more) e;
    of_commands = λ more. ap (λ (ls : List (List Layer)). ls ++ owned (owners_of all) more) f;
  }

  pub sources_go_on : (items rest : List DrawnSource) (source : DrawnSource) (layers layers' begun : List Layer) (sources sources' : List (List Layer)) (next next' : Next) → items ≡ source ∷ rest →
      ((left : Left) (given : List LayerContent) → IsLeft arcs left next → AllZip IsDrawn given source.layers.items → AreBegun arcs left given begun × IsLeft arcs (left_after_all given left) next') →
      layers' ≡ layers ++ of_import source.owner begun → sources' ≡ sources ++ of_command source.owner begun ∷ [] → SourcesGo arcs start all layers sources next items → SourcesGo arcs start all layers' sources' next' rest
  sources_go_on items rest source layers layers' begun sources sources' next next' e makes imports commands go =
      of go.given (subst (λ (ls : List DrawnSource). AllZip IsDrawnSource go.given ls) e go.drawn) go.each go.of_imports go.of_commands
    where
      of : (given : List ReadSource) → AllZip IsDrawnSource given (source ∷ rest) → ((more : List (List Layer)) → AreBegunOfEach arcs go.left (layers_of given) more → AreBegunOfEach arcs start (layers_of all) (go.seen ++ more)) →
          ((more : List (List Layer)) → layers ++ imported (owners_of given) more ≡ imported (owners_of all) (go.seen ++ more)) → ((more : List (List Layer)) → sources ++ owned (owners_of given) more ≡ owned (owners_of all) (go.seen ++ more)) →
          SourcesGo arcs start all layers' sources' next' rest
      of [] drawn each of_imports of_commands = absurd drawn
      of (g ∷ gs) drawn each of_imports of_commands =
          let is = makes go.left g.layers go.is_left drawn.0.1 in
          let same : (more : List (List Layer)) → go.seen ++ begun ∷ more ≡ (go.seen ++ begun ∷ []) ++ more = λ more. sym (append_assoc go.seen (begun ∷ []) more) in
          record {
            left = left_after_all g.layers go.left;
            is_left = is.1;
            given = gs;
            drawn = drawn.1;
            seen = go.seen ++ begun ∷ [];
            each = λ more h. subst (λ (ls : List (List Layer)). AreBegunOfEach arcs start (layers_of all) ls) (same more) (each (begun ∷ more) (is.0, h));
            of_imports = λ more.
                (λ i. imports i ++ imported (owners_of gs) more)
                ∙ append_assoc layers (of_import source.owner begun) (imported (owners_of gs) more)
                ∙ (λ i. layers ++ (of_import (drawn.0.0 i) begun ++ imported (owners_of gs) more))
                ∙ of_imports (begun ∷ more)
                ∙ ap (imported (owners_of all)) (same more);
            of_commands = λ more.
                (λ i. commands i ++ owned (owners_of gs) more)
                ∙ append_assoc sources (of_command source.owner begun ∷ []) (owned (owners_of gs) more)
                ∙ (λ i. sources ++ (of_command (drawn.0.0 i) begun ∷ owned (owners_of gs) more))
                ∙ of_commands (begun ∷ more)
                ∙ ap (owned (owners_of all)) (same more);
          }

  pub sources_end : (items : List DrawnSource) (layers : List Layer) (sources : List (List Layer)) (next : Next) → items ≡ [] → SourcesGo arcs start all layers sources next items → AreSourcesBegun arcs start (owners_of all) (layers_of all) layers sources
  sources_end items layers sources next e go =
      let none : go.given ≡ [] = none_of_none IsDrawnSource go.given (subst (λ (ls : List DrawnSource). AllZip IsDrawnSource go.given ls) e go.drawn) in
      record {
        begun = go.seen;
        each = subst (λ (ls : List (List Layer)). AreBegunOfEach arcs start (layers_of all) ls) (append-nil go.seen)
            (go.each [] (subst (λ (gs : List ReadSource). AreBegunOfEach arcs go.left (layers_of gs) []) (sym none) tt));
        of_imports = sym (append-nil layers) ∙ (λ i. layers ++ imported (owners_of (sym none i)) []) ∙ go.of_imports [] ∙ ap (imported (owners_of all)) (append-nil go.seen);
        of_commands = sym (append-nil sources) ∙ (λ i. sources ++ owned (owners_of (sym none i)) []) ∙ go.of_commands [] ∙ ap (owned (owners_of all)) (append-nil go.seen);
      }
