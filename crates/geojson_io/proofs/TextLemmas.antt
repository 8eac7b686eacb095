-- Texts with commas between them, written one after another.
use Rattle.std.proofs.Common.{◌≡◌, ℕ, zero, suc, codes, zip, ◌+◌, ◌<◌, ◌≤◌, List, [], ◌∷◌, ◌++◌, length, take, map, get_or, refl, sym, ap, ◌∙◌, arith}
use Rattle.std.proofs.lemmas.List.{append-nil, append_assoc, take_more, map-append, length-take-le, length-map, take_all}
use Rattle.std.proofs.lemmas.Bool.Decides.{nat_tests}
use Rattle.geojson_io.specs.Texts.{Text, separated, before_item, list_text, type_text, typed, one_or_many, geometry_text, member_text, properties_text, feature_text, key_text, features_text, collection_start, collection_end, geojson_text}
use Rattle.geojson_io.specs.LayerContent.{LayerContent}
use Rattle.std.proofs.lemmas.Slice.Zip.{get_or-zip, length-zip}
use Rattle.json_values.specs.Table.{RowValues, AreRows}
use Rattle.json_values.specs.declared.value.Value.{Value}
use Rattle.geojson_io.specs.declared.shape.GeoShape.{GeoShape}

before_some : (c : Text) (n : ℕ) → before_item c (suc n) ≡ c
before_some c n = grind (arith, nat_tests)

-- one text more
pub separated-push : (c : Text) (ts : List Text) (t : Text) → separated c (ts ++ t ∷ []) ≡ separated c ts ++ (before_item c (length ts) ++ t)
separated-push c [] t = refl
separated-push c (s ∷ []) t = refl
separated-push c (s ∷ u ∷ rest) t =
    ap (λ (w : Text). s ++ (c ++ w)) (separated-push c (u ∷ rest) t)
    ∙ ap (λ (w : Text). s ++ (c ++ (separated c (u ∷ rest) ++ (w ++ t)))) (before_some c (length rest))
    ∙ ap (λ (w : Text). s ++ w) (sym (append_assoc c (separated c (u ∷ rest)) (c ++ t)))
    ∙ sym (append_assoc s (c ++ separated c (u ∷ rest)) (c ++ t))
    ∙ ap (λ (w : Text). separated c (s ∷ u ∷ rest) ++ (w ++ t)) (sym (before_some c (suc (length rest))))

module _ {A : Type 0} (show : A → Text) (c : Text) where
  -- the texts of the first i items
  abbrev pub shown_to : List A → ℕ → Text
  shown_to xs i = separated c (map show (take i xs))

  pub shown_more : (xs : List A) (i : ℕ) (x : A) → i < length xs → x ≡ get_or xs i x → shown_to xs (i + 1) ≡ shown_to xs i ++ (before_item c i ++ show x)
  shown_more xs i x l is =
      let more : take (i + 1) xs ≡ take i xs ++ x ∷ [] = take_more xs i x l ∙ ap (λ (y : A). take i xs ++ y ∷ []) (sym is) in
      let count : length (map show (take i xs)) ≡ i = length-map (take i xs) show ∙ length-take-le i xs (omega arith) in
      ap (λ (ys : List A). separated c (map show ys)) more ∙ ap (separated c) (map-append show (take i xs) (x ∷ []))
      ∙ separated-push c (map show (take i xs)) (show x) ∙ ap (λ (n : ℕ). shown_to xs i ++ (before_item c n ++ show x)) count

  pub all_shown : (xs : List A) (i : ℕ) → length xs ≤ i → shown_to xs i ≡ separated c (map show xs)
  all_shown xs i l = ap (λ (ys : List A). separated c (map show ys)) (take_all i xs l)

  -- what was written, and now the next item
  pub written_more : (out start mark end : Text) (xs : List A) (i : ℕ) (x : A) → i < length xs → x ≡ get_or xs i x
      → out ≡ start ++ shown_to xs i → mark ≡ out ++ before_item c i → end ≡ mark ++ show x → end ≡ start ++ shown_to xs (i + 1)
  written_more out start mark end xs i x l is o m e =
      e ∙ ap (λ (w : Text). w ++ show x) (m ∙ ap (λ (w : Text). w ++ before_item c i) o)
      ∙ append_assoc (start ++ shown_to xs i) (before_item c i) (show x) ∙ append_assoc start (shown_to xs i) (before_item c i ++ show x)
      ∙ ap (λ (w : Text). start ++ w) (sym (shown_more xs i x l is))

-- the whole list
pub list_written : {A : Type 0} (show : A → Text) (old start out end : Text) (xs : List A) (i : ℕ) → length xs ≤ i → start ≡ old ++ 91 ∷ [] → out ≡ start ++ separated (44 ∷ []) (map show (take i xs)) → end ≡ out ++ 93 ∷ [] → end ≡ old ++ list_text show xs
list_written {A} show old start out end xs i l s o e =
    e ∙ ap (λ (w : Text). w ++ 93 ∷ []) (o ∙ (λ j. s j ++ separated (44 ∷ []) (map show (take_all i xs l j))))
    ∙ append_assoc (old ++ 91 ∷ []) (separated (44 ∷ []) (map show xs)) (93 ∷ []) ∙ append_assoc old (91 ∷ []) (separated (44 ∷ []) (map show xs) ++ 93 ∷ [])

-- a geometry object, piece by piece
object_written : (type text old a b e : Text) → a ≡ old ++ type_text type → b ≡ a ++ text → e ≡ b ++ 125 ∷ [] → e ≡ old ++ typed type text
object_written type text old a b e ea eb ee =
    ee ∙ ap (λ (w : Text). w ++ 125 ∷ []) (eb ∙ ap (λ (w : Text). w ++ text) ea)
    ∙ append_assoc (old ++ type_text type) text (125 ∷ []) ∙ append_assoc old (type_text type) (text ++ 125 ∷ [])

pub one_written : {A : Type 0} (one many : Text) (show : A → Text) (xs : List A) (x : A) (old a b e : Text) → 1 ≤ length xs → length xs < 2 → x ≡ get_or xs 0 x
    → a ≡ old ++ type_text one → b ≡ a ++ show x → e ≡ b ++ 125 ∷ [] → e ≡ old ++ one_or_many one many show xs
one_written one many show [] x old a b e l k is ea eb ee = absurd (omega arith)
one_written one many show (y ∷ []) x old a b e l k is ea eb ee = object_written one (show x) old a b e ea eb ee ∙ ap (λ z. old ++ typed one (show z)) is
one_written one many show (y ∷ z ∷ rest) x old a b e l k is ea eb ee = absurd (omega arith)

pub many_written : {A : Type 0} (one many : Text) (show : A → Text) (xs : List A) (old a b e : Text) → 2 ≤ length xs
    → a ≡ old ++ type_text many → b ≡ a ++ list_text show xs → e ≡ b ++ 125 ∷ [] → e ≡ old ++ one_or_many one many show xs
many_written one many show [] old a b e l ea eb ee = absurd (omega arith)
many_written one many show (y ∷ []) old a b e l ea eb ee = absurd (omega arith)
many_written one many show (y ∷ z ∷ rest) old a b e l ea eb ee = object_written many (list_text show (y ∷ z ∷ rest)) old a b e ea eb ee

-- the pair at a place of two lists
pub pair_at : {A B : Type 0} (ks : List A) (vs : List B) (i : ℕ) (k : A) (v : B) → i < length ks → i < length vs → k ≡ get_or ks i k → v ≡ get_or vs i v → (k, v) ≡ get_or (zip ks vs) i (k, v)
pair_at {A} {B} ks vs i k v l m e f = (λ j. let p : A × B = (e j, f j) in p) ∙ sym (get_or-zip ks vs i (k, v) l m)

-- the object of all columns
pub properties_written : (keys : List Text) (row : RowValues) (old start out end : Text) (i : ℕ) → 0 < length keys → length (zip keys row) ≤ i → start ≡ old ++ 123 ∷ []
    → out ≡ start ++ separated (44 ∷ []) (map member_text (take i (zip keys row))) → end ≡ out ++ 125 ∷ [] → end ≡ old ++ properties_text keys row
properties_written [] row old start out end i n l s o e = absurd (omega arith)
properties_written (k ∷ ks) row old start out end i n l s o e =
    let whole : List (Text × Value) = zip (k ∷ ks) row in
    e ∙ ap (λ (w : Text). w ++ 125 ∷ []) (o ∙ (λ j. s j ++ separated (44 ∷ []) (map member_text (take_all i whole l j))))
    ∙ append_assoc (old ++ 123 ∷ []) (separated (44 ∷ []) (map member_text whole)) (125 ∷ []) ∙ append_assoc old (123 ∷ []) (separated (44 ∷ []) (map member_text whole) ++ 125 ∷ [])

-- each row has the width of the columns
pub width_at : (n : ℕ) (rows : List RowValues) (i : ℕ) (row : RowValues) → AreRows n rows → i < length rows → row ≡ get_or rows i row → n ≡ length row
width_at n [] i row h l e = absurd (omega arith)
width_at n (r ∷ rows) zero row h l e = sym (ap length e ∙ h.0)
width_at n (r ∷ rows) (suc i) row h l e = width_at n rows i row h.1 (omega arith) e

-- the end of a feature, piece by piece
pub feature_ended : (keys : List Text) (row : RowValues) (old a b e : Text)
    → a ≡ old ++ codes ",\"properties\":" → b ≡ a ++ properties_text keys row → e ≡ b ++ 125 ∷ []
    → e ≡ old ++ (codes ",\"properties\":" ++ (properties_text keys row ++ 125 ∷ []))
feature_ended keys row old a b e ea eb ee =
    let first : Text = codes ",\"properties\":" in
    let p : Text = properties_text keys row in
    ee ∙ ap (λ (w : Text). w ++ 125 ∷ []) (eb ∙ ap (λ (w : Text). w ++ p) ea)
    ∙ append_assoc (old ++ first) p (125 ∷ []) ∙ append_assoc old first (p ++ 125 ∷ [])

-- a feature after what parts it from the one before it, piece by piece
pub feature_written : (places : ℕ) (keys : List Text) (row : RowValues) (shape : GeoShape) (mark old a b e : Text)
    → a ≡ old ++ (mark ++ codes "{\"type\":\"Feature\",\"geometry\":") → b ≡ a ++ geometry_text places shape
    → e ≡ b ++ (codes ",\"properties\":" ++ (properties_text keys row ++ 125 ∷ []))
    → e ≡ old ++ (mark ++ feature_text places keys (row, shape))
feature_written places keys row shape mark old a b e ea eb ee =
    let first : Text = codes "{\"type\":\"Feature\",\"geometry\":" in
    let g : Text = geometry_text places shape in
    let last : Text = codes ",\"properties\":" ++ (properties_text keys row ++ 125 ∷ []) in
    ee ∙ ap (λ (w : Text). w ++ last) (eb ∙ ap (λ (w : Text). w ++ g) ea)
    ∙ append_assoc (old ++ (mark ++ first)) g last ∙ append_assoc old (mark ++ first) (g ++ last)
    ∙ ap (λ (w : Text). old ++ w) (append_assoc mark first (g ++ last))

-- no features
pub no_features : (places : ℕ) (keys : List Text) (rows : List RowValues) (start : Text) → start ≡ start ++ features_text places keys rows []
no_features places keys [] start = sym (append-nil start)
no_features places keys (row ∷ rows) start = sym (append-nil start)

-- a row and a shape more
zip_more : {A B : Type 0} (xs : List A) (ys : List B) (x : A) (y : B) → length ys < length xs → x ≡ get_or xs (length ys) x → zip xs (ys ++ y ∷ []) ≡ zip xs ys ++ (x, y) ∷ []
zip_more [] ys x y l is = absurd (omega arith)
zip_more (a ∷ []) [] x y l is = (λ j. (sym is j, y) ∷ [])
zip_more (a ∷ b ∷ xs) [] x y l is = (λ j. (sym is j, y) ∷ [])
zip_more (a ∷ xs) (b ∷ ys) x y l is = ap (λ (zs : List _). (a, b) ∷ zs) (zip_more xs ys x y (omega arith) is)

-- the features so far, and now the next
pub feature_more : (places : ℕ) (keys : List Text) (rows : List RowValues) (shapes : List GeoShape) (row : RowValues) (shape : GeoShape) (i : ℕ) (start out end : Text)
    → length shapes ≡ i → i < length rows → row ≡ get_or rows i row → out ≡ start ++ features_text places keys rows shapes
    → end ≡ out ++ (before_item (codes ",\n") i ++ feature_text places keys (row, shape)) → end ≡ start ++ features_text places keys rows (shapes ++ shape ∷ [])
feature_more places keys rows shapes row shape i start out end many there is so_far added =
    let show = feature_text places keys in
    let c : Text = codes ",\n" in
    let pairs : List (RowValues × GeoShape) = zip rows shapes in
    let next : zip rows (shapes ++ shape ∷ []) ≡ pairs ++ (row, shape) ∷ [] = zip_more rows shapes row shape (omega arith) (is ∙ ap (λ (n : ℕ). get_or rows n row) (sym many)) in
    let count : length (map show pairs) ≡ i = length-map pairs show ∙ omega (arith, length-zip rows shapes) in
    let more : features_text places keys rows (shapes ++ shape ∷ []) ≡ features_text places keys rows shapes ++ (before_item c i ++ show (row, shape)) =
    ap (λ (ps : List (RowValues × GeoShape)). separated c (map show ps)) next ∙ ap (separated c) (map-append show pairs ((row, shape) ∷ []))
    ∙ separated-push c (map show pairs) (show (row, shape)) ∙ ap (λ (n : ℕ). separated c (map show pairs) ++ (before_item c n ++ show (row, shape))) count in
    added ∙ ap (λ (w : Text). w ++ (before_item c i ++ show (row, shape))) so_far ∙ append_assoc start (features_text places keys rows shapes) (before_item c i ++ show (row, shape))
    ∙ ap (λ (w : Text). start ++ w) (sym more)

-- what stands after no features
pub end_of_none : (shapes : List GeoShape) → length shapes ≡ 0 → codes "]}\n" ≡ collection_end shapes
end_of_none [] h = refl
end_of_none (s ∷ rest) h = absurd (omega (arith, h))

-- what stands after some
pub end_of_some : (shapes : List GeoShape) → 0 < length shapes → codes "\n]}\n" ≡ collection_end shapes
end_of_some [] h = absurd (omega (arith, h))
end_of_some (s ∷ rest) h = refl

-- the whole text, piece by piece
pub geojson_written : (places : ℕ) (l : LayerContent) (keys : List Text) (rows : List RowValues) (shapes : List GeoShape) (a b e : Text)
    → keys ≡ map key_text l.table.names → rows ≡ l.table.rows → shapes ≡ l.shapes
    → a ≡ collection_start → b ≡ a ++ features_text places keys rows shapes → e ≡ b ++ collection_end shapes → e ≡ geojson_text places l
geojson_written places l keys rows shapes a b e same_keys same_rows same_shapes ea eb ee =
    let body : Text = features_text places (map key_text l.table.names) l.table.rows l.shapes in
    ee ∙ (λ i. b ++ collection_end (same_shapes i)) ∙ ap (λ (w : Text). w ++ collection_end l.shapes) (eb ∙ (λ i. ea i ++ features_text places (same_keys i) (same_rows i) (same_shapes i)))
    ∙ append_assoc collection_start body (collection_end l.shapes)
