-- What each command takes: its argument, its options and its bare words.
use Rattle.std.specs.Prelude.{ℕ, Bool, List, [], ◌∷◌, find, codes, Option, option_map}
use Rattle.std.specs.List.{list_any}
use Rattle.std.specs.Str.{bytes_eq}
use Rattle.cmd_words.specs.declared.commands.Keyword.{Keyword}
use Rattle.cmd_words.specs.declared.commands.Keyword.TheVariants as keyword
use Rattle.cmd_words.specs.declared.commands.LayerKeyword.{LayerKeyword}
use Rattle.cmd_words.specs.declared.commands.LayerKeyword.TheVariants as layer
use Rattle.cmd_words.specs.declared.commands.ExpressionKeyword.{ExpressionKeyword}
use Rattle.cmd_words.specs.declared.commands.ExpressionKeyword.TheVariants as by
use Rattle.cmd_words.specs.declared.commands.JointKeyword.{JointKeyword}
use Rattle.cmd_words.specs.declared.commands.JointKeyword.TheVariants as joint
use Rattle.cmd_words.specs.declared.commands.ValueForm.{ValueForm}
use Rattle.cmd_words.specs.declared.commands.ValueForm.TheVariants as value
use Rattle.cmd_words.specs.declared.commands.ArgumentForm.{ArgumentForm}
use Rattle.cmd_words.specs.declared.commands.ArgumentForm.TheVariants as argument

-- a text, by its bytes
abbrev pub Text : Type 0
Text = List ℕ

-- one of the names is this
abbrev pub has_name : List Text → Text → Bool
has_name names name = list_any (λ (n : Text). bytes_eq n name) names

-- what may stand in a group of words
pub record Form : Type 0 where
  pub argument : ArgumentForm
  pub options : List (Text × ValueForm)
  pub bare : List Text

pub record Row : Type 0 where
  pub word : Text
  pub keyword : Keyword
  pub form : Form

abbrev pub form_of : List (Text × ValueForm) → Text → Option ValueForm
form_of options name = option_map (λ (o : Text × ValueForm). o.1) (find (λ (o : Text × ValueForm). bytes_eq o.0 name) options)

abbrev pub row_named : List Row → Text → Option Row
row_named rows word = find (λ (r : Row). bytes_eq r.word word) rows

-- ## The options, and the rows

abbrev pub TARGET : Text × ValueForm
TARGET = (codes "target", value.List)

abbrev pub NAME : Text × ValueForm
NAME = (codes "name", value.Text)

abbrev pub STRING_FIELDS : Text × ValueForm
STRING_FIELDS = (codes "string-fields", value.List)

abbrev pub import_form : Form
import_form = record { argument = argument.Files; options = (codes "precision", value.Precision) ∷ STRING_FIELDS ∷ []; bare = codes "combine-files" ∷ [] }

abbrev pub row : Text → Keyword → ArgumentForm → List (Text × ValueForm) → List Text → Row
row w k a os bs = record { word = w; keyword = k; form = record { argument = a; options = os; bare = bs } }

abbrev pub layer_row : Text → LayerKeyword → ArgumentForm → List (Text × ValueForm) → List Text → Row
layer_row w k a os bs = row w (keyword.Each k) a os bs

abbrev pub calculated_row : Text → ExpressionKeyword → ArgumentForm → List (Text × ValueForm) → List Text → Row
calculated_row w k a os bs = row w (keyword.Calculated k) a os bs

abbrev pub joint_row : Text → JointKeyword → ArgumentForm → List (Text × ValueForm) → List Text → Row
joint_row w k a os bs = row w (keyword.Together k) a os bs

unfoldable pub rows : List Row
rows =
    layer_row (codes "-clip") layer.Clip argument.Source ((codes "bbox", value.Rect) ∷ TARGET ∷ NAME ∷ []) (codes "+" ∷ [])
    ∷ layer_row (codes "-erase") layer.Erase argument.Source ((codes "bbox", value.Rect) ∷ TARGET ∷ NAME ∷ []) (codes "+" ∷ [])
    ∷ layer_row (codes "-dissolve") layer.Dissolve argument.List ((codes "sum-fields", value.List) ∷ (codes "copy-fields", value.List) ∷ TARGET ∷ NAME ∷ []) (codes "group-points" ∷ codes "+" ∷ [])
    ∷ layer_row (codes "-clean") layer.Clean argument.Nothing ((codes "overlap-rule", value.Rule) ∷ (codes "gap-fill-area", value.Gap) ∷ TARGET ∷ NAME ∷ []) (codes "allow-empty" ∷ codes "+" ∷ [])
    ∷ layer_row (codes "-mosaic") layer.Mosaic argument.Nothing (TARGET ∷ NAME ∷ []) (codes "+" ∷ [])
    ∷ layer_row (codes "-innerlines") layer.InnerLines argument.Nothing (TARGET ∷ NAME ∷ []) (codes "+" ∷ [])
    ∷ layer_row (codes "-explode") layer.Explode argument.Nothing (TARGET ∷ NAME ∷ []) (codes "+" ∷ [])
    ∷ layer_row (codes "-lines") layer.Lines argument.List (TARGET ∷ NAME ∷ []) (codes "+" ∷ [])
    ∷ calculated_row (codes "-join") by.Join argument.Source ((codes "keys", value.Keys) ∷ (codes "calc", value.Calculations) ∷ (codes "fields", value.List) ∷ (codes "where", value.Expression) ∷ (codes "prefix", value.Text) ∷ STRING_FIELDS ∷ TARGET ∷ []) (codes "force" ∷ [])
    ∷ calculated_row (codes "-filter") by.Filter argument.Expression (TARGET ∷ NAME ∷ []) (codes "invert" ∷ codes "remove-empty" ∷ codes "+" ∷ [])
    ∷ layer_row (codes "-filter-fields") layer.FilterFields argument.List (TARGET ∷ []) []
    ∷ layer_row (codes "-rename-fields") layer.RenameFields argument.Renames (TARGET ∷ []) []
    ∷ layer_row (codes "-split") layer.Split argument.Text (TARGET ∷ []) (codes "+" ∷ [])
    ∷ calculated_row (codes "-each") by.Each argument.Assignments (TARGET ∷ []) []
    ∷ calculated_row (codes "-sort") by.Sort argument.Expression (TARGET ∷ []) (codes "ascending" ∷ codes "descending" ∷ [])
    ∷ calculated_row (codes "-uniq") by.Uniq argument.Expression ((codes "max-count", value.CountFromOne) ∷ TARGET ∷ NAME ∷ []) (codes "invert" ∷ codes "+" ∷ [])
    ∷ layer_row (codes "-filter-islands") layer.FilterIslands argument.Nothing ((codes "min-area", value.LeastArea) ∷ (codes "min-vertices", value.CountFromZero) ∷ TARGET ∷ NAME ∷ []) (codes "remove-empty" ∷ codes "+" ∷ [])
    ∷ joint_row (codes "-merge-layers") joint.MergeLayers argument.Nothing (TARGET ∷ NAME ∷ []) (codes "force" ∷ codes "+" ∷ [])
    ∷ joint_row (codes "-union") joint.Union argument.Nothing (TARGET ∷ NAME ∷ []) (codes "+" ∷ [])
    ∷ row (codes "-o") keyword.Write argument.Text ((codes "format", value.Format) ∷ TARGET ∷ []) (codes "force" ∷ [])
    ∷ []

abbrev pub row_of : Text → Option Row
row_of word = row_named rows word
