-- The tags of the model that the trees of tags and of comments stand for.
use Rattle.std.specs.Prelude.{ℕ, List, [], ◌∷◌, Option, Some, None, map, option_map}
use Rattle.stan_model_doc.specs.declared.token.DocToken.{DocToken}
use Rattle.stan_model_doc.specs.Rules as r
use Rattle.stan_model_doc.specs.Trees.{Forest, nil, mark, word, any, none, some}
use Rattle.stan_model_doc.specs.Doc as doc
use Rattle.stan_doc_descent.specs.Parse.{Piece, standing}
use Rattle.stan_doc_trees.specs.Tree.{further, listed, flagged, optional, stood, written_of}
use Rattle.stan_doc_trees.specs.declared.tag.DocTag.{DocTag}
use Rattle.stan_doc_trees.specs.declared.tag.DocTag.TheVariants as tags
use Rattle.stan_doc_trees.specs.declared.tag.DocTree.{DocTree}
use Rattle.stan_doc_trees.specs.declared.tag.Parameter.{Parameter}
use Rattle.stan_doc_trees.specs.declared.tag.TagForm.{TagForm}
use Rattle.stan_doc_trees.specs.declared.tag.TagForm.TheVariants as forms

abbrev pub variable_of : Option DocToken → Forest
variable_of None = none nil
variable_of (Some t) = some r.variable_name (word t nil) nil

abbrev pub default_of : Option ℕ → Forest
default_of None = none nil
default_of (Some n) = some r.default_value (mark (any n nil)) nil

abbrev pub parameter_of : Parameter → Piece
parameter_of x = (r.parameter, standing (written_of x.declared) (word x.variable (default_of x.default)))

abbrev pub parameters_of : List Piece → Forest
parameters_of [] = none (mark nil)
parameters_of (p ∷ ps) = some r.parameters (listed r.further_parameter (p ∷ ps) nil) (mark nil)

-- the production and what it is made of
abbrev pub form_of : TagForm → Piece
form_of (forms.Param t w reference spread v) = (r.param_tag, word t (standing (written_of w) (flagged r.reference reference (flagged r.spread spread (word v nil)))))
form_of (forms.Return t w) = (r.return_tag, word t (standing (written_of w) nil))
form_of (forms.Var t w v) = (r.var_tag, word t (standing (written_of w) (variable_of v)))
form_of (forms.Property t w v) = (r.property_tag, word t (standing (written_of w) (word v nil)))
form_of (forms.Method t static returned name ps) =
    (r.method_tag, word t (flagged r.static_word static (stood (option_map written_of returned) (word name (mark (parameters_of (map parameter_of ps)))))))
form_of (forms.Template t name bound) = (r.template_tag, word t (word name (optional r.bound (option_map written_of bound) nil)))
form_of (forms.Inherit t w) = (r.inherit_tag, word t (standing (written_of w) nil))

-- the tree of a tag
abbrev pub tree_of : TagForm → Forest
tree_of x = standing (form_of x) nil

abbrev pub tag_of : DocTag → doc.DocTag
tag_of (tags.Tag span form) = doc.ReadTag span (tree_of form)
tag_of (tags.BadTag span) = doc.BadTag span

-- the tags of a comment
abbrev pub tags_of : DocTree → List doc.DocTag
tags_of x = map tag_of x.tags
