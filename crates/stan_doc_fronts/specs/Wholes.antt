-- The reading of a tag of which all tokens are read.
use Rattle.std.specs.Prelude.{ℕ, ◌+◌, ◌&&◌, nat_le, if◌then◌else◌, List, [], ◌∷◌, length, Option, Some, None}
use Rattle.stan_model_doc.specs.declared.token.DocKind.{DocKind}
use Rattle.stan_model_doc.specs.declared.token.DocKind.TheVariants as k
use Rattle.stan_model_doc.specs.declared.token.DocToken.{DocToken}
use Rattle.stan_model_doc.specs.Tokens.{kind_at}
use Rattle.stan_model_doc.specs.Symbols.{Reference, Spread, StaticWord, Parameters, Written, May, Symbol, Mark, Word, Part}
use Rattle.stan_model_doc.specs.Rules.{Rule, param_tag, return_tag, var_tag, property_tag, method_tag, template_tag, inherit_tag, static_word, identifiers, variables, symbols}
use Rattle.stan_model_doc.specs.Trees.{Forest, nil, mark, word, none, some}
use Rattle.stan_doc_descent.specs.Parse.{Read, ◌>>=◌, onto, choose, after, word_at, run}
use Rattle.stan_doc_conditions.specs.Conditions.{last_parted}

-- what stands behind the type of a parameter
abbrev pub ParameterEnd : List Symbol
ParameterEnd = Part May Reference ∷ Part May Spread ∷ Word variables ∷ []

-- what stands behind the type of a method
abbrev pub MethodEnd : List Symbol
MethodEnd = Word identifiers ∷ Mark k.LeftParenthesis ∷ Part May Parameters ∷ Mark k.RightParenthesis ∷ []

abbrev pub MethodType : List Symbol
MethodType = Part May Written ∷ MethodEnd

abbrev pub Method : List Symbol
Method = Part May StaticWord ∷ MethodType

-- the tag that a word begins
abbrev pub rule_of : DocKind → Option Rule
rule_of k.ParamTag = Some param_tag
rule_of k.ReturnTag = Some return_tag
rule_of k.VarTag = Some var_tag
rule_of k.PropertyTag = Some property_tag
rule_of k.MethodTag = Some method_tag
rule_of k.TemplateTag = Some template_tag
rule_of k.InheritTag = Some inherit_tag
rule_of kind = None

module _ (ts : List DocToken) (below : List DocToken → Rule → ℕ → Read Forest) where
  -- what is read, where it goes up to the end
  abbrev pub whole : Read Forest → Read Forest
  whole o = o >>= λ x. if nat_le x.1 (length ts) && nat_le (length ts) x.1 then Some x else None

  abbrev pub rest : List Symbol → ℕ → Read Forest
  rest xs at = whole (run ts (below ts) xs at)

  -- a type and the rest: of the places where it may end the last one
  abbrev pub typed : List Symbol → ℕ → Read Forest
  typed xs at = last_parted ts below (rest xs) at (length ts + 1)

  -- with a type, or else without one
  abbrev pub maybe_typed : List Symbol → ℕ → Read Forest
  maybe_typed xs at = choose (typed xs at) Some (rest xs at >>= onto none)

  abbrev pub static_method : ℕ → Read Forest
  static_method at = after ts k.Static at >>= λ b. maybe_typed MethodEnd b >>= onto (some static_word (mark nil))

  -- `static` and a type, `static` alone, a type alone, neither
  abbrev pub method : ℕ → Read Forest
  method at = choose (static_method at) Some (maybe_typed MethodEnd at >>= onto none)

  abbrev pub whole_rule : Rule → Read Forest
  whole_rule param_tag = word_at ts (k.ParamTag ∷ []) 0 >>= λ t. typed ParameterEnd (0 + 1) >>= onto (word t)
  whole_rule method_tag = word_at ts (k.MethodTag ∷ []) 0 >>= λ t. method (0 + 1) >>= onto (word t)
  whole_rule r = rest (symbols r) 0

  abbrev pub as_tag : Rule → Option (Forest × ℕ) → Option Forest
  as_tag r None = None
  as_tag r (Some x) = Some (some r x.0 nil)

  abbrev pub whole_of : Option Rule → Option Forest
  whole_of None = None
  whole_of (Some r) = as_tag r (whole_rule r)

  abbrev pub whole_tag : Option Forest
  whole_tag = whole_of (rule_of (kind_at ts 0))
