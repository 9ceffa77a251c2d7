-- Marks and words that may stand.
use Rattle.std.proofs.Common.{◌≡◌, Option, Some, None, refl}
use Rattle.std.specs.Prelude.{option_map}
use Rattle.std.specs.Option.{is_some}
use Rattle.stan_model_grammar.specs.declared.token.Token.{Token}
use Rattle.stan_model_statements.specs.Rules.{Rule}
use Rattle.stan_model_files.specs.Put.{flag, may_word}
use Rattle.stan_model_files.specs.Shapes.{Shape, nil, mark, word}
use Rattle.stan_stmt_parts.specs.Parse.{optional}

pub flagged : {A : Type 0} (r : Rule) (o : Option A) (f : Shape) → flag r (is_some o) f ≡ optional (option_map (λ x. (r, None, mark nil)) o) f
flagged r None f = refl
flagged r (Some x) f = refl

pub worded : (r : Rule) (o : Option Token) (f : Shape) → may_word r o f ≡ optional (option_map (λ t. (r, None, word t nil)) o) f
worded r None f = refl
worded r (Some t) f = refl
