use Rattle.std.proofs.Common.{refl}
use Rattle.stan_model_grammar.specs.declared.token.TokenKind.TheVariants as k
use Rattle.stan_stmt_ahead.proofs.KindLemmas.{differs}
use Rattle.stan_stmt_members.proofs.modified.pick_modified.Goals as goal

pub returns-in_default : goal.returns-in_default
returns-in_default c =
    let other = differs c.args.first in
    rw (
      other k.Static c.in_default.not-Static,
      other k.Const c.in_default.not-Const,
      other k.Function c.in_default.not-Function,
      other k.Question c.in_default.not-Question,
      other k.Variable c.in_default.not-Variable,
      other k.Identifier c.in_default.not-Identifier,
      other k.QualifiedName c.in_default.not-QualifiedName,
      other k.FullyQualifiedName c.in_default.not-FullyQualifiedName,
      other k.RelativeName c.in_default.not-RelativeName,
      other k.Array c.in_default.not-Array,
      other k.Callable c.in_default.not-Callable,
    )
    refl
