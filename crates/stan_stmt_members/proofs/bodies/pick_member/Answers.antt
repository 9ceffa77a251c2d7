use Rattle.std.proofs.Common.{refl}
use Rattle.stan_model_grammar.specs.declared.token.TokenKind.TheVariants as k
use Rattle.stan_stmt_ahead.proofs.KindLemmas.{differs}
use Rattle.stan_stmt_members.proofs.bodies.pick_member.Goals as goal

pub returns-in_default : goal.returns-in_default
returns-in_default c =
    let other = differs c.args.kind in
    rw (
      other k.Use c.in_default.not-Use,
      other k.Const c.in_default.not-Const,
      other k.Function c.in_default.not-Function,
      other k.Public c.in_default.not-Public,
      other k.Protected c.in_default.not-Protected,
      other k.Private c.in_default.not-Private,
      other k.Static c.in_default.not-Static,
      other k.Abstract c.in_default.not-Abstract,
      other k.Final c.in_default.not-Final,
      other k.Var c.in_default.not-Var,
    )
    refl
