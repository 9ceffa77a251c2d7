use Rattle.std.proofs.Common.{refl}
use Rattle.stan_model_grammar.specs.declared.token.TokenKind.TheVariants as k
use Rattle.stan_stmt_ahead.proofs.KindLemmas.{differs}
use Rattle.stan_stmt_ahead.proofs.rules.statement_by.Goals as goal

pub returns-in_default : goal.returns-in_default
returns-in_default c =
    let other = differs c.args.kind in
    rw (
      other k.ClosingTag c.in_default.not-ClosingTag,
      other k.Abstract c.in_default.not-Abstract,
      other k.Break c.in_default.not-Break,
      other k.Class c.in_default.not-Class,
      other k.Const c.in_default.not-Const,
      other k.Continue c.in_default.not-Continue,
      other k.Declare c.in_default.not-Declare,
      other k.Do c.in_default.not-Do,
      other k.Echo c.in_default.not-Echo,
      other k.Final c.in_default.not-Final,
      other k.For c.in_default.not-For,
      other k.ForEach c.in_default.not-ForEach,
      other k.Function c.in_default.not-Function,
      other k.Global c.in_default.not-Global,
      other k.If c.in_default.not-If,
      other k.Interface c.in_default.not-Interface,
      other k.Return c.in_default.not-Return,
      other k.Static c.in_default.not-Static,
      other k.Switch c.in_default.not-Switch,
      other k.Trait c.in_default.not-Trait,
      other k.Try c.in_default.not-Try,
      other k.Unset c.in_default.not-Unset,
      other k.While c.in_default.not-While,
      other k.LeftBrace c.in_default.not-LeftBrace,
      other k.Semicolon c.in_default.not-Semicolon,
    )
    refl
