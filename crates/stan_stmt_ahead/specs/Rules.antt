-- The productions that the values of the program name.
use Rattle.stan_model_statements.specs.Rules as r
use Rattle.stan_stmt_ahead.specs.declared.rules.StatementRule.{StatementRule}
use Rattle.stan_stmt_ahead.specs.declared.rules.StatementRule.TheVariants as statements
use Rattle.stan_stmt_ahead.specs.declared.rules.DanglingRule.{DanglingRule}
use Rattle.stan_stmt_ahead.specs.declared.rules.DanglingRule.TheVariants as dangling

abbrev pub statement_rule : StatementRule → r.Rule
statement_rule statements.Block = r.block_statement
statement_rule statements.Empty = r.empty_statement
statement_rule statements.Echo = r.echo_statement
statement_rule statements.Return = r.return_statement
statement_rule statements.If = r.if_statement
statement_rule statements.While = r.while_statement
statement_rule statements.Do = r.do_statement
statement_rule statements.For = r.for_statement
statement_rule statements.ForEach = r.for_each_statement
statement_rule statements.Switch = r.switch_statement
statement_rule statements.Break = r.break_statement
statement_rule statements.Continue = r.continue_statement
statement_rule statements.Try = r.try_statement
statement_rule statements.Unset = r.unset_statement
statement_rule statements.Global = r.global_statement
statement_rule statements.Static = r.static_statement
statement_rule statements.Const = r.const_statement
statement_rule statements.Declare = r.declare_statement
statement_rule statements.Function = r.function_statement
statement_rule statements.Interface = r.interface_statement
statement_rule statements.Trait = r.trait_statement
statement_rule statements.Class = r.class_statement
statement_rule statements.Expression = r.expression_statement

abbrev pub owner_rule : DanglingRule → r.Rule
owner_rule dangling.Else = r.else_part
owner_rule dangling.ElseIf = r.else_if_part
owner_rule dangling.Catch = r.catch_part
owner_rule dangling.Finally = r.finally_part
