use Rattle.std.proofs.Common.{map, sym, append-nil}
use Rattle.stan_stmt_trees.proofs.Layers.{form-Block, form-Empty, form-Expression, form-Echo, form-Return, form-If, form-While, form-Do, form-For, form-ForEach, form-Switch, form-Break, form-Continue, form-Try, form-Unset, form-Global, form-Static, form-Const, form-Declare, form-Function, form-Class, form-Interface, form-Trait}
use Rattle.stan_expr_walk.specs.Found.{found_of}
use Rattle.stan_stmt_walk.proofs.own.own_found.Goals as goal

pub returns-in-Function : goal.returns-in-Function
returns-in-Function c = rw (c.in-Function.is, form-Function) c.push.ensures

pub returns-in-Class : goal.returns-in-Class
returns-in-Class c = rw (c.in-Class.is, form-Class) c.push-in-Class.ensures

pub returns-in-Interface : goal.returns-in-Interface
returns-in-Interface c = rw (c.in-Interface.is, form-Interface) c.push-in-Interface.ensures

pub returns-in-Trait : goal.returns-in-Trait
returns-in-Trait c = rw (c.in-Trait.is, form-Trait) c.push-in-Trait.ensures

pub returns-in-Block : goal.returns-in-Block
returns-in-Block c = rw (c.in-Block.is, form-Block) (sym (append-nil (map found_of c.args.found.now.items)))

pub returns-in-Empty : goal.returns-in-Empty
returns-in-Empty c = rw (c.in-Empty.is, form-Empty) (sym (append-nil (map found_of c.args.found.now.items)))

pub returns-in-Expression : goal.returns-in-Expression
returns-in-Expression c = rw (c.in-Expression.is, form-Expression) (sym (append-nil (map found_of c.args.found.now.items)))

pub returns-in-Echo : goal.returns-in-Echo
returns-in-Echo c = rw (c.in-Echo.is, form-Echo) (sym (append-nil (map found_of c.args.found.now.items)))

pub returns-in-Return : goal.returns-in-Return
returns-in-Return c = rw (c.in-Return.is, form-Return) (sym (append-nil (map found_of c.args.found.now.items)))

pub returns-in-If : goal.returns-in-If
returns-in-If c = rw (c.in-If.is, form-If) (sym (append-nil (map found_of c.args.found.now.items)))

pub returns-in-While : goal.returns-in-While
returns-in-While c = rw (c.in-While.is, form-While) (sym (append-nil (map found_of c.args.found.now.items)))

pub returns-in-Do : goal.returns-in-Do
returns-in-Do c = rw (c.in-Do.is, form-Do) (sym (append-nil (map found_of c.args.found.now.items)))

pub returns-in-For : goal.returns-in-For
returns-in-For c = rw (c.in-For.is, form-For) (sym (append-nil (map found_of c.args.found.now.items)))

pub returns-in-ForEach : goal.returns-in-ForEach
returns-in-ForEach c = rw (c.in-ForEach.is, form-ForEach) (sym (append-nil (map found_of c.args.found.now.items)))

pub returns-in-Switch : goal.returns-in-Switch
returns-in-Switch c = rw (c.in-Switch.is, form-Switch) (sym (append-nil (map found_of c.args.found.now.items)))

pub returns-in-Break : goal.returns-in-Break
returns-in-Break c = rw (c.in-Break.is, form-Break) (sym (append-nil (map found_of c.args.found.now.items)))

pub returns-in-Continue : goal.returns-in-Continue
returns-in-Continue c = rw (c.in-Continue.is, form-Continue) (sym (append-nil (map found_of c.args.found.now.items)))

pub returns-in-Try : goal.returns-in-Try
returns-in-Try c = rw (c.in-Try.is, form-Try) (sym (append-nil (map found_of c.args.found.now.items)))

pub returns-in-Unset : goal.returns-in-Unset
returns-in-Unset c = rw (c.in-Unset.is, form-Unset) (sym (append-nil (map found_of c.args.found.now.items)))

pub returns-in-Global : goal.returns-in-Global
returns-in-Global c = rw (c.in-Global.is, form-Global) (sym (append-nil (map found_of c.args.found.now.items)))

pub returns-in-Static : goal.returns-in-Static
returns-in-Static c = rw (c.in-Static.is, form-Static) (sym (append-nil (map found_of c.args.found.now.items)))

pub returns-in-Const : goal.returns-in-Const
returns-in-Const c = rw (c.in-Const.is, form-Const) (sym (append-nil (map found_of c.args.found.now.items)))

pub returns-in-Declare : goal.returns-in-Declare
returns-in-Declare c = rw (c.in-Declare.is, form-Declare) (sym (append-nil (map found_of c.args.found.now.items)))
