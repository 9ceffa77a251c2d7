use Rattle.stan_table.proofs.index.Index.places.Goals as goal

pub returns-in-Class : goal.returns-in-Class
returns-in-Class c name = rw c.in-Class.is (c.args.self.now.class_answers name)

pub returns-in-Function : goal.returns-in-Function
returns-in-Function c name = rw c.in-Function.is (c.args.self.now.function_answers name)

pub returns-in-Constant : goal.returns-in-Constant
returns-in-Constant c name = rw c.in-Constant.is (c.args.self.now.constant_answers name)
