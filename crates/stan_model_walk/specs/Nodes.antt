-- All that stands in a statement, from left to right, each node before its parts: statements, members of classes, constants and
-- expressions. What the bodies of an expression's closures hold stands behind the expression.
use Rattle.std.specs.Prelude.{if◌then◌else◌, Bool, true, false, ◌&&◌, List, [], ◌∷◌, ◌++◌}
use Rattle.stan_model_grammar.specs.declared.operators.BinaryOperator.{BinaryOperator}
use Rattle.stan_model_grammar.specs.declared.operators.BinaryOperator.TheVariants as binaries
use Rattle.stan_model_grammar.specs.declared.operators.Production.{Production}
use Rattle.stan_model_grammar.specs.declared.operators.Production.TheVariants as productions
use Rattle.stan_model_grammar.specs.declared.token.Token.{Token}
use Rattle.stan_model_grammar.specs.Trees.{Tree, node, production, Form, Single, Brackets, Array, IsSet, Empty, Exit, New, Match, Closure, Arrow, Text, Post, Prefix, Assignment, Chain, Binary, Conditional, Items, no_item, items, Item, Positional, Spread, Named, Element, KeyedElement, Parameter, Captured, Arm, DefaultArm, Default, no_default, default, Arguments, no_arguments, arguments, ClassReference, NamedClass, VariableClass, ScopedClass, ComputedClass, MemberName, NamedMember, ComputedMember, Steps, no_step, step, Step, Push, Index, Property, Scoped, Call, Increment, Decrement, Operation, Part, Inserted, Further}
use Rattle.stan_model_statements.specs.TreeLists as lists
use Rattle.stan_model_statements.specs.Trees as statements

pub data Node : Type 0 where
  AStatement : statements.Statement → Node
  AMember : statements.Member → Node
  -- by the token of its name: a constant that `const` declares, in a class or not
  AConstant : Token → Node
  AnExpression : Tree → Node

abbrev pub is_name_production : Production → Bool
is_name_production productions.Name = true
is_name_production _ = false

-- a name alone
abbrev pub is_name : Tree → Bool
is_name e = is_name_production (production e)

-- what takes the name before it as that of a function or a class
abbrev pub takes_name : Step → Bool
takes_name (Call es) = true
takes_name (Scoped t es) = true
takes_name _ = false

abbrev pub first_takes_name : Steps → Bool
first_takes_name no_step = false
first_takes_name (step x xs) = takes_name x

abbrev pub begins_with_name : Tree → Steps → Bool
begins_with_name e ss = is_name e && first_takes_name ss

-- Behind `instanceof` a name is that of a class.
abbrev pub takes_class : BinaryOperator → Bool
takes_class binaries.InstanceOf = true
takes_class _ = false

-- What `of` takes of each node, in order. The truth value tells whether a function, a closure, an arrow function or a class stands around it.
module _ {X : Type 0} (of : Bool → Node → List X) where
  abbrev mutual
    pub in_tree : Bool → Tree → List X
    in_tree inner (node t f) = of inner (AnExpression (node t f)) ++ in_form inner f

    -- A name that is called or whose class is asked is no expression.
    pub in_form : Bool → Form → List X
    in_form inner (Single leaf) = []
    in_form inner (Brackets e) = in_tree inner e
    in_form inner (Array style es) = in_items inner es
    in_form inner (IsSet es) = in_items inner es
    in_form inner (Empty e) = in_tree inner e
    in_form inner (Exit es) = in_arguments inner es
    in_form inner (New class es) = in_class inner class ++ in_arguments inner es
    in_form inner (Match e arms) = in_tree inner e ++ in_items inner arms
    in_form inner (Closure static reference parameters captures type body) = in_items true parameters
    in_form inner (Arrow static reference parameters type e) = in_items true parameters ++ in_tree true e
    in_form inner (Text parts) = in_steps inner parts
    in_form inner (Post e ss) = (if begins_with_name e ss then [] else in_tree inner e) ++ in_steps inner ss
    in_form inner (Prefix o e) = in_tree inner e
    in_form inner (Assignment target o e) = in_tree inner target ++ in_tree inner e
    in_form inner (Chain j e ss) = in_tree inner e ++ in_steps inner ss
    in_form inner (Binary d t o e) = in_tree inner d ++ in_tree inner e
    in_form inner (Conditional c d e) = in_tree inner c ++ in_tree inner d ++ in_tree inner e

    pub in_items : Bool → Items → List X
    in_items inner no_item = []
    in_items inner (items x xs comma) = in_item inner x ++ in_steps inner xs

    pub in_item : Bool → Item → List X
    in_item inner (Positional e) = in_tree inner e
    in_item inner (Spread e) = in_tree inner e
    in_item inner (Named t e) = in_tree inner e
    in_item inner (Element reference e) = in_tree inner e
    in_item inner (KeyedElement key reference e) = in_tree inner key ++ in_tree inner e
    in_item inner (Parameter visibility type reference variadic t value) = in_default inner value
    in_item inner (Captured t) = []
    in_item inner (Arm conditions e) = in_items inner conditions ++ in_tree inner e
    in_item inner (DefaultArm comma e) = in_tree inner e

    pub in_default : Bool → Default → List X
    in_default inner no_default = []
    in_default inner (default e) = in_tree inner e

    pub in_arguments : Bool → Arguments → List X
    in_arguments inner no_arguments = []
    in_arguments inner (arguments es) = in_items inner es

    pub in_class : Bool → ClassReference → List X
    in_class inner (NamedClass t) = []
    in_class inner (VariableClass t ss) = in_steps inner ss
    in_class inner (ScopedClass t u ss) = in_steps inner ss
    in_class inner (ComputedClass e) = in_tree inner e

    pub in_member_name : Bool → MemberName → List X
    in_member_name inner (NamedMember t) = []
    in_member_name inner (ComputedMember e) = in_tree inner e

    pub in_steps : Bool → Steps → List X
    in_steps inner no_step = []
    in_steps inner (step x xs) = in_step inner x ++ in_steps inner xs

    pub in_step : Bool → Step → List X
    in_step inner Push = []
    in_step inner (Index e) = in_tree inner e
    in_step inner (Property nullsafe name es) = in_member_name inner name ++ in_arguments inner es
    in_step inner (Scoped t es) = in_arguments inner es
    in_step inner (Call es) = in_items inner es
    in_step inner Increment = []
    in_step inner Decrement = []
    in_step inner (Operation t o e) = if takes_class o && is_name e then [] else in_tree inner e
    in_step inner (Part t) = []
    in_step inner (Inserted e) = in_tree inner e
    in_step inner (Further x) = in_item inner x

  abbrev mutual
    pub in_value : Bool → statements.Value → List X
    in_value inner (statements.value e bs) = in_tree inner e ++ in_bodies bs

    pub in_bodies : statements.Bodies → List X
    in_bodies statements.no_body = []
    in_bodies (statements.body held ss bs) = in_statements true ss ++ in_bodies bs

    pub in_may_value : Bool → statements.MayValue → List X
    in_may_value inner statements.no_value = []
    in_may_value inner (statements.some_value v) = in_value inner v

    pub in_values : Bool → statements.Values → List X
    in_values inner statements.no_more_value = []
    in_values inner (statements.more_value v vs) = in_value inner v ++ in_values inner vs

    pub in_statement : Bool → statements.Statement → List X
    in_statement inner (statements.node t f) = of inner (AStatement (statements.node t f)) ++ in_statement_form inner f

    pub in_statement_form : Bool → statements.Form → List X
    in_statement_form inner (statements.Block ss) = in_statements inner ss
    in_statement_form inner (statements.Empty end) = []
    in_statement_form inner (statements.Expression v end) = in_value inner v
    in_statement_form inner (statements.Echo vs end) = in_values inner vs
    in_statement_form inner (statements.Return v end) = in_may_value inner v
    in_statement_form inner (statements.If v s es o) = in_value inner v ++ in_statement inner s ++ in_else_ifs inner es ++ in_else inner o
    in_statement_form inner (statements.While v s) = in_value inner v ++ in_statement inner s
    in_statement_form inner (statements.Do s v end) = in_statement inner s ++ in_value inner v
    in_statement_form inner (statements.For vs us ws s) = in_values inner vs ++ in_values inner us ++ in_values inner ws ++ in_statement inner s
    in_statement_form inner (statements.ForEach v key reference element s) = in_value inner v ++ in_may_value inner key ++ in_value inner element ++ in_statement inner s
    in_statement_form inner (statements.Switch v cs) = in_value inner v ++ in_cases inner cs
    in_statement_form inner (statements.Break levels end) = []
    in_statement_form inner (statements.Continue levels end) = []
    in_statement_form inner (statements.Try ss cs b) = in_statements inner ss ++ in_catches inner cs ++ in_may_block inner b
    in_statement_form inner (statements.Unset vs comma end) = in_values inner vs
    in_statement_form inner (statements.Global names end) = []
    in_statement_form inner (statements.Static vs end) = in_variables inner vs
    in_statement_form inner (statements.Const cs end) = in_constants inner cs
    in_statement_form inner (statements.Declare name number end) = []
    in_statement_form inner (statements.Function reference name ps comma type ss) = in_parameters ps ++ in_statements true ss
    in_statement_form inner (statements.Class modifiers name parent interfaces ms) = in_members ms
    in_statement_form inner (statements.Interface name parents ms) = in_members ms
    in_statement_form inner (statements.Trait name ms) = in_members ms

    pub in_statements : Bool → statements.Statements → List X
    in_statements inner statements.no_statement = []
    in_statements inner (statements.statement s ss) = in_statement inner s ++ in_statements inner ss

    pub in_else : Bool → statements.MayStatement → List X
    in_else inner statements.no_else = []
    in_else inner (statements.else s) = in_statement inner s

    pub in_may_block : Bool → statements.MayBlock → List X
    in_may_block inner statements.no_block = []
    in_may_block inner (statements.block ss) = in_statements inner ss

    pub in_else_ifs : Bool → statements.ElseIfs → List X
    in_else_ifs inner statements.no_else_if = []
    in_else_ifs inner (statements.else_if t v s es) = (in_value inner v ++ in_statement inner s) ++ in_else_ifs inner es

    pub in_cases : Bool → statements.Cases → List X
    in_cases inner statements.no_case = []
    in_cases inner (statements.case t v mark ss cs) = (in_may_value inner v ++ in_statements inner ss) ++ in_cases inner cs

    pub in_catches : Bool → statements.Catches → List X
    in_catches inner statements.no_catch = []
    in_catches inner (statements.catch t classes name ss cs) = in_statements inner ss ++ in_catches inner cs

    pub in_variables : Bool → statements.Variables → List X
    in_variables inner statements.no_variable = []
    in_variables inner (statements.variable t v vs) = in_may_value inner v ++ in_variables inner vs

    pub in_constants : Bool → statements.Constants → List X
    in_constants inner statements.no_constant = []
    in_constants inner (statements.constant t v cs) = (of inner (AConstant t) ++ in_value inner v) ++ in_constants inner cs

    pub in_parameters : statements.Parameters → List X
    in_parameters statements.no_parameter = []
    in_parameters (statements.parameter t visibility type reference variadic name v ps) = in_may_value true v ++ in_parameters ps

    pub in_members : statements.Members → List X
    in_members statements.no_member = []
    in_members (statements.member t m ms) = (of true (AMember m) ++ in_member m) ++ in_members ms

    pub in_member : statements.Member → List X
    in_member (statements.TraitUse names xs) = []
    in_member (statements.ClassConstants modifiers cs) = in_constants true cs
    in_member (statements.Method modifiers reference name ps comma type b) = in_parameters ps ++ in_may_block true b
    in_member (statements.Properties modifiers type vs) = in_variables true vs

  -- ---- of one part of a list

  abbrev pub in_else_if : Bool → lists.ElseIf → List X
  in_else_if inner x = in_value inner x.condition ++ in_statement inner x.then

  abbrev pub in_case : Bool → lists.Case → List X
  in_case inner x = in_may_value inner x.value ++ in_statements inner x.statements

  abbrev pub in_constant : Bool → lists.Constant → List X
  in_constant inner x = of inner (AConstant x.name) ++ in_value inner x.value

  abbrev pub in_class_member : lists.ClassMember → List X
  in_class_member x = of true (AMember x.form) ++ in_member x.form
