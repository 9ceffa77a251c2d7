-- The productions that stand for members and their parts.
use Rattle.std.specs.Prelude.{Bool, List, Option, None, map, option_map}
use Rattle.stan_model_grammar.specs.declared.token.Token.{Token}
use Rattle.stan_model_statements.specs.Rules as r
use Rattle.stan_model_statements.specs.TreeLists as lists
use Rattle.stan_model_files.specs.Put.{put_parameters, put_method, put_method_body, put_constants, put_variables, put_member, put_members, may_return, may_property_type}
use Rattle.stan_model_files.specs.Shapes.{nil, mark}
use Rattle.stan_syntax.specs.Tree.{may_type}
use Rattle.stan_stmt_trees.specs.Tree.{statement_of, constant_of, variable_of, parameter_of, class_member_of}
use Rattle.stan_stmt_trees.specs.declared.statement.ClassMember.{ClassMember}
use Rattle.stan_stmt_trees.specs.declared.statement.Constant.{Constant}
use Rattle.stan_stmt_trees.specs.declared.statement.Member.{Member}
use Rattle.stan_stmt_trees.specs.declared.statement.Member.TheVariants as members
use Rattle.stan_stmt_trees.specs.declared.statement.Parameter.{Parameter}
use Rattle.stan_stmt_trees.specs.declared.statement.Stmt.{Stmt}
use Rattle.stan_stmt_parts.specs.Parse.{Piece, piece_of, standing}
use Rattle.stan_stmt_members.specs.declared.bodies.MemberRule.{MemberRule}
use Rattle.stan_stmt_members.specs.declared.bodies.MemberRule.TheVariants as member_rules
use Rattle.stan_stmt_members.specs.declared.fields.PropertiesTree.{PropertiesTree}
use Rattle.stan_stmt_members.specs.declared.methods.MethodTree.{MethodTree}
use Rattle.stan_stmt_members.specs.declared.modified.ModifiedRule.{ModifiedRule}
use Rattle.stan_stmt_members.specs.declared.modified.ModifiedRule.TheVariants as rules
use Rattle.stan_stmt_members.specs.declared.modified.ModifiedTree.{ModifiedTree}
use Rattle.stan_stmt_members.specs.declared.modified.ModifiedTree.TheVariants as modified

-- parameters, and whether a `,` stands behind the last
abbrev pub parameter_list_piece : List Parameter × Bool → Piece
parameter_list_piece x = piece_of (put_parameters (lists.parameters (map parameter_of x.0)) x.1 nil)

-- the statements of a method, or a `;` where it has none
abbrev pub body_piece : Option (List Stmt) → Piece
body_piece x = piece_of (put_method_body (lists.may_block (option_map (map statement_of) x)) nil)

unfoldable pub method_piece : MethodTree → Piece
method_piece x = piece_of (put_method x.by_reference x.name (put_parameters (lists.parameters (map parameter_of x.parameters)) x.comma (may_return (may_type x.result) (put_method_body (lists.may_block (option_map (map statement_of) x.body)) nil))) nil)

unfoldable pub class_constants_piece : List Constant → Piece
class_constants_piece cs = (r.class_constants, None, mark (put_constants r.class_constant r.further_class_constant (lists.constants (map constant_of cs)) (mark nil)))

unfoldable pub properties_piece : PropertiesTree → Piece
properties_piece x = (r.properties, None, may_property_type (may_type x.declared) (put_variables (lists.variables (map variable_of x.variables)) (mark nil)))

-- what stands behind modifiers, and the member that it makes with them

abbrev pub modified_rule : ModifiedRule → r.Rule
modified_rule rules.Constants = r.modified_constants
modified_rule rules.Method = r.modified_method
modified_rule rules.Properties = r.modified_properties

abbrev pub modified_piece : ModifiedTree → Piece
modified_piece (modified.Constants cs) = (r.modified_constants, None, standing (class_constants_piece cs) nil)
modified_piece (modified.Method x) = (r.modified_method, None, standing (method_piece x) nil)
modified_piece (modified.Properties x) = (r.modified_properties, None, standing (properties_piece x) nil)

abbrev pub with_modifiers : List Token → ModifiedTree → Member
with_modifiers ms (modified.Constants cs) = members.Constants ms cs
with_modifiers ms (modified.Method x) = members.Method ms x.by_reference x.name x.parameters x.comma x.result x.body
with_modifiers ms (modified.Properties x) = members.Properties ms x.declared x.variables

abbrev pub member_rule : MemberRule → r.Rule
member_rule member_rules.TraitUse = r.trait_use
member_rule member_rules.Constants = r.constants_member
member_rule member_rules.Method = r.method_member
member_rule member_rules.Modified = r.modified_member

unfoldable pub member_piece : ClassMember → Piece
member_piece x = piece_of (put_member (class_member_of x).first (class_member_of x).form nil)

-- members in braces
abbrev pub class_body_piece : List ClassMember → Piece
class_body_piece ms = (r.class_body, None, mark (put_members (lists.members (map class_member_of ms)) (mark nil)))
