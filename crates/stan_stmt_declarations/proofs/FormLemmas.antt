-- The productions of each declaration.
use Rattle.std.proofs.Common.{◌≡◌, Bool, List, ◌∷◌, Option, Some, None, refl, ◌∙◌}
use Rattle.std.specs.Prelude.{map, option_map}
use Rattle.std.specs.Option.{is_some}
use Rattle.stan_model_grammar.specs.declared.token.Token.{Token}
use Rattle.stan_model_statements.specs.Rules as r
use Rattle.stan_model_files.specs.Put.{may_extend, may_names}
use Rattle.stan_model_files.specs.Shapes.{Shape, nil, mark, word}
use Rattle.stan_syntax.specs.declared.tree.TypeTree.{TypeTree}
use Rattle.stan_stmt_trees.proofs.Layers.{form-Function, form-Class, form-Interface, form-Trait}
use Rattle.stan_stmt_trees.specs.declared.statement.ClassMember.{ClassMember}
use Rattle.stan_stmt_trees.specs.declared.statement.Form.TheVariants as forms
use Rattle.stan_stmt_trees.specs.declared.statement.Parameter.{Parameter}
use Rattle.stan_stmt_trees.specs.declared.statement.Stmt.{Stmt, roll-Stmt}
use Rattle.stan_stmt_parts.specs.Gives.{statement_piece}
use Rattle.stan_stmt_parts.specs.Parse.{standing, optional, items}
use Rattle.stan_stmt_parts.proofs.Options.{flagged}
use Rattle.stan_stmt_items.specs.Views.{of_mark, of_word, behind_mark, part_behind, names_of, all_names}
use Rattle.stan_stmt_lists.proofs.ListLemmas.{form_is}
use Rattle.stan_stmt_lists.specs.Views.{block_of}
use Rattle.stan_stmt_types.specs.Views.{type_piece}
use Rattle.stan_stmt_members.specs.Views.{parameter_list_piece, class_body_piece}
use Rattle.stan_stmt_members.proofs.MemberLemmas.{words_are}
use Rattle.stan_stmt_members.proofs.MethodLemmas.{result_is}
use Rattle.stan_stmt_members.proofs.ParameterLemmas.{parameter_list_stands}

pub function_is : {A : Type 0} (t : Token) (reference : Option A) (name : Token) (ps : List Parameter) (comma : Bool) (type : Option TypeTree) (ss : List Stmt)
    → statement_piece (roll-Stmt (record { first = t; form = forms.Function (is_some reference) name ps comma type ss }))
    ≡ (r.function_statement, Some t, mark (optional (option_map (λ x. of_mark r.by_reference) reference) (word name (standing (parameter_list_piece (ps, comma)) (optional (option_map (λ x. part_behind r.return_type (type_piece x)) type) (standing (block_of ss) nil))))))
function_is t reference name ps comma type ss =
    form_is t (forms.Function (is_some reference) name ps comma type ss)
    ∙ rw (form-Function (is_some reference) name ps comma type ss)
    (rw (result_is type (standing (block_of ss) nil))
    (rw (parameter_list_stands ps comma (optional (option_map (λ x. part_behind r.return_type (type_piece x)) type) (standing (block_of ss) nil)))
    (rw (flagged r.by_reference reference (word name (standing (parameter_list_piece (ps, comma)) (optional (option_map (λ x. part_behind r.return_type (type_piece x)) type) (standing (block_of ss) nil))))) refl)))

names_are : (r : r.Rule) (o : Option (Token × List Token)) (f : Shape) → may_names r (all_names o) f ≡ optional (option_map (λ x. part_behind r (names_of (x.0 ∷ x.1))) o) f
names_are r None f = refl
names_are r (Some x) f = refl

parent_is : (o : Option Token) (f : Shape) → may_extend o f ≡ optional (option_map (behind_mark r.extends) o) f
parent_is None f = refl
parent_is (Some t) f = refl

pub class_is : (t : Token) (modifiers : List Token) (name : Token) (parent : Option Token) (found : Option (Token × List Token)) (ms : List ClassMember)
    → statement_piece (roll-Stmt (record { first = t; form = forms.Class modifiers name parent (all_names found) ms }))
    ≡ (r.class_statement, Some t, items (map (of_word r.class_modifier) modifiers) (mark (word name (optional (option_map (behind_mark r.extends) parent) (optional (option_map (λ x. part_behind r.implements (names_of (x.0 ∷ x.1))) found) (standing (class_body_piece ms) nil))))))
class_is t modifiers name parent found ms =
    form_is t (forms.Class modifiers name parent (all_names found) ms)
    ∙ rw (form-Class modifiers name parent (all_names found) ms)
    (rw (names_are r.implements found (standing (class_body_piece ms) nil))
    (rw (parent_is parent (optional (option_map (λ x. part_behind r.implements (names_of (x.0 ∷ x.1))) found) (standing (class_body_piece ms) nil)))
    (rw (words_are r.class_modifier modifiers (mark (word name (optional (option_map (behind_mark r.extends) parent) (optional (option_map (λ x. part_behind r.implements (names_of (x.0 ∷ x.1))) found) (standing (class_body_piece ms) nil)))))) refl)))

pub interface_is : (t name : Token) (found : Option (Token × List Token)) (ms : List ClassMember)
    → statement_piece (roll-Stmt (record { first = t; form = forms.Interface name (all_names found) ms }))
    ≡ (r.interface_statement, Some t, mark (word name (optional (option_map (λ x. part_behind r.interface_extends (names_of (x.0 ∷ x.1))) found) (standing (class_body_piece ms) nil))))
interface_is t name found ms =
    form_is t (forms.Interface name (all_names found) ms) ∙ rw (form-Interface name (all_names found) ms) (rw (names_are r.interface_extends found (standing (class_body_piece ms) nil)) refl)

pub trait_is : (t name : Token) (ms : List ClassMember) → statement_piece (roll-Stmt (record { first = t; form = forms.Trait name ms })) ≡ (r.trait_statement, Some t, mark (word name (standing (class_body_piece ms) nil)))
trait_is t name ms = form_is t (forms.Trait name ms) ∙ rw (form-Trait name ms) refl
