-- What members put, item by item.
use Rattle.std.proofs.Common.{◌≡◌, List, [], ◌∷◌, Option, Some, None, refl, ap, map, ◌∙◌}
use Rattle.stan_model_grammar.specs.declared.token.Token.{Token}
use Rattle.stan_model_statements.specs.Rules as r
use Rattle.stan_model_statements.specs.TreeLists as lists
use Rattle.stan_model_statements.specs.Trees as model
use Rattle.stan_model_files.specs.Put.{put_member, put_members, put_use_end, words}
use Rattle.stan_model_files.specs.Shapes.{Shape, nil, mark}
use Rattle.stan_stmt_trees.proofs.Layers.{class_member-made, member-TraitUse, member-Constants, member-Method, member-Properties}
use Rattle.stan_stmt_trees.specs.Tree.{class_member_of, member_of, adaptations_of}
use Rattle.stan_stmt_trees.specs.declared.statement.Adaptation.{Adaptation}
use Rattle.stan_stmt_trees.specs.declared.statement.ClassMember.{ClassMember, roll-ClassMember}
use Rattle.stan_stmt_trees.specs.declared.statement.Constant.{Constant}
use Rattle.stan_stmt_trees.specs.declared.statement.Member.{Member}
use Rattle.stan_stmt_trees.specs.declared.statement.Member.TheVariants as members
use Rattle.stan_stmt_parts.specs.Parse.{piece_of, standing, items}
use Rattle.stan_stmt_items.specs.Views.{of_word, names_of}
use Rattle.stan_stmt_adaptations.specs.Views.{use_end_piece}
use Rattle.stan_stmt_members.specs.Views.{class_constants_piece, method_piece, properties_piece, modified_piece, with_modifiers, member_piece}
use Rattle.stan_stmt_members.specs.declared.methods.MethodTree.{MethodTree}
use Rattle.stan_stmt_members.specs.declared.modified.ModifiedTree.{ModifiedTree}
use Rattle.stan_stmt_members.specs.declared.modified.ModifiedTree.TheVariants as modified

-- a member by its form
member_is : (t : Token) (form : Member) → member_piece (roll-ClassMember (record { first = t; form = form })) ≡ piece_of (put_member t (member_of form) nil)
unfolding member_piece
member_is t form = rw (class_member-made t form) refl

pub words_are : (r : r.Rule) (ts : List Token) (f : Shape) → words r ts f ≡ items (map (of_word r) ts) f
words_are r [] f = refl
words_are r (t ∷ ts) f = ap (standing (of_word r t)) (words_are r ts f)

use_end_stands : (o : Option (List Adaptation)) (f : Shape) → put_use_end (adaptations_of o) f ≡ standing (use_end_piece o) f
use_end_stands None f = refl
use_end_stands (Some xs) f = refl

pub trait_use_is : (t name : Token) (names : List Token) (o : Option (List Adaptation)) → member_piece (roll-ClassMember (record { first = t; form = members.TraitUse (name ∷ names) o }))
    ≡ (r.trait_use, Some t, mark (standing (names_of (name ∷ names)) (standing (use_end_piece o) nil)))
trait_use_is t name names o = member_is t (members.TraitUse (name ∷ names) o) ∙ rw (member-TraitUse (name ∷ names) o) (rw (use_end_stands o nil) refl)

pub constants_is : (t : Token) (cs : List Constant) → member_piece (roll-ClassMember (record { first = t; form = members.Constants [] cs })) ≡ (r.constants_member, Some t, standing (class_constants_piece cs) nil)
unfolding class_constants_piece
constants_is t cs = member_is t (members.Constants [] cs) ∙ rw (member-Constants [] cs) refl

pub method_is : (t : Token) (x : MethodTree) → member_piece (roll-ClassMember (record { first = t; form = members.Method [] x.by_reference x.name x.parameters x.comma x.result x.body })) ≡ (r.method_member, Some t, standing (method_piece x) nil)
unfolding method_piece
method_is t x = member_is t (members.Method [] x.by_reference x.name x.parameters x.comma x.result x.body) ∙ rw (member-Method [] x.by_reference x.name x.parameters x.comma x.result x.body) refl

pub modified_is : (t m : Token) (ms : List Token) (x : ModifiedTree) → member_piece (roll-ClassMember (record { first = t; form = with_modifiers (m ∷ ms) x }))
    ≡ (r.modified_member, Some t, standing (of_word r.member_modifier m) (items (map (of_word r.member_modifier) ms) (standing (modified_piece x) nil)))
unfolding class_constants_piece method_piece properties_piece
modified_is t m ms (modified.Constants cs) =
    member_is t (members.Constants (m ∷ ms) cs) ∙ rw (member-Constants (m ∷ ms) cs) (rw (words_are r.member_modifier ms (standing (modified_piece (modified.Constants cs)) nil)) refl)
modified_is t m ms (modified.Method x) =
    member_is t (members.Method (m ∷ ms) x.by_reference x.name x.parameters x.comma x.result x.body)
    ∙ rw (member-Method (m ∷ ms) x.by_reference x.name x.parameters x.comma x.result x.body) (rw (words_are r.member_modifier ms (standing (modified_piece (modified.Method x)) nil)) refl)
modified_is t m ms (modified.Properties x) =
    member_is t (members.Properties (m ∷ ms) x.declared x.variables)
    ∙ rw (member-Properties (m ∷ ms) x.declared x.variables) (rw (words_are r.member_modifier ms (standing (modified_piece (modified.Properties x)) nil)) refl)

one_member : (t : Token) (m : model.Member) (f : Shape) → put_member t m f ≡ standing (piece_of (put_member t m nil)) f
one_member t (model.TraitUse names end) f = refl
one_member t (model.ClassConstants [] cs) f = refl
one_member t (model.ClassConstants (m ∷ ms) cs) f = refl
one_member t (model.Method [] reference name ps comma type b) f = refl
one_member t (model.Method (m ∷ ms) reference name ps comma type b) f = refl
one_member t (model.Properties ms type vs) f = refl

pub members_are : (ms : List ClassMember) (f : Shape) → put_members (lists.members (map class_member_of ms)) f ≡ items (map member_piece ms) f
unfolding member_piece
members_are [] f = refl
members_are (m ∷ ms) f = one_member (class_member_of m).first (class_member_of m).form (put_members (lists.members (map class_member_of ms)) f) ∙ ap (standing (member_piece m)) (members_are ms f)
