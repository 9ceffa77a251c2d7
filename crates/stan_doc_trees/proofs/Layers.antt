-- What each variant of the trees of types, and each struct, stands for.
use Rattle.std.proofs.Common.{◌≡◌, ℕ, Bool, List, Option, Some, None, ap, sym, ◌∙◌}
use Rattle.std.specs.Prelude.{map, option_map}
use Rattle.stan_model_doc.specs.declared.token.DocToken.{DocToken}
use Rattle.stan_model_doc.specs.Rules as r
use Rattle.stan_model_doc.specs.Trees.{nil, mark, word, any, some}
use Rattle.stan_doc_descent.specs.Parse.{Piece, standing}
use Rattle.stan_doc_trees.specs.declared.written.Key.{Key}
use Rattle.stan_doc_trees.specs.declared.written.Atom.{Atom, roll-Atom, fold-roll-Atom}
use Rattle.stan_doc_trees.specs.declared.written.Unary.{Unary, roll-Unary, fold-roll-Unary}
use Rattle.stan_doc_trees.specs.declared.written.Written.{Written, roll-Written, fold-roll-Written}
use Rattle.stan_doc_trees.specs.declared.written.Field.{Field, roll-Field, fold-roll-Field, out-Field, roll-out-Field}
use Rattle.stan_doc_trees.specs.declared.written.Intersection.{Intersection, roll-Intersection, fold-roll-Intersection, out-Intersection, roll-out-Intersection}
use Rattle.stan_doc_trees.specs.declared.written.Atom.TheVariants as atoms
use Rattle.stan_doc_trees.specs.declared.written.Unary.TheVariants as unaries
use Rattle.stan_doc_trees.specs.declared.written.Written.TheVariants as writtens
use Rattle.stan_doc_trees.specs.declared.written.Atom.TheOpen.{Atom-F, Unary-F, Written-F}
use Rattle.stan_doc_trees.specs.declared.written.Atom.TheFolds.{map-Atom, map-Unary, map-Written}
use Rattle.stan_doc_trees.specs.Tree.{negated, listed, optional, arrays_of, fields_of, arguments_of, field_of_key, atom_step, unary_step, written_step, field_step, intersection_step, atom_of, unary_of, written_of, field_of, intersection_of}

module _ where
  abbrev Whole : ((A B C D E : Type 0) → Type 0) → Type 0
  Whole T = T Atom Unary Written Field Intersection

  open_atom : (l : Whole Atom-F) → atom_of (roll-Atom l) ≡ atom_step (map-Atom Atom Unary Written Field Intersection Piece Piece Piece Piece Piece atom_of unary_of written_of field_of intersection_of l)
  unfolding atom_of unary_of written_of field_of intersection_of
  open_atom = fold-roll-Atom Piece Piece Piece Piece Piece atom_step unary_step written_step field_step intersection_step

  open_unary : (l : Whole Unary-F) → unary_of (roll-Unary l) ≡ unary_step (map-Unary Atom Unary Written Field Intersection Piece Piece Piece Piece Piece atom_of unary_of written_of field_of intersection_of l)
  unfolding atom_of unary_of written_of field_of intersection_of
  open_unary = fold-roll-Unary Piece Piece Piece Piece Piece atom_step unary_step written_step field_step intersection_step

  open_written : (l : Whole Written-F) → written_of (roll-Written l) ≡ written_step (map-Written Atom Unary Written Field Intersection Piece Piece Piece Piece Piece atom_of unary_of written_of field_of intersection_of l)
  unfolding atom_of unary_of written_of field_of intersection_of
  open_written = fold-roll-Written Piece Piece Piece Piece Piece atom_step unary_step written_step field_step intersection_step

pub written-Conditional : (v : DocToken) (n : Bool) (x y z : Written)
    → written_of (writtens.Conditional v n x y z) ≡ (r.conditional, mark (word v (mark (negated n (standing (written_of x) (mark (standing (written_of y) (mark (standing (written_of z) (mark nil))))))))))
written-Conditional v n x y z = ap written_of (sym (writtens.rolls-Conditional v n x y z)) ∙ open_written (Written-F.Conditional v n x y z)

pub written-Union : (xs : List Intersection) → written_of (writtens.Union xs) ≡ (r.plain_type, some r.alt (listed r.or_part (map intersection_of xs) nil) nil)
written-Union xs = ap written_of (sym (writtens.rolls-Union xs)) ∙ open_written (Written-F.Union xs)

pub unary-Nullable : (x : Unary) → unary_of (unaries.Nullable x) ≡ (r.nullable, mark (standing (unary_of x) nil))
unary-Nullable x = ap unary_of (sym (unaries.rolls-Nullable x)) ∙ open_unary (Unary-F.Nullable x)

pub unary-Suffixed : (x : Atom) (n : ℕ) → unary_of (unaries.Suffixed x n) ≡ (r.suffixed, standing (atom_of x) (arrays_of n))
unary-Suffixed x n = ap unary_of (sym (unaries.rolls-Suffixed x n)) ∙ open_unary (Unary-F.Suffixed x n)

pub atom-Group : (x : Written) → atom_of (atoms.Group x) ≡ (r.group, mark (standing (written_of x) (mark nil)))
atom-Group x = ap atom_of (sym (atoms.rolls-Group x)) ∙ open_atom (Atom-F.Group x)

pub atom-This : atom_of atoms.This ≡ (r.this, mark nil)
atom-This = ap atom_of (sym atoms.rolls-This) ∙ open_atom Atom-F.This

pub atom-Literal : (t : DocToken) → atom_of (atoms.Literal t) ≡ (r.literal, word t nil)
atom-Literal t = ap atom_of (sym (atoms.rolls-Literal t)) ∙ open_atom (Atom-F.Literal t)

pub atom-Shape : (xs : List Field) (comma : Bool) → atom_of (atoms.Shape xs comma) ≡ (r.shape, mark (mark (fields_of (map field_of xs) comma)))
atom-Shape xs comma = ap atom_of (sym (atoms.rolls-Shape xs comma)) ∙ open_atom (Atom-F.Shape xs comma)

pub atom-Range : (t u : DocToken) → atom_of (atoms.Range t u) ≡ (r.range, mark (mark (word t (mark (word u (mark nil))))))
atom-Range t u = ap atom_of (sym (atoms.rolls-Range t u)) ∙ open_atom (Atom-F.Range t u)

pub atom-Callable : (t : DocToken) (n : ℕ) (x : Option Unary) → atom_of (atoms.Callable t n x) ≡ (r.callable_type, word t (mark (any n (mark (optional r.result_type (option_map unary_of x) nil)))))
atom-Callable t n None = ap atom_of (sym (atoms.rolls-Callable t n None)) ∙ open_atom (Atom-F.Callable t n None)
atom-Callable t n (Some x) = ap atom_of (sym (atoms.rolls-Callable t n (Some x))) ∙ open_atom (Atom-F.Callable t n (Some x))

pub atom-Member : (t u : DocToken) → atom_of (atoms.Member t u) ≡ (r.member, word t (mark (word u nil)))
atom-Member t u = ap atom_of (sym (atoms.rolls-Member t u)) ∙ open_atom (Atom-F.Member t u)

pub atom-Name : (t : DocToken) (xs : List Written) → atom_of (atoms.Name t xs) ≡ (r.name, word t (arguments_of (map written_of xs)))
atom-Name t xs = ap atom_of (sym (atoms.rolls-Name t xs)) ∙ open_atom (Atom-F.Name t xs)

pub intersection-made : (xs : List Unary) → intersection_of (roll-Intersection (record { types = xs })) ≡ (r.both, listed r.and_part (map unary_of xs) nil)
unfolding atom_of unary_of written_of field_of intersection_of
intersection-made xs = fold-roll-Intersection Piece Piece Piece Piece Piece atom_step unary_step written_step field_step intersection_step (record { types = xs })

pub field-made : (key : Option Key) (x : Written) → field_of (roll-Field (record { key = key; value = x })) ≡ field_of_key key (written_of x)
unfolding atom_of unary_of written_of field_of intersection_of
field-made key x = fold-roll-Field Piece Piece Piece Piece Piece atom_step unary_step written_step field_step intersection_step (record { key = key; value = x })

pub ruleset layers = (written-Conditional, written-Union, unary-Nullable, unary-Suffixed, atom-Group, atom-This, atom-Literal, atom-Shape, atom-Range, atom-Callable, atom-Member, atom-Name, intersection-made, field-made)
