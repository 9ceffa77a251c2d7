-- The production and the forest of the model that a type stands for, by one layer of it at a time.
use Rattle.std.specs.Prelude.{ℕ, zero, suc, Bool, true, false, List, [], ◌∷◌, Option, Some, None}
use Rattle.stan_model_doc.specs.declared.token.DocToken.{DocToken}
use Rattle.stan_model_doc.specs.Rules as r
use Rattle.stan_model_doc.specs.Trees.{Forest, nil, mark, word, any, none, some}
use Rattle.stan_doc_descent.specs.Parse.{Piece, standing}
use Rattle.stan_doc_trees.specs.declared.written.Key.{Key}
use Rattle.stan_doc_trees.specs.declared.written.Written.{Written}
use Rattle.stan_doc_trees.specs.declared.written.Intersection.{Intersection}
use Rattle.stan_doc_trees.specs.declared.written.Unary.{Unary}
use Rattle.stan_doc_trees.specs.declared.written.Atom.{Atom}
use Rattle.stan_doc_trees.specs.declared.written.Field.{Field}
use Rattle.stan_doc_trees.specs.declared.written.Atom.TheOpen.{Atom-F, Unary-F, Written-F, Field-F, Intersection-F}
use Rattle.stan_doc_trees.specs.declared.written.Atom.TheFolds as folds

-- ---- lists of parts

-- parts one behind the other, and what stands behind them
abbrev pub items : List Piece → Forest → Forest
items [] f = none f
items (p ∷ ps) f = standing p (items ps f)

-- a part behind a mark
abbrev pub behind_mark : r.Rule → Piece → Piece
behind_mark r p = (r, mark (standing p nil))

-- further parts, each behind its mark
abbrev pub further : r.Rule → List Piece → Forest → Forest
further r [] f = none f
further r (p ∷ ps) f = standing (behind_mark r p) (further r ps f)

-- at least one part
abbrev pub listed : r.Rule → List Piece → Forest → Forest
listed r [] f = f
listed r (p ∷ ps) f = standing p (further r ps f)

-- ---- parts that may stand

abbrev pub stood : Option Piece → Forest → Forest
stood None f = none f
stood (Some p) f = standing p f

-- a part that is a mark
abbrev pub flagged : r.Rule → Bool → Forest → Forest
flagged r true f = some r (mark nil) f
flagged r false f = none f

-- a part behind a mark
abbrev pub optional : r.Rule → Option Piece → Forest → Forest
optional r None f = none f
optional r (Some p) f = standing (behind_mark r p) f

-- ---- parts of atoms

abbrev pub negated : Bool → Forest → Forest
negated = flagged r.negation

abbrev pub arrays_of : ℕ → Forest
arrays_of zero = none nil
arrays_of (suc n) = some r.brackets (mark (mark nil)) (arrays_of n)

abbrev pub fields_of : List Piece → Bool → Forest
fields_of [] comma = none (mark nil)
fields_of (p ∷ ps) comma = some r.fields (listed r.further_field (p ∷ ps) (flagged r.last_comma comma nil)) (mark nil)

abbrev pub arguments_of : List Piece → Forest
arguments_of [] = none nil
arguments_of (p ∷ ps) = some r.arguments (mark (listed r.further_type (p ∷ ps) (mark nil))) nil

abbrev pub field_of_key : Option Key → Piece → Piece
field_of_key None p = (r.plain_field, standing p nil)
field_of_key (Some key) p = (r.keyed, word key.name (flagged r.question_mark key.is_optional (mark (standing p nil))))

-- ---- one layer of a type, where its parts are those of the model

abbrev pub Layer : ((A B C D E : Type 0) → Type 0) → Type 0
Layer T = T Piece Piece Piece Piece Piece

abbrev pub written_step : Layer Written-F → Piece
written_step (Written-F.Conditional variable is_negated tested then otherwise) =
    (r.conditional, mark (word variable (mark (negated is_negated (standing tested (mark (standing then (mark (standing otherwise (mark nil))))))))))
written_step (Written-F.Union xs) = (r.plain_type, some r.alt (listed r.or_part xs nil) nil)

abbrev pub intersection_step : Layer Intersection-F → Piece
intersection_step x = (r.both, listed r.and_part x.types nil)

abbrev pub unary_step : Layer Unary-F → Piece
unary_step (Unary-F.Nullable x) = (r.nullable, mark (standing x nil))
unary_step (Unary-F.Suffixed atom arrays) = (r.suffixed, standing atom (arrays_of arrays))

abbrev pub atom_step : Layer Atom-F → Piece
atom_step (Atom-F.Group x) = (r.group, mark (standing x (mark nil)))
atom_step Atom-F.This = (r.this, mark nil)
atom_step (Atom-F.Literal t) = (r.literal, word t nil)
atom_step (Atom-F.Shape xs comma) = (r.shape, mark (mark (fields_of xs comma)))
atom_step (Atom-F.Range least greatest) = (r.range, mark (mark (word least (mark (word greatest (mark nil))))))
atom_step (Atom-F.Callable name parameters result) = (r.callable_type, word name (mark (any parameters (mark (optional r.result_type result nil)))))
atom_step (Atom-F.Member class constant) = (r.member, word class (mark (word constant nil)))
atom_step (Atom-F.Name name xs) = (r.name, word name (arguments_of xs))

abbrev pub field_step : Layer Field-F → Piece
field_step x = field_of_key x.key x.value

-- ---- whole types

unfoldable pub written_of : Written → Piece
written_of = folds.fold-Written Piece Piece Piece Piece Piece atom_step unary_step written_step field_step intersection_step

unfoldable pub intersection_of : Intersection → Piece
intersection_of = folds.fold-Intersection Piece Piece Piece Piece Piece atom_step unary_step written_step field_step intersection_step

unfoldable pub unary_of : Unary → Piece
unary_of = folds.fold-Unary Piece Piece Piece Piece Piece atom_step unary_step written_step field_step intersection_step

unfoldable pub atom_of : Atom → Piece
atom_of = folds.fold-Atom Piece Piece Piece Piece Piece atom_step unary_step written_step field_step intersection_step

unfoldable pub field_of : Field → Piece
field_of = folds.fold-Field Piece Piece Piece Piece Piece atom_step unary_step written_step field_step intersection_step
