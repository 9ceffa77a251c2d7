-- How deep each variant of the trees of types is.
use Rattle.std.proofs.Common.{◌≡◌, ℕ, zero, suc, ◌+◌, ◌<◌, Bool, true, false, List, [], ◌∷◌, length, Option, Some, None, max, refl, ap, sym, ◌∙◌, arith}
use Rattle.std.specs.Prelude.{map}
use Rattle.stan_model_doc.specs.declared.token.DocToken.{DocToken}
use Rattle.stan_model_doc.specs.Rules.{Rule}
use Rattle.stan_model_doc.specs.Rules as r
use Rattle.stan_model_doc.specs.Trees.{Forest, nil, mark}
use Rattle.stan_model_doc.specs.Depth.{parts, levels, depth}
use Rattle.stan_doc_descent.specs.Parse.{Piece, standing}
use Rattle.stan_doc_trees.proofs.Layers.{written-Conditional, written-Union, unary-Nullable, unary-Suffixed, atom-Group, atom-Shape, atom-Callable, atom-Name, intersection-made, field-made}
use Rattle.stan_doc_trees.specs.declared.written.Key.{Key}
use Rattle.stan_doc_trees.specs.declared.written.Written.{Written}
use Rattle.stan_doc_trees.specs.declared.written.Intersection.{Intersection, roll-Intersection, out-Intersection, roll-out-Intersection}
use Rattle.stan_doc_trees.specs.declared.written.Unary.{Unary}
use Rattle.stan_doc_trees.specs.declared.written.Atom.{Atom}
use Rattle.stan_doc_trees.specs.declared.written.Field.{Field, roll-Field, out-Field, roll-out-Field}
use Rattle.stan_doc_trees.specs.declared.written.Atom.TheVariants as atoms
use Rattle.stan_doc_trees.specs.declared.written.Unary.TheVariants as unaries
use Rattle.stan_doc_trees.specs.declared.written.Written.TheVariants as writtens
use Rattle.stan_doc_trees.specs.Tree.{negated, flagged, further, listed, arrays_of, fields_of, atom_of, unary_of, written_of, field_of, intersection_of}
use Rattle.stan_syntax.specs.Depth.{greatest}
use Rattle.stan_doc_depth.specs.Depths.{piece_depth}

-- ---- lists

greatest_map : {A : Type 0} (g : A → Piece) (xs : List A) → greatest piece_depth (map g xs) ≡ greatest (λ x. piece_depth (g x)) xs
greatest_map g [] = refl
greatest_map g (x ∷ xs) = ap (max (piece_depth (g x))) (greatest_map g xs)

further_depth : (r : Rule) → ((f : Forest) → levels r f ≡ 0) → (ps : List Piece) (f : Forest) → depth (further r ps f) ≡ max (greatest piece_depth ps) (depth f)
further_depth r none [] f = omega arith
further_depth r none (p ∷ ps) f = omega (arith, none (mark (standing p nil)), further_depth r none ps f)

listed_depth : (r : Rule) → ((f : Forest) → levels r f ≡ 0) → (ps : List Piece) (f : Forest) → depth (listed r ps f) ≡ max (greatest piece_depth ps) (depth f)
listed_depth r none [] f = omega arith
listed_depth r none (p ∷ ps) f = omega (arith, further_depth r none ps f)

list_depth : {A : Type 0} (g : A → Piece) (r : Rule) → ((f : Forest) → levels r f ≡ 0) → (xs : List A) → depth (listed r (map g xs) nil) ≡ greatest (λ x. piece_depth (g x)) xs
list_depth g r none xs = omega (arith, listed_depth r none (map g xs) nil, greatest_map g xs)

-- ---- parts that add nothing

negated_depth : (b : Bool) (f : Forest) → depth (negated b f) ≡ depth f
negated_depth true f = omega arith
negated_depth false f = refl

comma_depth : (b : Bool) → depth (flagged r.last_comma b nil) ≡ 0
comma_depth true = refl
comma_depth false = refl

arrays_parts : (n : ℕ) → parts (arrays_of n) ≡ n
arrays_parts zero = refl
arrays_parts (suc n) = omega (arith, arrays_parts n)

arrays_depth : (n : ℕ) → depth (arrays_of n) ≡ 0
arrays_depth zero = refl
arrays_depth (suc n) = omega (arith, arrays_depth n)

fields_depth : (ps : List Piece) (comma : Bool) → depth (fields_of ps comma) ≡ greatest piece_depth ps
fields_depth [] comma = refl
fields_depth (p ∷ ps) comma = omega (arith, listed_depth r.further_field (λ f. refl) (p ∷ ps) (flagged r.last_comma comma nil), comma_depth comma)

-- ---- each variant

pub conditional_depth : (v : DocToken) (n : Bool) (x y z : Written)
    → piece_depth (written_of (writtens.Conditional v n x y z)) ≡ 1 + max (piece_depth (written_of x)) (max (piece_depth (written_of y)) (piece_depth (written_of z)))
conditional_depth v n x y z = rw (written-Conditional v n x y z)
    (omega (arith, negated_depth n (standing (written_of x) (mark (standing (written_of y) (mark (standing (written_of z) (mark nil))))))))

pub union_depth : (xs : List Intersection) → piece_depth (written_of (writtens.Union xs)) ≡ greatest (λ x. piece_depth (intersection_of x)) xs
union_depth xs = rw (written-Union xs) (omega (arith, list_depth intersection_of r.or_part (λ f. refl) xs))

intersection_is : (xs : List Unary) → piece_depth (intersection_of (roll-Intersection (record { types = xs }))) ≡ greatest (λ x. piece_depth (unary_of x)) xs
intersection_is xs = rw (intersection-made xs) (omega (arith, list_depth unary_of r.and_part (λ f. refl) xs))

pub nullable_depth : (x : Unary) → piece_depth (unary_of (unaries.Nullable x)) ≡ 1 + piece_depth (unary_of x)
nullable_depth x = rw (unary-Nullable x) (omega arith)

pub suffixed_depth : (x : Atom) (n : ℕ) → piece_depth (unary_of (unaries.Suffixed x n)) ≡ n + piece_depth (atom_of x)
suffixed_depth x n = rw (unary-Suffixed x n) (omega (arith, arrays_parts n, arrays_depth n))

pub group_depth : (x : Written) → piece_depth (atom_of (atoms.Group x)) ≡ 1 + piece_depth (written_of x)
group_depth x = rw (atom-Group x) (omega arith)

pub shape_depth : (xs : List Field) (comma : Bool) → piece_depth (atom_of (atoms.Shape xs comma)) ≡ 1 + greatest (λ x. piece_depth (field_of x)) xs
shape_depth xs comma = rw (atom-Shape xs comma) (omega (arith, fields_depth (map field_of xs) comma, greatest_map field_of xs))

pub callable_depth : (t : DocToken) (n : ℕ) (x : Unary) → piece_depth (atom_of (atoms.Callable t n (Some x))) ≡ 1 + piece_depth (unary_of x)
callable_depth t n x = rw (atom-Callable t n (Some x)) (omega arith)

pub plain_callable_depth : (t : DocToken) (n : ℕ) → piece_depth (atom_of (atoms.Callable t n None)) ≡ 1
plain_callable_depth t n = rw (atom-Callable t n None) refl

pub plain_name_depth : (t : DocToken) (xs : List Written) → length xs ≡ 0 → piece_depth (atom_of (atoms.Name t xs)) ≡ 0
plain_name_depth t [] h = rw (atom-Name t []) refl
plain_name_depth t (x ∷ xs) h = absurd (omega (arith, h))

pub name_depth : (t : DocToken) (xs : List Written) → 0 < length xs → piece_depth (atom_of (atoms.Name t xs)) ≡ 1 + greatest (λ x. piece_depth (written_of x)) xs
name_depth t [] h = absurd (omega (arith, h))
name_depth t (x ∷ xs) h = rw (atom-Name t (x ∷ xs)) (omega (arith, listed_depth r.further_type (λ f. refl) (map written_of (x ∷ xs)) (mark nil), greatest_map written_of (x ∷ xs)))

field_is : (key : Option Key) (x : Written) → piece_depth (field_of (roll-Field (record { key = key; value = x }))) ≡ piece_depth (written_of x)
field_is None x = rw (field-made None x) (omega arith)
field_is (Some key) x = rw (field-made (Some key) x) (omega (arith, by key.is_optional))
  where
    by : (b : Bool) → depth (flagged r.question_mark b (mark (standing (written_of x) nil))) ≡ piece_depth (written_of x)
    by true = omega arith
    by false = omega arith

pub intersection_whole : (x : Intersection) → piece_depth (intersection_of x) ≡ greatest (λ y. piece_depth (unary_of y)) (out-Intersection x).types
intersection_whole x = ap (λ z. piece_depth (intersection_of z)) (sym (roll-out-Intersection x)) ∙ intersection_is (out-Intersection x).types

pub field_whole : (x : Field) → piece_depth (field_of x) ≡ piece_depth (written_of (out-Field x).value)
field_whole x = ap (λ z. piece_depth (field_of z)) (sym (roll-out-Field x)) ∙ field_is (out-Field x).key (out-Field x).value
