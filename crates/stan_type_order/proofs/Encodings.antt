-- The bytes of the lists in a type, item by item.
use Rattle.std.proofs.Common.{◌≡◌, ℕ, List, [], ◌∷◌, ◌++◌, map, length, suc, refl, ap, sym, subst, ◌∙◌}
use Rattle.std.specs.List.{flat_map}
use Rattle.std.specs.declared.cmp.Ordering.{Ordering}
use Rattle.stan_model_types.specs.Types as model
use Rattle.stan_model_types.specs.TypeBytes.{all_texts, all_types, all_fields, all_parts, text_bytes, type_bytes, part_bytes, number_bytes, fields_bytes}
use Rattle.stan_type_order.specs.Order.{Decides, field_bytes, list_bytes}
use Rattle.stan_type_parts.specs.declared.part.Field.{Field}
use Rattle.stan_type_parts.specs.declared.part.Part.{Part}
use Rattle.stan_type_parts.specs.Parts.{part_of, field_of}

pub all_texts-flat : {A : Type 0} (f : A → List ℕ) (xs : List A) → all_texts (map f xs) ≡ flat_map (λ x. text_bytes (f x)) xs
all_texts-flat f [] = refl
all_texts-flat f (x ∷ xs) = ap (λ bs. text_bytes (f x) ++ bs) (all_texts-flat f xs)

pub all_types-flat : (ts : List model.PhpType) → all_types (model.of_types ts) ≡ flat_map type_bytes ts
all_types-flat [] = refl
all_types-flat (t ∷ ts) = ap (λ bs. type_bytes t ++ bs) (all_types-flat ts)

pub all_parts-flat : (ps : List Part) → all_parts (model.of_parts (map part_of ps)) ≡ flat_map (λ p. part_bytes (part_of p)) ps
all_parts-flat [] = refl
all_parts-flat (p ∷ ps) = ap (λ bs. part_bytes (part_of p) ++ bs) (all_parts-flat ps)

pub all_fields-flat : (fs : List Field) → all_fields (model.of_fields (map field_of fs)) ≡ flat_map (λ f. field_bytes (field_of f)) fs
all_fields-flat [] = refl
all_fields-flat (f ∷ fs) = ap (λ bs. field_bytes (field_of f) ++ bs) (all_fields-flat fs)

pub parts-of_parts : (ps : List model.Part) → model.parts (model.of_parts ps) ≡ ps
parts-of_parts [] = refl
parts-of_parts (p ∷ ps) = ap (λ qs. p ∷ qs) (parts-of_parts ps)

pub types-of_types : (ts : List model.PhpType) → model.types (model.of_types ts) ≡ ts
types-of_types [] = refl
types-of_types (t ∷ ts) = ap (λ us. t ∷ us) (types-of_types ts)

pub fields-of_fields : (fs : List model.Field) → model.fields (model.of_fields fs) ≡ fs
fields-of_fields [] = refl
fields-of_fields (f ∷ fs) = ap (λ gs. f ∷ gs) (fields-of_fields fs)

length-map : {A B : Type 0} (f : A → B) (xs : List A) → length (map f xs) ≡ length xs
length-map f [] = refl
length-map f (x ∷ xs) = ap suc (length-map f xs)

-- a type by the list of its parts
type_bytes-list : (ps : List Part) (t : model.PhpType) → model.of_parts (map part_of ps) ≡ t → number_bytes (length ps) ++ all_parts (model.of_parts (map part_of ps)) ≡ type_bytes t
type_bytes-list ps t e =
    ap (λ n. number_bytes n ++ all_parts (model.of_parts (map part_of ps))) (sym (ap length (parts-of_parts (map part_of ps)) ∙ length-map part_of ps))
    ∙ ap type_bytes e

shape_bytes-list : (fs : List Field) → number_bytes (length fs) ++ all_fields (model.of_fields (map field_of fs)) ≡ fields_bytes (model.Shape (model.of_fields (map field_of fs)))
shape_bytes-list fs = ap (λ n. number_bytes n ++ all_fields (model.of_fields (map field_of fs))) (sym (ap length (fields-of_fields (map field_of fs)) ∙ length-map field_of fs))

arguments_bytes-list : (ts : List model.PhpType) → number_bytes (length ts) ++ all_types (model.of_types ts) ≡ number_bytes (length (model.types (model.of_types ts))) ++ all_types (model.of_types ts)
arguments_bytes-list ts = ap (λ n. number_bytes n ++ all_types (model.of_types ts)) (sym (ap length (types-of_types ts)))

-- the answer for counted lists is that for what they stand for
pub decide_types : (o : Ordering) (ps qs : List Part) (t u : model.PhpType) → model.of_parts (map part_of ps) ≡ t → model.of_parts (map part_of qs) ≡ u
    → Decides o (list_bytes (length ps) (all_parts (model.of_parts (map part_of ps)))) (list_bytes (length qs) (all_parts (model.of_parts (map part_of qs)))) → Decides o (type_bytes t) (type_bytes u)
decide_types o ps qs t u e f d =
    subst (λ (bs : List ℕ). Decides o bs (type_bytes u)) (type_bytes-list ps t e)
    (subst (λ (bs : List ℕ). Decides o (list_bytes (length ps) (all_parts (model.of_parts (map part_of ps)))) bs) (type_bytes-list qs u f) d)

pub decide_shapes : (o : Ordering) (fs gs : List Field)
    → Decides o (list_bytes (length fs) (all_fields (model.of_fields (map field_of fs)))) (list_bytes (length gs) (all_fields (model.of_fields (map field_of gs))))
    → Decides o (fields_bytes (model.Shape (model.of_fields (map field_of fs)))) (fields_bytes (model.Shape (model.of_fields (map field_of gs))))
decide_shapes o fs gs d =
    subst (λ (bs : List ℕ). Decides o bs (fields_bytes (model.Shape (model.of_fields (map field_of gs))))) (shape_bytes-list fs)
    (subst (λ (bs : List ℕ). Decides o (list_bytes (length fs) (all_fields (model.of_fields (map field_of fs)))) bs) (shape_bytes-list gs) d)

abbrev pub arguments_bytes : List model.PhpType → List ℕ
arguments_bytes ts = number_bytes (length (model.types (model.of_types ts))) ++ all_types (model.of_types ts)

pub decide_arguments : (o : Ordering) (ts us : List model.PhpType)
    → Decides o (list_bytes (length ts) (all_types (model.of_types ts))) (list_bytes (length us) (all_types (model.of_types us))) → Decides o (arguments_bytes ts) (arguments_bytes us)
decide_arguments o ts us d =
    subst (λ (bs : List ℕ). Decides o bs (arguments_bytes us)) (arguments_bytes-list ts)
    (subst (λ (bs : List ℕ). Decides o (list_bytes (length ts) (all_types (model.of_types ts))) bs) (arguments_bytes-list us) d)
