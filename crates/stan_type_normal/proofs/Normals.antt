-- What the definition of the normal form gives, from what has been gathered.
use Rattle.std.proofs.Common.{◌≡◌, ℕ, zero, suc, ◌+◌, ◌-◌, ◌<◌, ◌≤◌, Bool, true, false, cond, List, [], ◌∷◌, ◌++◌, map, length, get_or, take, refl, ap, sym, subst, ◌∙◌, append-nil, append_assoc, arith}
use Rattle.std.specs.Prelude.{Option, None, Some, count_by, nat_lt, option_map}
use Rattle.std.specs.List.{flat_map, list_any}
use Rattle.std.specs.Option.{option_to_list}
use Rattle.std.specs.declared.cmp.Ordering.{Ordering}
use Rattle.std.proofs.lemmas.Bool.Decides.{nat_tests}
use Rattle.stan_model_types.specs.Types as model
use Rattle.stan_model_types.specs.TypeLimits.{explicit_mixed, implicit_mixed, limited}
use Rattle.stan_model_types.specs.TypeBytes.{part_order}
use Rattle.stan_model_types.specs.NormalForms.{Table, array_parts, is_of, join, join_onto, joined_tables, key_type, key_types, mended, normal_within, of_kinds, ordered, put_all, settled, settled_parts, table_part, table_parts, tables_of, value_types, with_table}
use Rattle.stan_type_parts.specs.declared.part.Field.{Field}
use Rattle.stan_type_parts.specs.declared.part.Part.{Part}
use Rattle.stan_type_parts.specs.Parts.{field_of, part_of}
use Rattle.stan_type_parts.proofs.Steps.{map_more}
use Rattle.stan_type_normal.proofs.Filters.{length-filter-map, list_any-map}
use Rattle.stan_type_normal.proofs.Placing.{put_all-append}

-- ---- one more

flat_map-push : {A B : Type 0} (f : A → List B) (xs : List A) (x : A) → flat_map f (xs ++ x ∷ []) ≡ flat_map f xs ++ f x
flat_map-push f [] x = append-nil (f x)
flat_map-push f (y ∷ ys) x = ap (λ zs. f y ++ zs) (flat_map-push f ys x) ∙ sym (append_assoc (f y) (flat_map f ys) (f x))

pub put_flat_more : {A B : Type 0} (order : B → B → Ordering) (f : B → List B) (g : A → B) (xs : List A) (i : ℕ) (x : A) (old now : List B) → i < length xs → x ≡ get_or xs i x
    → now ≡ put_all order (flat_map f (map g (take i xs))) old → put_all order (f (g x)) now ≡ put_all order (flat_map f (map g (take (i + 1) xs))) old
put_flat_more order f g xs i x old now lt e so =
    ap (put_all order (f (g x))) so
    ∙ sym (put_all-append order (flat_map f (map g (take i xs))) (f (g x)) old)
    ∙ ap (λ ys. put_all order ys old) (sym (flat_map-push f (map g (take i xs)) (g x)) ∙ ap (flat_map f) (sym (map_more g xs i x lt e)))

module _ (make : List model.Part → model.PhpType) where
  join_onto-push : (t : model.PhpType) (us : List model.PhpType) (u : model.PhpType) → join_onto make t (us ++ u ∷ []) ≡ join make (join_onto make t us) u
  join_onto-push t [] u = refl
  join_onto-push t (v ∷ us) u = join_onto-push (join make t v) us u

  key_types-push : (fs : List model.Field) (f : model.Field) → key_types make (model.of_fields (fs ++ f ∷ [])) ≡ key_types make (model.of_fields fs) ++ key_type make f.key ∷ []
  key_types-push [] f = refl
  key_types-push (g ∷ fs) f = ap (λ ts. key_type make g.key ∷ ts) (key_types-push fs f)

  pub join_key : (t : model.PhpType) (fs : List Field) (i : ℕ) (f : Field) (now : model.PhpType) → i < length fs → f ≡ get_or fs i f → now ≡ join_onto make t (key_types make (model.of_fields (map field_of (take i fs))))
      → join make now (key_type make (field_of f).key) ≡ join_onto make t (key_types make (model.of_fields (map field_of (take (i + 1) fs))))
  join_key t fs i f now lt e so =
      ap (λ u. join make u (key_type make (field_of f).key)) so
      ∙ sym (join_onto-push t (key_types make (model.of_fields (map field_of (take i fs)))) (key_type make (field_of f).key))
      ∙ ap (join_onto make t) (sym (key_types-push (map field_of (take i fs)) (field_of f)) ∙ ap (λ gs. key_types make (model.of_fields gs)) (sym (map_more field_of fs i f lt e)))

  value_types-push : (fs : List model.Field) (f : model.Field) → value_types (model.of_fields (fs ++ f ∷ [])) ≡ value_types (model.of_fields fs) ++ f.value ∷ []
  value_types-push [] f = refl
  value_types-push (g ∷ fs) f = ap (λ ts. g.value ∷ ts) (value_types-push fs f)

  pub join_value : (t : model.PhpType) (fs : List Field) (i : ℕ) (f : Field) (now : model.PhpType) → i < length fs → f ≡ get_or fs i f → now ≡ join_onto make t (value_types (model.of_fields (map field_of (take i fs))))
      → join make now f.value ≡ join_onto make t (value_types (model.of_fields (map field_of (take (i + 1) fs))))
  join_value t fs i f now lt e so =
      ap (λ u. join make u f.value) so
      ∙ sym (join_onto-push t (value_types (model.of_fields (map field_of (take i fs)))) f.value)
      ∙ ap (join_onto make t) (sym (value_types-push (map field_of (take i fs)) (field_of f)) ∙ ap (λ gs. value_types (model.of_fields gs)) (sym (map_more field_of fs i f lt e)))

  joined_tables-append : (found : Option Table) (xs ys : List Table) → joined_tables make found (xs ++ ys) ≡ joined_tables make (joined_tables make found xs) ys
  joined_tables-append found [] ys = refl
  joined_tables-append found (a ∷ rest) ys = joined_tables-append (with_table make found a) rest ys

  pub join_table : (ps : List Part) (i : ℕ) (p : Part) (now : Option Table) → i < length ps → p ≡ get_or ps i p → now ≡ joined_tables make None (flat_map (tables_of make) (map part_of (take i ps)))
      → joined_tables make now (tables_of make (part_of p)) ≡ joined_tables make None (flat_map (tables_of make) (map part_of (take (i + 1) ps)))
  join_table ps i p now lt e so =
      ap (λ found. joined_tables make found (tables_of make (part_of p))) so
      ∙ sym (joined_tables-append None (flat_map (tables_of make) (map part_of (take i ps))) (tables_of make (part_of p)))
      ∙ ap (joined_tables make None) (sym (flat_map-push (tables_of make) (map part_of (take i ps)) (part_of p)) ∙ ap (flat_map (tables_of make)) (sym (map_more part_of ps i p lt e)))

  -- ---- arrays

  tables_list : (found : Option Table) → table_parts make found ≡ option_to_list (option_map table_part found)
  tables_list None = refl
  tables_list (Some a) = refl

  pub arrays_many : (ps : List Part) (n : ℕ) (found : Option Table) → n ≡ count_by (λ p. is_of 6 7 (part_of p)) ps → 1 < n → found ≡ joined_tables make None (flat_map (tables_of make) (map part_of ps))
      → option_to_list (option_map table_part found) ≡ array_parts make (map part_of ps)
  arrays_many ps n found e lt so =
      sym (tables_list found) ∙ ap (table_parts make) so
      ∙ ap (λ b. cond b (table_parts make (joined_tables make None (flat_map (tables_of make) (map part_of ps)))) (of_kinds 6 7 (map part_of ps))) (sym (several (omega (arith, e, length-filter-map (is_of 6 7) part_of ps))))
    where
      several : 1 < length (of_kinds 6 7 (map part_of ps)) → nat_lt 1 (length (of_kinds 6 7 (map part_of ps))) ≡ true
      several h = grind (arith, nat_tests)

  pub arrays_few : (ps : List Part) (n : ℕ) → n ≡ count_by (λ p. is_of 6 7 (part_of p)) ps → n ≤ 1 → of_kinds 6 7 (map part_of ps) ≡ array_parts make (map part_of ps)
  arrays_few ps n e le =
      ap (λ b. cond b (table_parts make (joined_tables make None (flat_map (tables_of make) (map part_of ps)))) (of_kinds 6 7 (map part_of ps))) (sym (lone (omega (arith, e, length-filter-map (is_of 6 7) part_of ps))))
    where
      lone : length (of_kinds 6 7 (map part_of ps)) ≤ 1 → nat_lt 1 (length (of_kinds 6 7 (map part_of ps))) ≡ false
      lone h = grind (arith, nat_tests)

  -- ---- all parts

  pub settled_explicit : (ps : List Part) (a : Bool) → a ≡ list_any (λ p. is_of 18 18 (part_of p)) ps → a ≡ true → explicit_mixed ≡ settled make (map part_of ps)
  settled_explicit ps a e h =
      ap (λ x. cond x explicit_mixed (cond (list_any (is_of 17 17) (map part_of ps)) implicit_mixed (limited (model.of_parts (ordered part_order (settled_parts make (map part_of ps)))))))
      (sym h ∙ e ∙ sym (list_any-map (is_of 18 18) part_of ps))

  pub settled_implicit : (ps : List Part) (a b : Bool) → a ≡ list_any (λ p. is_of 18 18 (part_of p)) ps → a ≡ false → b ≡ list_any (λ p. is_of 17 17 (part_of p)) ps → b ≡ true → implicit_mixed ≡ settled make (map part_of ps)
  settled_implicit ps a b e h f k =
      ap (λ y. cond y implicit_mixed (limited (model.of_parts (ordered part_order (settled_parts make (map part_of ps)))))) (sym k ∙ f ∙ sym (list_any-map (is_of 17 17) part_of ps))
      ∙ ap (λ x. cond x explicit_mixed (cond (list_any (is_of 17 17) (map part_of ps)) implicit_mixed (limited (model.of_parts (ordered part_order (settled_parts make (map part_of ps)))))))
      (sym h ∙ e ∙ sym (list_any-map (is_of 18 18) part_of ps))

  pub settled_limited : (ps : List Part) (a b : Bool) → a ≡ list_any (λ p. is_of 18 18 (part_of p)) ps → a ≡ false → b ≡ list_any (λ p. is_of 17 17 (part_of p)) ps → b ≡ false
      → limited (model.of_parts (ordered part_order (settled_parts make (map part_of ps)))) ≡ settled make (map part_of ps)
  settled_limited ps a b e h f k =
      ap (λ y. cond y implicit_mixed (limited (model.of_parts (ordered part_order (settled_parts make (map part_of ps)))))) (sym k ∙ f ∙ sym (list_any-map (is_of 17 17) part_of ps))
      ∙ ap (λ x. cond x explicit_mixed (cond (list_any (is_of 17 17) (map part_of ps)) implicit_mixed (limited (model.of_parts (ordered part_order (settled_parts make (map part_of ps)))))))
      (sym h ∙ e ∙ sym (list_any-map (is_of 18 18) part_of ps))

-- ---- one list behind another

pub then_put : {X : Type 0} (order : X → X → Ordering) (a r s0 s1 s2 : List X) → s1 ≡ put_all order a s0 → s2 ≡ put_all order r s1 → s2 ≡ put_all order (a ++ r) s0
then_put order a r s0 s1 s2 e f = f ∙ ap (put_all order r) e ∙ sym (put_all-append order a r s0)

-- ---- levels

pub no_parts : normal_within 1 [] ≡ model.never
unfolding normal_within
no_parts = refl

pub no_level : (n : ℕ) (ps : List model.Part) → n ≡ 0 → explicit_mixed ≡ normal_within n ps
unfolding normal_within
no_level zero ps e = refl
no_level (suc n) ps e = absurd (omega (arith, e))

flat_map-append : {A B : Type 0} (f : A → List B) (xs ys : List A) → flat_map f (xs ++ ys) ≡ flat_map f xs ++ flat_map f ys
flat_map-append f [] ys = refl
flat_map-append f (x ∷ xs) ys = ap (λ zs. f x ++ zs) (flat_map-append f xs ys) ∙ sym (append_assoc (f x) (flat_map f xs) (flat_map f ys))

level_more : (m : ℕ) (xs ys gathered all : List model.Part) → gathered ≡ put_all part_order (flat_map (mended (normal_within m)) xs) [] → all ≡ put_all part_order (flat_map (mended (normal_within m)) ys) gathered
    → settled (normal_within m) all ≡ normal_within (suc m) (xs ++ ys)
unfolding normal_within
level_more m xs ys gathered all e f =
    ap (settled (normal_within m)) (then_put part_order (flat_map (mended (normal_within m)) xs) (flat_map (mended (normal_within m)) ys) [] gathered all e f
    ∙ ap (λ ps. put_all part_order ps []) (sym (flat_map-append (mended (normal_within m)) xs ys)))

pub one_level : (n : ℕ) (xs ys gathered all : List model.Part) → (n ≡ 0 → ⊥) → gathered ≡ put_all part_order (flat_map (mended (normal_within (n - 1))) xs) []
    → all ≡ put_all part_order (flat_map (mended (normal_within (n - 1))) ys) gathered → settled (normal_within (n - 1)) all ≡ normal_within n (xs ++ ys)
one_level zero xs ys gathered all some e f = absurd (some refl)
one_level (suc m) xs ys gathered all some e f =
    let same : suc m - 1 ≡ m = omega arith in
    ap (λ k. settled (normal_within k) all) same
    ∙ level_more m xs ys gathered all
    (subst (λ k. gathered ≡ put_all part_order (flat_map (mended (normal_within k)) xs) []) same e)
    (subst (λ k. all ≡ put_all part_order (flat_map (mended (normal_within k)) ys) gathered) same f)
