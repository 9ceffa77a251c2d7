-- What is put without an expression is put of one value alone.
use Rattle.std.proofs.Common.{◌≡◌, Bool, true, false, List, [], ◌∷◌, Option, Some, None, refl, sym, ap, ◌∙◌}
use Rattle.stan_model_grammar.specs.declared.token.Token.{Token}
use Rattle.stan_model_grammar.specs.declared.token.TokenKind.TheVariants as k
use Rattle.stan_model_grammar.specs.Trees.{TypeTree, Nullable, Union}
use Rattle.stan_model_statements.specs.Kinds.{same_kind}
use Rattle.stan_model_statements.specs.Rules as r
use Rattle.stan_model_statements.specs.Trees.{Adapting, InsteadOf, Alias, Adaptation, Used}
use Rattle.stan_model_files.specs.Shapes.{Shape, nil, mark, word, none, some}
use Rattle.stan_model_files.specs.Put.{may_word, flag, words, further_words, first_words, list_end, put_names, may_names, may_extend, put_type, may_type, may_return, put_union, may_property_type, put_from, put_alias, put_adapting, put_adaptations, put_use_end, may_alias, put_name, put_group_item, put_item, put_item_by, further_items, first_items}

pub same_flag : (r : r.Rule) (a b : Bool) (f g : Shape) → flag r a f ≡ flag r b g → (a ≡ b) × (f ≡ g)
same_flag r true true f g h = (refl, cc)
same_flag r false false f g h = (refl, cc)
same_flag r true false f g h = absurd cc
same_flag r false true f g h = absurd cc

pub same_may_word : (r : r.Rule) (a b : Option Token) (f g : Shape) → may_word r a f ≡ may_word r b g → (a ≡ b) × (f ≡ g)
same_may_word r None None f g h = (refl, cc)
same_may_word r (Some t) (Some u) f g h = (cc, cc)
same_may_word r None (Some u) f g h = absurd cc
same_may_word r (Some t) None f g h = absurd cc

pub same_words : (r : r.Rule) (ts us : List Token) (f g : Shape) → words r ts f ≡ words r us g → (ts ≡ us) × (f ≡ g)
same_words r [] [] f g h = (refl, cc)
same_words r (t ∷ ts) (u ∷ us) f g h = let i : words r ts f ≡ words r us g = cc in let j = same_words r ts us f g i in let x : t ≡ u = cc in let y = j.0 in (cc, j.1)
same_words r [] (u ∷ us) f g h = absurd cc
same_words r (t ∷ ts) [] f g h = absurd cc

pub same_further_words : (r : r.Rule) (ts us : List Token) (f g : Shape) → further_words r ts f ≡ further_words r us g → (ts ≡ us) × (f ≡ g)
same_further_words r [] [] f g h = (refl, cc)
same_further_words r (t ∷ ts) (u ∷ us) f g h = let i : further_words r ts f ≡ further_words r us g = cc in let j = same_further_words r ts us f g i in let x : t ≡ u = cc in let y = j.0 in (cc, j.1)
same_further_words r [] (u ∷ us) f g h = absurd cc
same_further_words r (t ∷ ts) [] f g h = absurd cc

pub same_first_words : (r : r.Rule) (ts us : List Token) (f g : Shape) → first_words r ts f ≡ first_words r us g → (ts ≡ us) × (f ≡ g)
same_first_words r [] [] f g h = (refl, cc)
same_first_words r (t ∷ ts) (u ∷ us) f g h = let i : further_words r ts f ≡ further_words r us g = cc in let j = same_further_words r ts us f g i in let x : t ≡ u = cc in let y = j.0 in (cc, j.1)
same_first_words r [] (u ∷ us) f g h = absurd cc
same_first_words r (t ∷ ts) [] f g h = absurd cc

pub same_list_end : (r q : r.Rule) (a b : Bool) (f g : Shape) → list_end r q a f ≡ list_end r q b g → (a ≡ b) × (f ≡ g)
same_list_end r q true true f g h = (refl, cc)
same_list_end r q false false f g h = (refl, cc)
same_list_end r q true false f g h = absurd cc
same_list_end r q false true f g h = absurd cc

pub same_names : (ts us : List Token) (f g : Shape) → put_names ts f ≡ put_names us g → (ts ≡ us) × (f ≡ g)
same_names ts us f g h = let i : first_words r.further_name ts nil ≡ first_words r.further_name us nil = cc in ((same_first_words r.further_name ts us nil nil i).0, cc)

pub same_may_names : (r : r.Rule) (ts us : List Token) (f g : Shape) → may_names r ts f ≡ may_names r us g → (ts ≡ us) × (f ≡ g)
same_may_names r [] [] f g h = (refl, cc)
same_may_names r (t ∷ ts) (u ∷ us) f g h = let i : put_names (t ∷ ts) nil ≡ put_names (u ∷ us) nil = cc in ((same_names (t ∷ ts) (u ∷ us) nil nil i).0, cc)
same_may_names r [] (u ∷ us) f g h = absurd cc
same_may_names r (t ∷ ts) [] f g h = absurd cc

pub same_may_extend : (a b : Option Token) (f g : Shape) → may_extend a f ≡ may_extend b g → (a ≡ b) × (f ≡ g)
same_may_extend None None f g h = (refl, cc)
same_may_extend (Some t) (Some u) f g h = (cc, cc)
same_may_extend None (Some u) f g h = absurd cc
same_may_extend (Some t) None f g h = absurd cc

pub same_type : (a b : TypeTree) (f g : Shape) → put_type a f ≡ put_type b g → (a ≡ b) × (f ≡ g)
same_type (Nullable q t) (Nullable p u) f g h = (cc, cc)
same_type (Union t ts) (Union u us) f g h =
    let i : further_words r.further_type ts nil ≡ further_words r.further_type us nil = cc in let x : t ≡ u = cc in let y = (same_further_words r.further_type ts us nil nil i).0 in (cc, cc)
same_type (Nullable q t) (Union u us) f g h = absurd cc
same_type (Union t ts) (Nullable q u) f g h = absurd cc

module _ where
  type_stands : (a : TypeTree) (f g : Shape) → put_type a f ≡ none g → ⊥
  type_stands (Nullable q t) f g h = cc
  type_stands (Union t ts) f g h = cc

pub same_may_type : (a b : Option TypeTree) (f g : Shape) → may_type a f ≡ may_type b g → (a ≡ b) × (f ≡ g)
same_may_type None None f g h = (refl, cc)
same_may_type (Some a) (Some b) f g h = let i = same_type a b f g h in (ap Some i.0, i.1)
same_may_type None (Some b) f g h = absurd (type_stands b g f (sym h))
same_may_type (Some a) None f g h = absurd (type_stands a f g h)

pub same_may_return : (a b : Option TypeTree) (f g : Shape) → may_return a f ≡ may_return b g → (a ≡ b) × (f ≡ g)
same_may_return None None f g h = (refl, cc)
same_may_return (Some a) (Some b) f g h = let i : put_type a nil ≡ put_type b nil = cc in (ap Some (same_type a b nil nil i).0, cc)
same_may_return None (Some b) f g h = absurd cc
same_may_return (Some a) None f g h = absurd cc

module _ where
  same_union : (a b : Bool) (t u : Token) (ts us : List Token) (f g : Shape) → put_union a t ts f ≡ put_union b u us g → (t ≡ u) × (ts ≡ us) × (f ≡ g)
  same_union true true t u ts us f g h =
      let i : first_words r.further_type ts nil ≡ first_words r.further_type us nil = cc in (cc, (same_first_words r.further_type ts us nil nil i).0, cc)
  same_union false false t u ts us f g h =
      let i : further_words r.further_type ts nil ≡ further_words r.further_type us nil = cc in (cc, (same_further_words r.further_type ts us nil nil i).0, cc)
  same_union true false t u ts us f g h = absurd cc
  same_union false true t u ts us f g h = absurd cc

  union_stands : (a : Bool) (t : Token) (ts : List Token) (f g : Shape) → put_union a t ts f ≡ none g → ⊥
  union_stands true t ts f g h = cc
  union_stands false t ts f g h = cc

  no_nullable : (a : Bool) (t : Token) (ts : List Token) (f ps g : Shape) → put_union a t ts f ≡ some r.nullable_property_type None ps g → ⊥
  no_nullable true t ts f ps g h = cc
  no_nullable false t ts f ps g h = cc

pub same_property_type : (a b : Option TypeTree) (f g : Shape) → may_property_type a f ≡ may_property_type b g → (a ≡ b) × (f ≡ g)
same_property_type None None f g h = (refl, cc)
same_property_type (Some (Nullable q t)) (Some (Nullable p u)) f g h = (cc, cc)
same_property_type (Some (Union t ts)) (Some (Union u us)) f g h =
    let i = same_union (same_kind t.kind k.Static) (same_kind u.kind k.Static) t u ts us f g h in let x = i.0 in let y = i.1 in (cc, i.2)
same_property_type None (Some (Nullable p u)) f g h = absurd cc
same_property_type None (Some (Union u us)) f g h = absurd (union_stands (same_kind u.kind k.Static) u us g f (sym h))
same_property_type (Some (Nullable q t)) None f g h = absurd cc
same_property_type (Some (Union t ts)) None f g h = absurd (union_stands (same_kind t.kind k.Static) t ts f g h)
same_property_type (Some (Nullable q t)) (Some (Union u us)) f g h = absurd (no_nullable (same_kind u.kind k.Static) u us g (word q (word t nil)) f (sym h))
same_property_type (Some (Union t ts)) (Some (Nullable p u)) f g h = absurd (no_nullable (same_kind t.kind k.Static) t ts f (word p (word u nil)) g h)

-- ---- adaptations

pub same_from : (a b : Option Token) (f g : Shape) → put_from a f ≡ put_from b g → (a ≡ b) × (f ≡ g)
same_from None None f g h = (refl, cc)
same_from (Some t) (Some u) f g h = (cc, cc)
same_from None (Some u) f g h = absurd cc
same_from (Some t) None f g h = absurd cc

pub same_alias : (a b c d : Option Token) (f g : Shape) → put_alias a b f ≡ put_alias c d g → (a ≡ c) × (b ≡ d) × (f ≡ g)
same_alias None None None None f g h = (refl, refl, cc)
same_alias (Some v) None (Some w) None f g h = (cc, refl, cc)
same_alias (Some v) (Some t) (Some w) (Some u) f g h = (cc, cc, cc)
same_alias None (Some t) None (Some u) f g h = (refl, cc, cc)
same_alias None None (Some w) None f g h = absurd cc
same_alias None None (Some w) (Some u) f g h = absurd cc
same_alias None None None (Some u) f g h = absurd cc
same_alias (Some v) None None None f g h = absurd cc
same_alias (Some v) None (Some w) (Some u) f g h = absurd cc
same_alias (Some v) None None (Some u) f g h = absurd cc
same_alias (Some v) (Some t) None None f g h = absurd cc
same_alias (Some v) (Some t) (Some w) None f g h = absurd cc
same_alias (Some v) (Some t) None (Some u) f g h = absurd cc
same_alias None (Some t) None None f g h = absurd cc
same_alias None (Some t) (Some w) None f g h = absurd cc
same_alias None (Some t) (Some w) (Some u) f g h = absurd cc

pub same_adapting : (t u : Token) (a b : Adapting) (f g : Shape) → put_adapting t a f ≡ put_adapting u b g → (t ≡ u) × (a ≡ b) × (f ≡ g)
same_adapting t u (InsteadOf ts) (InsteadOf us) f g h =
    let i : put_names ts (mark nil) ≡ put_names us (mark nil) = cc in (cc, ap InsteadOf (same_names ts us (mark nil) (mark nil) i).0, cc)
same_adapting t u (Alias a b) (Alias c d) f g h =
    let i : put_alias a b nil ≡ put_alias c d nil = cc in let j = same_alias a b c d nil nil i in let x = j.0 in let y = j.1 in (cc, cc, cc)
same_adapting t u (InsteadOf ts) (Alias c d) f g h = absurd cc
same_adapting t u (Alias a b) (InsteadOf us) f g h = absurd cc

module _ where
  adaptation : Option Token → Token → Adapting → Adaptation
  adaptation a t b = record { from = a; method = t; adapting = b }

pub same_adaptations : (xs ys : List Adaptation) (f g : Shape) → put_adaptations xs f ≡ put_adaptations ys g → (xs ≡ ys) × (f ≡ g)
unfolding adaptation
same_adaptations [] [] f g h = (refl, cc)
same_adaptations (x ∷ xs) (y ∷ ys) f g h =
    let i : put_from x.from (put_adapting x.method x.adapting nil) ≡ put_from y.from (put_adapting y.method y.adapting nil) = cc in
    let a = same_from x.from y.from (put_adapting x.method x.adapting nil) (put_adapting y.method y.adapting nil) i in
    let b = same_adapting x.method y.method x.adapting y.adapting nil nil a.1 in
    let c : put_adaptations xs f ≡ put_adaptations ys g = cc in
    let d = same_adaptations xs ys f g c in
    let p = a.0 in let q = b.0 in let s = b.1 in let e : adaptation x.from x.method x.adapting ≡ adaptation y.from y.method y.adapting = cc in
    let e2 : x ≡ y = e in let z = d.0 in (cc, d.1)
same_adaptations [] (y ∷ ys) f g h = absurd cc
same_adaptations (x ∷ xs) [] f g h = absurd cc

pub same_use_end : (a b : Option (List Adaptation)) (f g : Shape) → put_use_end a f ≡ put_use_end b g → (a ≡ b) × (f ≡ g)
same_use_end None None f g h = (refl, cc)
same_use_end (Some xs) (Some ys) f g h = let i : put_adaptations xs (mark nil) ≡ put_adaptations ys (mark nil) = cc in (ap Some (same_adaptations xs ys (mark nil) (mark nil) i).0, cc)
same_use_end None (Some ys) f g h = absurd cc
same_use_end (Some xs) None f g h = absurd cc

-- ---- what a `use` brings

pub same_may_alias : (a b : Option Token) (f g : Shape) → may_alias a f ≡ may_alias b g → (a ≡ b) × (f ≡ g)
same_may_alias None None f g h = (refl, cc)
same_may_alias (Some t) (Some u) f g h = (cc, cc)
same_may_alias None (Some u) f g h = absurd cc
same_may_alias (Some t) None f g h = absurd cc

module _ where
  used : Option Token → Token → Option Token → Used
  used a t b = record { kind = a; name = t; alias = b }

  same_name : (x y : Used) (f g : Shape) → put_name x f ≡ put_name y g → (x.name ≡ y.name) × (x.alias ≡ y.alias) × (f ≡ g)
  same_name x y f g h = let i : may_alias x.alias nil ≡ may_alias y.alias nil = cc in (cc, (same_may_alias x.alias y.alias nil nil i).0, cc)

  equal_used : (x y : Used) → x.kind ≡ y.kind → x.name ≡ y.name → x.alias ≡ y.alias → x ≡ y
  unfolding used
  equal_used x y a b c = let e : used x.kind x.name x.alias ≡ used y.kind y.name y.alias = cc in e

pub same_group_item : (x y : Used) (f g : Shape) → put_group_item x f ≡ put_group_item y g → (x ≡ y) × (f ≡ g)
same_group_item x y f g h =
    let i : may_word r.use_kind x.kind (put_name x nil) ≡ may_word r.use_kind y.kind (put_name y nil) = cc in
    let a = same_may_word r.use_kind x.kind y.kind (put_name x nil) (put_name y nil) i in
    let b = same_name x y nil nil a.1 in (equal_used x y a.0 b.0 b.1, cc)

module _ where
  same_item_by : (a b : Option Token) (x y : Used) (f g : Shape) → x.kind ≡ a → y.kind ≡ b → put_item_by a x f ≡ put_item_by b y g → (x ≡ y) × (f ≡ g)
  same_item_by None None x y f g p q h = let b = same_name x y f g h in (equal_used x y (p ∙ sym q) b.0 b.1, b.2)
  same_item_by (Some t) (Some u) x y f g p q h = same_group_item x y f g h
  same_item_by None (Some u) x y f g p q h = absurd cc
  same_item_by (Some t) None x y f g p q h = absurd cc

pub same_item : (x y : Used) (f g : Shape) → put_item x f ≡ put_item y g → (x ≡ y) × (f ≡ g)
same_item x y f g h = same_item_by x.kind y.kind x y f g refl refl h

-- an item stands
module _ where
  by_stands : (a : Option Token) (x : Used) (f g : Shape) → put_item_by a x f ≡ none g → ⊥
  by_stands None x f g h = cc
  by_stands (Some t) x f g h = cc

pub item_stands : (x : Used) (f g : Shape) → put_item x f ≡ none g → ⊥
item_stands x f g h = by_stands x.kind x f g h

pub group_item_stands : (x : Used) (f g : Shape) → put_group_item x f ≡ none g → ⊥
group_item_stands x f g h = cc

-- lists of items, by what is put of each
module _ (r : r.Rule) (put_one : Used → Shape → Shape) (same : (x y : Used) (f g : Shape) → put_one x f ≡ put_one y g → (x ≡ y) × (f ≡ g)) (stands : (x : Used) (f g : Shape) → put_one x f ≡ none g → ⊥) where
  pub same_further_items : (xs ys : List Used) (f g : Shape) → further_items r put_one xs f ≡ further_items r put_one ys g → (xs ≡ ys) × (f ≡ g)
  same_further_items [] [] f g h = (refl, cc)
  same_further_items (x ∷ xs) (y ∷ ys) f g h =
      let i : put_one x nil ≡ put_one y nil = cc in let j : further_items r put_one xs f ≡ further_items r put_one ys g = cc in
      let a = (same x y nil nil i).0 in let b = same_further_items xs ys f g j in let c = b.0 in (cc, b.1)
  same_further_items [] (y ∷ ys) f g h = absurd cc
  same_further_items (x ∷ xs) [] f g h = absurd cc

  pub same_first_items : (xs ys : List Used) (f g : Shape) → first_items r put_one xs f ≡ first_items r put_one ys g → (xs ≡ ys) × (f ≡ g)
  same_first_items [] [] f g h = (refl, cc)
  same_first_items (x ∷ xs) (y ∷ ys) f g h =
      let a = same x y (further_items r put_one xs f) (further_items r put_one ys g) h in
      let b = same_further_items xs ys f g a.1 in let c = a.0 in let d = b.0 in (cc, b.1)
  same_first_items [] (y ∷ ys) f g h = absurd (stands y (further_items r put_one ys g) f (sym h))
  same_first_items (x ∷ xs) [] f g h = absurd (stands x (further_items r put_one xs f) g h)
