-- The types of properties, by their first token.
use Rattle.std.proofs.Common.{◌≡◌, ℕ, Bool, true, false, List, [], ◌∷◌, Option, Some, None, refl, sym, ap, ◌∙◌, map, subst, ◌⊎◌, inl, inr}
use Rattle.std.specs.Prelude.{if◌then◌else◌, slice_get, ◌||◌}
use Rattle.stan_model_grammar.specs.declared.token.Token.{Token}
use Rattle.stan_model_grammar.specs.declared.token.TokenKind.{TokenKind}
use Rattle.stan_model_grammar.specs.declared.token.TokenKind.TheVariants as k
use Rattle.stan_model_statements.specs.Kinds.{same_kind, has, statics, property_type_names}
use Rattle.stan_model_statements.specs.Rules as r
use Rattle.stan_model_files.specs.Put.{put_union}
use Rattle.stan_model_files.specs.Shapes.{Shape, nil, mark, word}
use Rattle.stan_syntax.specs.declared.tree.TypeTree.TheVariants as types
use Rattle.stan_stmt_rules.specs.Parse.{word_at, word_of}
use Rattle.stan_stmt_parts.specs.Parse.{Piece, items}
use Rattle.stan_stmt_parts.proofs.KindLemmas.{truth, same_is}
use Rattle.stan_stmt_items.specs.Views.{behind_mark}
use Rattle.stan_stmt_items.proofs.Layers.{further_are}
use Rattle.stan_stmt_types.specs.Views.{property_type_piece}

word_kind : (o : Option Token) (ks : List TokenKind) (t : Token) → word_of o ks ≡ Some t → has ks t.kind ≡ true
word_kind None ks t h = absurd cc
word_kind (Some u) ks t h = by (has ks u.kind) refl h
  where
    by : (b : Bool) → has ks u.kind ≡ b → (if b then (let o : Token → Option Token = Some in o u) else None) ≡ Some t → has ks t.kind ≡ true
    by true e i = let s : u ≡ t = cc in ap (λ (x : Token). has ks x.kind) (sym s) ∙ e
    by false e i = absurd cc

-- a static name is the one of its kind
static_is : (a : TokenKind) → has statics a ≡ true → same_kind a k.Static ≡ true
static_is a h = by (same_kind a k.Static) h
  where
    by : (b : Bool) → b || false ≡ true → b ≡ true
    by true h = refl
    by false h = absurd cc

none_static : has property_type_names k.Static ≡ true → ⊥
unfolding same_kind
none_static h = absurd cc

not_static : (a : TokenKind) → has property_type_names a ≡ true → same_kind a k.Static ≡ false
not_static a h = by (truth (same_kind a k.Static))
  where
    by : (same_kind a k.Static ≡ true) ⊎ (same_kind a k.Static ≡ false) → same_kind a k.Static ≡ false
    by (inl e) = absurd (none_static (subst (λ (z : TokenKind). has property_type_names z ≡ true) (same_is a k.Static e) h))
    by (inr e) = e

module _ (ts : List Token) (at : ℕ) where
  pub static_type : (t u : Token) (us : List Token) → word_at ts statics at ≡ Some t
      → property_type_piece (types.Union t (u ∷ us)) ≡ (r.static_property_type, None, word t (mark (word u (items (map (behind_mark r.further_type) us) nil))))
  unfolding property_type_piece word_at
  static_type t u us h = rw (static_is t.kind (word_kind (slice_get ts at) statics t h), further_are r.further_type us nil) refl

  pub union_type : (t : Token) (us : List Token) → word_at ts property_type_names at ≡ Some t
      → property_type_piece (types.Union t us) ≡ (r.union_property_type, None, word t (items (map (behind_mark r.further_type) us) nil))
  unfolding property_type_piece word_at
  union_type t us h = rw (not_static t.kind (word_kind (slice_get ts at) property_type_names t h), further_are r.further_type us nil) refl
