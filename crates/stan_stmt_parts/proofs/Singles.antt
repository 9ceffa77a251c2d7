-- A part that has one production, which begins with a mark or a word, is read by that production.
use Rattle.std.proofs.Common.{◌≡◌, ℕ, zero, suc, ◌+◌, ◌-◌, ◌≤◌, Bool, true, false, List, [], ◌∷◌, Option, Some, None, refl, sym, ap, subst, ◌∙◌, ◌⊎◌, inl, inr, arith, true≢false}
use Rattle.std.specs.Prelude.{if◌then◌else◌, nat_le, slice_get, not}
use Rattle.std.proofs.lemmas.Bool.{le-leb}
use Rattle.stan_model_grammar.specs.declared.token.TokenKind.{TokenKind}
use Rattle.stan_model_grammar.specs.declared.token.Token.{Token}
use Rattle.stan_model_grammar.specs.Strata.{kind_at, kind_of}
use Rattle.stan_expr_rules.specs.Parse.{Read, ◌>>=◌}
use Rattle.stan_model_statements.specs.Kinds.{same_kind, has}
use Rattle.stan_model_statements.specs.Symbols.{Sort, Top, UseRest, FurtherGroupItem, GroupEnd, Statement, ForEachTarget, Case, Handlers, FurtherArgument, Closing, ParameterList, FurtherParameter, WrittenType, Member, Modifier, Modified, MethodBody, PropertyType, TraitUseEnd, AdaptedTrait, AdaptationRest, Alias, Symbol, Mark, Word, Checked, Expression, Part}
use Rattle.stan_model_statements.specs.Rules.{Rule, symbols, weight}
use Rattle.stan_model_files.specs.Shapes.{Shape}
use Rattle.stan_stmt_rules.specs.Ahead.{single, begins, pick, pick_at}
use Rattle.stan_stmt_rules.specs.Parse.{after, after_of, word_at, word_of, most, behind}
use Rattle.stan_stmt_parts.specs.declared.depth.Depth.{Depth}
use Rattle.stan_stmt_parts.specs.Parse.{Piece, pieced, first_at, one, run, read}
use Rattle.stan_stmt_parts.specs.Gives.{Leaves, below, part, maybe, every, inside, made, enter, entered}
use Rattle.stan_stmt_parts.proofs.KindLemmas.{truth, subset, fewer, same_is}

-- Whether what begins so stands only where one of these kinds does.
abbrev pub begins_with : List TokenKind → List Symbol → Bool
begins_with ks (Mark k ∷ xs) = has ks k
begins_with ks (Word js ∷ xs) = subset js ks
begins_with ks _ = false

-- Whether the part has one production.
abbrev pub is_single : Sort → Bool
is_single Top = false
is_single UseRest = false
is_single FurtherGroupItem = false
is_single GroupEnd = false
is_single Statement = false
is_single ForEachTarget = false
is_single Case = false
is_single Handlers = false
is_single FurtherArgument = false
is_single Closing = false
is_single ParameterList = false
is_single FurtherParameter = false
is_single WrittenType = false
is_single Member = false
is_single Modifier = false
is_single Modified = false
is_single MethodBody = false
is_single PropertyType = false
is_single TraitUseEnd = false
is_single AdaptedTrait = false
is_single AdaptationRest = false
is_single Alias = false
is_single _ = true

-- Whether that begins with a mark or a word.
abbrev pub is_marked : Sort → Bool
is_marked s = begins_with (begins s) (symbols (single s))

only_pick : (s : Sort) (a b c d : TokenKind) → is_single s ≡ true → pick s a b c d ≡ (if has (begins s) a then Some (single s) else None)
only_pick Top a b c d h = absurd cc
only_pick UseRest a b c d h = absurd cc
only_pick FurtherGroupItem a b c d h = absurd cc
only_pick GroupEnd a b c d h = absurd cc
only_pick Statement a b c d h = absurd cc
only_pick ForEachTarget a b c d h = absurd cc
only_pick Case a b c d h = absurd cc
only_pick Handlers a b c d h = absurd cc
only_pick FurtherArgument a b c d h = absurd cc
only_pick Closing a b c d h = absurd cc
only_pick ParameterList a b c d h = absurd cc
only_pick FurtherParameter a b c d h = absurd cc
only_pick WrittenType a b c d h = absurd cc
only_pick Member a b c d h = absurd cc
only_pick Modifier a b c d h = absurd cc
only_pick Modified a b c d h = absurd cc
only_pick MethodBody a b c d h = absurd cc
only_pick PropertyType a b c d h = absurd cc
only_pick TraitUseEnd a b c d h = absurd cc
only_pick AdaptedTrait a b c d h = absurd cc
only_pick AdaptationRest a b c d h = absurd cc
only_pick Alias a b c d h = absurd cc
only_pick s a b c d h = refl

after_of_other : (o : Option Token) (kind : TokenKind) (at : ℕ) → same_kind (kind_of o) kind ≡ false → after_of o kind at ≡ None
after_of_other None kind at h = refl
after_of_other (Some t) kind at h = rw h refl

word_of_other : (o : Option Token) (ks : List TokenKind) → has ks (kind_of o) ≡ false → word_of o ks ≡ None
word_of_other None ks h = refl
word_of_other (Some t) ks h = rw h refl

module _ (ts : List Token) where
  after_other : (kind : TokenKind) (at : ℕ) → same_kind (kind_at ts at) kind ≡ false → after ts kind at ≡ None
  unfolding after kind_at
  after_other kind at h = after_of_other (slice_get ts at) kind at h

  word_other : (ks : List TokenKind) (at : ℕ) → has ks (kind_at ts at) ≡ false → word_at ts ks at ≡ None
  unfolding word_at kind_at
  word_other ks at h = word_of_other (slice_get ts at) ks h

-- none of these kinds, so not this one
not_this : (ks : List TokenKind) (k a : TokenKind) → has ks k ≡ true → has ks a ≡ false → same_kind a k ≡ false
not_this ks k a i h = by (truth (same_kind a k))
  where
    by : (same_kind a k ≡ true) ⊎ (same_kind a k ≡ false) → same_kind a k ≡ false
    by (inl e) = absurd (true≢false (sym (subst (λ z. has ks z ≡ true) (sym (same_is a k e)) i) ∙ h))
    by (inr e) = e

module _ (ts : List Token) (l : Leaves) where
  -- where its mark does not stand nothing is read
  not_made : (ks : List TokenKind) (r : Rule) (e : Depth) (at : ℕ) (xs : List Symbol) → symbols r ≡ xs → begins_with ks xs ≡ true → has ks (kind_at ts at) ≡ false → made ts l e r at ≡ None
  unfolding inside
  not_made ks r e at (Mark other ∷ xs) is b h = rw is (rw (after_other ts other at (not_this ks other (kind_at ts at) b h)) refl)
  not_made ks r e at (Word js ∷ xs) is b h = rw is (rw (word_other ts js at (fewer js ks (kind_at ts at) b h)) refl)
  not_made ks r e at [] is b h = absurd cc
  not_made ks r e at (Checked c ∷ xs) is b h = absurd cc
  not_made ks r e at (Expression p ∷ xs) is b h = absurd cc
  not_made ks r e at (Part n s ∷ xs) is b h = absurd cc

  nothing : (o : Option Depth) (f : Depth → Read Piece) → ((e : Depth) → f e ≡ None) → (o >>= f) ≡ None
  nothing None f h = refl
  nothing (Some e) f h = h e

  guarded : (c : Bool) (room levels : ℕ) (r : Rule) (at : ℕ)
      → ((if c then run ts l.named (l.value ts) (behind ts) (read ts l.named (l.value ts) (behind ts) room levels) levels room (symbols r) at else None) >>= λ p. let o : Piece × ℕ → Option (Piece × ℕ) = Some in o ((r, first_at ts r at, p.0), p.1))
      ≡ ((if c then (let o : Depth → Option Depth = Some in o (record { room = room; levels = levels })) else None) >>= λ e. made ts l e r at)
  unfolding inside part maybe every
  guarded true room levels r at = refl
  guarded false room levels r at = refl

  -- by the depth
  pub read_enters : (room levels : ℕ) (r : Rule) (at : ℕ) → pieced ts l.named (l.value ts) (behind ts) (read ts l.named (l.value ts) (behind ts) room levels) levels r at ≡ entered ts l (record { room = room; levels = levels }) r at
  unfolding entered
  read_enters zero levels r at = refl
  read_enters (suc n) levels r at =
      let some : nat_le 1 (suc n) ≡ true = le-leb 1 (suc n) (omega arith) in
      let less : suc n - 1 ≡ n = omega arith in
      rw (some, less) (guarded (nat_le (levels + weight r) most) n (levels + weight r) r at)

  pub part_enters : (d : Depth) (s : Sort) (at : ℕ) → is_single s ≡ true → is_marked s ≡ true → part ts l d s at ≡ entered ts l d (single s) at
  unfolding part one pick_at entered
  part_enters d s at only m = by (truth (has (begins s) (kind_at ts at)))
    where
      by : (has (begins s) (kind_at ts at) ≡ true) ⊎ (has (begins s) (kind_at ts at) ≡ false)
          → (pick s (kind_at ts at) (kind_at ts (at + 1)) (kind_at ts (at + 2)) (behind ts d.levels at) >>= λ r. pieced ts l.named (l.value ts) (behind ts) (below ts l d) d.levels r at) ≡ entered ts l d (single s) at
      by (inl h) = rw (only_pick s (kind_at ts at) (kind_at ts (at + 1)) (kind_at ts (at + 2)) (behind ts d.levels at) only, h) (read_enters d.room d.levels (single s) at)
      by (inr h) = rw (only_pick s (kind_at ts at) (kind_at ts (at + 1)) (kind_at ts (at + 2)) (behind ts d.levels at) only, h)
          (sym (nothing (enter d (weight (single s))) (λ e. made ts l e (single s) at) (λ e. not_made (begins s) (single s) e at (symbols (single s)) refl m h)))

  -- where nothing is known of what it begins with
  pub part_if : (d : Depth) (s : Sort) (at : ℕ) → is_single s ≡ true → part ts l d s at ≡ (if has (begins s) (kind_at ts at) then entered ts l d (single s) at else None)
  unfolding part one pick_at
  part_if d s at only = by (truth (has (begins s) (kind_at ts at)))
    where
      by : (has (begins s) (kind_at ts at) ≡ true) ⊎ (has (begins s) (kind_at ts at) ≡ false)
          → (pick s (kind_at ts at) (kind_at ts (at + 1)) (kind_at ts (at + 2)) (behind ts d.levels at) >>= λ r. pieced ts l.named (l.value ts) (behind ts) (below ts l d) d.levels r at)
          ≡ (if has (begins s) (kind_at ts at) then entered ts l d (single s) at else None)
      by (inl h) = rw (only_pick s (kind_at ts at) (kind_at ts (at + 1)) (kind_at ts (at + 2)) (behind ts d.levels at) only, h) (read_enters d.room d.levels (single s) at)
      by (inr h) = rw (only_pick s (kind_at ts at) (kind_at ts (at + 1)) (kind_at ts (at + 2)) (behind ts d.levels at) only, h) refl
