-- A part of one form is read by its symbols.
use Rattle.std.proofs.Common.{◌≡◌, ℕ, ◌+◌, Bool, true, false, List, [], ◌∷◌, Option, Some, None, refl, sym, ap, ◌∙◌, ◌⊎◌, inl, inr}
use Rattle.std.specs.Prelude.{if◌then◌else◌, slice_get, ◌||◌}
use Rattle.std.specs.Option.{is_some}
use Rattle.stan_model_grammar.specs.declared.token.TokenKind.{TokenKind}
use Rattle.stan_model_grammar.specs.declared.token.Token.{Token}
use Rattle.stan_model_grammar.specs.Strata.{kind_at, kind_of}
use Rattle.stan_expr_rules.specs.Parse.{Read, ◌>>=◌}
use Rattle.stan_model_statements.specs.Kinds.{same_kind, has}
use Rattle.stan_model_statements.specs.Symbols.{Sort, Symbol, Mark, Word}
use Rattle.stan_model_statements.specs.Rules.{Rule, symbols, weight}
use Rattle.stan_model_files.specs.Shapes.{Shape}
use Rattle.stan_stmt_rules.specs.Ahead.{single, pick, pick_at}
use Rattle.stan_stmt_rules.specs.Parse.{after, after_of, word_at, word_of, behind}
use Rattle.stan_stmt_parts.specs.declared.depth.Depth.{Depth}
use Rattle.stan_stmt_parts.specs.Parse.{Piece, first_at, one}
use Rattle.stan_stmt_parts.specs.Gives.{Leaves, part, inside, made, enter, entered}
use Rattle.stan_stmt_parts.proofs.KindLemmas.{truth}
use Rattle.stan_stmt_parts.proofs.Singles.{read_enters}
use Rattle.stan_stmt_items.specs.Forms.{HasForm}

-- What begins with a mark or a word of these kinds is not read where none stands.
after_of_other : (o : Option Token) (kind : TokenKind) (at : ℕ) → has (kind ∷ []) (kind_of o) ≡ false → after_of o kind at ≡ None
after_of_other None kind at h = refl
after_of_other (Some t) kind at h = by (truth (same_kind t.kind kind))
  where
    by : (same_kind t.kind kind ≡ true) ⊎ (same_kind t.kind kind ≡ false) → after_of (Some t) kind at ≡ None
    by (inl e) = absurd (let o : has (kind ∷ []) t.kind ≡ true = rw e refl in let x : true ≡ false = sym o ∙ h in cc)
    by (inr e) = rw e refl

word_of_other : (o : Option Token) (ks : List TokenKind) → has ks (kind_of o) ≡ false → word_of o ks ≡ None
word_of_other None ks h = refl
word_of_other (Some t) ks h = rw h refl

module _ (ts : List Token) (l : Leaves) (d : Depth) where
  -- the symbols of a part, where it has these and opens no level
  abbrev pub Symbols : Rule → List Symbol → ℕ → Read Piece
  Symbols r xs at = enter d 0 >>= λ e. inside ts l e xs at >>= λ p. Some ((r, None, p.0), p.1)

  form_made : (s : Sort) (ks : List TokenKind) (xs : List Symbol) (at : ℕ) → HasForm s ks xs → entered ts l d (single s) at ≡ Symbols (single s) xs at
  unfolding entered first_at
  form_made s ks xs at h = rw (h.weighs, h.made_of, h.firstless) refl

  nothing : (o : Option Depth) (r : Rule) (xs : List Symbol) (at : ℕ) → ((e : Depth) → inside ts l e xs at ≡ None) → (o >>= λ e. inside ts l e xs at >>= λ p. let some : Piece × ℕ → Option (Piece × ℕ) = Some in some ((r, None, p.0), p.1)) ≡ None
  nothing None r xs at h = refl
  nothing (Some e) r xs at h = rw (h e) refl

  form_by : (s : Sort) (ks : List TokenKind) (xs : List Symbol) (at : ℕ) → HasForm s ks xs → (has ks (kind_at ts at) ≡ false → (e : Depth) → inside ts l e xs at ≡ None)
      → (has ks (kind_at ts at) ≡ true) ⊎ (has ks (kind_at ts at) ≡ false) → part ts l d s at ≡ Symbols (single s) xs at
  unfolding part one pick_at
  form_by s ks xs at h other (inl e) = rw (h.picked (kind_at ts at) (kind_at ts (at + 1)) (kind_at ts (at + 2)) (behind ts d.levels at), e) (read_enters ts l d.room d.levels (single s) at ∙ form_made s ks xs at h)
  form_by s ks xs at h other (inr e) = rw (h.picked (kind_at ts at) (kind_at ts (at + 1)) (kind_at ts (at + 2)) (behind ts d.levels at), e) (sym (nothing (enter d 0) (single s) xs at (other e)))

  mark_absent : (kind : TokenKind) (xs : List Symbol) (at : ℕ) → has (kind ∷ []) (kind_at ts at) ≡ false → (e : Depth) → inside ts l e (Mark kind ∷ xs) at ≡ None
  unfolding inside after kind_at
  mark_absent kind xs at n e = rw (after_of_other (slice_get ts at) kind at n) refl

  word_absent : (ks : List TokenKind) (xs : List Symbol) (at : ℕ) → has ks (kind_at ts at) ≡ false → (e : Depth) → inside ts l e (Word ks ∷ xs) at ≡ None
  unfolding inside word_at kind_at
  word_absent ks xs at n e = rw (word_of_other (slice_get ts at) ks n) refl

  -- a part that begins with a mark, and one that begins with a word
  pub marked_part : (s : Sort) (kind : TokenKind) (xs : List Symbol) (at : ℕ) → HasForm s (kind ∷ []) (Mark kind ∷ xs) → part ts l d s at ≡ Symbols (single s) (Mark kind ∷ xs) at
  marked_part s kind xs at h = form_by s (kind ∷ []) (Mark kind ∷ xs) at h (mark_absent kind xs at) (truth (has (kind ∷ []) (kind_at ts at)))

  pub worded_part : (s : Sort) (ks : List TokenKind) (xs : List Symbol) (at : ℕ) → HasForm s ks (Word ks ∷ xs) → part ts l d s at ≡ Symbols (single s) (Word ks ∷ xs) at
  worded_part s ks xs at h = form_by s ks (Word ks ∷ xs) at h (word_absent ks xs at) (truth (has ks (kind_at ts at)))

-- whether one begins
pub form_begins : (ts : List Token) (other : ℕ → TokenKind) (s : Sort) (ks : List TokenKind) (xs : List Symbol) (at : ℕ) → HasForm s ks xs → is_some (pick_at ts other s at) ≡ has ks (kind_at ts at)
unfolding pick_at
form_begins ts other s ks xs at h = rw (h.picked (kind_at ts at) (kind_at ts (at + 1)) (kind_at ts (at + 2)) (other at)) (by (has ks (kind_at ts at)))
  where
    by : (b : Bool) → is_some (if b then Some (single s) else None) ≡ b
    by true = refl
    by false = refl

-- of a part that begins with a mark
pub mark_begins : (ts : List Token) (other : ℕ → TokenKind) (s : Sort) (kind : TokenKind) (xs : List Symbol) (at : ℕ) → HasForm s (kind ∷ []) xs → same_kind (kind_at ts at) kind ≡ is_some (pick_at ts other s at)
mark_begins ts other s kind xs at h = or_false (same_kind (kind_at ts at) kind) ∙ sym (form_begins ts other s (kind ∷ []) xs at h)
  where
    or_false : (b : Bool) → b ≡ b || false
    or_false true = refl
    or_false false = refl
