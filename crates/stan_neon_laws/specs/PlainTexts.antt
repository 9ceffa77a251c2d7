-- Plain texts that mean themselves.
use Rattle.std.specs.Prelude.{◌≡◌, ◌≢◌, ◌⊎◌, ℕ, ◌-◌, ◌==◌, ◌&&◌, ◌||◌, Bool, false, IsTrue, IsFalse, List, [], ◌∷◌, ◌++◌, None, codes, length, slice_index}
use Rattle.std.specs.List.{list_all}
use Rattle.std.specs.Str.{IsUtf8, bytes_eq}
use Rattle.stan_model_neon.specs.Characters.{is_blank, begins_plain}
use Rattle.stan_neon_scalars.specs.Numbers.{has_mark, number, is_true, is_false}

-- whether a `#` stands behind a blank, by the byte before
abbrev pub has_remark : ℕ → List ℕ → Bool
has_remark before [] = false
has_remark before (b ∷ bs) = ((b == 35) && is_blank before) || has_remark b bs

-- Plain text that is no word and no number: it begins as plain text may, ends with no blank, and has neither `: ` nor a blank with a `#`.
pub record IsPlainText (text : List ℕ) : Type 0 where
  pub is_text : IsUtf8 text
  pub not_empty : text ≢ []
  pub begins : IsTrue (begins_plain (slice_index text 0))
  pub ends : IsFalse (is_blank (slice_index text (length text - 1)))
  pub no_pair : IsFalse (has_mark 0 text)
  pub no_remark : IsFalse (has_remark 32 text)
  pub no_number : number text ≡ None
  pub no_word : IsFalse (is_true text || (is_false text || bytes_eq text (codes "null")))

-- Blanks, or a blank and a remark.
abbrev pub IsEnd : List ℕ → Type 0
IsEnd bytes =
    IsTrue (list_all is_blank bytes)
    ⊎ ((blanks : List ℕ) × ((remark : List ℕ) × ((bytes ≡ blanks ++ 35 ∷ remark) × (IsTrue (list_all is_blank blanks) × (blanks ≢ [])))))
