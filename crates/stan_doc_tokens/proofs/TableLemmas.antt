-- The steps of a search in a table of words or marks.
use Rattle.std.proofs.Common.{◌≡◌, ℕ, ◌+◌, ◌<◌, List, [], ◌∷◌, map, length, take, drop, get_or, Bool, true, false, cond, refl, sym, ap, add-one, drop-cons, arith}
use Rattle.std.specs.Prelude.{nat_eq, nat_lt, ◌&&◌, slice_index}
use Rattle.std.specs.List.{starts_with, list_all}
use Rattle.std.specs.Str.{bytes_eq}
use Rattle.std.specs.Cmp.Lexicographic.{bytes_decides}
use Rattle.std.specs.Borrow.{Bor}
use Rattle.std.proofs.lemmas.Bool.{false≢true}
use borrow.Author.Tests.{ltb-true}
use Rattle.stan_base.specs.Bytes.{fold_case}
use Rattle.stan_model_doc.specs.declared.token.DocKind.{DocKind}
use Rattle.stan_model_doc.specs.Tokens.{mark_among, doc_mark, doc_marks}
use Rattle.stan_doc_tokens.specs.Tables.{row_of, kind_of_folded}

not_true : (b : Bool) → (b ≡ true → ⊥) → b ≡ false
not_true true h = absurd (h refl)
not_true false h = refl

module _ (rows : List (Bor (List ℕ) × DocKind)) (other : DocKind) (word : List ℕ) (i : ℕ) (d : Bor (List ℕ) × DocKind) (lt : i < length rows) where
  -- the row at the place is the first of those that are left
  folded-drop : kind_of_folded (map row_of (drop i rows)) other word ≡ cond (bytes_eq (fold_case word) (fold_case (get_or rows i d).0.now)) (get_or rows i d).1 (kind_of_folded (map row_of (drop (i + 1) rows)) other word)
  folded-drop = rw (drop-cons rows i d, add-one i) refl

  pub folded-found : fold_case word ≡ fold_case (get_or rows i d).0.now → (get_or rows i d).1 ≡ kind_of_folded (map row_of (drop i rows)) other word
  folded-found e = rw (folded-drop, (bytes_decides (fold_case word) (fold_case (get_or rows i d).0.now)).1 e) refl

  pub folded-passed : (fold_case word ≡ fold_case (get_or rows i d).0.now → ⊥) → kind_of_folded (map row_of (drop (i + 1) rows)) other word ≡ kind_of_folded (map row_of (drop i rows)) other word
  folded-passed n = rw (folded-drop, not_true _ (λ e. n ((bytes_decides (fold_case word) (fold_case (get_or rows i d).0.now)).0 e))) refl

-- Bytes don't begin with a mark whose first byte is another.
pub starts_with_apart : (rest mark : List ℕ) → 0 < length mark → (slice_index rest 0 ≡ slice_index mark 0 → ⊥) → starts_with nat_eq rest mark ≡ false
starts_with_apart rest [] some apart = absurd (omega arith)
starts_with_apart [] (y ∷ ys) some apart = refl
starts_with_apart (x ∷ xs) (y ∷ ys) some apart =
    not_true _ (λ e. apart (sym (ap (λ bytes. slice_index bytes 0) ((bytes_decides (y ∷ ys) (take (length (y ∷ ys)) (x ∷ xs))).0 e))))

abbrev is_some_mark : List ℕ × DocKind → Bool
is_some_mark row = nat_lt 0 (length row.0)

first_true : (a b : Bool) → (a && b) ≡ true → a ≡ true
first_true true b e = refl
first_true false b e = e

second_true : (a b : Bool) → (a && b) ≡ true → b ≡ true
second_true true b e = e
second_true false b e = absurd (false≢true e)

-- A mark of a table whose rows are not empty ends behind its place.
mark_among_rises : (rows : List (List ℕ × DocKind)) (text : List ℕ) (at : ℕ) → list_all is_some_mark rows ≡ true → at < (mark_among rows text at).1
mark_among_rises [] text at h = omega arith
mark_among_rises (row ∷ rows) text at h =
    let some : 0 < length row.0 = ltb-true 0 (length row.0) (first_true (is_some_mark row) (list_all is_some_mark rows) h) in
    let rest : at < (mark_among rows text at).1 = mark_among_rises rows text at (second_true (is_some_mark row) (list_all is_some_mark rows) h) in
    elim (starts_with nat_eq (drop at text) row.0) as (λ b. at < (cond b (row.1, at + length row.0) (mark_among rows text at)).1) [ true ↦ omega arith | false ↦ rest ]

pub mark_rises : (text : List ℕ) (at : ℕ) → at < (doc_mark text at).1
unfolding doc_mark doc_marks
mark_rises text at = mark_among_rises doc_marks text at refl
