-- The mark read at a place is the longest one that stands there.
use Rattle.std.proofs.Common.{◌≡◌, ℕ, ◌+◌, ◌<◌, ◌≤◌, zero, suc, List, [], ◌∷◌, length, take, drop, get_or, Bool, true, false, cond, refl, sym, ap, ◌∙◌, subst, arith, ⊎_elim}
use Rattle.std.specs.Prelude.{◌&&◌, not, nat_eq, IsTrue}
use Rattle.std.specs.List.{starts_with, list_all, Contains}
use Rattle.std.specs.Cmp.Lexicographic.{bytes_decides}
use Rattle.std.proofs.lemmas.Bool.{false≢true, cases_lt}
use Rattle.std.proofs.lemmas.List.{take-take}
use Rattle.stan_model_grammar.specs.declared.token.TokenKind.{TokenKind}
use Rattle.stan_model_grammar.specs.Marks.{mark_among, mark, marks}

first_true : (a b : Bool) → (a && b) ≡ true → a ≡ true
first_true true b e = refl
first_true false b e = e

second_true : (a b : Bool) → (a && b) ≡ true → b ≡ true
second_true true b e = e
second_true false b e = absurd (false≢true e)

not_true : (b : Bool) → not b ≡ true → b ≡ false
not_true true h = absurd (false≢true h)
not_true false h = refl

-- bytes that begin with others
abbrev begins_with : List ℕ → List ℕ → Bool
begins_with long short = starts_with nat_eq long short

front_is : (xs front : List ℕ) → begins_with xs front ≡ true → front ≡ take (length front) xs
front_is xs front e = (bytes_decides front (take (length front) xs)).0 e

-- Of two fronts of one list the longer begins with the shorter.
longer_begins : (xs short long : List ℕ) → begins_with xs short ≡ true → begins_with xs long ≡ true → length short ≤ length long → begins_with long short ≡ true
longer_begins xs short long e f le =
    let s : short ≡ take (length short) xs = front_is xs short e in
    let l : long ≡ take (length long) xs = front_is xs long f in
    let same : short ≡ take (length short) long = s ∙ sym (take-take (length short) (length long) xs le) ∙ ap (take (length short)) (sym l) in
    (bytes_decides short (take (length short) long)).1 same

-- No row begins a later one.
abbrev longer_first : List (List ℕ × TokenKind) → Bool
longer_first [] = true
longer_first (row ∷ rows) = list_all (λ later. not (begins_with later.0 row.0)) rows && longer_first rows

no_later : (row : List ℕ) (rows : List (List ℕ × TokenKind)) (k : ℕ) (d : List ℕ × TokenKind) → k < length rows → list_all (λ later. not (begins_with later.0 row)) rows ≡ true → begins_with (get_or rows k d).0 row ≡ false
no_later row [] k d lt h = absurd (omega arith)
no_later row (r ∷ rs) zero d lt h = not_true _ (first_true (not (begins_with r.0 row)) (list_all (λ later. not (begins_with later.0 row)) rs) h)
no_later row (r ∷ rs) (suc k) d lt h = no_later row rs k d (omega arith) (second_true (not (begins_with r.0 row)) (list_all (λ later. not (begins_with later.0 row)) rs) h)

module _ (r : List ℕ × TokenKind) (rs : List (List ℕ × TokenKind)) (source : List ℕ) (at k : ℕ) (d : List ℕ × TokenKind) (lt : k < length rs)
    (h : longer_first (r ∷ rs) ≡ true) (e : begins_with (drop at source) (get_or rs k d).0 ≡ true) where
  -- A later row that stands there is no longer than the first one.
  shorter : begins_with (drop at source) r.0 ≡ true → length (get_or rs k d).0 ≤ length r.0
  shorter f = ⊎_elim
      (λ (longer : length r.0 < length (get_or rs k d).0). absurd (false≢true (sym (no_later r.0 rs k d lt (first_true (list_all (λ later. not (begins_with later.0 r.0)) rs) (longer_first rs) h))
      ∙ longer_begins (drop at source) r.0 (get_or rs k d).0 f e (omega arith))))
      (λ (short : length (get_or rs k d).0 ≤ length r.0). short)
      (cases_lt (length r.0) (length (get_or rs k d).0))

  by_first : at + length (get_or rs k d).0 ≤ (mark_among rs source at).1 → (b : Bool) → begins_with (drop at source) r.0 ≡ b
      → at + length (get_or rs k d).0 ≤ (cond b (r.1, at + length r.0) (mark_among rs source at)).1
  by_first rest true f = omega (arith, shorter f)
  by_first rest false f = rest

longest_among : (rows : List (List ℕ × TokenKind)) (source : List ℕ) (at k : ℕ) (d : List ℕ × TokenKind) → k < length rows → longer_first rows ≡ true
    → begins_with (drop at source) (get_or rows k d).0 ≡ true → at + length (get_or rows k d).0 ≤ (mark_among rows source at).1
longest_among [] source at k d lt h e = absurd (omega arith)
longest_among (r ∷ rs) source at zero d lt h e = rw e (omega arith)
longest_among (r ∷ rs) source at (suc k) d lt h e =
    let rest : at + length (get_or rs k d).0 ≤ (mark_among rs source at).1 =
    longest_among rs source at k d (omega arith) (second_true (list_all (λ later. not (begins_with later.0 r.0)) rs) (longer_first rs) h) e in
    by_first r rs source at k d (omega arith) h e rest (begins_with (drop at source) r.0) refl

pub longest_mark : (source : List ℕ) (at : ℕ) (row : List ℕ × TokenKind) → Contains marks row → IsTrue (starts_with nat_eq (drop at source) row.0) → at + length row.0 ≤ (mark source at).1
unfolding mark marks
longest_mark source at row c e =
    let same : get_or marks c.0 row ≡ row = c.2 in
    subst (λ (r : List ℕ × TokenKind). at + length r.0 ≤ (mark_among marks source at).1) same
    (longest_among marks source at c.0 row c.1 refl (ap (λ (r : List ℕ × TokenKind). begins_with (drop at source) r.0) same ∙ e))
