-- The steps of taking a text line by line.
use Rattle.std.proofs.Common.{◌≡◌, ℕ, ◌+◌, ◌<◌, ◌≤◌, suc, List, [], ◌∷◌, ◌⊎◌, inl, inr, Bool, true, false, length, take, drop, refl, sym, ap, ◌∙◌, length-drop, arith}
use Rattle.std.specs.Prelude.{◌==◌, not, nat_le, map}
use Rattle.std.specs.List.{prefix_len}
use Rattle.std.proofs.lemmas.List.{drop-drop}
use Rattle.std.proofs.lemmas.Bool.{cases_lt}
use Rattle.std.proofs.lemmas.Bool.Decides.{nat_tests}
use Rattle.stan_neon_lines.specs.Lines.{pieces, onto_first, without_return}
use Rattle.stan_neon_lines.specs.Rest.{lines_from}

abbrev pub first_line : List ℕ → ℕ
first_line bytes = prefix_len (λ b. not (b == 10)) bytes

one_more : (b : ℕ) (bs : List ℕ) → (b == 10) ≡ false → first_line (b ∷ bs) ≡ suc (first_line bs)
one_more b bs e = let n : 1 + first_line bs ≡ suc (first_line bs) = omega arith in rw e n

none : (b : ℕ) (bs : List ℕ) → (b == 10) ≡ true → first_line (b ∷ bs) ≡ 0
none b bs e = rw e refl

split-within : (bs : List ℕ) → first_line bs < length bs → pieces bs ≡ take (first_line bs) bs ∷ pieces (drop (suc (first_line bs)) bs)
split-within [] h = absurd (omega arith)
split-within (b ∷ bs) h = by (b == 10) refl (split-within bs)
  where
    by : (feed : Bool) → (b == 10) ≡ feed → (first_line bs < length bs → pieces bs ≡ take (first_line bs) bs ∷ pieces (drop (suc (first_line bs)) bs))
        → pieces (b ∷ bs) ≡ take (first_line (b ∷ bs)) (b ∷ bs) ∷ pieces (drop (suc (first_line (b ∷ bs))) (b ∷ bs))
    by true e more = rw e refl
    by false e more =
        let n = one_more b bs e in
        let lt : first_line bs < length bs = omega (arith, n) in
        rw e (ap (onto_first b) (more lt)) ∙ ap (λ n. take n (b ∷ bs) ∷ pieces (drop (suc n) (b ∷ bs))) (sym n)

split-last : (bs : List ℕ) → length bs ≤ first_line bs → pieces bs ≡ take (first_line bs) bs ∷ []
split-last [] h = refl
split-last (b ∷ bs) h = by (b == 10) refl (split-last bs)
  where
    by : (feed : Bool) → (b == 10) ≡ feed → (length bs ≤ first_line bs → pieces bs ≡ take (first_line bs) bs ∷ []) → pieces (b ∷ bs) ≡ take (first_line (b ∷ bs)) (b ∷ bs) ∷ []
    by true e more = absurd (omega (arith, none b bs e))
    by false e more =
        let n = one_more b bs e in
        let le : length bs ≤ first_line bs = omega (arith, n) in
        rw e (ap (onto_first b) (more le)) ∙ ap (λ n. take n (b ∷ bs) ∷ []) (sym n)

lines-at : (text : List ℕ) (at : ℕ) → at ≤ length text → lines_from text at ≡ map without_return (pieces (drop at text))
unfolding lines_from
lines-at text at le = let e : nat_le at (length text) ≡ true = grind (arith, nat_tests) in rw e refl

pub lines-past : (text : List ℕ) (at : ℕ) → length text < at → lines_from text at ≡ []
unfolding lines_from
lines-past text at lt = let e : nat_le at (length text) ≡ false = grind (arith, nat_tests) in rw e refl

-- From a place within the text the next line is what stands before the next line feed.
pub lines-next : (text rest : List ℕ) (at n : ℕ) → at ≤ length text → rest ≡ drop at text → n ≡ first_line rest → n ≤ length rest → lines_from text at ≡ without_return (take n rest) ∷ lines_from text (at + (n + 1))
lines-next text rest at n le r e within = by (cases_lt n (length rest))
  where
    by : (n < length rest) ⊎ (length rest ≤ n) → lines_from text at ≡ without_return (take n rest) ∷ lines_from text (at + (n + 1))
    by (inl lt) =
        let inside : at + (n + 1) ≤ length text = omega (arith, ap length r, length-drop at text) in
        let place : drop (suc n) rest ≡ drop (at + (n + 1)) text = ap (drop (suc n)) r ∙ drop-drop (suc n) at text ∙ ap (λ k. drop k text) (omega arith) in
        lines-at text at le ∙ ap (λ l. map without_return (pieces l)) (sym r) ∙ ap (map without_return) (split-within rest (omega (arith, e)))
        ∙ ap (λ k. map without_return (take k rest ∷ pieces (drop (suc k) rest))) (sym e)
        ∙ ap (λ l. without_return (take n rest) ∷ map without_return (pieces l)) place
        ∙ ap (λ l. without_return (take n rest) ∷ l) (sym (lines-at text (at + (n + 1)) inside))
    by (inr ge) =
        let past : length text < at + (n + 1) = omega (arith, ap length r, length-drop at text) in
        lines-at text at le ∙ ap (λ l. map without_return (pieces l)) (sym r) ∙ ap (map without_return) (split-last rest (omega (arith, e)))
        ∙ ap (λ k. map without_return (take k rest ∷ [])) (sym e)
        ∙ ap (λ l. without_return (take n rest) ∷ l) (sym (lines-past text (at + (n + 1)) past))

pub lines-all : (text : List ℕ) → lines_from text 0 ≡ map without_return (pieces text)
lines-all text = lines-at text 0 (omega arith)
